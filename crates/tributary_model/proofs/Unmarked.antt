-- An own slot that is not marked stays so while its MSI bytes are right.
use Rattle.std.proofs.Common.{◌≡◌, ℕ, List, [], ◌∷◌, ◌++◌, Bool, false, Option, Some, refl, ap, ◌∙◌, sym}
use Rattle.std.specs.Prelude.{All, filter, reverse, not, ◌==◌, ◌&&◌}
use Rattle.std.specs.List.{list_any}
use Rattle.std.proofs.lemmas.Bool.{or_parts, or_from, eq-eqb}
use Rattle.std.proofs.lemmas.List.{append-nil, append_assoc, reverse-append}
use Rattle.std.proofs.lemmas.List.Elements.{All-map, All-filter}
use Rattle.msi_table.specs.Marks.{msi_byte, both_wrong, is_marked}
use Rattle.tributary_model.specs.Places.{Tributary, View}
use Rattle.tributary_model.specs.Stretches.{msi_read, msi_of, bytes_of, any_marked}
use Rattle.tributary_model.proofs.Sizes.{All_first, All_rest}

first_right : (right y : ℕ) (rest : List ℕ) → y ≡ right → both_wrong right (y ∷ rest) ≡ false
first_right right y [] e = refl
first_right right y (z ∷ rest) e = ap (λ t. not t && not (z == right)) (eq-eqb y right e)

last_right : (right y : ℕ) (xs : List ℕ) → y ≡ right → both_wrong right (reverse (xs ++ y ∷ [])) ≡ false
last_right right y xs e = ap (both_wrong right) (reverse-append xs (y ∷ [])) ∙ first_right right y (reverse xs) e

-- right bytes after others mark nothing
stays_unmarked : (right : ℕ) (ys xs : List ℕ) → both_wrong right (reverse xs) ≡ false → All (λ y. y ≡ right) ys → both_wrong right (reverse (xs ++ ys)) ≡ false
stays_unmarked right [] xs e h = ap (λ l. both_wrong right (reverse l)) (append-nil xs) ∙ e
stays_unmarked right (y ∷ ys) xs e h =
    ap (λ l. both_wrong right (reverse l)) (sym (append_assoc xs (y ∷ []) ys))
    ∙ stays_unmarked right ys (xs ++ y ∷ []) (last_right right y xs (All_first (λ y. y ≡ right) y ys h)) (All_rest (λ y. y ≡ right) y ys h)

any_false : (f g : ℕ → Bool) (xs : List ℕ) → ((k : ℕ) → f k ≡ false → g k ≡ false) → list_any f xs ≡ false → list_any g xs ≡ false
any_false f g [] h e = refl
any_false f g (x ∷ xs) h e = let parts = or_parts (f x) (list_any f xs) e in or_from (g x) (list_any g xs) (h x parts.0) (any_false f g xs h parts.1)

none_any : (f : ℕ → Bool) (xs : List ℕ) → ((k : ℕ) → f k ≡ false) → list_any f xs ≡ false
none_any f [] h = refl
none_any f (x ∷ xs) h = or_from (f x) (list_any f xs) (h x) (none_any f xs h)

came_next : (k : ℕ) (view : Option View) (past : List (Option View)) → msi_read k (view ∷ past) ≡ msi_read k past ++ msi_of k view
unfolding msi_read
came_next k view past = refl

came_first : (k : ℕ) → msi_read k [] ≡ []
unfolding msi_read
came_first k = refl

pub unmarked_first : (own : Tributary) → any_marked own [] ≡ false
unmarked_first own = none_any (λ k. is_marked own.port (msi_read k [])) own.slots (λ k. ap (is_marked own.port) (came_first k))

pub unmarked_next : (own : Tributary) (past : List (Option View)) (view : View) → any_marked own past ≡ false → All (λ x. x.1 ≡ msi_byte own.port) view.msi
    → any_marked own (Some view ∷ past) ≡ false
unmarked_next own past view e h = any_false (λ k. is_marked own.port (msi_read k past)) (λ k. is_marked own.port (msi_read k (Some view ∷ past))) own.slots slot e
  where
    right_bytes : (k : ℕ) → All (λ y. y ≡ msi_byte own.port) (bytes_of k view.msi)
    right_bytes k =
        All-map (λ y. y ≡ msi_byte own.port) (λ (p : ℕ × ℕ). p.1) (filter (λ (p : ℕ × ℕ). p.0 == k) view.msi)
        (All-filter (λ (p : ℕ × ℕ). p.0 == k) (λ (p : ℕ × ℕ). p.1 ≡ msi_byte own.port) view.msi h)

    slot : (k : ℕ) → is_marked own.port (msi_read k past) ≡ false → is_marked own.port (msi_read k (Some view ∷ past)) ≡ false
    slot k f = ap (is_marked own.port) (came_next k (Some view) past) ∙ stays_unmarked (msi_byte own.port) (bytes_of k view.msi) (msi_read k past) f (right_bytes k)
