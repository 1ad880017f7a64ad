-- Lists of slots.
use Rattle.std.proofs.Common.{◌≡◌, ◌<◌, ◌≤◌, ◌+◌, ◌∙◌, ℕ, zero, suc, Bool, List, [], ◌∷◌, Some, None, length, drop, replicate, slice_get, sym, ap, refl, arith}
use Rattle.std.specs.Prelude.{if◌then◌else◌}
use Rattle.std.specs.List.{find}
use Rattle.std.proofs.lemmas.List.{length-replicate, get_or-replicate}
use Rattle.std.proofs.lemmas.Option.{same_Some, slice_get_read, slice_get_within}

-- a list of one thing has it at each place
pub same_everywhere : {X : Type 0} (n k : ℕ) (x : X) → k < n → slice_get (replicate n x) k ≡ Some x
same_everywhere n k x less = slice_get_read (replicate n x) n k x (sym (length-replicate n x)) less (sym (get_or-replicate n k x x less))

-- the first that passes, from a place on: that of the place, or the first after it
pub find_step : {X : Type 0} (p : X → Bool) (xs : List X) (i : ℕ) (x : X) → slice_get xs i ≡ Some x
    → find p (drop i xs) ≡ (if p x then Some x else find p (drop (i + 1) xs))
find_step p [] i x known = absurd (let less = slice_get_within [] i x known in omega arith)
find_step p (y ∷ xs) zero x known = ap (λ z. if p z then Some z else find p xs) (same_Some y x known)
find_step p (y ∷ xs) (suc i) x known = find_step p xs i x known
    ∙ ap (λ n. if p x then Some x else find p (drop n (y ∷ xs))) (let e : suc (i + 1) ≡ suc i + 1 = omega arith in e)

-- none from the end on
pub find_past : {X : Type 0} (p : X → Bool) (xs : List X) (i : ℕ) → length xs ≤ i → find p (drop i xs) ≡ None
find_past p [] zero most = refl
find_past p [] (suc i) most = refl
find_past p (y ∷ xs) zero most = absurd (omega (arith, most))
find_past p (y ∷ xs) (suc i) most = find_past p xs i (omega (arith, most))
