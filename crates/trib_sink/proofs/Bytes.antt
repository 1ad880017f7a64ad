-- One MSI byte more of a slot, and one slot more.
use Rattle.std.proofs.Common.{◌≡◌, ◌≢◌, ℕ, ◌+◌, ◌-◌, ◌<◌, ◌≤◌, List, [], ◌∷◌, ◌++◌, Bool, true, false, cond, length, take, get_or, refl, ap, ◌∙◌, sym, subst, arith, append-nil, append_assoc, get_or-set_other, get_or-set_same}
use Rattle.std.specs.Prelude.{map, filter, ◌==◌}
use Rattle.std.proofs.Math.ListN.{set}
use Rattle.std.proofs.lemmas.Bool.{eq-eqb}
use Rattle.std.proofs.lemmas.Bool.Decides.{nat_tests}
use Rattle.std.proofs.lemmas.List.{take_more, take_all, map-append}
use Rattle.std.proofs.lemmas.List.Elements.{filter-append}
use Rattle.msi_table.specs.Marks.{Watch, HasTaken}
use Rattle.tributary_model.specs.Stretches.{bytes_of}
use Rattle.trib_sink.specs.Watching.{Watched}

same_number : (a b : ℕ) → (a == b) ≡ true → a ≡ b
same_number a b e = grind (arith, nat_tests)

-- the watches may be said to have taken the same bytes in other words
pub same_taken : (port : ℕ) (f g : ℕ → List ℕ) (watches : List Watch) → ((k : ℕ) → f k ≡ g k) → Watched port f watches → Watched port g watches
same_taken port f g watches same h = record { each = λ k d low high. subst (λ xs. HasTaken port xs (get_or watches (k - 1) d)) (same k) (h.each k d low high) }

-- one watch took a byte
pub one_taken : (port : ℕ) (taken : ℕ → List ℕ) (watches : List Watch) (slot byte : ℕ) (watch : Watch) → length watches ≡ 32 → 1 ≤ slot → slot ≤ 32
    → Watched port taken watches → HasTaken port (taken slot ++ byte ∷ []) watch
    → Watched port (λ k. taken k ++ cond (slot == k) (byte ∷ []) []) (set watches (slot - 1) watch)
one_taken port taken watches slot byte watch many low high h took = record { each = λ k d a b. go k d a b (slot == k) refl }
  where
    go : (k : ℕ) (d : Watch) → 1 ≤ k → k ≤ 32 → (t : Bool) → (slot == k) ≡ t → HasTaken port (taken k ++ cond (slot == k) (byte ∷ []) []) (get_or (set watches (slot - 1) watch) (k - 1) d)
    go k d a b true e =
        let same : slot ≡ k = same_number slot k e in
        let inside : slot - 1 < length watches = omega arith in
        let here : get_or (set watches (slot - 1) watch) (k - 1) d ≡ watch = ap (λ n. get_or (set watches (slot - 1) watch) (n - 1) d) (sym same) ∙ get_or-set_same watches (slot - 1) watch d inside in
        let bytes : taken slot ++ byte ∷ [] ≡ taken k ++ cond (slot == k) (byte ∷ []) [] = ap (λ n. taken n ++ byte ∷ []) same ∙ ap (λ t. taken k ++ cond t (byte ∷ []) []) (sym e) in
        subst (λ xs. HasTaken port xs (get_or (set watches (slot - 1) watch) (k - 1) d)) bytes (subst (HasTaken port (taken slot ++ byte ∷ [])) (sym here) took)
    go k d a b false e =
        let other : k - 1 ≢ slot - 1 = λ f. let same : slot ≡ k = omega arith in let yes : (slot == k) ≡ true = eq-eqb slot k same in let bad : ⊥ = cc in bad in
        let here : get_or (set watches (slot - 1) watch) (k - 1) d ≡ get_or watches (k - 1) d = get_or-set_other watches (slot - 1) (k - 1) watch d other in
        let bytes : taken k ≡ taken k ++ cond (slot == k) (byte ∷ []) [] = sym (append-nil (taken k)) ∙ ap (λ t. taken k ++ cond t (byte ∷ []) []) (sym e) in
        subst (λ xs. HasTaken port xs (get_or (set watches (slot - 1) watch) (k - 1) d)) bytes (subst (HasTaken port (taken k)) (sym here) (h.each k d a b))

-- the bytes of slot k among one pair more
pub bytes_more : (k : ℕ) (msi : List (ℕ × ℕ)) (pair : ℕ × ℕ) → bytes_of k (msi ++ pair ∷ []) ≡ bytes_of k msi ++ cond (pair.0 == k) (pair.1 ∷ []) []
bytes_more k msi pair =
    ap (map (λ (p : ℕ × ℕ). p.1)) (filter-append (λ (p : ℕ × ℕ). p.0 == k) msi (pair ∷ []))
    ∙ map-append (λ (p : ℕ × ℕ). p.1) (filter (λ (p : ℕ × ℕ). p.0 == k) msi) (filter (λ (p : ℕ × ℕ). p.0 == k) (pair ∷ []))
    ∙ ap (λ xs. bytes_of k msi ++ xs) (go (pair.0 == k))
  where
    go : (t : Bool) → map (λ (p : ℕ × ℕ). p.1) (cond t (pair ∷ []) []) ≡ cond t (pair.1 ∷ []) []
    go true = refl
    go false = refl

pub no_bytes : (port : ℕ) (taken : ℕ → List ℕ) (msi : List (ℕ × ℕ)) (watches : List Watch) → Watched port taken watches → Watched port (λ k. taken k ++ bytes_of k (take 0 msi)) watches
no_bytes port taken msi watches h = same_taken port taken (λ k. taken k ++ bytes_of k (take 0 msi)) watches (λ k. sym (append-nil (taken k))) h

pub more_bytes : (port : ℕ) (taken : ℕ → List ℕ) (msi : List (ℕ × ℕ)) (i : ℕ) (d : ℕ × ℕ) (watches : List Watch) → i < length msi
    → Watched port (λ k. taken k ++ bytes_of k (take i msi) ++ cond ((get_or msi i d).0 == k) ((get_or msi i d).1 ∷ []) []) watches
    → Watched port (λ k. taken k ++ bytes_of k (take (i + 1) msi)) watches
more_bytes port taken msi i d watches inside h =
    let pair : ℕ × ℕ = get_or msi i d in
    same_taken port (λ k. taken k ++ bytes_of k (take i msi) ++ cond (pair.0 == k) (pair.1 ∷ []) []) (λ k. taken k ++ bytes_of k (take (i + 1) msi)) watches
    (λ k. append_assoc (taken k) (bytes_of k (take i msi)) (cond (pair.0 == k) (pair.1 ∷ []) [])
    ∙ ap (λ xs. taken k ++ xs) (sym (bytes_more k (take i msi) pair))
    ∙ ap (λ xs. taken k ++ bytes_of k xs) (sym (take_more msi i d inside))) h

pub all_bytes : (port : ℕ) (taken : ℕ → List ℕ) (msi : List (ℕ × ℕ)) (i : ℕ) (watches : List Watch) → length msi ≤ i
    → Watched port (λ k. taken k ++ bytes_of k (take i msi)) watches → Watched port (λ k. taken k ++ bytes_of k msi) watches
all_bytes port taken msi i watches past h =
    same_taken port (λ k. taken k ++ bytes_of k (take i msi)) (λ k. taken k ++ bytes_of k msi) watches (λ k. ap (λ xs. taken k ++ bytes_of k xs) (take_all i msi past)) h
