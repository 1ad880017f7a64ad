-- The MSI byte of a frame.
use Rattle.std.proofs.Common.{◌≡◌, ◌≢◌, ℕ, zero, suc, ◌+◌, ◌-◌, ◌<◌, ◌≤◌, List, [], ◌∷◌, ◌++◌, Bool, true, false, cond, length, get_or, refl, ap, ◌∙◌, sym, subst, arith, append-nil}
use Rattle.std.specs.Prelude.{All, ◌==◌}
use Rattle.std.specs.List.{flat_map, Contains}
use Rattle.std.specs.List.Sorted.{IsStrictlyIncreasing}
use Rattle.std.proofs.lemmas.Bool.{eq-eqb, ne_eqb}
use Rattle.std.proofs.lemmas.Bool.Decides.{nat_tests}
use Rattle.std.proofs.lemmas.List.Elements.{All-nil, All-cons, All-append, Contains-get_or}
use Rattle.otn_base.specs.SlotList.{IsSlotList}
use Rattle.frame_geometry.specs.Places.{place_of}
use Rattle.tributary_model.specs.Places.{msi_at}
use Rattle.tributary_model.proofs.Greatest.{rising_head, rising_rest}
use Rattle.tributary_model.proofs.Views.{slot_low, slot_high}
use Rattle.trib_sink.specs.Watching.{AreOfSlots}

-- each later number is greater
above : (x : ℕ) (xs : List ℕ) → IsStrictlyIncreasing (x ∷ xs) → All (λ y. x < y) xs
above x [] h = All-nil (λ y. x < y)
above x (y ∷ ys) h =
    let less = rising_head x y ys h in
    let rest = above y ys (rising_rest x (y ∷ ys) h) in
    All-cons (λ z. x < z) y ys less (λ k d l. let more : y < get_or ys k d = rest k d l in omega arith)

-- no byte where no slot has its place there
none_at : (e b : ℕ) (xs : List ℕ) → All (λ k. e ≢ 1 + k) xs → flat_map (λ k. cond {A = List (ℕ × ℕ)} (e == 1 + k) ((k, b) ∷ []) []) xs ≡ []
none_at e b [] h = refl
none_at e b (x ∷ xs) h =
    let here : (e == 1 + x) ≡ false = ne_eqb e (1 + x) (h 0 x (omega arith)) in
    let rest = none_at e b xs (λ k d l. h (suc k) d (omega arith)) in
    ap (λ t. cond {A = List (ℕ × ℕ)} t ((x, b) ∷ []) [] ++ flat_map (λ k. cond {A = List (ℕ × ℕ)} (e == 1 + k) ((k, b) ∷ []) []) xs) here ∙ rest

pub none_there : (e b : ℕ) (xs : List ℕ) → ((k : ℕ) → Contains xs k → e ≢ 1 + k) → flat_map (λ k. cond {A = List (ℕ × ℕ)} (e == 1 + k) ((k, b) ∷ []) []) xs ≡ []
none_there e b xs h = none_at e b xs (λ k d l. h (get_or xs k d) (Contains-get_or xs k d l))

-- what a list has beside its first
has_rest : (x : ℕ) (xs : List ℕ) (y : ℕ) → Contains (x ∷ xs) y → x ≢ y → Contains xs y
has_rest x xs y has other = go has.0 has.1 has.2
  where
    go : (k : ℕ) → k < length (x ∷ xs) → get_or (x ∷ xs) k y ≡ y → Contains xs y
    go zero less e = absurd (other e)
    go (suc k) less e = (k, omega arith, e)

tested : (a b : ℕ) → (a == b) ≡ true → a ≡ b
tested a b e = grind (arith, nat_tests)

not_tested : (a b : ℕ) → (a == b) ≡ false → a ≢ b
not_tested a b e same = let yes : (a == b) ≡ true = eq-eqb a b same in let bad : ⊥ = cc in bad

-- the byte of the one slot that has
pub one_there : (e b : ℕ) (xs : List ℕ) → IsStrictlyIncreasing xs → 1 ≤ e → Contains xs (e - 1) → flat_map (λ k. cond {A = List (ℕ × ℕ)} (e == 1 + k) ((k, b) ∷ []) []) xs ≡ (e - 1, b) ∷ []
one_there e b [] h some has = absurd (let bad : ⊥ = (let l = has.1 in omega arith) in bad)
one_there e b (x ∷ xs) h some has = go (λ f. one_there e b xs (rising_rest x xs h) some f) (e == 1 + x) refl
  where
    go : (Contains xs (e - 1) → flat_map (λ k. cond {A = List (ℕ × ℕ)} (e == 1 + k) ((k, b) ∷ []) []) xs ≡ (e - 1, b) ∷ [])
        → (t : Bool) → (e == 1 + x) ≡ t → flat_map (λ k. cond {A = List (ℕ × ℕ)} (e == 1 + k) ((k, b) ∷ []) []) (x ∷ xs) ≡ (e - 1, b) ∷ []
    go later_one true is =
        let same : e ≡ 1 + x = tested e (1 + x) is in
        let later = above x xs h in
        let rest : flat_map (λ k. cond {A = List (ℕ × ℕ)} (e == 1 + k) ((k, b) ∷ []) []) xs ≡ [] = none_at e b xs (λ k d l f. let more : x < get_or xs k d = later k d l in let bad : ⊥ = omega arith in bad) in
        ap (λ t. cond {A = List (ℕ × ℕ)} t ((x, b) ∷ []) [] ++ flat_map (λ k. cond {A = List (ℕ × ℕ)} (e == 1 + k) ((k, b) ∷ []) []) xs) is
        ∙ ap {A = List (ℕ × ℕ)} (λ y. (x, b) ∷ y) rest
        ∙ ap {A = ℕ} (λ n. (n, b) ∷ []) (let f : x ≡ e - 1 = omega arith in f)
    go later_one false is =
        let differ : e ≢ 1 + x = not_tested e (1 + x) is in
        let other : x ≢ e - 1 = λ f. differ (omega arith) in
        ap (λ t. cond {A = List (ℕ × ℕ)} t ((x, b) ∷ []) [] ++ flat_map (λ k. cond {A = List (ℕ × ℕ)} (e == 1 + k) ((k, b) ∷ []) []) xs) is
        ∙ later_one (has_rest x xs (e - 1) has other)

-- as a clause says it, one pair more or none
pub noted : (line : ℕ) (slots frame : List ℕ) (e b : ℕ) (msi new : List (ℕ × ℕ)) → IsSlotList line slots → 1 ≤ e → Contains slots (e - 1) → new ≡ msi ++ (e - 1, b) ∷ []
    → b ≡ get_or frame (place_of 4080 4 15) 0 → new ≡ msi ++ msi_at slots e frame
noted line slots frame e b msi new list some has is byte =
    is ∙ ap {A = ℕ} (λ b. msi ++ (e - 1, b) ∷ []) byte ∙ ap (λ xs. msi ++ xs) (sym (one_there e (get_or frame (place_of 4080 4 15) 0) slots list.rising some has))

pub not_noted : (slots frame : List ℕ) (e : ℕ) (msi : List (ℕ × ℕ)) → (1 ≤ e → Contains slots (e - 1) → ⊥) → msi ≡ msi ++ msi_at slots e frame
not_noted slots frame e msi without =
    sym (append-nil msi) ∙ ap (λ xs. msi ++ xs) (sym (none_there e (get_or frame (place_of 4080 4 15) 0) slots
    (λ k has f. without (omega arith) (subst (Contains slots) (let g : k ≡ e - 1 = omega arith in g) has))))

pub noted_slots : (line : ℕ) (slots : List ℕ) (e b : ℕ) (msi new : List (ℕ × ℕ)) → IsSlotList line slots → line ≤ 32 → Contains slots (e - 1) → new ≡ msi ++ (e - 1, b) ∷ [] → AreOfSlots msi → AreOfSlots new
noted_slots line slots e b msi new list most has is h =
    let low = slot_low line slots (e - 1) list has in
    let high = slot_high line slots (e - 1) list has in
    let P : ℕ × ℕ → Type 0 = λ p. (1 ≤ p.0) × (p.0 ≤ 32) in
    subst AreOfSlots (sym is) (All-append P msi ((e - 1, b) ∷ []) h (All-cons P (e - 1, b) [] (low, omega arith) (All-nil P)))
