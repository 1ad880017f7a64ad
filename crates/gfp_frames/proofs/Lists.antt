-- Lists that are taken apart.
use Rattle.std.proofs.Common.{◌≡◌, ℕ, ◌-◌, ◌<◌, ◌≤◌, List, [], ◌∷◌, length, drop, refl, ap, ◌∙◌, sym, arith, length-drop}
use Rattle.std.proofs.Math.ListN.{drop_of_length-le}

-- nothing is left exactly where all was dropped
pub nothing_left : {X : Type 0} (xs : List X) (n : ℕ) → drop n xs ≡ [] → length xs ≤ n
nothing_left xs n e = let none : length xs - n ≡ 0 = sym (length-drop n xs) ∙ ap length e in omega arith

pub all_dropped : {X : Type 0} (xs : List X) (n : ℕ) → length xs ≤ n → drop n xs ≡ []
all_dropped xs n h = drop_of_length-le xs h

pub some_length : {X : Type 0} (xs : List X) → (xs ≡ [] → ⊥) → 0 < length xs
some_length [] not = absurd (not refl)
some_length (x ∷ xs) not = omega arith
