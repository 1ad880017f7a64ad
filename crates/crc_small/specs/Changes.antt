-- API: bytes that are changed on the way.
use Rattle.std.specs.Prelude.{◌≡◌, ◌≢◌, ℕ, ◌⊎◌, List, [], ◌∷◌}

-- two lists of bytes that differ in exactly one place
abbrev pub ChangesOneByte : List ℕ → List ℕ → Type 0
ChangesOneByte [] ys = ⊥
ChangesOneByte (x ∷ xs) [] = ⊥
ChangesOneByte (x ∷ xs) (y ∷ ys) = ((x ≢ y) × (xs ≡ ys)) ⊎ ((x ≡ y) × ChangesOneByte xs ys)
