-- Believed: the front of a list of bytes.
use Rattle.std.specs.Prelude.{◌≡◌, ◌≤◌, ℕ, List, Option, IfSome, length, take}

-- bytes that are the front of a whole, or all of it, or none
abbrev pub IsFront : List ℕ → List ℕ → Type 0
IsFront front whole = take (length front) whole ≡ front

-- the first n bytes of a whole that has so many, where they are some
abbrev pub AreFirst : Option (List ℕ) → ℕ → List ℕ → Type 0
AreFirst some n whole = IfSome some (λ bytes. (bytes ≡ take n whole) × (n ≤ length whole))
