-- API: numbers of the turns so far, the last turn first, as far as 64 bits go.
use Rattle.std.specs.Prelude.{ℕ, ◌+◌, ◌-◌, ◌^◌, min, Bool, List, [], ◌∷◌, length, filter}
use Rattle.std.specs.List.{prefix_len}

-- a number of 64 bits stops at its end
abbrev pub capped : ℕ → ℕ
capped n = min n (2 ^ 64 - 1)

-- how many of them pass a test
abbrev pub how_many : {X : Type 0} → (X → Bool) → List X → ℕ
how_many test past = capped (length (filter test past))

-- how many of the last ones pass it, in a row
abbrev pub how_many_last : {X : Type 0} → (X → Bool) → List X → ℕ
how_many_last test past = capped (prefix_len test past)

-- a number of each, added up
abbrev pub total : {X : Type 0} → (X → ℕ) → List X → ℕ
total number [] = 0
total number (x ∷ past) = number x + total number past

abbrev pub total_of : {X : Type 0} → (X → ℕ) → List X → ℕ
total_of number past = capped (total number past)
