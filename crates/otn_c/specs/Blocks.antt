-- Believed: blocks of bytes: parts that lie one behind the other in one slice, by where each of them ends.
use Rattle.std.specs.Prelude.{◌<◌, ◌-◌, ◌⊎◌, ℕ, zero, suc, List, get_or, take, drop, length}
use Rattle.std.specs.List.{slice_split}
use Rattle.std.specs.Prelude.{nat_eq}

-- where part n of a block begins: where the one before it ends
abbrev pub start_of : (ends : List ℕ) → ℕ → ℕ
start_of ends zero = 0
start_of ends (suc n) = get_or ends n 0

-- where it ends
abbrev pub end_of : (ends : List ℕ) → ℕ → ℕ
end_of ends n = get_or ends n 0

-- its bytes
abbrev pub part_of : (block ends : List ℕ) → ℕ → List ℕ
part_of block ends n = take (end_of ends n - start_of ends n) (drop (start_of ends n) block)

-- there is no such part: it would end before it begins, or behind the block
abbrev pub IsNoPart : (block ends : List ℕ) → ℕ → Type 0
IsNoPart block ends n = (end_of ends n < start_of ends n) ⊎ (length block < end_of ends n)

-- the words of a line of words: what stands between its blanks; 32 is the blank
abbrev pub words_said : List ℕ → List (List ℕ)
words_said bytes = slice_split (λ b. nat_eq b 32) bytes
