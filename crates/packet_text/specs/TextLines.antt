-- Believed: the lines of a text, each ended by LF; the last may have none.
use Rattle.std.specs.Prelude.{ℕ, ◌*◌, ◌/◌, ◌==◌, ◌||◌, Bool, false, if◌then◌else◌, List, [], ◌∷◌, length, take, drop}

-- whether there is an LF among these bytes
unfoldable pub has_lf : List ℕ → Bool
has_lf [] = false
has_lf (x ∷ xs) = (x == 10) || has_lf xs

-- a byte in front of a text's first line
unfoldable pub with_byte : ℕ → List (List ℕ) → List (List ℕ)
with_byte x [] = (x ∷ []) ∷ []
with_byte x (line ∷ lines) = (x ∷ line) ∷ lines

-- the lines of a text, without their LF
unfoldable pub lines_of : List ℕ → List (List ℕ)
lines_of [] = []
lines_of (x ∷ xs) = if x == 10 then [] ∷ lines_of xs else with_byte x (lines_of xs)

-- the bytes up to and with their last LF
unfoldable pub full_lines : List ℕ → List ℕ
full_lines [] = []
full_lines (x ∷ xs) = if has_lf (x ∷ xs) then x ∷ full_lines xs else []

-- the bytes behind their last LF: the line that has begun
abbrev pub begun_line : List ℕ → List ℕ
begun_line bytes = drop (length (full_lines bytes)) bytes

-- the whole blocks of 4,096 bytes
unfoldable pub whole_blocks : List ℕ → List ℕ
whole_blocks bytes = take (4096 * (length bytes / 4096)) bytes

-- what is left of the text of a place that died: its whole blocks, up to and with their last LF
abbrev pub text_of_dead : List ℕ → List ℕ
text_of_dead bytes = full_lines (whole_blocks bytes)
