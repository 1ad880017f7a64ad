-- Steps of `line_of_client`, `count_lines` and others: what private contracts alone cite, beside the definitions of
-- `TrialReport`.
use Rattle.std.specs.Prelude.{ℕ, ◌+◌, ◌-◌, ◌/◌, ◌==◌, if◌then◌else◌, List, [], ◌∷◌, length}
use Rattle.trial_command.specs.TrialReport.{client_line}

-- whether a byte ends a line, as a count
abbrev pub feed : (byte : ℕ) → ℕ
feed byte = if byte == 10 then 1 else 0

-- how many lines a text has: its line feeds
unfoldable pub lines_in : (text : List ℕ) → ℕ
lines_in [] = 0
lines_in (byte ∷ bytes) = feed byte + lines_in bytes

-- how many bytes its packets have: two digits each, beside the line feeds
abbrev pub bytes_in : (text : List ℕ) → ℕ
bytes_in text = (length text - lines_in text) / 2

-- the line of a client that got this text
abbrev pub text_line : (c : ℕ) → (text : List ℕ) → List ℕ
text_line c text = client_line c (lines_in text) (bytes_in text)
