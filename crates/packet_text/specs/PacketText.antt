-- Believed: the packets of a text of hex lines.
use Rattle.std.specs.Prelude.{ℕ, ◌+◌, ◌-◌, ◌==◌, nat_le, nat_lt, slice_index, take, ◌&&◌, ◌||◌, Bool, true, false, if◌then◌else◌, List, [], ◌∷◌, ◌++◌, length, reverse, Option, Some, None, Result, Ok, Err}
use Rattle.std.specs.List.{take_while}
use Rattle.hex.specs.Hex.{decode_of, encode_lower}
use Rattle.hex.specs.declared.error.FromHexError.{FromHexError}
use Rattle.otn_base.specs.declared.limits.TheConstants.{MOST_EMPTY_LINES}
use Rattle.packet_text.specs.TextLines.{lines_of, full_lines, begun_line}

-- one CR at the end of a line is no part of it
unfoldable pub without_cr : List ℕ → List ℕ
without_cr line = if nat_lt 0 (length line) && (slice_index line (length line - 1) == 13)
    then take (length line - 1) line else line

-- the bytes of hex digits, where they are such
abbrev pub decoded : Result (List ℕ) FromHexError → Option (List ℕ)
decoded (Ok bytes) = Some bytes
decoded (Err e) = None

-- the bytes that at most 131,054 hex digits of either case and of even count say: none of an empty line
unfoldable pub bytes_of_line : List ℕ → Option (List ℕ)
bytes_of_line line = if nat_le (length (without_cr line)) 131054 then decoded (decode_of (without_cr line)) else None

-- the list is empty
abbrev pub is_nothing : List ℕ → Bool
is_nothing [] = true
is_nothing (x ∷ xs) = false

-- an empty line
abbrev pub is_empty_line : List ℕ → Bool
is_empty_line line = is_nothing (without_cr line)

-- how many empty lines in a row stand at the end of these lines
unfoldable pub empty_lines : List (List ℕ) → ℕ
empty_lines lines = length (take_while is_empty_line (reverse lines))

-- what a line behind these gives: its packet, or nothing if it is empty. It is bad if it has other bytes than hex
-- digits of even count, or too many, or is the 65,537th empty line in a row.
abbrev pub line_gives : List (List ℕ) → List ℕ → Option (List ℕ)
line_gives before line = if nat_le MOST_EMPTY_LINES (empty_lines before) && is_empty_line line then None
    else bytes_of_line line

-- how a text ends: at its end, or with the first bad line, which has this number
pub data TextEnding : Type 0 where
  Ended : TextEnding
  BadAt : ℕ → TextEnding

-- the packets before a text's ending
pub record Packets : Type 0 where
  pub packets : List (List ℕ)
  pub ending : TextEnding

-- packets in front of others
abbrev pub behind : List (List ℕ) → Packets → Packets
behind packets text = record { packets = packets ++ text.packets; ending = text.ending }

-- line n of a text, which gives this, in front of later lines
abbrev pub with_line : ℕ → Option (List ℕ) → Packets → Packets
with_line n None later = record { packets = []; ending = BadAt n }
with_line n (Some []) later = later
with_line n (Some (x ∷ xs)) later = behind ((x ∷ xs) ∷ []) later

-- the packets of lines that stand behind these: lines count from 1
unfoldable pub packets_behind : List (List ℕ) → List (List ℕ) → Packets
packets_behind before [] = record { packets = []; ending = Ended }
packets_behind before (line ∷ lines) = with_line (length before + 1) (line_gives before line)
    (packets_behind (before ++ line ∷ []) lines)

-- the packets of a text
unfoldable pub packets_of : List ℕ → Packets
packets_of text = packets_behind [] (lines_of text)

-- whether a text ends with a bad line
abbrev pub is_bad : TextEnding → Bool
is_bad Ended = false
is_bad (BadAt n) = true

-- Whether a text that begins with these bytes has shown a bad line before its end is seen: one of their whole lines is
-- bad, or the line that has begun behind them has more bytes than the most digits and CR. No other line is judged
-- before its LF.
abbrev pub shows_bad : List ℕ → Bool
shows_bad bytes = is_bad (packets_of (full_lines bytes)).ending || nat_lt 131055 (length (begun_line bytes))

-- the line that is written of a packet: its digits, in lower case, and LF
abbrev pub packet_line : List ℕ → List ℕ
packet_line packet = encode_lower packet ++ 10 ∷ []

-- the text that is written of packets
unfoldable pub hex_text : List (List ℕ) → List ℕ
hex_text [] = []
hex_text (packet ∷ packets) = packet_line packet ++ hex_text packets
