-- API: the lines of a view, as docs/VIEW.md has them: what each says, and its words, with a blank between two of them
-- and a line feed behind the last.
use Rattle.std.specs.Prelude.{◌≡◌, ◌≢◌, ◌<◌, ◌^◌, ◌/◌, ◌%◌, ◌==◌, ◌||◌, ℕ, Bool, false, List, [], ◌∷◌, ◌++◌, All, Option, Some, None, codes, if◌then◌else◌}
use Rattle.std.specs.Fmt.{decimal}
use Rattle.number_lists.specs.NumberLists.{IsNumberList, numbers_text}
use Rattle.view_events.specs.EventText.{hex_digit}
use Rattle.view_events.specs.declared.said.Alignment.{Alignment}
use Rattle.view_events.specs.declared.said.Alignment.TheVariants.{Whole, Lost, Hunting, Ended}
use Rattle.view_events.specs.declared.said.SinkState.{SinkState}
use Rattle.view_events.specs.declared.said.SinkState.TheVariants.{Waiting, Up, Down}
use Rattle.view_events.specs.declared.said.TurnSaid.{TurnSaid}
use Rattle.view_events.specs.declared.slot_events.TheConstants.{SLOTS}

-- ---- what a line says

-- the line of a tributary: its name, or a mark in its place, its port and its slots, how its sink stands after the
-- turn, Cm and CnD, where there are, and how many bytes it emitted in the turn
pub record TributaryLine : Type 0 where
  pub name : List ℕ
  pub port : ℕ
  pub slots : List ℕ
  pub state : SinkState
  pub pair : Option (ℕ × ℕ)
  pub bytes : ℕ

-- A line of a view: that of a turn, with the frames that were used in it; of an MSI byte; of a tributary; the last one;
-- or one that begins with another word, as the first one does.
pub data ViewLine : Type 0 where
  OfTurn : (frames : ℕ) → TurnSaid → ViewLine
  OfMsi : (slot byte : ℕ) → ViewLine
  OfTributary : TributaryLine → ViewLine
  OfEnd : (turns rest : ℕ) → ViewLine
  OfOther : (word : List ℕ) → (more : List (List ℕ)) → ViewLine

-- ---- its words

abbrev pub alignment_word : Alignment → List ℕ
alignment_word Whole = codes "whole"
alignment_word Lost = codes "lost"
alignment_word Hunting = codes "none"
alignment_word Ended = codes "end"

abbrev pub state_word : SinkState → List ℕ
state_word Waiting = codes "waiting"
state_word Up = codes "up"
state_word Down = codes "down"

-- a byte in two digits to the base 16
abbrev pub hex_text : (byte : ℕ) → List ℕ
hex_text byte = hex_digit (byte / 16) ∷ hex_digit (byte % 16) ∷ []

-- Cm and CnD, or a mark for each
abbrev pub cm_word : Option (ℕ × ℕ) → List ℕ
cm_word None = codes "-"
cm_word (Some pair) = decimal (pair.0)

abbrev pub cnd_word : Option (ℕ × ℕ) → List ℕ
cnd_word None = codes "-"
cnd_word (Some pair) = decimal (pair.1)

abbrev pub turn_words : (frames : ℕ) → TurnSaid → List (List ℕ)
turn_words frames said = decimal said.number ∷ alignment_word said.alignment ∷ codes "frames" ∷ decimal frames
    ∷ codes "lead-in" ∷ decimal said.lead_in ∷ codes "fas" ∷ decimal said.fas ∷ codes "sm" ∷ decimal said.sm
    ∷ codes "pm" ∷ decimal said.pm ∷ []

abbrev pub msi_words : (slot byte : ℕ) → List (List ℕ)
msi_words slot byte = decimal slot ∷ hex_text byte ∷ []

abbrev pub tributary_words : TributaryLine → List (List ℕ)
tributary_words x = x.name ∷ codes "port" ∷ decimal x.port ∷ codes "slots" ∷ numbers_text x.slots
    ∷ state_word x.state ∷ codes "cm" ∷ cm_word x.pair ∷ codes "cnd" ∷ cnd_word x.pair ∷ codes "bytes"
    ∷ decimal x.bytes ∷ []

abbrev pub end_words : (turns rest : ℕ) → List (List ℕ)
end_words turns rest = codes "turns" ∷ decimal turns ∷ codes "rest" ∷ decimal rest ∷ []

-- the first word of a line, and the others
abbrev pub kind_word : ViewLine → List ℕ
kind_word (OfTurn frames said) = codes "turn"
kind_word (OfMsi slot byte) = codes "msi"
kind_word (OfTributary x) = codes "tributary"
kind_word (OfEnd turns rest) = codes "end"
kind_word (OfOther word more) = word

abbrev pub more_words : ViewLine → List (List ℕ)
more_words (OfTurn frames said) = turn_words frames said
more_words (OfMsi slot byte) = msi_words slot byte
more_words (OfTributary x) = tributary_words x
more_words (OfEnd turns rest) = end_words turns rest
more_words (OfOther word more) = more

-- ---- its text

-- words with a blank between two of them, and a line feed behind the last; 32 is the blank, and 10 the line feed
abbrev pub spelled : (word : List ℕ) → (more : List (List ℕ)) → List ℕ
spelled word [] = word ++ 10 ∷ []
spelled word (next ∷ more) = word ++ 32 ∷ spelled next more

unfoldable pub line_text : ViewLine → List ℕ
line_text line = spelled (kind_word line) (more_words line)

-- ---- which lines there are

-- a blank or a line feed: a word has none
abbrev pub ends_word : (byte : ℕ) → Bool
ends_word byte = (byte == 32) || (byte == 10)

abbrev pub IsWord : List ℕ → Type 0
IsWord word = All (λ byte. ends_word byte ≡ false) word

-- a number of 64 bits
abbrev pub IsCount : ℕ → Type 0
IsCount n = n < 2 ^ 64

pub record IsTurnLine (frames : ℕ) (said : TurnSaid) : Type 0 where
  pub number : IsCount said.number
  pub frames_are : IsCount frames
  pub lead_in : IsCount said.lead_in
  pub fas : IsCount said.fas
  pub sm : IsCount said.sm
  pub pm : IsCount said.pm

-- the numbers of a pair are of 16 bits
abbrev pub IsPair : Option (ℕ × ℕ) → Type 0
IsPair None = Unit {0}
IsPair (Some pair) = (pair.0 < 2 ^ 16) × (pair.1 < 2 ^ 16)

-- G.709 clause 19.4.1: tributary ports and slots are numbered from 1 to 32 at most
pub record IsTributaryLine (x : TributaryLine) : Type 0 where
  pub name : IsWord x.name
  pub port : x.port < SLOTS
  pub slots : IsNumberList SLOTS 32 x.slots
  pub pair : IsPair x.pair
  pub bytes : IsCount x.bytes

-- none of the words with which the other lines begin
pub record IsOtherWord (word : List ℕ) : Type 0 where
  pub turn : word ≢ codes "turn"
  pub msi : word ≢ codes "msi"
  pub tributary : word ≢ codes "tributary"
  pub end : word ≢ codes "end"

-- its numbers are in their ranges, and its words are words
abbrev pub IsViewLine : ViewLine → Type 0
IsViewLine (OfTurn frames said) = IsTurnLine frames said
IsViewLine (OfMsi slot byte) = (slot < SLOTS) × (byte < 256)
IsViewLine (OfTributary x) = IsTributaryLine x
IsViewLine (OfEnd turns rest) = IsCount turns × IsCount rest
IsViewLine (OfOther word more) = IsWord word × All IsWord more × IsOtherWord word

abbrev pub AreViewLines : List ViewLine → Type 0
AreViewLines lines = All IsViewLine lines

-- ---- a text, cut into lines

-- the lines of a text that follows these bytes of a line: what stands up to and with each line feed
abbrev pub lines_after : (front text : List ℕ) → List (List ℕ)
lines_after front [] = []
lines_after front (byte ∷ text) = if byte == 10 then (front ++ byte ∷ []) ∷ lines_after [] text
    else lines_after (front ++ byte ∷ []) text

-- the bytes behind its last line feed
abbrev pub rest_after : (front text : List ℕ) → List ℕ
rest_after front [] = front
rest_after front (byte ∷ text) = if byte == 10 then rest_after [] text else rest_after (front ++ byte ∷ []) text

-- the whole lines of a text, and what stands behind them
unfoldable pub whole_lines : (text : List ℕ) → List (List ℕ)
whole_lines text = lines_after [] text

unfoldable pub rest_of : (text : List ℕ) → List ℕ
rest_of text = rest_after [] text
