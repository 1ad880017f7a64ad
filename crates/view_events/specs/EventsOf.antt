-- API: the text of the events of a view, by its lines.
use Rattle.std.specs.Prelude.{◌&&◌, ◌==◌, ◌+◌, ℕ, Bool, not, List, [], ◌∷◌, ◌++◌, Option, Some, None, codes, if◌then◌else◌}
use Rattle.std.specs.List.{flat_map}
use Rattle.std.specs.Str.{bytes_eq}
use Rattle.std.specs.Fmt.{decimal}
use Rattle.number_lists.specs.NumberLists.{numbers_text}
use Rattle.view_events.specs.EventText.{changes_text, line_sums_text, msi_events_text, tributary_sums_text, turn_events_text}
use Rattle.view_events.specs.LineEvents.{is_hunting, is_lost, is_whole, last_alignment, turns_without}
use Rattle.view_events.specs.Tallies.{capped, how_many, total_of}
use Rattle.view_events.specs.TributaryEvents.{first_turn, is_down, is_up, is_waiting, last_turn, most_turns_down, state_before, times_down, tributary_event, turns_down, turns_not_up}
use Rattle.view_events.specs.ViewLines.{TributaryLine, ViewLine, OfTurn, OfMsi, OfTributary, OfEnd, OfOther, line_text}
use Rattle.view_events.specs.declared.line_events.LineTally.{LineTally}
use Rattle.view_events.specs.declared.said.MsiSaid.{MsiSaid}
use Rattle.view_events.specs.declared.said.TributarySaid.{TributarySaid}
use Rattle.view_events.specs.declared.said.TurnSaid.{TurnSaid}
use Rattle.view_events.specs.declared.tributary_events.TributaryTally.{TributaryTally}

-- ---- what was said

-- of a tributary, by its label: of the turns so far in which it was shown, the last one first
pub record OneSaid : Type 0 where
  pub label : List ℕ
  pub past : List TributarySaid

-- by the lines so far: of the line in its turns, of the MSI bytes, each the last one first, and of the tributaries, in
-- the order of their first lines
pub record Said : Type 0 where
  pub turns : List TurnSaid
  pub bytes : List MsiSaid
  pub each : List OneSaid

abbrev pub nothing_said : Said
nothing_said = record { turns = []; bytes = []; each = [] }

-- the turn whose lines come, from 1
abbrev pub turn_now : List TurnSaid → ℕ
turn_now [] = 0
turn_now (turn ∷ past) = turn.number

-- ---- of a tributary

-- its label: its name; where a mark stands in its place, its port, a colon and its slots
abbrev pub label_by : (name port slots : List ℕ) → List ℕ
label_by name port slots = if bytes_eq name (codes "-") then port ++ codes ":" ++ slots else name

abbrev pub label_of : TributaryLine → List ℕ
label_of x = label_by x.name (decimal x.port) (numbers_text x.slots)

-- Cm and CnD; 0 where there are none
abbrev pub cm_of : Option (ℕ × ℕ) → ℕ
cm_of None = 0
cm_of (Some pair) = pair.0

abbrev pub cnd_of : Option (ℕ × ℕ) → ℕ
cnd_of None = 0
cnd_of (Some pair) = pair.1

-- what its line says in this turn
abbrev pub tributary_said : (turn : ℕ) → TributaryLine → TributarySaid
tributary_said turn x = record { turn = turn; state = x.state; cm = cm_of x.pair; cnd = cnd_of x.pair }

-- G.709 clause 19.4.1: the MSI byte of its port: that of port 1 is 80
abbrev pub right_byte : (port : ℕ) → ℕ
right_byte port = port + 127

-- A line in this turn of the tributary of this label: one of this label of which no line of this turn was yet. So of
-- tributaries of one label, each has its line, in the order of their first ones.
abbrev pub is_line_of : (turn : ℕ) → (label : List ℕ) → OneSaid → Bool
is_line_of turn label one = not (last_turn one.past == turn) && bytes_eq label one.label

-- what was said of it before: nothing of a new one
abbrev pub past_of : (turn : ℕ) → (label : List ℕ) → List OneSaid → List TributarySaid
past_of turn label [] = []
past_of turn label (one ∷ each) = if is_line_of turn label one then one.past else past_of turn label each

-- what is said of it is added; a new one is the last one
abbrev pub told_to : (turn : ℕ) → (label : List ℕ) → TributarySaid → List OneSaid → List OneSaid
told_to turn label said [] = record { label = label; past = said ∷ [] } ∷ []
told_to turn label said (one ∷ each) = if is_line_of turn label one
    then record { label = one.label; past = said ∷ one.past } ∷ each else one ∷ told_to turn label said each

-- ---- a line

-- what is said after it
unfoldable pub said_after : Said → ViewLine → Said
said_after said (OfTurn frames turn) = record said { turns = turn ∷ said.turns }
said_after said (OfMsi slot byte) =
    record said { bytes = record { turn = turn_now said.turns; slot = slot; byte = byte } ∷ said.bytes }
said_after said (OfTributary x) = record said {
  each =
      told_to (turn_now said.turns) (label_of x) (tributary_said (turn_now said.turns) x) said.each;
}
said_after said (OfEnd turns rest) = said
said_after said (OfOther word more) = said

-- the event of a tributary
unfoldable pub tributary_text : Said → (past : List TributarySaid) → TributaryLine → List ℕ
tributary_text said past x = changes_text (turn_now said.turns) (label_of x)
    (tributary_event said.turns said.bytes past (tributary_said (turn_now said.turns) x) x.slots (right_byte x.port))

-- the numbers of all turns of the line, and of a tributary
abbrev pub line_numbers : List TurnSaid → LineTally
line_numbers turns = record {
  last = last_alignment turns;
  without = turns_without turns;
  whole = how_many (λ turn. is_whole turn.alignment) turns;
  lost = how_many (λ turn. is_lost turn.alignment) turns;
  hunting = how_many (λ turn. is_hunting turn.alignment) turns;
  fas = total_of (λ turn. turn.fas) turns;
  sm = total_of (λ turn. turn.sm) turns;
  pm = total_of (λ turn. turn.pm) turns;
}

abbrev pub tributary_numbers : List TributarySaid → TributaryTally
tributary_numbers past = record {
  state = state_before past;
  without = turns_not_up past;
  up = how_many (λ turn. is_up turn.state) past;
  waiting = how_many (λ turn. is_waiting turn.state) past;
  down = how_many (λ turn. is_down turn.state) past;
  times = capped (times_down past);
  row = turns_down past;
  longest = most_turns_down past;
  first = first_turn past;
  last = last_turn past;
}

abbrev pub one_sums : OneSaid → List ℕ
one_sums one = tributary_sums_text one.label (tributary_numbers one.past)

-- the last lines: the sums of the line, and of each tributary
unfoldable pub all_sums : Said → List ℕ
all_sums said = line_sums_text (line_numbers said.turns) ++ flat_map one_sums said.each

-- The events that a line brings, after what was said before it: those of its turn, of its MSI byte or of its tributary.
-- Before the sums the last line of the view stands as it is, and so does a line that begins with another word.
unfoldable pub line_events : Said → ViewLine → List ℕ
line_events said (OfTurn frames turn) = turn_events_text said.turns turn
line_events said (OfMsi slot byte) =
    msi_events_text said.bytes (record { turn = turn_now said.turns; slot = slot; byte = byte })
line_events said (OfTributary x) =
    tributary_text said (past_of (turn_now said.turns) (label_of x) said.each) x
line_events said (OfEnd turns rest) = line_text (OfEnd turns rest) ++ all_sums said
line_events said (OfOther word more) = line_text (OfOther word more)

-- ---- a view

-- what is said after some lines, and the events that they bring
abbrev pub said_by : Said → List ViewLine → Said
said_by said [] = said
said_by said (line ∷ lines) = said_by (said_after said line) lines

abbrev pub events_from : Said → List ViewLine → List ℕ
events_from said [] = []
events_from said (line ∷ lines) = line_events said line ++ events_from (said_after said line) lines

-- the events of the lines of a view
unfoldable pub events_of : List ViewLine → List ℕ
events_of lines = events_from nothing_said lines
