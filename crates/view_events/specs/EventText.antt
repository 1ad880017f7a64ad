-- API: events as text, as docs/VIEW.md says it: a line for each, with a line feed at its end.
use Rattle.std.specs.Prelude.{ℕ, ◌+◌, ◌-◌, ◌/◌, ◌%◌, ◌||◌, ◌==◌, nat_lt, List, [], ◌∷◌, ◌++◌, codes, Option, Some, None, if◌then◌else◌}
use Rattle.std.specs.Fmt.{decimal}
use Rattle.view_events.specs.LineEvents.{alignment_event, lead_in_event, error_event}
use Rattle.view_events.specs.SlotEvents.{is_msi_event}
use Rattle.view_events.specs.declared.said.MsiSaid.{MsiSaid}
use Rattle.view_events.specs.declared.said.TurnSaid.{TurnSaid}
use Rattle.view_events.specs.declared.line_events.LineEvent.{LineEvent}
use Rattle.view_events.specs.declared.line_events.LineTally.{LineTally}
use Rattle.view_events.specs.declared.tributary.Tributary.{Tributary}
use Rattle.view_events.specs.declared.tributary_events.TributaryTally.{TributaryTally}
use Rattle.view_events.specs.declared.line_events.LineEvent.TheVariants.{Found, Lost, NotFound, Ended, PassedOver, Errors}
use Rattle.view_events.specs.declared.tributary_events.Change.{Change}
use Rattle.view_events.specs.declared.tributary_events.Change.TheVariants.{Up, Waiting, NeverUp, NoMultiframe, WrongMsi, Damaged}

-- ---- of the line

-- frames with a wrong FAS, a wrong SM parity, a wrong PM parity
abbrev pub errors_text : (fas sm pm : ℕ) → List ℕ
errors_text fas sm pm = codes " fas " ++ decimal fas ++ codes " sm " ++ decimal sm ++ codes " pm " ++ decimal pm

abbrev pub line_word : LineEvent → List ℕ
line_word (Found turns) = codes " line whole after " ++ decimal turns ++ codes " turns"
line_word Lost = codes " line lost multiframe"
line_word NotFound = codes " line no multiframe"
line_word Ended = codes " line end"
line_word (PassedOver frames) = codes " line passed over " ++ decimal frames ++ codes " frames"
line_word (Errors fas sm pm) = codes " line" ++ errors_text fas sm pm

-- the line of an event of this turn
abbrev pub line_event_text : (turn : ℕ) → LineEvent → List ℕ
line_event_text turn event = codes "turn " ++ decimal turn ++ line_word event ++ codes "\n"

abbrev pub line_events_text : (turn : ℕ) → Option LineEvent → List ℕ
line_events_text turn None = []
line_events_text turn (Some event) = line_event_text turn event

-- ---- of a slot

-- a digit of a number to the base 16
abbrev pub hex_digit : ℕ → ℕ
hex_digit n = if nat_lt n 10 then 48 + n else 87 + n

-- G.709 clause 19.4.1: the MSI byte of a free slot is C0, and that of port 1 is 80
abbrev pub byte_word : ℕ → List ℕ
byte_word byte = if byte == 192 then codes " no port" else
    (if nat_lt byte 128 || nat_lt 192 byte
    then codes " msi " ++ (hex_digit (byte / 16) ∷ hex_digit (byte % 16) ∷ [])
    else codes " port " ++ decimal (byte - 128 + 1))

abbrev pub msi_event_text : MsiSaid → List ℕ
msi_event_text msi = codes "turn " ++ decimal msi.turn ++ byte_word msi.byte ++ codes " in slot " ++ decimal msi.slot
    ++ codes "\n"

-- ---- of a tributary

abbrev pub change_word : Change → List ℕ
change_word (Up cm cnd turns) = codes " up cm " ++ decimal cm ++ codes " cnd " ++ decimal cnd ++ codes " after "
    ++ decimal turns ++ codes " turns"
change_word Waiting = codes " waiting"
change_word NeverUp = codes " down never came up"
change_word NoMultiframe = codes " down no multiframe"
change_word (WrongMsi slot) = codes " down MSI of slot " ++ decimal slot ++ codes " wrong twice"
change_word Damaged = codes " down messages damaged"

-- the line of an event of this turn, of the tributary of this label
abbrev pub change_text : (turn : ℕ) → (label : List ℕ) → Change → List ℕ
change_text turn label change = codes "turn " ++ decimal turn ++ codes " " ++ label ++ change_word change ++ codes "\n"

abbrev pub changes_text : (turn : ℕ) → (label : List ℕ) → Option Change → List ℕ
changes_text turn label None = []
changes_text turn label (Some change) = change_text turn label change

-- ---- sums, of the numbers of all turns

abbrev pub line_turns_text : LineTally → List ℕ
line_turns_text tally = codes " whole " ++ decimal tally.whole ++ codes " lost " ++ decimal tally.lost
    ++ codes " none " ++ decimal tally.hunting

abbrev pub line_sums_text : LineTally → List ℕ
line_sums_text tally = codes "end line"
    ++ (line_turns_text tally ++ (errors_text tally.fas tally.sm tally.pm ++ codes "\n"))

abbrev pub states_text : TributaryTally → List ℕ
states_text tally = codes " up " ++ decimal tally.up ++ codes " waiting " ++ decimal tally.waiting
    ++ codes " down " ++ decimal tally.down

abbrev pub rows_text : TributaryTally → List ℕ
rows_text tally = codes " times " ++ decimal tally.times ++ codes " longest " ++ decimal tally.longest
    ++ codes " first " ++ decimal tally.first ++ codes " last " ++ decimal tally.last

abbrev pub tributary_sums_text : (label : List ℕ) → TributaryTally → List ℕ
tributary_sums_text label tally = codes "end " ++ (label ++ (states_text tally ++ (rows_text tally ++ codes "\n")))

-- those of a tributary, by its label
abbrev pub sums_text : Tributary → List ℕ
sums_text one = tributary_sums_text one.label.items one.tally

-- ---- of a turn, after those before it

-- the events of the line
abbrev pub turn_events_text : (past : List TurnSaid) → TurnSaid → List ℕ
turn_events_text past turn = line_events_text turn.number (alignment_event past turn.alignment)
    ++ (line_events_text turn.number (lead_in_event turn) ++ line_events_text turn.number (error_event turn))

-- the event of an MSI byte
abbrev pub msi_events_text : (past : List MsiSaid) → MsiSaid → List ℕ
msi_events_text past msi = if is_msi_event past msi then msi_event_text msi else []
