-- API: the lines of the view of a line, each by what it says.
use Rattle.std.specs.Prelude.{◌+◌, ℕ, nat_lt, Bool, true, false, List, [], ◌∷◌, ◌++◌, codes, if◌then◌else◌, length, map}
use Rattle.std.specs.List.{flat_map}
use Rattle.otn_base.specs.declared.line_kind.LineKind.{LineKind}
use Rattle.line_side.specs.LineFile.{mfas_of}
use Rattle.line_side.specs.LineForm.{LineForm, size_of}
use Rattle.line_side.specs.Reader.{rest_of}
use Rattle.line_side.specs.declared.ending.Ending.{Ending}
use Rattle.tributary_model.specs.declared.turns.SinkState.{SinkState as Stands}
use Rattle.tributary_model.specs.declared.turns.SinkState.TheVariants as stands
use Rattle.line_view.specs.ViewText.{Showing, is_shown, kind_word, mask_word, msi_at_turn, seen_at, told_at}
use Rattle.tributary_line.specs.TurnsDone.{turns_of}
use Rattle.line_view.specs.declared.told.Told.{Told}
use Rattle.line_view.specs.declared.told.TurnSeen.{TurnSeen}
use Rattle.view_events.specs.ViewLines.{ViewLine, OfTurn, OfMsi, OfTributary, OfEnd, OfOther}
use Rattle.view_events.specs.declared.said.Alignment.{Alignment}
use Rattle.view_events.specs.declared.said.Alignment.TheVariants.{Whole, Lost, Hunting, Ended}
use Rattle.view_events.specs.declared.said.SinkState.{SinkState}
use Rattle.view_events.specs.declared.said.SinkState.TheVariants.{Waiting, Up, Down}

-- a turn with which the line ended; with its multiframe; that lost it; or in which none was found
abbrev pub alignment_by : (ended whole lost : Bool) → Alignment
alignment_by true whole lost = Ended
alignment_by false true lost = Whole
alignment_by false false true = Lost
alignment_by false false false = Hunting

abbrev pub state_by : Stands → SinkState
state_by stands.Waiting = Waiting
state_by stands.Up = Up
state_by stands.Down = Down

-- the line of the line
abbrev pub head_of : LineKind → (scrambled : Bool) → ViewLine
head_of kind scrambled = OfOther (codes "line") (kind_word kind ∷ mask_word scrambled ∷ [])

-- that of a turn
abbrev pub turn_of : (number : ℕ) → TurnSeen → ViewLine
turn_of number seen = OfTurn seen.counts.frames (record {
  number = number;
  alignment = alignment_by seen.ended seen.whole (nat_lt 0 seen.counts.lost);
  lead_in = seen.counts.lead_in;
  fas = seen.counts.fas;
  sm = seen.counts.sm;
  pm = seen.counts.pm;
})

-- that of an MSI byte
abbrev pub msi_of : ℕ × ℕ → ViewLine
msi_of pair = OfMsi (pair.0) (pair.1)

-- that of a tributary
abbrev pub tributary_of : (name : List ℕ) → (port : ℕ) → (slots : List ℕ) → Told → ViewLine
tributary_of name port slots told = OfTributary (record {
  name = name;
  port = port;
  slots = slots;
  state = state_by told.state;
  pair = told.pair;
  bytes = told.bytes;
})

-- turn t + 1 of a tributary: its line, where the turn is one of its turns
abbrev pub showing_lines : (available : List ℕ) → (t : ℕ) → Showing → List ViewLine
showing_lines available t x = if is_shown x t then tributary_of x.name x.own.port x.own.slots
    (told_at x.own x.first available t) ∷ [] else []

-- turn t + 1: its line, one for each MSI byte that came in it, and one for each tributary that is shown in it
abbrev pub turn_lines : LineForm → List Showing → (available : List ℕ) → (t : ℕ) → List ViewLine
turn_lines form shows available t = turn_of (t + 1) (seen_at form available t)
    ∷ (map msi_of (msi_at_turn form available t) ++ flat_map (showing_lines available t) shows)

-- The lines of the view of a line of these bytes, through its mask, that ended so, and of these tributaries on it.
unfoldable pub view_lines : LineForm → List Showing → Ending → (available : List ℕ) → List ViewLine
view_lines form shows ending available = head_of form.kind form.scrambled
    ∷ (flat_map (turn_lines form shows available) (turns_of (size_of form) (mfas_of available))
    ++ OfEnd (length (turns_of (size_of form) (mfas_of available))) (rest_of ending available) ∷ [])
