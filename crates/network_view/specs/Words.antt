-- API: the words of the text of a network.
use Rattle.std.specs.Prelude.{ℕ, ◌-◌, ◌*◌, Bool, true, false, List, [], ◌∷◌, ◌++◌, codes, length}
use Rattle.std.specs.Fmt.{decimal}
use Rattle.std.specs.List.{flat_map}
use Rattle.maintenance_signals.specs.declared.signal.Signal.{Signal}
use Rattle.maintenance_signals.specs.declared.signal.Signal.TheVariants.{Ais, Oci, Lck}
use Rattle.otn_base.specs.LineSlots.{LineSlots}
use Rattle.otn_base.specs.declared.kind.Kind.{Kind}
use Rattle.otn_base.specs.declared.kind.Kind.TheVariants.{Odu0, Flex}
use Rattle.otn_base.specs.declared.line_kind.LineKind.{LineKind}
use Rattle.otn_base.specs.declared.line_kind.LineKind.TheVariants.{Otu2, Otu3}
use Rattle.plan_file.specs.declared.connection.Connection.{Connection}
use Rattle.plan_file.specs.declared.connection.FromEnd.{FromEnd}
use Rattle.plan_file.specs.declared.connection.FromEnd.TheVariants as from_end
use Rattle.plan_file.specs.declared.connection.ToEnd.{ToEnd}
use Rattle.plan_file.specs.declared.connection.ToEnd.TheVariants as to_end
use Rattle.network_view.specs.declared.meeting.Likeness.{Likeness}
use Rattle.network_view.specs.declared.meeting.Likeness.TheVariants as like

abbrev pub line_kind_word : LineKind → List ℕ
line_kind_word Otu2 = codes "otu2"
line_kind_word Otu3 = codes "otu3"

abbrev pub mask_word : (scrambled : Bool) → List ℕ
mask_word false = codes "plain"
mask_word true = codes "scrambled"

abbrev pub kind_word : Kind → List ℕ
kind_word Odu0 = codes "odu0"
kind_word Flex = codes "flex"

abbrev pub step_word : (in_step : Bool) → List ℕ
step_word true = codes "in-step"
step_word false = codes "out-of-step"

abbrev pub why_word : Likeness → List ℕ
why_word like.Turns = codes "turns"
why_word like.Port = codes "port"
why_word like.Slots = codes "slots"
why_word like.Nothing = codes "none"

abbrev pub signal_word : Signal → List ℕ
signal_word Ais = codes "ais"
signal_word Oci = codes "oci"
signal_word Lck = codes "lck"

-- ---- lists of numbers

unfoldable pub comma_text : ℕ → List ℕ
comma_text n = codes "," ++ decimal n

-- numbers with commas between them; a mark where there is none
abbrev pub numbers_text : List ℕ → List ℕ
numbers_text [] = codes "-"
numbers_text (n ∷ numbers) = decimal n ++ flat_map comma_text numbers

-- ---- ends

unfoldable pub line_end_text : (line port : ℕ) → LineSlots → List ℕ
line_end_text line port slots =
    codes "line " ++ decimal line ++ codes " port " ++ decimal port ++ codes " slots " ++ numbers_text slots.list

-- where an entry comes from, and where it goes
abbrev pub from_text : FromEnd → List ℕ
from_text (from_end.Line line port slots) = line_end_text line port slots
from_text (from_end.Client client) = codes "client " ++ decimal client
from_text (from_end.Signal signal) = codes "signal " ++ signal_word signal

abbrev pub to_text : ToEnd → List ℕ
to_text (to_end.Line line port slots) = line_end_text line port slots
to_text (to_end.Client client) = codes "client " ++ decimal client

-- Where a way begins, and where it ends: at a line it is at the edge of the network, or does not meet.
abbrev pub begin_text : FromEnd → List ℕ
begin_text (from_end.Line line port slots) = codes "edge"
begin_text (from_end.Client client) = codes "client " ++ decimal client
begin_text (from_end.Signal signal) = codes "signal " ++ signal_word signal

abbrev pub end_text : ToEnd → List ℕ
end_text (to_end.Line line port slots) = codes "edge"
end_text (to_end.Client client) = codes "client " ++ decimal client

-- ---- turns

-- in how many turns what is sent at the beginning of a way comes in time, of a way with so many nodes behind its first
abbrev pub turns_left : (start stop behind : ℕ) → ℕ
turns_left start stop behind = stop - start - 3 * behind

-- the same as text; a mark where the way ends at no client
abbrev pub turns_by : (start stop behind : ℕ) → ToEnd → List ℕ
turns_by start stop behind (to_end.Line line port slots) = codes "-"
turns_by start stop behind (to_end.Client client) = decimal (turns_left start stop behind)

abbrev pub turns_text : (first last : Connection) → (behind : ℕ) → List ℕ
turns_text first last behind = turns_by first.start last.stop behind last.to
