-- Believed: the connections of a plan: where each comes from and goes to, and in which turns it is active. Turns are
-- counted by those that are past: the turns of a plan from 0, and a connection's own turns from 0 too, its first being
-- the turn of its start.
use Rattle.std.specs.Prelude.{◌≡◌, ℕ, ◌+◌, ◌-◌, ◌≤◌, ◌==◌, Bool, true, false, if◌then◌else◌, List, length}
use Rattle.std.specs.List.{Contains, list_any}
use Rattle.otn_base.specs.LineSlots.{LineSlots, slots_of}
use Rattle.otn_base.specs.declared.line_kind.LineKind.{LineKind}
use Rattle.otn_base.specs.declared.line_kind.LineKind.TheVariants.{Otu2, Otu3}
use Rattle.line_side.specs.LineForm.{LineForm}
use Rattle.plan_file.specs.declared.connection.Connection.{Connection}
use Rattle.plan_file.specs.declared.connection.FromEnd.{FromEnd}
use Rattle.plan_file.specs.declared.connection.FromEnd.TheVariants as from_end
use Rattle.plan_file.specs.declared.connection.ToEnd.{ToEnd}
use Rattle.plan_file.specs.declared.connection.ToEnd.TheVariants as to_end
use Rattle.plan_file.specs.declared.plan.Plan.{Plan}

-- ---- turns

-- how many turns of the plan are past before the connection's first, which is turn start
abbrev pub first_turn : Connection → ℕ
first_turn x = x.start - 1

-- it is active in turn past + 1: in its turns start to stop, both included; and which of its own turns that is
pub record IsActive (x : Connection) (past : ℕ) : Type 0 where
  pub start : x.start ≤ past + 1
  pub stop : past + 1 ≤ x.stop

abbrev pub own_turn : Connection → (past : ℕ) → ℕ
own_turn x past = past - first_turn x

-- ---- ends

-- whether it comes from line a, or from client n, and goes to line b, or to client n
abbrev pub is_from_line : (a : ℕ) → FromEnd → Bool
is_from_line a (from_end.Line line port slots) = line == a
is_from_line a other = false

abbrev pub is_from_client : (n : ℕ) → FromEnd → Bool
is_from_client n (from_end.Client client) = client == n
is_from_client n other = false

abbrev pub is_to_line : (b : ℕ) → ToEnd → Bool
is_to_line b (to_end.Line line port slots) = line == b
is_to_line b (to_end.Client client) = false

abbrev pub is_to_client : (n : ℕ) → ToEnd → Bool
is_to_client n (to_end.Line line port slots) = false
is_to_client n (to_end.Client client) = client == n

-- M: how many slots its line end has, or both have
abbrev pub slots_between : FromEnd → ToEnd → ℕ
slots_between (from_end.Line line port slots) to = length slots.list
slots_between from (to_end.Line line port slots) = length slots.list
slots_between from (to_end.Client client) = 0

-- M of a connection
abbrev pub slot_count : Connection → ℕ
slot_count x = slots_between x.from x.to

-- ---- lines

-- a line's kind, where these lines are OTU3; and the kind of an input or output line, and whether it is scrambled
abbrev pub kind_by : (otu3 : List ℕ) → (line : ℕ) → LineKind
kind_by otu3 line = if list_any (λ n. n == line) otu3 then Otu3 else Otu2

abbrev pub form_in : Plan → (line : ℕ) → LineForm
form_in plan line = record { kind = kind_by plan.otu3_in line; scrambled = list_any (λ n. n == line) plan.scrambled_in }

abbrev pub form_out : Plan → (line : ℕ) → LineForm
form_out plan line = record {
  kind = kind_by plan.otu3_out line;
  scrambled = list_any (λ n. n == line) plan.scrambled_out;
}

-- A connection of the plan, active in turn past + 1, that goes to these slots of line b, with this tributary port.
pub record IsSentOn (plan : Plan) (b past : ℕ) (x : Connection) (port : ℕ) (slots : LineSlots) : Type 0 where
  pub is_of : Contains plan.connections x
  pub to : x.to ≡ to_end.Line b port slots
  pub active : IsActive x past
