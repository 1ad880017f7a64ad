-- API: the slots of a line that no connection has.
use Rattle.std.specs.Prelude.{ℕ, ◌==◌, ◌&&◌, not, Bool, true, false, List, filter}
use Rattle.std.specs.List.{list_any, range_with_len}
use Rattle.otn_base.specs.LineSlots.{slots_of}
use Rattle.plan_file.specs.declared.connection.Connection.{Connection}
use Rattle.plan_file.specs.declared.connection.ToEnd.{ToEnd}
use Rattle.plan_file.specs.declared.connection.ToEnd.TheVariants as to_end
use Rattle.plan_file.specs.declared.plan.Plan.{Plan}
use Rattle.device_model.specs.Entries.{form_out}

-- the slot is one of these
abbrev pub has_slot_of : (slots : List ℕ) → (k : ℕ) → Bool
has_slot_of slots k = list_any (λ one. one == k) slots

-- an end is on slot k of line b
abbrev pub is_end_on : (b k : ℕ) → ToEnd → Bool
is_end_on b k (to_end.Line line port slots) = (line == b) && has_slot_of slots.list k
is_end_on b k (to_end.Client client) = false

-- so a connection is, in whatever turns
abbrev pub is_put_on : (b k : ℕ) → Connection → Bool
is_put_on b k x = is_end_on b k x.to

-- some connection of the plan is
abbrev pub is_used : Plan → (b k : ℕ) → Bool
is_used plan b k = list_any (is_put_on b k) plan.connections

-- G.709 clause 19.1: how many slots line output b of the plan has
abbrev pub line_slots : Plan → (b : ℕ) → ℕ
line_slots plan b = slots_of (form_out plan b).kind

-- the slots of line output b, in order, that no connection of the plan has in any turn
unfoldable pub free_slots : Plan → (b : ℕ) → List ℕ
free_slots plan b = filter (λ k. not (is_used plan b k)) (range_with_len 1 (line_slots plan b))
