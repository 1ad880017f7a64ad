-- API: an accepted plan is sound: what is promised of a plan's own numbers where it breaks no rule. A connection is
-- known by its index in the plan.
use Rattle.std.specs.Prelude.{◌≡◌, ◌⊎◌, ℕ, ◌*◌, ◌≤◌, ◌<◌, true, List, length, Some, None, slice_get}
use Rattle.std.specs.List.{Contains}
use Rattle.otn_base.specs.LineSlots.{LineSlots, slots_of}
use Rattle.otn_base.specs.SlotList.{IsSlotList}
use Rattle.otn_base.specs.declared.limits.TheConstants.{CLIENTS, GROUPS, LINES, MOST_CONNECTIONS, MOST_PACES, MOST_SLOTS, MOST_TURNS}
use Rattle.plan_file.specs.Answer.{fault_in}
use Rattle.plan_file.specs.declared.connection.Connection.{Connection}
use Rattle.plan_file.specs.declared.connection.FromEnd.TheVariants as from_end
use Rattle.plan_file.specs.declared.connection.ToEnd.TheVariants as to_end
use Rattle.plan_file.specs.declared.plan.Plan.{Plan}
use Rattle.device_model.specs.Entries.{IsActive, kind_by, slot_count}

-- ---- one connection

-- An end at line a, where these lines of its side are OTU3: it is a line of the node, the slots are slots of a line of
-- its kind, so many, and the tributary port is one of the line's (G.709 clause 19.1).
pub record IsSoundLineEnd (otu3 : List ℕ) (count a port : ℕ) (slots : LineSlots) : Type 0 where
  pub line : a < LINES
  pub kind : slots.kind ≡ kind_by otu3 a
  pub list : IsSlotList (slots_of slots.kind) slots.list
  pub many : length slots.list ≡ count
  pub port_least : 1 ≤ port
  pub port_most : port ≤ slots_of slots.kind

-- Each turn of the connection is one of the plan; its ends are sound, with as many slots at one line as at the other;
-- its pace is a list of numbers of bytes, each at least one byte for a slot and at most one for each group of a slot;
-- and only a connection with a client retires.
pub record IsSoundEntry (plan : Plan) (x : Connection) : Type 0 where
  pub start : 1 ≤ x.start
  pub span : x.start ≤ x.stop
  pub stop : x.stop ≤ plan.turns
  pub from_line : (a port : ℕ) (slots : LineSlots) → x.from ≡ from_end.Line a port slots
      → IsSoundLineEnd plan.otu3_in (slot_count x) a port slots
  pub from_client : (n : ℕ) → x.from ≡ from_end.Client n → n < CLIENTS
  pub to_line : (b port : ℕ) (slots : LineSlots) → x.to ≡ to_end.Line b port slots
      → IsSoundLineEnd plan.otu3_out (slot_count x) b port slots
  pub to_client : (n : ℕ) → x.to ≡ to_end.Client n → n < CLIENTS
  pub slots_least : 1 ≤ slot_count x
  pub slots_most : slot_count x ≤ MOST_SLOTS
  pub paces_least : 1 ≤ length x.pace
  pub paces_most : length x.pace ≤ MOST_PACES
  pub pace_least : (i pace : ℕ) → slice_get x.pace i ≡ Some pace → slot_count x ≤ pace
  pub pace_most : (i pace : ℕ) → slice_get x.pace i ≡ Some pace → pace ≤ slot_count x * GROUPS
  pub retires : x.retire ≡ true → (n : ℕ) × ((x.from ≡ from_end.Client n) ⊎ (x.to ≡ to_end.Client n))

-- ---- two connections

-- Connection i of the plan, from 0, goes to these slots of line b, with this tributary port, and is active in turn past
-- + 1.
pub record IsSender (plan : Plan) (b past i port : ℕ) (slots : LineSlots) : Type 0 where
  pub x : Connection
  pub known : slice_get plan.connections i ≡ Some x
  pub to : x.to ≡ to_end.Line b port slots
  pub active : IsActive x past

-- ---- the whole

-- Each connection is sound, no two come from one client or go to one, and no two have a slot or a tributary port of a
-- line in one turn.
pub record IsSoundPlan (plan : Plan) : Type 0 where
  pub turns_least : 1 ≤ plan.turns
  pub turns_most : plan.turns ≤ MOST_TURNS
  pub few : length plan.connections ≤ MOST_CONNECTIONS
  pub entries : (i : ℕ) (x : Connection) → slice_get plan.connections i ≡ Some x → IsSoundEntry plan x
  pub clients_in : (i j n : ℕ) (x y : Connection) → slice_get plan.connections i ≡ Some x
      → slice_get plan.connections j ≡ Some y
      → x.from ≡ from_end.Client n → y.from ≡ from_end.Client n → i ≡ j
  pub clients_out : (i j n : ℕ) (x y : Connection) → slice_get plan.connections i ≡ Some x
      → slice_get plan.connections j ≡ Some y
      → x.to ≡ to_end.Client n → y.to ≡ to_end.Client n → i ≡ j
  pub slots_apart : (i j b past port other slot : ℕ) (slots others : LineSlots) → IsSender plan b past i port slots
      → IsSender plan b past j other others
      → Contains slots.list slot → Contains others.list slot → i ≡ j
  pub ports_apart : (i j b past port : ℕ) (slots others : LineSlots) → IsSender plan b past i port slots
      → IsSender plan b past j port others → i ≡ j

-- a plan that breaks no rule is sound
abbrev pub AcceptedPlansAreSound : Type 0
AcceptedPlansAreSound = (plan : Plan) → fault_in plan ≡ None → IsSoundPlan plan
