-- The tributary of a port on some slots of a line of either kind.
use Rattle.std.proofs.Common.{◌≡◌, ℕ, ◌*◌, ◌/◌, ◌≤◌, inl, inr, refl, arith}
use Rattle.otn_base.specs.declared.line_kind.LineKind.{LineKind}
use Rattle.otn_base.specs.declared.line_kind.LineKind.TheVariants.{Otu2, Otu3}
use Rattle.otn_base.specs.LineSlots.{LineSlots, slots_of, IsSlotNumber}
use Rattle.otn_base.specs.SlotList.{IsSlotList}
use Rattle.otn_base.proofs.RisingSlots.{few_slots}
use Rattle.tributary_model.specs.Places.{tributary_of}
use Rattle.tributary_model.specs.Laws.{IsTributary}
use Rattle.tributary_model.specs.Sending.{IsSent}

-- the slots of a line of either kind share the payload columns evenly
pub evenly : (kind : LineKind) → slots_of kind * (3808 / slots_of kind) ≡ 3808
evenly Otu2 = refl
evenly Otu3 = refl

pub number_of_kind : (kind : LineKind) → IsSlotNumber (slots_of kind)
number_of_kind Otu2 = inl refl
number_of_kind Otu3 = inr refl

pub few_of_kind : (kind : LineKind) → slots_of kind ≤ 32
few_of_kind Otu2 = omega arith
few_of_kind Otu3 = omega arith

pub is_tributary : (slots : LineSlots) (port : ℕ) → IsSlotList (slots_of slots.kind) slots.list → IsTributary (tributary_of slots port)
is_tributary slots port list = record { slots = list; even = evenly slots.kind }

pub is_sent : (slots : LineSlots) (port : ℕ) → IsSlotList (slots_of slots.kind) slots.list → IsSent (tributary_of slots port)
is_sent slots port list = record {
  tributary = is_tributary slots port list;
  few = (let few = few_slots (slots_of slots.kind) slots.list list in let most = few_of_kind slots.kind in omega arith);
}
