-- The tributaries that are asked for.
use Rattle.std.proofs.Common.{ap, subst}
use Rattle.otn_base.specs.LineSlots.{slots_of}
use Rattle.otn_base.specs.SlotList.{IsSlotList}
use Rattle.event_laws.specs.Laws.{AskedAreShown}

-- each is one of a line of its kind
pub asked_are_shown : AskedAreShown
asked_are_shown = λ kind scrambled asked on list word. record {
  name = word;
  line = ap slots_of on.kind_is;
  port = on.high;
  slots = subst (λ k. IsSlotList (slots_of k) asked.slots.list) on.kind_is list;
}
