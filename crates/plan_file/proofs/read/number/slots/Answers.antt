use Rattle.std.proofs.Common.{arith}
use Rattle.std.proofs.lemmas.Bool.{false≢true}
use Rattle.otn_base.specs.LineSlots.{slots_of}
use Rattle.otn_base.specs.SlotList.{IsSlotList}
use Rattle.plan_file.specs.Seen.{numbers_in}
use Rattle.plan_file.proofs.Fitting.{list_all-wider}
use Rattle.plan_file.proofs.SlotNumbers.{slot_list_of, slot_parts, few_slots, low_slots}
use Rattle.plan_file.proofs.read.number.slots.Goals as goal

pub bytes-list-requires-clause-few : goal.bytes-list-requires-clause-few
bytes-list-requires-clause-few c = few_slots c.args.kind (numbers_in c.args.numbers.now) c.requires

pub bytes-list-requires-clause-small : goal.bytes-list-requires-clause-small
bytes-list-requires-clause-small c =
    let numbers = numbers_in c.args.numbers.now in
    let parts = slot_parts (slots_of c.args.kind) numbers c.requires in
    list_all-wider 1 (slots_of c.args.kind) 0 255 numbers parts.all (omega arith) (low_slots c.args.kind)

pub unreachable-requires : goal.unreachable-requires
unreachable-requires c =
    let is : IsSlotList (slots_of c.args.kind) c.as_slice.result.now = rw (c.as_slice.ensures.value, c.bytes-list.ensures) (slot_list_of (slots_of c.args.kind) (numbers_in c.args.numbers.now) c.requires) in
    false≢true (rw c.in-None.is at (c.new.ensures.accepted.1 is))
