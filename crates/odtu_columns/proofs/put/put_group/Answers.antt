use Rattle.std.proofs.Common.{◌≡◌, ◌+◌, ◌-◌, ◌*◌, ◌/◌, ◌%◌, ap, sym, ◌∙◌, length}
use Rattle.otn_base.specs.LineSlots.{slots_of}
use Rattle.otn_base.specs.SlotList.{IsSlotList}
use Rattle.odtu_columns.specs.Groups.{group_at}
use Rattle.odtu_columns.proofs.AllSlots.{rises}
use Rattle.odtu_columns.proofs.PutGroup.{group_back}
use Rattle.odtu_columns.proofs.put.put_group.Goals as goal

pub set_group-requires-clause-rising : goal.set_group-requires-clause-rising
set_group-requires-clause-rising c =
    let list : IsSlotList (slots_of c.kind-kind.result) c.as_slice.result.now = rw c.as_slice.ensures.bytes c.kind-kind.ensures.list in
    rises (slots_of c.kind-kind.result) c.as_slice.result.now list

pub returns-clause-group : goal.returns-clause-group
returns-clause-group c =
    let now = c.set_group.new.frame in
    let bytes = c.args.bytes.now in
    let slots = c.as_slice.result.now in
    let list = c.args.slots.now.list in
    let before = c.args.g - 1 in
    let kind = c.args.slots.now.kind in
    let line = slots_of kind in
    let cycles = c.cycles_in_row-cycles.result in
    let many : cycles ≡ 3808 / line = c.cycles_in_row-cycles.ensures.cycles ∙ ap (λ k. 3808 / slots_of k) c.kind-kind.ensures.kind in
    let columns : c.slots.result ≡ line = c.slots.ensures.slots ∙ ap slots_of c.kind-kind.ensures.kind in
    let size : length bytes ≡ length slots = c.requires.size ∙ sym (ap length c.as_slice.ensures.bytes) in
    ap (λ xs. group_at line xs (before / (3808 / line) + 1) (before % (3808 / line)) now) (sym c.as_slice.ensures.bytes)
    ∙ ap (λ n. group_at line slots (before / n + 1) (before % n) now) (sym many)
    ∙ ap (λ s. group_at s slots (before / cycles + 1) (before % cycles) now) (sym columns)
    ∙ group_back slots bytes now (before / cycles + 1) (16 + c.slots.result * (before % cycles)) size c.set_group.ensures.put
