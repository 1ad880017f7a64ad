use Rattle.std.proofs.Common.{subst}
use Rattle.otn_base.specs.LineSlots.{slots_of}
use Rattle.odtu_columns.specs.Put.{SlotWasPut}
use Rattle.odtu_columns.proofs.BySlots.{only_slot}
use Rattle.odtu_columns.proofs.PutSlot.{OwnRow, four_rows}
use Rattle.odtu_columns.proofs.put.lay_slot.Goals as goal

pub returns : goal.returns
returns g c =
    let k = c.last-slot.result in
    let list = c.args.slots.now.list in
    let bytes = c.lay.new.into in
    let only = only_slot list (slots_of c.args.slots.now.kind) k c.requires.line c.requires.one c.last-slot.ensures.last c.last-slot.ensures.list in
    let f0 = c.args.frame.now in
    let f1 = c.put_own_row.new.frame in
    let f2 = c.put_own_row-2.new.frame in
    let f3 = c.put_own_row-3.new.frame in
    let f4 = c.put_own_row-4.new.frame in
    let one : OwnRow k 1 bytes f0 f1 = record { put = c.put_own_row.ensures.put; kept = c.put_own_row.ensures.kept } in
    let two : OwnRow k 2 bytes f1 f2 = record { put = c.put_own_row-2.ensures.put; kept = c.put_own_row-2.ensures.kept } in
    let three : OwnRow k 3 bytes f2 f3 = record { put = c.put_own_row-3.ensures.put; kept = c.put_own_row-3.ensures.kept } in
    let four : OwnRow k 4 bytes f3 f4 = record { put = c.put_own_row-4.ensures.put; kept = c.put_own_row-4.ensures.kept } in
    subst (λ laid. SlotWasPut list laid f0 f4) c.lay.ensures (four_rows k list bytes f0 f1 f2 f3 f4 only.low only.high only.is one two three four)
