use Rattle.std.proofs.Common.{◌≡◌, ℕ, ◌+◌, ◌-◌, ◌*◌, ◌<◌, ◌∙◌, take, drop, length, get_or, refl, ap, sym, subst, arith, length-drop}
use Rattle.std.proofs.lemmas.List.{length-take-le}
use Rattle.otn_base.specs.LineSlots.{slots_of}
use Rattle.otn_base.specs.SlotList.{IsSlotList}
use Rattle.odtu_columns.specs.Put.{RowWasPut}
use Rattle.tributary_model.proofs.OnLine.{evenly}
use Rattle.trib_source.specs.Rows.{groups_in_row}
use Rattle.trib_source.specs.Steps.Rows.{data_bytes, byte_laid, groups_laid, RowsWerePut}
use Rattle.trib_source.proofs.RowsPut.{rows_more}
use Rattle.trib_source.proofs.RowsLaid.{length-groups_laid, byte_of_group, row_byte, row_slice}
use Rattle.trib_source.proofs.rows.fill_row.Goals as goal

pub overflow_add-next : goal.overflow_add-next
overflow_add-next g c =
    let n = c.args.cm in
    let a = c.args.asked in
    let m = c.args.m in
    let row = c.args.row in
    let at = c.args.at in
    let fresh = c.args.fresh.now in
    let w = c.cycles_in_row-cycles.result in
    let line = slots_of c.args.slots.now.kind in
    let same : w ≡ groups_in_row line = c.cycles_in_row-cycles.ensures ∙ ap (λ k. groups_in_row (slots_of k)) c.kind.ensures.kind in
    let more = c.data_between.result in
    let s = row_slice m n a w (groups_in_row line) row more at (length fresh) same c.requires.low c.requires.last c.requires.at c.data_between.ensures.count c.requires.fresh in
    let within = s.within in
    omega arith

pub slice_bounds-new-end : goal.slice_bounds-new-end
slice_bounds-new-end g c =
    let n = c.args.cm in
    let a = c.args.asked in
    let m = c.args.m in
    let row = c.args.row in
    let at = c.args.at in
    let fresh = c.args.fresh.now in
    let w = c.cycles_in_row-cycles.result in
    let line = slots_of c.args.slots.now.kind in
    let same : w ≡ groups_in_row line = c.cycles_in_row-cycles.ensures ∙ ap (λ k. groups_in_row (slots_of k)) c.kind.ensures.kind in
    let more = c.data_between.result in
    let s = row_slice m n a w (groups_in_row line) row more at (length fresh) same c.requires.low c.requires.last c.requires.at c.data_between.ensures.count c.requires.fresh in
    s.within

pub new-groups-requires-clause-fresh : goal.new-groups-requires-clause-fresh
new-groups-requires-clause-fresh g c =
    let n = c.args.cm in
    let a = c.args.asked in
    let m = c.args.m in
    let row = c.args.row in
    let at = c.args.at in
    let fresh = c.args.fresh.now in
    let w = c.cycles_in_row-cycles.result in
    let line = slots_of c.args.slots.now.kind in
    let same : w ≡ groups_in_row line = c.cycles_in_row-cycles.ensures ∙ ap (λ k. groups_in_row (slots_of k)) c.kind.ensures.kind in
    let more = c.data_between.result in
    let s = row_slice m n a w (groups_in_row line) row more at (length fresh) same c.requires.low c.requires.last c.requires.at c.data_between.ensures.count c.requires.fresh in
    let next = at + m * more in
    let within = s.within in
    length-take-le (next - at) (drop at fresh) (let e = length-drop at fresh in omega arith)
    ∙ (let e : next - at ≡ m * more = omega arith in e)
    ∙ s.taken

pub lay_row_groups-requires-clause-size : goal.lay_row_groups-requires-clause-size
lay_row_groups-requires-clause-size g c =
    let n = c.args.cm in
    let a = c.args.asked in
    let m = c.args.m in
    let row = c.args.row in
    let at = c.args.at in
    let fresh = c.args.fresh.now in
    let w = c.cycles_in_row-cycles.result in
    let line = slots_of c.args.slots.now.kind in
    let same : w ≡ groups_in_row line = c.cycles_in_row-cycles.ensures ∙ ap (λ k. groups_in_row (slots_of k)) c.kind.ensures.kind in
    let more = c.data_between.result in
    let next = at + m * more in
    let slots = c.args.slots.now.list in
    ap length c.new-groups.ensures
    ∙ length-groups_laid m n (a + w * (row - 1)) w (take (next - at) (drop at fresh))
    ∙ ap (λ k. k * w) c.requires.m
    ∙ ap (λ k. length slots * k) same

pub lay_row_groups-requires-clause-scratch : goal.lay_row_groups-requires-clause-scratch
lay_row_groups-requires-clause-scratch g c =
    let n = c.args.cm in
    let a = c.args.asked in
    let m = c.args.m in
    let row = c.args.row in
    let at = c.args.at in
    let fresh = c.args.fresh.now in
    let w = c.cycles_in_row-cycles.result in
    let line = slots_of c.args.slots.now.kind in
    let same : w ≡ groups_in_row line = c.cycles_in_row-cycles.ensures ∙ ap (λ k. groups_in_row (slots_of k)) c.kind.ensures.kind in
    let more = c.data_between.result in
    let next = at + m * more in
    c.requires.scratch
    ∙ sym (ap (λ k. m * k) same)
    ∙ sym (length-groups_laid m n (a + w * (row - 1)) w (take (next - at) (drop at fresh)))
    ∙ sym (ap length c.new-groups.ensures)

pub returns-clause-next : goal.returns-clause-next
returns-clause-next g c =
    let n = c.args.cm in
    let a = c.args.asked in
    let m = c.args.m in
    let row = c.args.row in
    let at = c.args.at in
    let fresh = c.args.fresh.now in
    let w = c.cycles_in_row-cycles.result in
    let line = slots_of c.args.slots.now.kind in
    let same : w ≡ groups_in_row line = c.cycles_in_row-cycles.ensures ∙ ap (λ k. groups_in_row (slots_of k)) c.kind.ensures.kind in
    let more = c.data_between.result in
    let s = row_slice m n a w (groups_in_row line) row more at (length fresh) same c.requires.low c.requires.last c.requires.at c.data_between.ensures.count c.requires.fresh in
    s.ends ∙ ap (λ k. data_bytes m n a (k * row)) same

pub returns-clause-rows : goal.returns-clause-rows
returns-clause-rows g c = λ before rows.
    let n = c.args.cm in
    let a = c.args.asked in
    let m = c.args.m in
    let row = c.args.row in
    let at = c.args.at in
    let fresh = c.args.fresh.now in
    let w = c.cycles_in_row-cycles.result in
    let line = slots_of c.args.slots.now.kind in
    let same : w ≡ groups_in_row line = c.cycles_in_row-cycles.ensures ∙ ap (λ k. groups_in_row (slots_of k)) c.kind.ensures.kind in
    let more = c.data_between.result in
    let s = row_slice m n a w (groups_in_row line) row more at (length fresh) same c.requires.low c.requires.last c.requires.at c.data_between.ensures.count c.requires.fresh in
    let next = at + m * more in
    let r = row - 1 in
    let first = a + w * r in
    let part = take (next - at) (drop at fresh) in
    let slots = c.args.slots.now.list in
    let groups = c.new-groups.result in
    let byte = byte_laid m n a fresh in
    let mid = g.F.FillFrame.bytes c.args.frame.now in
    let now = g.F.FillFrame.bytes c.lay_row_groups.new.self in
    let back : r + 1 ≡ row = (let low = c.requires.low in omega arith) in
    let laid : (x i : ℕ) → x < groups_in_row line → i < length slots → get_or groups (length slots * x + i) 0 ≡ byte (groups_in_row line * r + x) i =
    λ x i l h.
    let inside : x < w = subst (λ k. x < k) (sym same) l in
    let own : i < m = subst (λ k. i < k) (sym c.requires.m) h in
    ap (λ xs. get_or xs (length slots * x + i) 0) c.new-groups.ensures
    ∙ ap (λ k. get_or (groups_laid m n first part w) (k * x + i) 0) (sym c.requires.m)
    ∙ byte_of_group m n first w x i part inside own
    ∙ row_byte m n a w r more at next x i fresh s.at_is refl c.data_between.ensures.count inside own
    ∙ ap (λ k. byte (k * r + x) i) same in
    subst (λ k. RowsWerePut line slots byte k before now) back
    (rows_more line slots groups before mid now byte r (subst (λ k. IsSlotList (slots_of k) slots) c.kind.ensures.kind c.kind.ensures.list) (evenly c.args.slots.now.kind) rows (subst (λ k. RowWasPut line slots k groups mid now) (sym back) c.lay_row_groups.ensures) laid)
