use Rattle.std.proofs.Common.{◌≡◌, ◌+◌, ◌*◌, ◌-◌, ◌∙◌, sym, ap, get_or, true, arith}
use Rattle.std.proofs.lemmas.List.{with_items_is}
use Rattle.std.specs.Vec.{with_items}
use Rattle.std.proofs.Math.ListN.{set}
use Rattle.odtu_columns.specs.BySlots.{filled_slots}
use Rattle.odtu_columns.proofs.FilledSlots.{put_here, put_others}
use Rattle.odtu_columns.proofs.filled_slots.FilledSlots.put_row.Goals as goal

pub returns-clause-here : goal.returns-clause-here
returns-clause-here c = λ j h.
    let i = c.self.inside in
    let first = c.requires.row_low in
    let last = c.requires.row_high in
    let n = 1904 * (c.args.k - 1) + 476 * (c.args.row - 1) + j in
    let now = set i.filled (c.args.k - 1) true in
    let cleared = with_items i.bytes c.clear_slot.new.bytes in
    let new = c.write_at.new.into in
    let whole : (with_items cleared new).items ≡ new = with_items_is cleared new (c.write_at.ensures.size ∙ c.deref_mut-2.ensures.len) in
    ap (λ xs. get_or (filled_slots now xs) n 0) whole
    ∙ put_here c.args.k n i.filled new c.requires.low c.requires.high c.self.told (omega arith) (omega arith)
    ∙ c.write_at.ensures.here j (rw c.requires.size h)

pub returns-clause-others : goal.returns-clause-others
returns-clause-others c = λ n out.
    let i = c.self.inside in
    let now = set i.filled (c.args.k - 1) true in
    let mid = c.clear_slot.new.bytes in
    let cleared = with_items i.bytes mid in
    let new = c.write_at.new.into in
    let whole : (with_items cleared new).items ≡ new = with_items_is cleared new (c.write_at.ensures.size ∙ c.deref_mut-2.ensures.len) in
    let some : cleared.items ≡ mid = with_items_is i.bytes mid (c.clear_slot.ensures.size ∙ sym c.self.invariant ∙ sym i.bytes.ok.0) in
    ap (λ xs. get_or (filled_slots now xs) n 0) whole
    ∙ put_others c.args.k n i.filled c.deref_mut.result.now mid new c.requires.low c.requires.high c.self.told c.clear_slot.ensures.here c.clear_slot.ensures.others
    (c.write_at.ensures.others n (rw c.requires.size out) ∙ ap (λ xs. get_or xs n 0) (c.deref_mut-2.ensures.value ∙ some))
    ∙ ap (λ xs. get_or (filled_slots i.filled xs) n 0) c.deref_mut.ensures.value
    ∙ ap (λ slots. get_or slots n 0) c.self.view_is
