use Rattle.std.proofs.Common.{◌≡◌, ◌+◌, ◌*◌, ◌-◌, ◌/◌, ◌%◌, ◌∙◌, sym, ap, get_or, arith}
use Rattle.std.proofs.lemmas.List.{with_items_is}
use Rattle.std.specs.Vec.{with_items}
use Rattle.odtu_columns.specs.BySlots.{filled_slots}
use Rattle.odtu_columns.proofs.FilledSlots.{full, seen, completed}
use Rattle.odtu_columns.proofs.filled_slots.FilledSlots.join_row.Goals as goal

pub returns-clause-joined : goal.returns-clause-joined
returns-clause-joined c = λ x h.
    let i = c.self.inside in
    let n = 1904 * (x % 8) + 476 * (c.args.row - 1) + x / 8 in
    let low = c.requires.row_low in
    let high = c.requires.row_high in
    let mid = c.clear_unfilled.new.bytes in
    let whole : (with_items i.bytes mid).items ≡ mid = with_items_is i.bytes mid (c.clear_unfilled.ensures.size ∙ sym c.self.invariant ∙ sym i.bytes.ok.0) in
    ap (λ m. get_or c.join8_among.new.into m 0) (let e : x ≡ 8 * (x / 8) + x % 8 = omega arith in e)
    ∙ c.join8_among.ensures.joined (x % 8) (x / 8) (omega arith) (omega arith)
    ∙ ap (λ xs. get_or xs n 0) (c.deref.ensures.value ∙ whole)
    ∙ c.clear_unfilled.ensures.cleared n (omega arith)
    ∙ sym (seen i.filled c.deref_mut.result.now n (omega arith))
    ∙ ap (λ xs. get_or (filled_slots i.filled xs) n 0) c.deref_mut.ensures.value
    ∙ ap (λ slots. get_or slots n 0) c.self.view_is

pub returns-clause-kept : goal.returns-clause-kept
returns-clause-kept c =
    let i = c.self.inside in
    let mid = c.clear_unfilled.new.bytes in
    let whole : (with_items i.bytes mid).items ≡ mid = with_items_is i.bytes mid (c.clear_unfilled.ensures.size ∙ sym c.self.invariant ∙ sym i.bytes.ok.0) in
    ap (filled_slots full) whole
    ∙ completed i.filled c.deref_mut.result.now mid c.clear_unfilled.ensures.cleared
    ∙ ap (filled_slots i.filled) c.deref_mut.ensures.value
    ∙ c.self.view_is
