use Rattle.std.proofs.Common.{◌≡◌, ◌+◌, ◌*◌, ◌-◌, ◌∙◌, ap, get_or, true, arith}
use Rattle.std.proofs.lemmas.List.{with_items_is}
use Rattle.std.specs.Vec.{with_items}
use Rattle.std.proofs.Math.ListN.{set}
use Rattle.odtu_columns.specs.BySlots.{filled_slots}
use Rattle.odtu_columns.proofs.FilledSlots.{put_here, put_beside}
use Rattle.odtu_columns.proofs.filled_slots.FilledSlots.lay_slot.Goals as goal

pub returns-clause-here : goal.returns-clause-here
returns-clause-here g c = λ j h.
    let i = c.self.inside in
    let n = 1904 * (c.args.k - 1) + j in
    let now = set i.filled (c.args.k - 1) true in
    let new = c.lay_at.new.into in
    let whole : (with_items i.bytes new).items ≡ new = with_items_is i.bytes new (c.lay_at.ensures.size ∙ c.deref_mut.ensures.len) in
    ap (λ xs. get_or (filled_slots now xs) n 0) whole
    ∙ put_here c.args.k n i.filled new c.requires.low c.requires.high c.self.told (omega arith) (omega arith)
    ∙ c.lay_at.ensures.here j h

pub returns-clause-others : goal.returns-clause-others
returns-clause-others g c = λ n out.
    let i = c.self.inside in
    let now = set i.filled (c.args.k - 1) true in
    let new = c.lay_at.new.into in
    let whole : (with_items i.bytes new).items ≡ new = with_items_is i.bytes new (c.lay_at.ensures.size ∙ c.deref_mut.ensures.len) in
    ap (λ xs. get_or (filled_slots now xs) n 0) whole
    ∙ put_beside c.args.k n i.filled c.deref_mut.result.now new c.requires.low out (c.lay_at.ensures.others n out)
    ∙ ap (λ xs. get_or (filled_slots i.filled xs) n 0) c.deref_mut.ensures.value
    ∙ ap (λ slots. get_or slots n 0) c.self.view_is
