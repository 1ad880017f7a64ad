use Rattle.std.proofs.Common.{sym, subst, ◌∙◌}
use Rattle.std.specs.List.{Contains}
use Rattle.otn_base.specs.LineSlots.{slots_of}
use Rattle.tributary_model.proofs.Greatest.{greatest_is_last}
use Rattle.trib_source.proofs.Filled.{has_last}
use Rattle.trib_source.proofs.message.put_own_message.Goals as goal

pub returns-then-n-last-clause-other : goal.returns-then-n-last-clause-other
returns-then-n-last-clause-other g c = λ has other.
    absurd (other (c.if-n-last.true ∙ sym (greatest_is_last (slots_of c.args.slots.now.kind) c.args.slots.now.list c.last.result c.last.ensures.list c.last.ensures.last)))

pub returns-then-n-last-clause-kept : goal.returns-then-n-last-clause-kept
returns-then-n-last-clause-kept g c = λ place none.
    c.fill_message.ensures.kept place (none (subst (Contains c.args.slots.now.list) (sym c.if-n-last.true) (has_last c.args.slots.now.list c.last.result c.last.ensures.last)))

pub returns-then-has-clause-greatest : goal.returns-then-has-clause-greatest
returns-then-has-clause-greatest g c = λ greatest.
    absurd (c.if-n-last.false (greatest ∙ greatest_is_last (slots_of c.args.slots.now.kind) c.args.slots.now.list c.last.result c.last.ensures.list c.last.ensures.last))

pub returns-else-has-clause-greatest : goal.returns-else-has-clause-greatest
returns-else-has-clause-greatest g c = λ greatest.
    absurd (c.if-n-last.false (greatest ∙ greatest_is_last (slots_of c.args.slots.now.kind) c.args.slots.now.list c.last.result c.last.ensures.list c.last.ensures.last))
