use Rattle.std.proofs.Common.{length, ap, ◌∙◌}
use Rattle.otn_base.specs.LineSlots.{LineSlots}
use Rattle.cross_matrix.proofs.build.giving_part.Goals as goal

pub returns-in_ok-new-in-Line-clause-slots : goal.returns-in_ok-new-in-Line-clause-slots
returns-in_ok-new-in-Line-clause-slots c =
    ap (λ (slots : LineSlots). length slots.list) c.in_ok-new-in-Line.ensures.slots ∙ c.requires.fit.given c.in-Line.field-0 c.in-Line.field-1 c.in-Line.slots c.in-Line.is
