use Rattle.std.proofs.Common.{drop, ◌∙◌}
use Rattle.port_base.proofs.Lists.{take_all}
use Rattle.std.proofs.lemmas.List.{length-take-le}
use Rattle.cross_matrix.proofs.taking.fill_front.Goals as goal

pub returns-clause-fills : goal.returns-clause-fills
returns-clause-fills g c = λ first read emitted h.
    rw (take_all c.args.count c.fill.new.into (drop c.args.count c.args.into.now) (c.fill.ensures.size ∙ length-take-le c.args.count c.args.into.now c.requires)) (c.fill.ensures.fills first read emitted h)
