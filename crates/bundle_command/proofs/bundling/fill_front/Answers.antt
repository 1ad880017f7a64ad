use Rattle.std.proofs.Common.{◌-◌, ◌∙◌, drop}
use Rattle.port_base.proofs.Lists.{take_all}
use Rattle.std.proofs.lemmas.List.{length-take-le}
use Rattle.bundle_command.proofs.bundling.fill_front.Goals as goal

pub returns-clause-stands : goal.returns-clause-stands
returns-clause-stands g c = λ clients first due h.
    rw (take_all 15168 c.fill.new.into (drop 15168 c.args.into.now) (c.fill.ensures.size ∙ length-take-le 15168 c.args.into.now c.requires.room)) (c.fill.ensures.stands clients first due h)
