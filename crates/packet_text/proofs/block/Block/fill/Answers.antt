use Rattle.std.proofs.Common.{ap, length, ◌∙◌}
use Rattle.std.proofs.lemmas.List.{length-take-le}
use Rattle.port_base.specs.AtHand.{place_at_hand}
use Rattle.packet_text.proofs.block.Block.fill.Goals as goal

pub invariant_of-self : goal.invariant_of-self
invariant_of-self g c =
    let first = c.in-Some.ensures.first in
    (ap length first.0 ∙ length-take-le 4096 (place_at_hand g.P.Source c.args.place.now) first.1, c.self.invariant.1)

pub returns-in-Some-clause-size : goal.returns-in-Some-clause-size
returns-in-Some-clause-size g c =
    let first = c.in-Some.ensures.first in
    ap length first.0 ∙ length-take-le 4096 (place_at_hand g.P.Source c.args.place.now) first.1
