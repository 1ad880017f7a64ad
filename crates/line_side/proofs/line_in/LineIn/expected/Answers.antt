use Rattle.std.proofs.Common.{◌≡◌, ◌-◌, suc, arith, ap, ◌∙◌}
use Rattle.line_side.specs.LineStands.{LineView}
use Rattle.line_side.proofs.Ended.{expected_is}
use Rattle.line_side.proofs.line_in.LineIn.expected.Goals as goal

pub returns-clause-line : goal.returns-clause-line
returns-clause-line g c =
    let some = (c.self.invariant.has_frame (ap (λ (l : LineView). l.has_frame) c.self.view_is ∙ c.requires)).0 in
    let pieces : c.self.inside.pieces ≡ suc (c.self.inside.pieces - 1) = omega arith in
    rw (← c.self.view_is) (λ now form first read t h available may. expected_is form first now read available t (c.self.inside.pieces - 1) c.expected.result _ pieces h may c.expected.ensures)
