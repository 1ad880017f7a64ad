use Rattle.std.proofs.Common.{ap, refl}
use Rattle.multiframe.specs.Alignment.{LinePhase}
use Rattle.line_side.proofs.Standing.{new_stands, new_form}
use Rattle.line_side.proofs.line_in.LineIn.new.Goals as goal

pub returns-clause-stands : goal.returns-clause-stands
returns-clause-stands g c =
    let e = c.in_ok-new.ensures in
    λ first. new_stands _ first _ (new_form _ _ _ _ (ap (λ (p : LinePhase). p.kind) c.new.ensures) e.scrambled) (ap (λ (p : LinePhase). p.alignment) c.new.ensures) e.ahead e.ending e.frames e.rest e.seen refl refl refl refl refl
