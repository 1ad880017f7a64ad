use Rattle.std.proofs.Common.{[], subst}
use Rattle.tributary_model.specs.Places.{tributary_of}
use Rattle.tributary_model.proofs.OnLine.{is_tributary}
use Rattle.protect_selector.specs.Selector.{HasChosen}
use Rattle.protect_selector.proofs.ProtectEnds.{begins}
use Rattle.protect_selector.proofs.protecting.Protecting.new.Goals as goal

pub returns-clause-gone : goal.returns-clause-gone
returns-clause-gone c =
    begins (tributary_of c.args.slots.now c.args.port) c.args.wait _ c.in_ok-working.ensures.stands c.in_ok-protection.ensures.stands
    (subst (λ m. HasChosen m c.args.wait [] c.new-selector.result) c.count.ensures.count c.new-selector.ensures) c.in_ok-feed.ensures.stands

pub returns-clause-tributary : goal.returns-clause-tributary
returns-clause-tributary c = is_tributary c.args.slots.now c.args.port c.count.ensures.list
