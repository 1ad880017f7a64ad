use Rattle.std.proofs.Common.{[], subst}
use Rattle.otn_base.specs.LineSlots.{LineSlots}
use Rattle.port_base.specs.Views.{InView}
use Rattle.tributary_model.specs.Places.{tributary_of}
use Rattle.tributary_line.specs.TapTurn.{TapStands}
use Rattle.unbundle_command.proofs.Turns.{begins}
use Rattle.unbundle_command.proofs.unbundling.Unbundling.new.Goals as goal

pub returns-clause-gone : goal.returns-clause-gone
returns-clause-gone c =
    begins (record { tap = c.in_ok-tap.tap; aligner = c.in_ok-aligner.aligner; reader = c.in_ok-reader.reader; outputs = c.in_ok-outputs.outputs })
    (subst (λ (slots : LineSlots). (first : InView) → TapStands (tributary_of slots 1) first first [] 0 c.in_ok-tap.tap) c.first_slot.ensures c.in_ok-tap.ensures.stands)
    c.in_ok-aligner.ensures.aligned c.in_ok-reader.ensures.read c.in_ok-outputs.ensures
