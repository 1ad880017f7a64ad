use Rattle.std.proofs.Common.{ap}
use Rattle.otn_base.specs.LineSlots.{slots_of}
use Rattle.tributary_model.specs.Places.{tributary_of}
use Rattle.tributary_line.proofs.TapTurns.{tap_begins}
use Rattle.tributary_line.proofs.tap.Tap.new.Goals as goal

pub returns-clause-stands : goal.returns-clause-stands
returns-clause-stands c =
    tap_begins (tributary_of c.args.slots.now c.args.port) (record { line = c.in_ok-line.line; sink = c.in_ok-sink.sink }) (ap slots_of c.requires.plain) c.in_ok-line.ensures.pieces c.in_ok-line.ensures.stands c.in_ok-sink.ensures.stands
