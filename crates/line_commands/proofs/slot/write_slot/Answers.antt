use Rattle.std.proofs.Common.{◌≡◌, ap}
use Rattle.port_base.specs.InPlace.{in_view}
use Rattle.port_base.specs.Views.{Dead}
use Rattle.line_commands.proofs.SlotLoop.{dead_run, slot_has_memory}
use Rattle.line_commands.proofs.slot.write_slot.Goals as goal

pub returns-in-Dead-clause-run : goal.returns-in-Dead-clause-run
returns-in-Dead-clause-run g c = λ some.
    let line = in_view g.I.Source c.args.line.now in
    let dead : line.state ≡ Dead = ap (λ place. (in_view g.I.Source place).state) c.in-Dead.is in
    dead_run c.args.slot line (g.K.Sink.got c.args.report.now) dead

pub returns-clause-memory : goal.returns-clause-memory
returns-clause-memory g c = λ none.
    absurd (slot_has_memory c.write_frames.result c.args.slot (in_view g.I.Source c.args.line.now) (in_view g.I.Source c.write_frames.new.line)
    (g.K.Sink.got c.args.report.now) (g.K.Sink.got c.write_frames.new.report) c.write_frames.ensures.run none)
