use Rattle.std.proofs.Common.{◌≢◌, ap}
use Rattle.port_base.specs.OutPlace.{out_view}
use Rattle.port_base.specs.Views.{Empty}
use Rattle.line_side.proofs.Waits.{leaves_by}
use Rattle.line_side.proofs.waiting.leave.Goals as goal

pub returns-clause-leaves : goal.returns-clause-leaves
returns-clause-leaves g c =
    let e = c.write_frames-written.ensures in
    let some : (out_view g.K.Sink c.args.place.now).state ≢ Empty = λ none. (let told = c.is_empty.ensures.1 none in let not = c.if-is_empty.false in cc) in
    leaves_by _ _ c.args.frames.now c.write_frames-written.result.0 c.write_frames-written.result.1 some e.state e.writing (λ idle. (ap (out_view g.K.Sink) (e.idle idle).0, ap (λ r. r.1) (e.idle idle).1)) e.written
