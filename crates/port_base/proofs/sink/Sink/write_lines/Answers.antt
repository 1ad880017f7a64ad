use Rattle.std.proofs.Common.{◌∙◌, arith, ◌≤◌, ◌-◌, ◌+◌, length}
use Rattle.port_base.proofs.TakenTwice.{sent_piece}
use Rattle.port_base.proofs.sink.Sink.write_lines.Goals as goal

pub loop-done-preserved : goal.loop-done-preserved
loop-done-preserved g c =
    let lines = c.args.lines.now in
    let done = c.loop-done.done in
    let line = c.first_line-line.result in
    let within : line ≤ length lines - done = omega (arith, c.first_line-line.ensures.within) in
    let piece : c.in-Ok.n ≤ (done + line) - done = omega (arith, c.in-Ok.ensures.bound) in
    record {
      within = omega (arith, c.in-Ok.ensures.bound);
      bytes = sent_piece _ _ _ lines done ((done + line) - done) c.in-Ok.n c.loop-done.invariant.within (omega arith) piece c.loop-done.invariant.bytes c.in-Ok.ensures.bytes;
      well = c.in-Ok.ensures.well ∙ c.loop-done.invariant.well;
      same = cc;
      later = omega (arith, c.write.ensures.later);
      keeps = cc;
    }
