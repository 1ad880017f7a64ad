use Rattle.std.proofs.Common.{◌∙◌, arith, ◌≤◌, ◌-◌, ◌+◌, length}
use Rattle.port_base.proofs.TakenTwice.{sent_piece}
use Rattle.port_base.proofs.sink.Sink.write_frames.Goals as goal

pub loop-done-preserved : goal.loop-done-preserved
loop-done-preserved g c =
    let frames = c.args.frames.now in
    let done = c.loop-done.done in
    let part = c.frame_part-part.result in
    let within : part ≤ length frames - done = omega (arith, c.frame_part-part.ensures.within) in
    let piece : c.in-Ok.n ≤ (done + part) - done = omega (arith, c.in-Ok.ensures.bound) in
    record {
      within = omega (arith, c.in-Ok.ensures.bound);
      bytes = sent_piece _ _ _ frames done ((done + part) - done) c.in-Ok.n c.loop-done.invariant.within (omega arith) piece c.loop-done.invariant.bytes c.in-Ok.ensures.bytes;
      well = c.in-Ok.ensures.well ∙ c.loop-done.invariant.well;
      same = cc;
      later = omega (arith, c.write.ensures.later);
      keeps = cc;
    }
