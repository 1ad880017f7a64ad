use Rattle.std.proofs.Common.{◌∙◌, arith, ◌≤◌, ◌-◌, length}
use Rattle.port_base.proofs.TakenTwice.{sent_more}
use Rattle.port_base.proofs.drain.write_counted.Goals as goal

pub loop-done-preserved : goal.loop-done-preserved
loop-done-preserved g c =
    let room : c.in-Ok.n ≤ length c.args.bytes.now - c.loop-done.done = omega (arith, c.in-Ok.ensures.bound) in
    record {
      within = omega (arith, c.in-Ok.ensures.bound);
      bytes = sent_more _ _ _ _ _ _ c.loop-done.invariant.within room c.loop-done.invariant.bytes c.in-Ok.ensures.bytes;
      well = c.in-Ok.ensures.well ∙ c.loop-done.invariant.well;
      same = cc;
      later = omega (arith, c.write.ensures.later);
      keeps = cc;
    }
