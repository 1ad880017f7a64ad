use Rattle.std.proofs.Common.{◌∙◌, arith, ◌≤◌, length}
use Rattle.port_base.proofs.TakenTwice.{more}
use Rattle.port_base.proofs.PortLaws.{still_open}
use Rattle.port_base.proofs.fill.read_whole.Goals as goal

pub loop-done-preserved : goal.loop-done-preserved
loop-done-preserved g c =
    let room : c.in-Ok.n ≤ length c.read.new.into = omega (arith, c.in-Ok.ensures.bound) in
    record {
      within = omega (arith, c.in-Ok.ensures.bound);
      bytes = more _ _ _ _ _ _ _ _ c.loop-done.invariant.within room c.loop-done.invariant.bytes c.in-Ok.ensures.bytes;
      well = c.in-Ok.ensures.well ∙ c.loop-done.invariant.well;
      ended = still_open _ _ _ _ c.in-Ok.n-test.1 c.in-Ok.ensures.answered ∙ c.loop-done.invariant.ended;
      same = cc;
      later = omega (arith, c.read.ensures.later);
    }
