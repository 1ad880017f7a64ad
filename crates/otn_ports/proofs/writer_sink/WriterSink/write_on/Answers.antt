use Rattle.std.proofs.Common.{◌∙◌, arith, ◌≤◌, ◌-◌, length}
use Rattle.port_base.proofs.TakenTwice.{appends_more}
use Rattle.otn_ports.proofs.writer_sink.WriterSink.write_on.Goals as goal

pub loop-done-preserved : goal.loop-done-preserved
loop-done-preserved g c =
    let room : c.in-Ok.n ≤ length c.args.bytes.now - c.loop-done.done = omega (arith, c.in-Ok.ensures.bound) in
    record {
      within = omega (arith, c.in-Ok.ensures.bound);
      system = appends_more _ _ _ c.args.bytes.now c.loop-done.done c.in-Ok.n c.loop-done.invariant.within room c.loop-done.invariant.system c.in-Ok.ensures.system;
      well = c.in-Ok.ensures.counts ∙ c.loop-done.invariant.well;
      later = omega (arith, c.write.ensures.later);
      writer = c.write.ensures.writer ∙ c.loop-done.invariant.writer;
    }
