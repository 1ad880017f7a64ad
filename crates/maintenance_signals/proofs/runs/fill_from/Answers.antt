use Rattle.std.proofs.Common.{◌≡◌, ◌≤◌, length, arith}
use Rattle.maintenance_signals.proofs.Bytes.{run_written}
use Rattle.maintenance_signals.proofs.runs.fill_from.Goals as goal

pub loop-done-preserved : goal.loop-done-preserved
loop-done-preserved c =
    let count = c.min-count.result in
    let kept : length c.put_run.new.into ≡ length c.loop-done.into = omega arith in
    let short : count ≤ c.run_at-run.result.places = omega arith in
    record {
      within = omega arith;
      at_is = omega (arith, c.loop-done.invariant.at_is);
      bytes = run_written c.args.signal c.args.place c.loop-done.at c.loop-done.done count c.run_at-run.result.byte c.loop-done.into c.put_run.new.into
          c.loop-done.invariant.at_is c.loop-done.invariant.bytes c.put_run.ensures.before c.put_run.ensures.run
          (λ k h. c.run_at-run.ensures.same k (omega arith));
    }
