use Rattle.std.proofs.Common.{◌≡◌, ◌+◌, ◌-◌, ◌≤◌}
use Rattle.trib_source.proofs.Laid.{LaidTo}
use Rattle.trib_source.proofs.lay.lay_runs.Given as goal

abbrev pub invariant-loop-cycle : goal.invariant-loop-cycle
invariant-loop-cycle l = record {
  inside : l.cycle ≤ l.cycles;
  runner : l.runner ≡ record l.initial.runner { asked = l.initial.runner.asked + l.cycle };
  laid : LaidTo l.m l.initial.runner.cm l.initial.runner.asked l.fresh l.cycle l.from l.into;
}

abbrev pub decreases-loop-cycle : goal.decreases-loop-cycle
decreases-loop-cycle l = l.cycles - l.cycle
