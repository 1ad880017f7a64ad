use Rattle.std.proofs.Common.{◌≡◌, ◌≤◌, ◌+◌, ◌*◌, ℕ, get_or}
use Rattle.trib_source.proofs.Laid.{LaidTo}
use Rattle.trib_source.proofs.lay.lay_each.Given as goal

abbrev pub invariant-loop-cycle : goal.invariant-loop-cycle
invariant-loop-cycle l = record {
  runner : l.own ≡ record l.fn.runner { asked = l.fn.runner.asked + l.cycle };
  clear : (n : ℕ) → l.m * l.cycle ≤ n → get_or l.into n 0 ≡ 0;
  laid : LaidTo l.m l.fn.runner.cm l.fn.runner.asked l.fresh l.cycle l.from l.into;
}
