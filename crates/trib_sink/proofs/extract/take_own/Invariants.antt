use Rattle.std.proofs.Common.{◌≡◌, ◌+◌, ◌-◌, ◌≤◌, ◌++◌, [], ◌∷◌, take}
use Rattle.trib_sink.specs.Steps.Rows.{row_data}
use Rattle.trib_sink.proofs.extract.take_own.Given as goal

abbrev pub invariant-loop-cycle : goal.invariant-loop-cycle
invariant-loop-cycle l = record {
  cycles : l.cycle ≤ l.count;
  state : l.state ≡ record l.fn.runner { asked = l.fn.runner.asked + l.cycle };
  few : l.end ≤ l.at + l.cycle;
  bytes : take l.end l.into ≡ take l.at l.fn.into ++ row_data 1 l.fn.runner.cm l.fn.runner.asked l.own (1 ∷ []) l.cycle;
}

abbrev pub decreases-loop-cycle : goal.decreases-loop-cycle
decreases-loop-cycle l = l.count - l.cycle
