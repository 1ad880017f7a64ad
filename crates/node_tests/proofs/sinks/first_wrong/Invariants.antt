use Rattle.std.proofs.Common.{◌≡◌}
use Rattle.node_tests.proofs.sinks.first_wrong.Given as goal

abbrev pub invariant-loop-row : goal.invariant-loop-row
invariant-loop-row l = record { taken : l.sink.taken ≡ 0; slots : l.sink.slots ≡ l.initial.sink.slots }
