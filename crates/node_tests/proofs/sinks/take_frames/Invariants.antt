use Rattle.std.proofs.Common.{◌≡◌}
use Rattle.node_tests.proofs.sinks.take_frames.Given as goal

abbrev pub invariant-loop-n : goal.invariant-loop-n
invariant-loop-n l = record { taken : l.sink.taken ≡ l.n; slots : l.sink.slots ≡ l.initial.sink.slots }
