use Rattle.std.proofs.Common.{◌≡◌, ◌≤◌}
use Rattle.std.specs.Option.{ForSome}
use Rattle.node_tests.proofs.sinks.first_wrong_pair.Given as goal

abbrev pub invariant-loop-pair : goal.invariant-loop-pair
invariant-loop-pair l = record { taken : l.sink.taken ≡ 0; slots : l.sink.slots ≡ l.initial.sink.slots; former : ForSome l.former (λ n. n ≤ 15232) }
