use Rattle.std.proofs.Common.{◌≡◌}
use Rattle.std.specs.Prelude.{IsSome}
use Rattle.node_tests.proofs.sources.fill_to.Given as goal

abbrev pub invariant-loop-n : goal.invariant-loop-n
invariant-loop-n l = record {
  filled : l.source.filled ≡ l.n;
  begun : IsSome l.source.said;
  slots : l.source.slots ≡ l.fn.source.slots;
}
