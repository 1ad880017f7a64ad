use Rattle.std.proofs.Common.{◌≡◌}
use Rattle.std.specs.Prelude.{IsSome}
use Rattle.node_tests.proofs.sources.put_alike.Given as goal

abbrev pub invariant-loop-n : goal.invariant-loop-n
invariant-loop-n l = record {
  filled : l.one.filled ≡ l.n;
  other_filled : l.other.filled ≡ l.n;
  begun : IsSome l.one.said;
  other_begun : IsSome l.other.said;
  slots : l.one.slots ≡ l.initial.one.slots;
  other_slots : l.other.slots ≡ l.initial.other.slots;
  cnd : l.one.cnd ≡ l.initial.one.cnd;
  other_cnd : l.other.cnd ≡ l.initial.other.cnd;
}
