use Rattle.std.proofs.Common.{◌≡◌, ◌<◌, length}
use Rattle.std.specs.Prelude.{IsSome}
use Rattle.node_tests.proofs.over_a_line.put_turn.Given as goal

abbrev pub invariant-loop-n : goal.invariant-loop-n
invariant-loop-n l = record {
  filled : l.source.filled ≡ l.n;
  begun : IsSome l.source.said;
  cnd : l.source.cnd < length l.source.slots.list;
  slots : l.source.slots ≡ l.fn.source.slots;
}
