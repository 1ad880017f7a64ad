use Rattle.std.proofs.Common.{◌≡◌, ◌<◌}
use Rattle.std.specs.Prelude.{length}
use Rattle.node_tests.proofs.sources.first_wrong.Given as goal

abbrev pub invariant-loop-turn : goal.invariant-loop-turn
invariant-loop-turn l = record {
  cnd : l.source.cnd < length l.source.slots.list;
  slots : l.source.slots ≡ l.fn.source.slots;
}
