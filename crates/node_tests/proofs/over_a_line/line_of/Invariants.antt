use Rattle.std.proofs.Common.{◌≡◌, ◌<◌, length}
use Rattle.node_tests.proofs.over_a_line.line_of.Given as goal

abbrev pub invariant-loop-turn : goal.invariant-loop-turn
invariant-loop-turn l = record {
  cnd : l.source.cnd < length l.source.slots.list;
  slots : l.source.slots ≡ l.fn.slots;
}
