use Rattle.std.proofs.Common.{◌≡◌, ◌≤◌}
use Rattle.node_tests.proofs.over_a_line.take_turn.Given as goal

abbrev pub invariant-loop-n : goal.invariant-loop-n
invariant-loop-n l = record {
  pieces : l.line.pieces ≡ l.n;
  kind : l.line.kind ≡ l.fn.line.kind;
  taken : l.sink.taken ≡ l.frames;
  most : l.frames ≤ l.n;
  slots : l.sink.slots ≡ l.fn.sink.slots;
}
