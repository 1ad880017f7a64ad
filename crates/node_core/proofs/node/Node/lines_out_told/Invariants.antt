use Rattle.std.proofs.Common.{◌≡◌, ◌<◌, ℕ, get_or, length}
use Rattle.node_core.specs.Settling.{IsFrameCount}
use Rattle.node_core.proofs.node.Node.lines_out_told.Given as goal

abbrev pub invariant-loop-b : goal.invariant-loop-b
invariant-loop-b l = record {
  size : length l.told ≡ 4;
  told : (m : ℕ) → m < l.b → IsFrameCount l.self m (get_or l.told m 0);
}
