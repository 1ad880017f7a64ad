use Rattle.std.proofs.Common.{◌≡◌, ◌<◌, ℕ, get_or, length}
use Rattle.device_model.specs.RunNumbers.{no_counts}
use Rattle.node_core.specs.Settling.{IsLineCounts}
use Rattle.node_core.proofs.node.Node.lines_in_told.Given as goal

abbrev pub invariant-loop-a : goal.invariant-loop-a
invariant-loop-a l = record {
  size : length l.told ≡ 4;
  told : (m : ℕ) → m < l.a → IsLineCounts l.self m (get_or l.told m no_counts);
}
