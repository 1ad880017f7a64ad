use Rattle.live_node.specs.Kept.{LinesKeep}
use Rattle.live_node.proofs.kept.lines_keep.Given as goal

abbrev pub invariant-loop-b : goal.invariant-loop-b
invariant-loop-b l = LinesKeep l.b l.sent l.bays
