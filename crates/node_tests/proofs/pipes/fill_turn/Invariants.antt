use Rattle.std.proofs.Common.{◌≡◌}
use Rattle.cross_matrix.specs.Parts.{IsBegun, frames_filled}
use Rattle.cross_matrix.specs.Pipes.{IsPipeOf}
use Rattle.node_tests.proofs.pipes.fill_turn.Given as goal

abbrev pub invariant-loop-n : goal.invariant-loop-n
invariant-loop-n l = record { entry : IsPipeOf l.x l.pipe; filled : frames_filled l.pipe.giving ≡ l.n; begun : IsBegun l.pipe.giving }
