use Rattle.std.proofs.Common.{◌≡◌}
use Rattle.cross_matrix.specs.Parts.{frames_taken}
use Rattle.cross_matrix.specs.Pipes.{IsPipeOf}
use Rattle.node_tests.proofs.pipes.take_turn.Given as goal

abbrev pub invariant-loop-n : goal.invariant-loop-n
invariant-loop-n l = record { entry : IsPipeOf l.x l.pipe; taken : frames_taken l.pipe.taking ≡ l.n }
