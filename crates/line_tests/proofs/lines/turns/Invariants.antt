use Rattle.std.proofs.Common.{◌≡◌}
use Rattle.line_tests.proofs.lines.turns.Given as goal

abbrev pub invariant-loop-n : goal.invariant-loop-n
invariant-loop-n g l = record { pieces : l.line.pieces ≡ l.n; kind : l.line.kind ≡ l.fn.kind }

abbrev pub invariant-loop : goal.invariant-loop
invariant-loop g l = record { pieces : l.line.pieces ≡ 0; kind : l.line.kind ≡ l.fn.kind }
