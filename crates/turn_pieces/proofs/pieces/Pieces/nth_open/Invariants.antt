use Rattle.std.proofs.Common.{◌≡◌, ◌+◌}
use Rattle.turn_pieces.specs.Pieces.{sum_below, open_at}
use Rattle.turn_pieces.proofs.pieces.Pieces.nth_open.Given as goal

abbrev pub invariant-loop-j : goal.invariant-loop-j
invariant-loop-j l = sum_below (open_at l.self) l.j + l.left ≡ l.i
