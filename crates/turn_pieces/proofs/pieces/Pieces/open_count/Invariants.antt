use Rattle.std.proofs.Common.{◌≡◌, ◌≤◌}
use Rattle.turn_pieces.specs.Pieces.{sum_below, open_at}
use Rattle.turn_pieces.proofs.pieces.Pieces.open_count.Given as goal

abbrev pub invariant-loop-i : goal.invariant-loop-i
invariant-loop-i l = record {
  few : l.count ≤ l.i;
  sum : l.count ≡ sum_below (open_at l.self) l.i;
}
