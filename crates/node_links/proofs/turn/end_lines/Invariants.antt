use Rattle.std.proofs.Common.{◌≡◌, length, vec_len}
use Rattle.node_links.proofs.EndLines.{EndedBelow}
use Rattle.node_links.proofs.turn.end_lines.Given as goal

abbrev pub invariant-loop-a : goal.invariant-loop-a
invariant-loop-a l = record {
  four : vec_len l.lines ≡ 4;
  size : length l.wholes ≡ 4;
  ended : EndedBelow l.pieces l.a l.fn.lines.items l.lines.items l.wholes;
}
