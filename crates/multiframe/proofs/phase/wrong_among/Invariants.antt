use Rattle.std.proofs.Common.{◌≡◌, ◌+◌, ◌%◌, ◌≤◌, drop}
use Rattle.multiframe.specs.LineTurns.{wrong_count}
use Rattle.multiframe.proofs.phase.wrong_among.Given as goal

abbrev pub invariant-loop-mfas : goal.invariant-loop-mfas
invariant-loop-mfas l = record {
  within : l.wrong ≤ l.mfas-index;
  next : l.next ≡ (l.expected + l.mfas-index) % 256;
  left : wrong_count l.expected l.taken ≡ l.wrong + wrong_count (l.expected + l.mfas-index) (drop l.mfas-index l.taken);
}
