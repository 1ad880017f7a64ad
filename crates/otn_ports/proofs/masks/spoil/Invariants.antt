use Rattle.std.proofs.Common.{◌≡◌, ◌≤◌, ◌<◌, ◌+◌, ℕ, true, length, drop, get_or, bit_xor}
use Rattle.port_base.specs.Bytes.{raised}
use Rattle.otn_ports.specs.Spoiling.{mask_at, rises_from}
use Rattle.otn_ports.proofs.masks.spoil.Given as goal

abbrev pub invariant-loop-i : goal.invariant-loop-i
invariant-loop-i l = record {
  within : l.used ≤ length l.pairs;
  done : (k : ℕ) → k < l.i → get_or l.bytes k 0 ≡ bit_xor (get_or l.initial.bytes k 0) (mask_at l.pairs (l.from + k));
  left : (k : ℕ) → l.i ≤ k → get_or l.bytes k 0 ≡ get_or l.initial.bytes k 0;
  rises : rises_from (raised l.from l.i) (drop l.used l.pairs) ≡ true;
  rest : (k : ℕ) → mask_at (drop l.used l.pairs) (raised l.from l.i + k) ≡ mask_at l.pairs (l.from + l.i + k);
}
