use Rattle.std.proofs.Common.{ℕ, ◌<◌, ◌^◌}
use Rattle.std.specs.Prelude.{bit_xor}
use Rattle.crc_small.specs.Header.{IsRightHeader}
use Rattle.crc_small.proofs.header_check.fix_one_bit.Given as goal

abbrev pub invariant-loop-place : goal.invariant-loop-place
invariant-loop-place l = record {
  itself : IsRightHeader l.header → ⊥;
  below : (k : ℕ) → k < l.place → IsRightHeader (bit_xor l.header (2 ^ k)) → ⊥;
}
