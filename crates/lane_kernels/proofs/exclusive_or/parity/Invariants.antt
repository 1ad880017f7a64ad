use Rattle.std.proofs.Common.{◌≡◌, ◌*◌, take, length}
use Rattle.std.specs.Prelude.{bit_xor, fold}
use lib.Lanes.{fold_l}
use Rattle.lane_kernels.proofs.exclusive_or.parity.Given as goal

abbrev pub invariant-loop-block : goal.invariant-loop-block
invariant-loop-block l = record {
  lanes_are : length l.lanes ≡ 64;
  so_far : fold_l bit_xor 0 l.lanes ≡ fold bit_xor 0 (take (64 * l.block) l.bytes);
}
