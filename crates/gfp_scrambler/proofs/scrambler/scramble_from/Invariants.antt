use Rattle.std.proofs.Common.{◌≡◌, ◌-◌, ◌%◌, ◌≤◌, ◌^◌, ◌++◌, length, take, drop}
use Rattle.gfp_scrambler.specs.BitList.{AreBytes}
use Rattle.gfp_scrambler.specs.Register.{last_bits, scrambled}
use Rattle.gfp_scrambler.proofs.scrambler.scramble_from.Given as goal

abbrev pub invariant-loop-bytes : goal.invariant-loop-bytes
invariant-loop-bytes l = record {
  within : l.at ≤ length l.bytes;
  done : take l.at l.bytes ++ scrambled (l.last % 2 ^ 43) (drop l.at l.bytes) ≡ scrambled l.fn.register l.fn.bytes;
  register : l.last % 2 ^ 43 ≡ last_bits l.fn.register (take l.at l.bytes);
  came : AreBytes l.fn.bytes;
}

abbrev pub decreases-loop-bytes : goal.decreases-loop-bytes
decreases-loop-bytes l = length l.initial.bytes - l.at

abbrev pub invariant-loop-bytes-2 : goal.invariant-loop-bytes-2
invariant-loop-bytes-2 l = record {
  within : l.at ≤ length l.bytes;
  done : take l.at l.bytes ++ scrambled (l.last % 2 ^ 43) (drop l.at l.bytes) ≡ scrambled l.fn.register l.fn.bytes;
  register : l.last % 2 ^ 43 ≡ last_bits l.fn.register (take l.at l.bytes);
  came : AreBytes l.fn.bytes;
}

abbrev pub decreases-loop-bytes-2 : goal.decreases-loop-bytes-2
decreases-loop-bytes-2 l = length l.initial.bytes - l.at
