use Rattle.std.proofs.Common.{◌≡◌, ◌-◌, ◌<◌, ◌≤◌, ◌^◌, ◌++◌, length, take, drop}
use Rattle.gfp_scrambler.specs.BitList.{AreBytes}
use Rattle.gfp_scrambler.specs.Register.{last_bits, descrambled}
use Rattle.gfp_scrambler.proofs.descrambler.descramble_over.Given as goal

abbrev pub invariant-loop-at : goal.invariant-loop-at
invariant-loop-at l = record {
  within : l.at ≤ length l.got;
  size : length l.plain ≡ length l.got;
  done : take l.at l.plain ++ descrambled l.last (drop l.at l.got) ≡ descrambled l.fn.register l.got;
  register : last_bits l.last (drop l.at l.got) ≡ last_bits l.fn.register l.got;
  small : l.last < 2 ^ 43;
  came : AreBytes l.got;
}

abbrev pub decreases-loop-at : goal.decreases-loop-at
decreases-loop-at l = length l.got - l.at
