use Rattle.std.proofs.Common.{◌≡◌, ◌<◌, ◌^◌, ◌++◌, length, take, drop}
use Rattle.gfp_scrambler.specs.Register.{last_bits, descrambled}
use Rattle.gfp_scrambler.proofs.descrambler.descramble_end.Given as goal

abbrev pub invariant-loop-i : goal.invariant-loop-i
invariant-loop-i l = record {
  size : length l.plain ≡ length l.got;
  done : take l.i l.plain ++ descrambled l.last (drop l.i l.got) ≡ descrambled l.fn.register l.got;
  register : last_bits l.last (drop l.i l.got) ≡ last_bits l.fn.register l.got;
  small : l.last < 2 ^ 43;
}
