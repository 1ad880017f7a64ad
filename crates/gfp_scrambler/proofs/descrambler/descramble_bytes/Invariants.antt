use Rattle.std.proofs.Common.{◌≡◌, ◌<◌, ◌^◌, ◌++◌, take, drop}
use Rattle.gfp_scrambler.specs.Register.{last_bits, descrambled}
use Rattle.gfp_scrambler.proofs.descrambler.descramble_bytes.Given as goal

abbrev pub invariant-loop-byte : goal.invariant-loop-byte
invariant-loop-byte l = record {
  done : take l.byte-index l.bytes ++ descrambled l.last (drop l.byte-index l.bytes) ≡ descrambled l.fn.register l.fn.bytes;
  register : last_bits l.last (drop l.byte-index l.bytes) ≡ last_bits l.fn.register l.fn.bytes;
  small : l.last < 2 ^ 43;
}
