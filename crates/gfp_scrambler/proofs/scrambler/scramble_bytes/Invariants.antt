use Rattle.std.proofs.Common.{◌≡◌, ◌<◌, ◌^◌, ◌++◌, take, drop}
use Rattle.gfp_scrambler.specs.Register.{last_bits, scrambled}
use Rattle.gfp_scrambler.proofs.scrambler.scramble_bytes.Given as goal

abbrev pub invariant-loop-byte : goal.invariant-loop-byte
invariant-loop-byte l = record {
  done : take l.byte-index l.bytes ++ scrambled l.last (drop l.byte-index l.bytes) ≡ scrambled l.fn.register l.fn.bytes;
  register : l.last ≡ last_bits l.fn.register (take l.byte-index l.bytes);
  small : l.last < 2 ^ 43;
}
