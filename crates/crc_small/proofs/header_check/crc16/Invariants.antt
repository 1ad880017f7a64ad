use Rattle.std.proofs.Common.{◌≡◌, take}
use Rattle.crc_small.specs.LongDivision.{crc16_of}
use Rattle.crc_small.proofs.header_check.crc16.Given as goal

abbrev pub invariant-loop-byte : goal.invariant-loop-byte
invariant-loop-byte l = l.register ≡ crc16_of (take l.byte-index l.bytes)
