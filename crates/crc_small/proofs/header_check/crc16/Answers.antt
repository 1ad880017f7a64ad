use Rattle.std.proofs.Common.{sym}
use Rattle.crc_small.proofs.Register.{crc16-none, crc16-step}
use Rattle.crc_small.proofs.header_check.crc16.Goals as goal

pub loop-byte-init : goal.loop-byte-init
loop-byte-init c = sym crc16-none

pub loop-byte-preserved : goal.loop-byte-preserved
loop-byte-preserved c = let step = crc16-step c.args.bytes.now c.loop-byte.byte-index c.loop-byte-test.true in cc
