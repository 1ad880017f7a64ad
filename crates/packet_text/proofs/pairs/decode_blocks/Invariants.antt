use Rattle.std.proofs.Common.{◌*◌}
use Rattle.packet_text.proofs.DigitBlocks.{Seen}
use Rattle.packet_text.proofs.pairs.decode_blocks.Given as goal

abbrev pub invariant-loop-two : goal.invariant-loop-two
invariant-loop-two l = Seen l.digits l.bytes l.seen (32 * l.two)
