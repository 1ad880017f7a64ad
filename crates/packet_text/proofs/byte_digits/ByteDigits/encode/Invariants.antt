use Rattle.std.proofs.Common.{◌*◌}
use Rattle.packet_text.specs.Steps.DigitMarks.{Put}
use Rattle.packet_text.proofs.byte_digits.ByteDigits.encode.Given as goal

abbrev pub invariant-loop-block : goal.invariant-loop-block
invariant-loop-block l = Put l.packet l.digits (16 * l.block)
