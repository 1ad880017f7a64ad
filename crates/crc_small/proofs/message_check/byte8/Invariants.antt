use Rattle.std.proofs.Common.{◌≡◌}
use Rattle.std.specs.Prelude.{bit_xor}
use Rattle.crc_small.proofs.Linear.{zeros}
use Rattle.crc_small.proofs.message_check.byte8.Given as goal

abbrev pub invariant-loop : goal.invariant-loop
invariant-loop l = l.shifted ≡ zeros 8 0x10D l.counter (bit_xor l.register l.byte)
