use Rattle.std.proofs.Common.{◌≡◌, ◌<◌}
use Rattle.std.specs.Prelude.{bit_xor}
use Rattle.crc_small.proofs.Linear.{zeros}
use Rattle.crc_small.proofs.message_check.five5.Given as goal

abbrev pub invariant-loop : goal.invariant-loop
invariant-loop l = (l.shifted ≡ zeros 5 0x23 l.counter (bit_xor l.register l.bits)) × (l.shifted < 32)
