use Rattle.std.proofs.Common.{◌≡◌, ◌+◌, ◌*◌, ◌^◌, ◌<◌, bit_xor, slice_index}
use Rattle.crc_small.specs.Steps.Folding.{after_some, pending}
use Rattle.crc_small.specs.Steps.Window.{IsWindow, window_byte}
use Rattle.crc_small.proofs.Vectors.{IsEmptied}
use Rattle.crc_small.proofs.long_message.unfold.Given as goal

abbrev pub invariant-loop-part : goal.invariant-loop-part
invariant-loop-part l =
    IsWindow l.left
    × IsEmptied (16 * l.part) l.left
    × (after_some (λ j. slice_index l.bytes (l.at + j)) 0 (16 * l.part) (pending (window_byte l.initial.left) 0) ≡ bit_xor l.register (pending (window_byte l.left) 0))
    × (l.register < 2 ^ 32)
