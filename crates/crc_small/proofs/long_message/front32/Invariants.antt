use Rattle.std.proofs.Common.{◌≡◌, ◌-◌, ◌+◌, ◌≤◌, length, slice_index}
use Rattle.crc_small.specs.Steps.Folding.{after_some, pending}
use Rattle.crc_small.specs.Steps.Window.{IsWindow, window_byte}
use Rattle.crc_small.proofs.long_message.front32.Given as goal

abbrev pub invariant-loop-at : goal.invariant-loop-at
invariant-loop-at l =
    (l.at + 96 ≤ length l.bytes)
    × IsWindow l.window
    × (pending (window_byte l.window) 0 ≡ after_some (slice_index l.bytes) 0 l.at 0xFFFFFFFF)

abbrev pub decreases-loop-at : goal.decreases-loop-at
decreases-loop-at l = length l.bytes - l.at
