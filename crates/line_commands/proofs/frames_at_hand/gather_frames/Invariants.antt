use Rattle.std.proofs.Common.{◌≡◌, ◌*◌, take}
use Rattle.line_commands.specs.SlotReport.{slot_bytes_until}
use Rattle.line_commands.proofs.frames_at_hand.gather_frames.Given as goal

-- the frames so far
abbrev pub invariant-loop-f : goal.invariant-loop-f
invariant-loop-f l = take (l.f * 1904) l.into ≡ slot_bytes_until l.slot l.bytes l.f
