-- Steps of `write_some`, `write_frame` and `write_slot_of`: what private contracts alone cite, beside `SlotRuns`.
use Rattle.std.specs.Prelude.{◌≡◌, ◌<◌, ◌≤◌, ◌*◌, ℕ, List, [], Option, Some, None, length}
use Rattle.otn_base.specs.declared.limits.TheConstants.{LINE_FRAME_BYTES}
use Rattle.port_base.specs.Bytes.{after}
use Rattle.port_base.specs.Given.{Gave}
use Rattle.port_base.specs.Reads.{HasEnded}
use Rattle.port_base.specs.Views.{InView, Dead}
use Rattle.port_base.specs.declared.drain.Written.{Written}
use Rattle.port_base.specs.declared.drain.Written.TheVariants as written
use Rattle.command_base.specs.Gains.{GainsPart}
use Rattle.line_commands.specs.SlotReport.{slot_bytes, slot_bytes_until, StoppedInFrame}
use Rattle.line_commands.specs.declared.slot.Progress.{Progress}
use Rattle.line_commands.specs.declared.slot.Progress.TheVariants.{Frames, Stopped}
use Rattle.port_base.specs.declared.ended.Ended.{Ended}
use Rattle.port_base.specs.declared.ended.Ended.TheVariants.{Done, Unfinished, Cut, ReportFault, Memory}

-- the answer of a step that took these bytes
abbrev pub StepEnds : Option Ended → (slot : ℕ) → (read : List ℕ) → (first now : InView) → (old new : Option (List ℕ))
    → Type 0
StepEnds None slot read first now old new = (length read ≡ LINE_FRAME_BYTES) × (now.state ≡ first.state)
    × (new ≡ after old (slot_bytes slot read)) × (now.ended ≡ first.ended)
StepEnds (Some ReportFault) slot read first now old new =
    (length read ≡ LINE_FRAME_BYTES) × (now.state ≡ first.state) × GainsPart old new (slot_bytes slot read)
StepEnds (Some Done) slot read first now old new = (read ≡ []) × (now.state ≡ first.state)
    × HasEnded now.left now.ended × (new ≡ old)
StepEnds (Some Unfinished) slot read first now old new =
    (0 < length read) × (length read < LINE_FRAME_BYTES) × (now.state ≡ first.state) × HasEnded now.left now.ended
    × (new ≡ old)
StepEnds (Some Cut) slot read first now old new = (length read < LINE_FRAME_BYTES) × (now.state ≡ Dead) × (new ≡ old)
    × (now.ended ≡ first.ended)
StepEnds (Some Memory) slot read first now old new = ⊥

-- a step: a frame was asked for, and where it came whole its slot's bytes were written
pub record SlotStep (slot : ℕ) (first now : InView) (old new : Option (List ℕ)) (answer : Option Ended) : Type 0 where
  pub read : List ℕ
  pub gave : Gave first read now
  pub ends : StepEnds answer slot read first now old new

-- a write of a slot's bytes of a frame
abbrev pub SlotWritten : Written → (slot : ℕ) → List ℕ → (old new : Option (List ℕ)) → Type 0
SlotWritten written.Whole slot frame old new = new ≡ after old (slot_bytes slot frame)
SlotWritten written.Lost slot frame old new = GainsPart old new (slot_bytes slot frame)

-- the answer of a step of some frames, so many at most, that took these bytes
abbrev pub FramesEnd : Progress → (slot most : ℕ) → (read : List ℕ) → (first now : InView) → (old new : Option (List ℕ))
    → Type 0
FramesEnd (Frames n) slot most read first now old new = (0 < n) × (n ≤ most) × (length read ≡ n * LINE_FRAME_BYTES)
    × (now.state ≡ first.state) × (new ≡ after old (slot_bytes_until slot read n)) × (now.ended ≡ first.ended)
FramesEnd (Stopped ReportFault) slot most read first now old new = StoppedInFrame slot read (length read) old new
    × (now.state ≡ first.state) × (length read ≤ most * LINE_FRAME_BYTES)
FramesEnd (Stopped ended) slot most read first now old new = StepEnds (Some ended) slot read first now old new

-- a step of some frames, so many at most: the line gave these, and their slot's bytes were written
pub record FramesStep (slot most : ℕ) (first now : InView) (old new : Option (List ℕ)) (answer : Progress)
    : Type 0 where
  pub read : List ℕ
  pub gave : Gave first read now
  pub ends : FramesEnd answer slot most read first now old new

-- how a step of one frame went
abbrev pub progress_of : Option Ended → Progress
progress_of None = Frames 1
progress_of (Some ended) = Stopped ended

-- how a step ends the command
abbrev pub end_of : Progress → Option Ended
end_of (Frames n) = None
end_of (Stopped ended) = Some ended
