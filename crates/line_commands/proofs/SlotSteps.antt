-- How the steps of `slot` add up.
use Rattle.std.proofs.Common.{◌≡◌, ◌≢◌, ℕ, suc, List, Option, length, refl}
use Rattle.port_base.specs.Given.{Gave}
use Rattle.port_base.specs.Reads.{idle_reading}
use Rattle.port_base.specs.Views.{State, Empty, Live, Dead, InView}
use Rattle.port_base.specs.declared.in_place.Reading.TheVariants.{Full, End}
use Rattle.port_base.specs.declared.drain.Written.{Written}
use Rattle.port_base.specs.declared.drain.Written.TheVariants.{Whole, Lost}
use Rattle.command_base.specs.Steps.Ends.{step_of}
use Rattle.line_commands.specs.Steps.SlotRuns.{SlotStep, SlotWritten}

-- a place that filled a slice with room is live
pub live_of : (s : State) (n : ℕ) → s ≢ Dead → (s ≢ Live → Full ≡ idle_reading (suc n)) → s ≡ Live
live_of Live n alive idle = refl
live_of Dead n alive idle = absurd (alive refl)
live_of Empty n alive idle =
    let no : Empty ≢ Live = λ e. cc in
    let same : Full ≡ End 0 = idle no in
    absurd (cc)

-- a step that got a whole frame, and wrote its slot or a part of it
pub step_written : (answer : Written) (slot : ℕ) (frame : List ℕ) (first now : InView) (old new : Option (List ℕ)) → Gave first frame now
    → length frame ≡ 16320 → now.state ≡ first.state → now.ended ≡ first.ended → SlotWritten answer slot frame old new → SlotStep slot first now old new (step_of answer)
step_written Whole slot frame first now old new gave size state unended written = record { read = frame; gave = gave; ends = (size, state, written, unended) }
step_written Lost slot frame first now old new gave size state unended written = record { read = frame; gave = gave; ends = (size, state, written) }
