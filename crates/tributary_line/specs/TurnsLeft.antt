-- Believed: what a command of so many turns takes of a plain OTU2 and leaves of it, and what it owes to its report and
-- to its output.
use Rattle.std.specs.Prelude.{◌≡◌, ℕ, suc, ◌*◌, ◌<◌, min, List, length}
use Rattle.std.specs.List.{concat}
use Rattle.otn_base.specs.declared.limits.TheConstants.{OTU2_SLOTS}
use Rattle.port_base.specs.Sent.{IsSent}
use Rattle.port_base.specs.Views.{OutView}
use Rattle.line_side.specs.LineForm.{plain_otu2}
use Rattle.tributary_model.specs.Places.{Tributary}
use Rattle.device_model.specs.Moments.{line_read}
use Rattle.tributary_line.specs.TributaryFile.{IsTributaryFile}

-- the line has more than so many turns want
abbrev pub HasMore : (turns : ℕ) → (available : List ℕ) → Type 0
HasMore turns available = line_read plain_otu2 available turns 0 < length available

-- of the line was taken what so many turns want, and one byte more, or all that there is
abbrev pub TookOf : (turns : ℕ) → (available read : List ℕ) → Type 0
TookOf turns available read = length read ≡ min (length available) (suc (line_read plain_otu2 available turns 0))

-- the frames of the first turns of a tributary, so many, were due to the line output
pub record OutputDue (own : Tributary) (turns : List (List ℕ)) (count : ℕ) (first last : OutView) : Type 0 where
  pub frames : List (List ℕ)
  pub file : IsTributaryFile 0 own turns (OTU2_SLOTS * count) frames
  pub sent : IsSent first (concat frames) last
