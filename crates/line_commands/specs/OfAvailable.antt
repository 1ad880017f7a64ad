-- API: what holds of `slot` and `pull`, by all bytes that line input 0 had to give, where it tells them.
use Rattle.std.specs.Prelude.{◌≢◌, ◌<◌, ◌-◌, ◌^◌, List, ℕ}
use Rattle.port_base.specs.Given.{HadToGive}
use Rattle.command_base.specs.Device.{Device, line_zero}
use Rattle.command_base.specs.declared.status.Status.{Status}
use Rattle.command_base.specs.declared.status.Status.TheVariants.{ReportFault}

-- what holds of every call that ran so, and of these bytes
abbrev pub OfAvailable : (Ran : (old new : Device) → Status → Type 0)
    → ((old new : Device) → Status → (available : List ℕ) → Type 0) → Type 0
OfAvailable Ran Holds = (old new : Device) (status : Status) (available : List ℕ) → Ran old new status
    → HadToGive (line_zero old) (line_zero new) available → Holds old new status available

-- the same where no write failed
abbrev pub OfAllAvailable : (Ran : (old new : Device) → Status → Type 0)
    → ((old new : Device) → Status → (available : List ℕ) → Type 0) → Type 0
OfAllAvailable Ran Holds = (old new : Device) (status : Status) (available : List ℕ) → Ran old new status
    → status ≢ ReportFault → HadToGive (line_zero old) (line_zero new) available → Holds old new status available

-- the same where the report failed, by how many bytes of the line were taken
abbrev pub OfRead : (Ran : (old new : Device) → Status → Type 0)
    → ((old new : Device) → (available : List ℕ) → (read : ℕ) → Type 0) → Type 0
OfRead Ran Holds = (old new : Device) (available : List ℕ) → Ran old new ReportFault
    → HadToGive (line_zero old) (line_zero new) available → (line_zero new).number < 2 ^ 64 - 1
    → Holds old new available ((line_zero new).number - (line_zero old).number)
