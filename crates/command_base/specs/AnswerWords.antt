-- Believed: what the records of the commands share: what a report gained, which answers a line has and which refuse,
-- and faults.
use Rattle.std.specs.Prelude.{◌≡◌, ◌≢◌, ℕ, List, Option}
use Rattle.port_base.specs.Bytes.{after, HasFailed}
use Rattle.command_base.specs.Gains.{GainsPart}
use Rattle.command_base.specs.declared.status.Status.{Status}
use Rattle.command_base.specs.declared.status.Status.TheVariants.{Done, Unfinished, Words, Plan, PlanFault, ReportFault, Cut, Memory}

-- a report gained all these bytes; where a write of it failed, a part of them from the front
abbrev pub Reports : Status → (old new : Option (List ℕ)) → List ℕ → Type 0
Reports ReportFault old new bytes = GainsPart old new bytes
Reports status old new bytes = new ≡ after old bytes

-- the answers of a command over a line
abbrev pub IsLineAnswer : Status → Type 0
IsLineAnswer Done = Unit {0}
IsLineAnswer Unfinished = Unit {0}
IsLineAnswer ReportFault = Unit {0}
IsLineAnswer Cut = Unit {0}
IsLineAnswer Memory = Unit {0}
IsLineAnswer Words = ⊥
IsLineAnswer PlanFault = ⊥
IsLineAnswer (Plan error place) = ⊥

-- an answer after which all places and the report are as they were
abbrev pub IsRefusal : Status → Type 0
IsRefusal Words = Unit {0}
IsRefusal PlanFault = Unit {0}
IsRefusal (Plan error place) = Unit {0}
IsRefusal Memory = Unit {0}
IsRefusal ReportFault = ⊥
IsRefusal Cut = ⊥
IsRefusal Unfinished = ⊥
IsRefusal Done = ⊥

-- a count of faults did not rise, and does not stand at its end
abbrev pub IsWell : (old new : ℕ) → Type 0
IsWell old new = HasFailed old new → ⊥

-- a port's count of faults rose or stands at its end where this is the answer, and else it is as it was
pub record CountsBy (failure answer : Status) (old new : ℕ) : Type 0 where
  pub fault : answer ≡ failure → HasFailed old new
  pub calm : answer ≢ failure → new ≡ old
