-- API: runs in which no port failed.
use Rattle.std.specs.Prelude.{◌≡◌, ◌≢◌, ◌↔◌, ◌⊎◌, ℕ, true}
use Rattle.otn_base.specs.declared.kind.PortName.{PortName}
use Rattle.otn_base.specs.declared.kind.PortName.TheVariants as port
use Rattle.port_base.specs.Bytes.{HasFailed}
use Rattle.port_base.specs.Views.{Dead, BaysView, line_in_at, line_out_at, client_in_at, client_out_at}
use Rattle.plan_file.specs.declared.plan.Plan.{Plan}
use Rattle.device_model.specs.Moments.{uses}
use Rattle.device_model.specs.Outcomes.{HasMore, HasOpen, place_state}
use Rattle.device_model.specs.Report.{Numbers}
use Rattle.device_model.specs.Through.{Inputs}
use Rattle.device_model.specs.declared.outcome.Outcome.TheVariants.{Done, Unfinished, Cut}
use Rattle.device_model.specs.RunLeft.{Takings, MayBeInputs, RunLeft}

-- the count of faults of a port's place
abbrev pub place_faults : BaysView → PortName → ℕ
place_faults bays (port.LineIn a) = (line_in_at bays a).faults
place_faults bays (port.LineOut b) = (line_out_at bays b).faults
place_faults bays (port.ClientIn n) = (client_in_at bays n).faults
place_faults bays (port.ClientOut n) = (client_out_at bays n).faults

-- Each place that the plan uses was not dead at first, and its count of faults did not rise and does not stand at its
-- end.
pub record AreWell (plan : Plan) (first last : BaysView) : Type 0 where
  pub alive : (name : PortName) → uses plan name ≡ true → place_state first name ≢ Dead
  pub calm : (name : PortName) → uses plan name ≡ true
      → HasFailed (place_faults first name) (place_faults last name) → ⊥

-- The run was not cut. It is unfinished exactly where its inputs, whatever these may turn out to be, have more than its
-- turns want, or a client that is not spent; else it is done.
pub record EndsByInputs (plan : Plan) (first last : BaysView) (takings : Takings) (numbers : Numbers) : Type 0 where
  pub uncut : numbers.outcome ≢ Cut
  pub unfinished : (inputs : Inputs) → MayBeInputs plan first last takings inputs
      → (numbers.outcome ≡ Unfinished) ↔ (HasMore plan inputs ⊎ HasOpen plan inputs)
  pub done : (inputs : Inputs) → MayBeInputs plan first last takings inputs
      → (numbers.outcome ≡ Done) ↔ (HasMore plan inputs ⊎ HasOpen plan inputs → ⊥)

-- So ends a run in which all places are well.
abbrev pub FaultlessRunsEndByInputs : Type 0
FaultlessRunsEndByInputs = (plan : Plan) (first last : BaysView) (takings : Takings) (numbers : Numbers)
    → RunLeft plan first last takings numbers → AreWell plan first last → EndsByInputs plan first last takings numbers
