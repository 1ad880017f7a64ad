-- API: runs whose inputs tell their bytes.
use Rattle.std.specs.Prelude.{◌≡◌, ℕ, true, List}
use Rattle.otn_base.specs.declared.kind.PortName.TheVariants as port
use Rattle.port_base.specs.Given.{HadToGive}
use Rattle.port_base.specs.Views.{BaysView, line_in_at, client_in_at}
use Rattle.plan_file.specs.declared.plan.Plan.{Plan}
use Rattle.device_model.specs.Inputs.{AreInputs}
use Rattle.device_model.specs.Moments.{uses}
use Rattle.device_model.specs.Report.{Numbers}
use Rattle.device_model.specs.Through.{Inputs}
use Rattle.device_model.specs.RunLeft.{Takings, MayBeInputs, RunLeft, RunOf}

-- each input line and each client that the plan reads tells the bytes that it had to give
pub record TellsAvailable (plan : Plan) (first last : BaysView) : Type 0 where
  pub line : (a : ℕ) → uses plan (port.LineIn a) ≡ true
      → (available : List ℕ) × HadToGive (line_in_at first a) (line_in_at last a) available
  pub client : (n : ℕ) → uses plan (port.ClientIn n) ≡ true
      → (available : List ℕ) × HadToGive (client_in_at first n) (client_in_at last n) available

-- Where they tell them, the inputs of a run may be what they gave.
abbrev pub GivenMayBeInputs : Type 0
GivenMayBeInputs = (plan : Plan) (first last : BaysView) (takings : Takings) (numbers : Numbers) (inputs : Inputs)
    → RunLeft plan first last takings numbers → TellsAvailable plan first last → AreInputs plan first last inputs
    → MayBeInputs plan first last takings inputs

-- A run whose inputs tell their bytes is that of what they gave.
abbrev pub IsRunOfGiven : Type 0
IsRunOfGiven = (plan : Plan) (first last : BaysView) (takings : Takings) (numbers : Numbers) (inputs : Inputs)
    → RunLeft plan first last takings numbers → TellsAvailable plan first last → AreInputs plan first last inputs
    → RunOf plan first last takings numbers inputs
