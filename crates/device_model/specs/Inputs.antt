-- Believed: what the inputs of a run gave, where their ports tell it.
use Rattle.std.specs.Prelude.{◌≡◌, ◌≢◌, ℕ, Bool, true, false, List}
use Rattle.otn_base.specs.declared.kind.PortName.TheVariants as port
use Rattle.port_base.specs.Given.{HadToGive}
use Rattle.port_base.specs.Views.{State, Empty, Live, Dead, BaysView, line_in_at, client_in_at}
use Rattle.line_side.specs.LineForm.{through_mask}
use Rattle.odu_client.specs.ClientInput.{input_given}
use Rattle.plan_file.specs.declared.plan.Plan.{Plan}
use Rattle.device_model.specs.Entries.{form_in}
use Rattle.device_model.specs.Moments.{uses}
use Rattle.device_model.specs.Through.{Inputs}

-- a place died between two views: one that was dead before has not died, and gives nothing
abbrev pub has_died : (first last : State) → Bool
has_died Live Dead = true
has_died first last = false

-- The bytes of each input line that the plan uses are those that its place gave, through its mask; the packets of each
-- client are those of the text that its place gave, or of what is left of it where it died.
pub record AreInputs (plan : Plan) (first last : BaysView) (inputs : Inputs) : Type 0 where
  pub line : (a : ℕ) (available : List ℕ) → uses plan (port.LineIn a) ≡ true
      → HadToGive (line_in_at first a) (line_in_at last a) available
      → inputs.line a ≡ through_mask (form_in plan a).scrambled available
  pub client : (n : ℕ) (available : List ℕ) → uses plan (port.ClientIn n) ≡ true
      → HadToGive (client_in_at first n) (client_in_at last n) available
      → inputs.client n ≡ input_given (has_died (client_in_at first n).state (client_in_at last n).state) available
