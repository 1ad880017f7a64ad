-- Believed: how a run ends.
use Rattle.std.specs.Prelude.{◌≡◌, ◌≢◌, ◌⊎◌, ◌↔◌, ℕ, ◌-◌, ◌<◌, false, true, List, length}
use Rattle.std.specs.List.{Contains}
use Rattle.otn_base.specs.declared.kind.PortName.{PortName}
use Rattle.otn_base.specs.declared.kind.PortName.TheVariants as port
use Rattle.port_base.specs.Views.{State, Empty, Live, Dead, BaysView, line_in_at, line_out_at, client_in_at, client_out_at}
use Rattle.odu_client.specs.ClientInput.{emitted_before, is_spent}
use Rattle.plan_file.specs.declared.connection.Connection.{Connection}
use Rattle.plan_file.specs.declared.connection.FromEnd.TheVariants as from_end
use Rattle.plan_file.specs.declared.plan.Plan.{Plan}
use Rattle.device_model.specs.Entries.{first_turn, form_in}
use Rattle.device_model.specs.Moments.{uses, line_read}
use Rattle.device_model.specs.Through.{Inputs}
use Rattle.device_model.specs.declared.outcome.Outcome.{Outcome}
use Rattle.device_model.specs.declared.outcome.Outcome.TheVariants.{Done, Unfinished, Cut}

-- the state of a port's place, and that some place which the plan uses is dead
abbrev pub place_state : BaysView → PortName → State
place_state bays (port.LineIn a) = (line_in_at bays a).state
place_state bays (port.LineOut b) = (line_out_at bays b).state
place_state bays (port.ClientIn n) = (client_in_at bays n).state
place_state bays (port.ClientOut n) = (client_out_at bays n).state

pub record HasDead (plan : Plan) (last : BaysView) : Type 0 where
  pub name : PortName
  pub used : uses plan name ≡ true
  pub dead : place_state last name ≡ Dead

-- some line that the plan reads has more bytes, taken or not, than its turns want
pub record HasMore (plan : Plan) (inputs : Inputs) : Type 0 where
  pub line : ℕ
  pub used : uses plan (port.LineIn line) ≡ true
  pub more : line_read (form_in plan line) (inputs.line line) plan.turns 0 < length (inputs.line line)

-- how many bytes of its stream a client's input emits in all its turns
abbrev pub emitted_in_all : Connection → ℕ
emitted_in_all x = emitted_before x.pace (x.stop - first_turn x)

-- some client that the plan reads is not spent
pub record HasOpen (plan : Plan) (inputs : Inputs) : Type 0 where
  pub x : Connection
  pub n : ℕ
  pub is_of : Contains plan.connections x
  pub from : x.from ≡ from_end.Client n
  pub unspent : is_spent (inputs.client n) x.fcs (emitted_in_all x) ≡ false

-- Cut where a place that the plan uses is dead at the end; else Unfinished where a line has more than its turns want,
-- or a client is not spent; else Done.
pub record IsOutcome (plan : Plan) (inputs : Inputs) (last : BaysView) (outcome : Outcome) : Type 0 where
  pub cut : (outcome ≡ Cut) ↔ HasDead plan last
  pub unfinished : (outcome ≡ Unfinished) ↔ ((HasDead plan last → ⊥) × (HasMore plan inputs ⊎ HasOpen plan inputs))
