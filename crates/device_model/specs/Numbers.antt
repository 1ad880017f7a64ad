-- Believed: the numbers of a run, by its plan, what its inputs gave, and what went to its outputs.
use Rattle.std.specs.Prelude.{◌≡◌, ◌-◌, ◌*◌, ◌==◌, ℕ, true, ◌&&◌, if◌then◌else◌, nat_le, nat_lt, List, length, filter, Option, Some, None, option_map, slice_get}
use Rattle.std.specs.List.{Contains}
use Rattle.otn_base.specs.declared.kind.PortName.TheVariants as port
use Rattle.port_base.specs.Views.{State, Empty, Dead, BaysView}
use Rattle.line_side.specs.LineFile.{mfas_of}
use Rattle.line_side.specs.LineForm.{LineForm, size_of}
use Rattle.line_side.specs.LineNumbers.{numbers_of}
use Rattle.line_side.specs.LineOutput.{counted_frames}
use Rattle.otn_base.specs.Counts.{saturated}
use Rattle.line_side.specs.declared.ending.Ending.{Ending}
use Rattle.line_side.specs.declared.ending.Ending.TheVariants.{Open, Seen, Died}
use Rattle.multiframe.specs.LineTurns.{wanted}
use Rattle.odu_client.specs.ClientInput.{ClientInput, packets_begun, is_spent, bad_line}
use Rattle.odu_client.specs.ClientOutput.{arriving_packets, arriving_frames}
use Rattle.plan_file.specs.declared.connection.Connection.{Connection}
use Rattle.plan_file.specs.declared.connection.FromEnd.TheVariants as from_end
use Rattle.plan_file.specs.declared.connection.ToEnd.TheVariants as to_end
use Rattle.plan_file.specs.declared.plan.Plan.{Plan}
use Rattle.device_model.specs.Entries.{first_turn, form_in, form_out}
use Rattle.device_model.specs.LineFiles.{IsLineFile}
use Rattle.device_model.specs.Moments.{uses, turns_done}
use Rattle.device_model.specs.Outcomes.{place_state, emitted_in_all, IsOutcome}
use Rattle.device_model.specs.Report.{Numbers, ClientInNumbers, ClientOutNumbers}
use Rattle.device_model.specs.Through.{Inputs, OwnInput, own_input, arrived_by, state_in}
use Rattle.device_model.specs.declared.outcome.FromState.{FromState}

-- ---- of a line

-- How a line of this form that had these bytes available stands with its place after the turns 1 to `turns`: the place
-- is dead; or its end was seen, where the turns wanted a frame that is not whole; or neither.
abbrev pub ending_of : State → (whole wanted : ℕ) → Ending
ending_of Dead whole wanted = Died
ending_of other whole wanted = if nat_lt whole wanted then Seen else Open

abbrev pub line_ending : State → LineForm → (available : List ℕ) → (turns : ℕ) → Ending
line_ending state form available turns = ending_of state (length (mfas_of available))
    (wanted (size_of form) (mfas_of available) turns)

-- ---- of a client

-- how many lines of a text end in a line feed; how many delivered packets count: on an empty place all, else so many
abbrev pub whole_lines : (text : List ℕ) → ℕ
whole_lines text = length (filter (λ byte. byte == 10) text)

abbrev pub counted_packets : State → (packets : List (List ℕ)) → (written : List ℕ) → ℕ
counted_packets Empty packets written = length packets
counted_packets other packets written = whole_lines written

-- of the client input of a connection, when so many bytes of its stream are emitted, and when all its turns are done
abbrev pub client_numbers_by : Connection → ClientInput → (emitted : ℕ) → ClientInNumbers
client_numbers_by x input emitted = record {
  packets = saturated (packets_begun input.packets x.fcs emitted);
  spent = is_spent input x.fcs emitted;
  bad = option_map saturated (bad_line input x.fcs emitted);
}

abbrev pub client_numbers : Connection → ClientInput → ClientInNumbers
client_numbers x input = client_numbers_by x input (emitted_in_all x)

-- of its client output, to which this text was written; a place that was so at first
abbrev pub output_numbers : State → (arrived written : List ℕ) → ClientOutNumbers
output_numbers first arrived written = record {
  frames = saturated (arriving_frames arrived);
  packets = saturated (counted_packets first (arriving_packets arrived) written);
}

-- ---- of a connection

-- what its from end was after turn `past` of the plan; nothing where the connection was not active in that
abbrev pub state_after_turn : (past : ℕ) → Connection → OwnInput → Option FromState
state_after_turn past x input = if nat_le x.start past && nat_le past x.stop
    then Some (state_in x input (past - first_turn x)) else None

-- what it was after the last turn of the plan
abbrev pub last_state : (turns : ℕ) → Connection → OwnInput → Option FromState
last_state turns x input = if x.stop == turns then Some (state_in x input (turns - first_turn x)) else None

-- ---- of all

-- the bytes written to the output lines and to the client outputs
pub record OutputBytes : Type 0 where
  pub line : (b : ℕ) → List ℕ
  pub client : (n : ℕ) → List ℕ

-- The numbers of a run whose places were first and last so, whose inputs gave these, and to whose outputs this went.
pub record AreNumbers (plan : Plan) (inputs : Inputs) (written : OutputBytes) (first last : BaysView)
    (numbers : Numbers) : Type 0 where
  pub line_in : (a : ℕ) → uses plan (port.LineIn a) ≡ true
      → numbers.line_in a ≡ numbers_of (form_in plan a) (line_ending (place_state last (port.LineIn a))
      (form_in plan a) (inputs.line a) plan.turns) (inputs.line a) plan.turns 0
  pub line_out : (b : ℕ) (frames : List (List ℕ)) → uses plan (port.LineOut b) ≡ true
      → IsLineFile plan inputs b (size_of (form_out plan b) * plan.turns) frames
      → numbers.line_out b ≡ saturated (counted_frames (place_state first (port.LineOut b)) frames (written.line b))
  pub client_in : (x : Connection) (n : ℕ) → Contains plan.connections x → x.from ≡ from_end.Client n
      → numbers.client_in n ≡ client_numbers x (inputs.client n)
  pub client_out : (x : Connection) (n : ℕ) → Contains plan.connections x → x.to ≡ to_end.Client n
      → numbers.client_out n ≡ output_numbers (place_state first (port.ClientOut n))
      (arrived_by x (own_input inputs x) (turns_done x plan.turns 0)) (written.client n)
  pub from : (i : ℕ) (x : Connection) → slice_get plan.connections i ≡ Some x
      → numbers.from i ≡ last_state plan.turns x (own_input inputs x)
  pub outcome : IsOutcome plan inputs last numbers.outcome
