-- Believed: what leaves on a connection: one function of its plan entry and of what its own input shows. A connection's
-- own turns are counted from 0.
use Rattle.std.specs.Prelude.{ℕ, zero, suc, ◌+◌, List, [], ◌∷◌, ◌++◌, Option}
use Rattle.std.specs.List.{concat}
use Rattle.maintenance_signals.specs.Stream.{signal_byte, signal_bytes}
use Rattle.maintenance_signals.specs.declared.signal.Signal.{Signal}
use Rattle.maintenance_signals.specs.declared.signal.Signal.TheVariants.{Ais}
use Rattle.odu_client.specs.ClientInput.{ClientInput, input_emits, emitted_before, pace_of}
use Rattle.odu_client.specs.ClientOutput.{arriving_packets, arriving_text, arriving_frames}
use Rattle.plan_file.specs.declared.connection.Connection.{Connection}
use Rattle.plan_file.specs.declared.connection.FromEnd.{FromEnd}
use Rattle.plan_file.specs.declared.connection.FromEnd.TheVariants as from_end
use Rattle.tributary_model.specs.Carries.{past_of}
use Rattle.tributary_model.specs.Emission.{emission}
use Rattle.tributary_model.specs.Places.{Tributary, tributary_of, View}
use Rattle.tributary_model.specs.Stretches.{state_after}
use Rattle.tributary_model.specs.declared.turns.SinkState.{SinkState}
use Rattle.tributary_model.specs.declared.turns.SinkState.TheVariants as sink
use Rattle.device_model.specs.Entries.{first_turn}
use Rattle.device_model.specs.LineViews.{view_at}
use Rattle.device_model.specs.declared.outcome.FromState.{FromState}
use Rattle.device_model.specs.declared.outcome.FromState.TheVariants as from

-- What a connection's own input shows: of a line, what each turn of the plan, from 0, shows of the tributary; of a
-- client, its packets and how they end; of a signal, nothing.
pub data OwnInput : Type 0 where
  of_line : (shows : ℕ → Option View) → OwnInput
  of_client : ClientInput → OwnInput
  of_signal : OwnInput

-- the bytes of all input lines, through their masks, and the packets of all client inputs
pub record Inputs : Type 0 where
  pub line : (a : ℕ) → List ℕ
  pub client : (n : ℕ) → ClientInput

-- what of these is a from end's own, and a connection's
abbrev pub own_of : Inputs → FromEnd → OwnInput
own_of inputs (from_end.Line a port slots) = of_line (view_at (tributary_of slots port) (inputs.line a))
own_of inputs (from_end.Client n) = of_client (inputs.client n)
own_of inputs (from_end.Signal signal) = of_signal

abbrev pub own_input : Inputs → Connection → OwnInput
own_input inputs x = own_of inputs x.from

-- ---- what its from end emits

-- what a from end emits in own turn j: the emission of a sink; the next bytes of a client's stream, or of a signal's,
-- as many as the turn's pace; a line or a client nothing of an input of another sort
abbrev pub emits_by : FromEnd → Connection → OwnInput → (j : ℕ) → List ℕ
emits_by (from_end.Line a port slots) x (of_line shows) j =
    emission (tributary_of slots port) (signal_byte Ais) (past_of shows (first_turn x) j) (shows (first_turn x + j))
emits_by (from_end.Client n) x (of_client input) j = input_emits x.trace x.fcs x.pace input j
emits_by (from_end.Signal signal) x input j = signal_bytes signal (emitted_before x.pace j) (pace_of x.pace j)
emits_by other x input j = []

unfoldable pub emits : Connection → OwnInput → (j : ℕ) → List ℕ
emits x input j = emits_by x.from x input j

-- ---- what its to end gets

-- in own turn j: nothing in the first one, then what was emitted in the turn before; in the first n, turn by turn
abbrev pub got_in : Connection → OwnInput → (j : ℕ) → List ℕ
got_in x input zero = []
got_in x input (suc j) = emits x input j

unfoldable pub got_by : Connection → OwnInput → (n : ℕ) → List (List ℕ)
got_by x input zero = []
got_by x input (suc n) = got_by x input n ++ got_in x input n ∷ []

-- ---- what leaves to a client

-- the bytes that arrive at it in the first n turns, and the text of the packets that they deliver
abbrev pub arrived_by : Connection → OwnInput → (n : ℕ) → List ℕ
arrived_by x input n = concat (got_by x input n)

abbrev pub text_by : Connection → OwnInput → (n : ℕ) → List ℕ
text_by x input n = arriving_text (arrived_by x input n)

-- ---- how it stands

-- what a from end is after n own turns: at a line by how its sink stands
abbrev pub sink_state : SinkState → FromState
sink_state sink.Waiting = from.Waiting
sink_state sink.Up = from.Up
sink_state sink.Down = from.Down

abbrev pub state_by : FromEnd → Connection → OwnInput → (n : ℕ) → FromState
state_by (from_end.Line a port slots) x (of_line shows) n = sink_state
    (state_after (tributary_of slots port) (past_of shows (first_turn x) n))
state_by (from_end.Line a port slots) x input n = from.Waiting
state_by (from_end.Client m) x input n = from.Client
state_by (from_end.Signal signal) x input n = from.Signal

abbrev pub state_in : Connection → OwnInput → (n : ℕ) → FromState
state_in x input n = state_by x.from x input n
