-- Believed: what a connection carries from its own input to the line that it goes to: the laws of a node.
use Rattle.std.specs.Prelude.{◌≡◌, ℕ, ◌+◌, ◌*◌, ◌<◌, ◌≤◌, List, ◌∷◌, Some, length, map, slice_get}
use Rattle.std.specs.List.{concat, Contains, range_with_len}
use Rattle.otn_base.specs.LineSlots.{LineSlots}
use Rattle.otn_base.specs.declared.limits.TheConstants.{GROUPS}
use Rattle.line_side.specs.LineForm.{size_of}
use Rattle.maintenance_signals.specs.Stream.{signal_bytes}
use Rattle.maintenance_signals.specs.declared.signal.Signal.{Signal}
use Rattle.odu_client.specs.ClientFrames.{client_stream}
use Rattle.odu_client.specs.ClientInput.{pace_of, emitted_before}
use Rattle.plan_file.specs.declared.connection.Connection.{Connection}
use Rattle.plan_file.specs.declared.connection.FromEnd.TheVariants as from_end
use Rattle.plan_file.specs.declared.connection.ToEnd.TheVariants as to_end
use Rattle.plan_file.specs.declared.plan.Plan.{Plan}
use Rattle.tributary_model.specs.Carriage.{Arrives}
use Rattle.tributary_model.specs.Places.{tributary_of}
use Rattle.device_model.specs.Entries.{first_turn, form_out}
use Rattle.device_model.specs.LineFiles.{IsLineFile}
use Rattle.device_model.specs.LineViews.{view_at}
use Rattle.device_model.specs.Made.{IsLineEnd}
use Rattle.device_model.specs.Through.{Inputs, own_input, arrived_by}

-- The connection goes to these slots of line b, with this tributary port.
pub record GoesTo (plan : Plan) (x : Connection) (b port : ℕ) (slots : LineSlots) : Type 0 where
  pub is_of : Contains plan.connections x
  pub to : x.to ≡ to_end.Line b port slots
  pub start : 1 ≤ x.start
  pub end : IsLineEnd plan b port slots

-- These are frames of the file of line b, among them all of the turns up to turn u + 1, to the last of which the
-- connection is active.
pub record IsMadeTo (plan : Plan) (inputs : Inputs) (x : Connection) (b u : ℕ) (frames : List (List ℕ)) : Type 0 where
  pub count : ℕ
  pub file : IsLineFile plan inputs b count frames
  pub enough : size_of (form_out plan b) * (u + 1) ≤ count
  pub active : u < x.stop

-- ---- from a line

-- Where the views of a connection's own tributary carry bytes from its first turn on, the file of the line that it goes
-- to carries them too, in the same turns, by the same numbers three turns later.
abbrev pub CarriesOn : Type 0
CarriesOn = (plan : Plan) (inputs : Inputs) (x : Connection) (a from b port u w : ℕ) (slots others : LineSlots)
    (frames : List (List ℕ)) (bytes p : List ℕ)
    → x.from ≡ from_end.Line a from slots → GoesTo plan x b port others → length others.list ≡ length slots.list
    → IsMadeTo plan inputs x b w frames → w ≤ u
    → Arrives (tributary_of slots from) bytes p (view_at (tributary_of slots from) (inputs.line a)) (first_turn x)
    (first_turn x) (first_turn x) u
    → Arrives (tributary_of others port) bytes (0 ∷ 0 ∷ 0 ∷ p) (view_at (tributary_of others port) (concat frames))
    (first_turn x) (first_turn x) (first_turn x) w

-- ---- from a client or a signal

-- It has some paces, each of a byte at least for each of m slots, and of a byte at most for each group of a slot.
pub record HasPaces (m : ℕ) (paces : List ℕ) : Type 0 where
  pub some : 1 ≤ length paces
  pub least : (i pace : ℕ) → slice_get paces i ≡ Some pace → m ≤ pace
  pub most : (i pace : ℕ) → slice_get paces i ≡ Some pace → pace ≤ m * GROUPS

-- how many bytes it gets in the first n + 1 of its turns: none in the first, then in each as many as the pace of the
-- turn before
abbrev pub numbers_got : (paces : List ℕ) → (n : ℕ) → List ℕ
numbers_got paces n = 0 ∷ map (pace_of paces) (range_with_len 0 n)

-- The file carries what the connection gets in the first n + 1 of its turns, up to the last of these.
abbrev pub CarriesWhatItGets : Connection → Type 0
CarriesWhatItGets x = (plan : Plan) (inputs : Inputs) (b port u n : ℕ) (slots : LineSlots) (frames : List (List ℕ))
    → GoesTo plan x b port slots → HasPaces (length slots.list) x.pace → IsMadeTo plan inputs x b u frames
    → u ≤ first_turn x + n
    → Arrives (tributary_of slots port) (arrived_by x (own_input inputs x) (n + 1)) (numbers_got x.pace n)
    (view_at (tributary_of slots port) (concat frames)) (first_turn x) (first_turn x) (first_turn x) u

-- so it is of a connection from a client
abbrev pub CarriesAClient : Type 0
CarriesAClient = (x : Connection) (client : ℕ) → x.from ≡ from_end.Client client → CarriesWhatItGets x

-- so it is of a connection from a maintenance signal
abbrev pub CarriesASignal : Type 0
CarriesASignal = (x : Connection) (signal : Signal) → x.from ≡ from_end.Signal signal → CarriesWhatItGets x

-- What a connection from a client gets is the front of the client's stream, as long as the paces of the first n turns
-- say.
abbrev pub GetsTheStream : Type 0
GetsTheStream = (x : Connection) (inputs : Inputs) (client n : ℕ) → x.from ≡ from_end.Client client
    → arrived_by x (own_input inputs x) (n + 1)
    ≡ client_stream x.trace (inputs.client client).packets x.fcs (emitted_before x.pace n)

-- What a connection from a maintenance signal gets is the front of the signal's stream, as long.
abbrev pub GetsTheSignal : Type 0
GetsTheSignal = (x : Connection) (inputs : Inputs) (signal : Signal) (n : ℕ) → x.from ≡ from_end.Signal signal
    → arrived_by x (own_input inputs x) (n + 1) ≡ signal_bytes signal 0 (emitted_before x.pace n)
