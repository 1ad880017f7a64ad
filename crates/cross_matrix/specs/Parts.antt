-- API: the parts of a connection: the one that takes from its input, and the one that gives to its output.
use Rattle.std.specs.Prelude.{◌≡◌, ◌≢◌, ⊤, ℕ, suc, Bool, true, false, if◌then◌else◌, List, [], ◌∷◌, ◌++◌, length, IsSome}
use Rattle.maintenance_signals.specs.Emitted.{HasEmitted}
use Rattle.odu_client.specs.ClientInput.{ClientInput, input_of, emitted_before}
use Rattle.odu_client.specs.Framing.{ClientStands, MayDie}
use Rattle.port_base.specs.Views.{InView, OutView}
use Rattle.packet_text.specs.LinesStand.{LinesView, lines_view, MayBe}
use Rattle.packet_text.specs.declared.line.Line.TheVariants.{Packet}
use Rattle.plan_file.specs.declared.connection.Connection.{Connection}
use Rattle.plan_file.specs.declared.connection.FromEnd.{FromEnd}
use Rattle.plan_file.specs.declared.connection.FromEnd.TheVariants as from_end
use Rattle.plan_file.specs.declared.connection.ToEnd.{ToEnd}
use Rattle.plan_file.specs.declared.connection.ToEnd.TheVariants as to_end
use Rattle.trib_sink.specs.Sink.{Sink, StandsAfter as SinkStands}
use Rattle.trib_source.specs.Source.{Source, StandsAfter as SourceStands}
use Rattle.tributary_model.specs.Carries.{past_of}
use Rattle.tributary_model.specs.Places.{Taken, tributary_of}
use Rattle.device_model.specs.Entries.{first_turn}
use Rattle.device_model.specs.Through.{OwnInput, of_line, of_client, of_signal, got_by, arrived_by}
use Rattle.cross_matrix.specs.Receiving.{ReceiverView, ReceiverStands}
use Rattle.cross_matrix.specs.declared.taking.ClientText.{ClientText}
use Rattle.cross_matrix.specs.declared.taking.TakingPart.{TakingPart}
use Rattle.cross_matrix.specs.declared.taking.TakingPart.TheVariants as taking
use Rattle.cross_matrix.specs.declared.giving.GivingPart.{GivingPart}
use Rattle.cross_matrix.specs.declared.giving.GivingPart.TheVariants as giving

-- ---- what is fixed of the parts

-- the part takes what comes from this end of the connection
abbrev pub TakesFrom : FromEnd → Connection → TakingPart → Type 0
TakesFrom (from_end.Line a port slots) x (taking.Line sink) = (sink.slots ≡ slots) × (sink.port ≡ port)
TakesFrom (from_end.Client n) x (taking.Client client) = (client.trace ≡ x.trace) × (client.fcs ≡ x.fcs)
TakesFrom (from_end.Signal signal) x (taking.Signal stream) = (emitted : ℕ) × HasEmitted signal emitted stream
TakesFrom from x other = ⊥

-- the part gives what goes to this end
abbrev pub GivesTo : ToEnd → GivingPart → Type 0
GivesTo (to_end.Line b port slots) (giving.Line source) = source.slots ≡ slots
GivesTo (to_end.Client n) (giving.Client receiver) = ⊤
GivesTo to other = ⊥

-- ---- what is counted in a turn

-- how many frames of the turn were taken of a line
abbrev pub frames_taken : TakingPart → ℕ
frames_taken (taking.Line sink) = sink.taken
frames_taken (taking.Client client) = 0
frames_taken (taking.Signal stream) = 0

-- how many frames of the turn were filled for a line
abbrev pub frames_filled : GivingPart → ℕ
frames_filled (giving.Line source) = source.filled
frames_filled (giving.Client receiver) = 0

-- the part takes from a line, and this holds of its sink
abbrev pub OnSink : TakingPart → (Sink → Type 0) → Type 0
OnSink (taking.Line sink) Holds = Holds sink
OnSink (taking.Client client) Holds = ⊥
OnSink (taking.Signal stream) Holds = ⊥

-- the part gives to a line, and this holds of its source
abbrev pub OnSource : GivingPart → (Source → Type 0) → Type 0
OnSource (giving.Line source) Holds = Holds source
OnSource (giving.Client receiver) Holds = ⊥

-- the part gives to a client, and this holds of its receiver
abbrev pub OnReceiver : GivingPart → (ReceiverView → Type 0) → Type 0
OnReceiver (giving.Client receiver) Holds = Holds receiver
OnReceiver (giving.Line source) Holds = ⊥

-- the part takes from a client
abbrev pub IsOfClient : TakingPart → Type 0
IsOfClient (taking.Line sink) = ⊥
IsOfClient (taking.Client client) = ⊤
IsOfClient (taking.Signal stream) = ⊥

-- the part gives to a client
abbrev pub IsToClient : GivingPart → Type 0
IsToClient (giving.Line source) = ⊥
IsToClient (giving.Client receiver) = ⊤

-- no packet is left of a client's text: its end was seen, a bad line, or that its place died
abbrev pub IsTextOver : TakingPart → Type 0
IsTextOver (taking.Line sink) = ⊥
IsTextOver (taking.Client client) = client.framer.stream.answer ≢ Packet
IsTextOver (taking.Signal stream) = ⊥

-- ---- where the parts stand

-- how many of its own turns a connection has taken in own turn j, whose own part has ended or not
abbrev pub turns_taken : (j : ℕ) → (ended : Bool) → ℕ
turns_taken j ended = if ended then suc j else j

-- How far the taking part of a pipe is: the entry of its connection, what its own input shows, which own turn it is in,
-- from 0, the frames of a line that were taken in it, and whether its own part of the turn has ended.
pub record Progress : Type 0 where
  pub entry : Connection
  pub input : OwnInput
  pub turn : ℕ
  pub frames : List Taken
  pub ended : Bool

-- one frame more of the line; its turn has ended; or the next own turn
abbrev pub and_frame : Taken → Progress → Progress
and_frame frame at = record at { frames = at.frames ++ frame ∷ [] }

abbrev pub line_over : Progress → Progress
line_over at = record at { frames = []; ended = true }

abbrev pub next_turn : Progress → Progress
next_turn at = record at { turn = suc at.turn; frames = []; ended = false }

-- The taking part in own turn j, of which these frames of a line were taken: what it has of a client's text is told
-- with its place.
abbrev pub TakingStands : FromEnd → Connection → OwnInput → (j : ℕ) → (frames : List Taken) → (ended : Bool)
    → TakingPart → Type 0
TakingStands (from_end.Line a port slots) x (of_line shows) j frames ended (taking.Line sink) =
    SinkStands (tributary_of slots port) (past_of shows (first_turn x) (turns_taken j ended)) frames sink
TakingStands (from_end.Client n) x (of_client input) j frames ended (taking.Client client) = ⊤
TakingStands (from_end.Signal signal) x of_signal j frames ended (taking.Signal stream) = HasEmitted signal
    (emitted_before x.pace j) stream
TakingStands from x input j frames ended other = ⊥

-- the giving part in own turn j, in which so many frames of a line were filled: what it has given to a client is told
-- with its place
abbrev pub GivingStands : ToEnd → Connection → OwnInput → (j filled : ℕ) → GivingPart → Type 0
GivingStands (to_end.Line b port slots) x input j filled (giving.Line source) = SourceStands (tributary_of slots port)
    (got_by x input (suc j)) filled source
GivingStands (to_end.Client n) x input j filled (giving.Client receiver) = ⊤
GivingStands to x input j filled other = ⊥

-- ---- with the place of a client

-- A client's text, of which these bytes were read between two views of its place, has emitted what the first n own
-- turns ask.
pub record TextStands (x : Connection) (first now : InView) (read : List ℕ) (n : ℕ)
    (client : ClientText) : Type 0 where
  pub emitted : List ℕ
  pub count : length emitted ≡ emitted_before x.pace n
  pub stands : ClientStands first now read emitted (lines_view client.lines) client.framer
  pub sapi : client.framer.sapi ≡ x.trace
  pub fcs : client.framer.stream.fcs ≡ x.fcs

-- the same of the part that takes from a client
abbrev pub ClientInStands : Connection → (first now : InView) → (read : List ℕ) → (n : ℕ) → TakingPart → Type 0
ClientInStands x first now read n (taking.Client client) = TextStands x first now read n client
ClientInStands x first now read n (taking.Line sink) = ⊥
ClientInStands x first now read n (taking.Signal stream) = ⊥

-- the packets of a client, and how they end, that lines of which these bytes were read may turn out to tell
pub record MayTell (lines : LinesView) (read : List ℕ) (input : ClientInput) : Type 0 where
  pub died : Bool
  pub text : List ℕ
  pub may : MayBe lines read text
  pub die : MayDie lines.answer died
  pub is : input ≡ input_of died text

-- what a connection's own input may turn out to show, where these bytes were read of a client
abbrev pub MayShow : TakingPart → (read : List ℕ) → OwnInput → Type 0
MayShow (taking.Line sink) read (of_line shows) = ⊤
MayShow (taking.Client client) read (of_client input) = MayTell (lines_view client.lines) read input
MayShow (taking.Signal stream) read of_signal = ⊤
MayShow other read input = ⊥

-- What holds of a part that takes from a client, wherever it stands: of the entry, of each input that the client may
-- turn out to be, and of how many own turns were taken.
abbrev pub OfItsClient : TakingPart → ((x : Connection) → (input : ClientInput) → (n : ℕ) → Type 0) → Type 0
OfItsClient part Holds = (x : Connection) (first now : InView) (read : List ℕ) (n : ℕ) (input : ClientInput)
    → ClientInStands x first now read n part → MayShow part read (of_client input) → Holds x input n

-- what the first n own turns gave has arrived at a client, and its text was due to the place
abbrev pub ClientOutStands : Connection → OwnInput → (first now : OutView) → (n : ℕ) → GivingPart → Type 0
ClientOutStands x input first now n part = OnReceiver part (ReceiverStands first now (arrived_by x input n))

-- an input of the kind of this end
abbrev pub IsInputOf : FromEnd → OwnInput → Type 0
IsInputOf (from_end.Line a port slots) (of_line shows) = ⊤
IsInputOf (from_end.Client n) (of_client input) = ⊤
IsInputOf (from_end.Signal signal) of_signal = ⊤
IsInputOf from other = ⊥

-- its own part of the turn is over: a line or a client was taken; a signal needs nothing
abbrev pub IsOver : FromEnd → (ended : Bool) → Type 0
IsOver (from_end.Line a port slots) ended = ended ≡ true
IsOver (from_end.Client n) ended = ended ≡ true
IsOver (from_end.Signal signal) ended = ended ≡ false

-- the numbers of the receiver: whole frames, and packets
abbrev pub IsReceived : GivingPart → (numbers : ℕ × ℕ) → Type 0
IsReceived part numbers = OnReceiver part (λ receiver. numbers ≡ (receiver.frames, receiver.packets))

-- a line's sink has as many slots as the pipe
abbrev pub HasSlots : (m : ℕ) → TakingPart → Type 0
HasSlots m (taking.Line sink) = length sink.slots.list ≡ m
HasSlots m (taking.Client client) = ⊤
HasSlots m (taking.Signal stream) = ⊤

-- a line's source has as many slots as the pipe
abbrev pub GivesSlots : (m : ℕ) → GivingPart → Type 0
GivesSlots m (giving.Line source) = length source.slots.list ≡ m
GivesSlots m (giving.Client receiver) = ⊤

-- a line's source has begun a turn
abbrev pub IsBegun : GivingPart → Type 0
IsBegun (giving.Line source) = IsSome source.said
IsBegun (giving.Client receiver) = ⊤
