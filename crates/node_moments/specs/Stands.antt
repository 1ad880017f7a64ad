-- API: where a node and its bays stand: in turn past + 1 of a plan, after so many pieces of each port. No definition of
-- a part names two ports.
use Rattle.std.specs.Prelude.{◌≡◌, ◌<◌, ◌≤◌, ◌+◌, ◌*◌, ℕ, Bool, true, false, ◌==◌, None, Some, List, [], length, slice_get}
use Rattle.otn_base.specs.declared.kind.PortName.{PortName}
use Rattle.otn_base.specs.declared.kind.PortName.TheVariants as port
use Rattle.port_base.specs.Places.{place_at}
use Rattle.port_base.specs.Views.{InView, OutView, BaysView, line_in_at, line_out_at, client_in_at, client_out_at}
use Rattle.line_side.specs.LineForm.{size_of}
use Rattle.line_side.specs.LineOutput.{LineOutView, FramePut, LineMade}
use Rattle.line_side.specs.LineStands.{LineView, LineStands}
use Rattle.line_side.specs.MayBe.{MayBe}
use Rattle.plan_file.specs.Answer.{fault_in}
use Rattle.plan_file.specs.declared.connection.Connection.{Connection}
use Rattle.plan_file.specs.declared.connection.FromEnd.{FromEnd}
use Rattle.plan_file.specs.declared.connection.FromEnd.TheVariants as from_end
use Rattle.plan_file.specs.declared.plan.Plan.{Plan}
use Rattle.tributary_model.specs.Places.{Taken}
use Rattle.device_model.specs.Entries.{form_in, form_out, own_turn, IsActive}
use Rattle.device_model.specs.LineFiles.{AreFramesOf}
use Rattle.device_model.specs.Moments.{touches, uses, pieces_of, turns_done, is_retired}
use Rattle.device_model.specs.RetiredPlaces.{after_retire, out_after_retire}
use Rattle.device_model.specs.Through.{Inputs, of_client, own_input}
use Rattle.device_model.specs.TurnFrames.{frames_in}
use Rattle.cross_matrix.specs.Parts.{ClientInStands, ClientOutStands, MayShow}
use Rattle.cross_matrix.specs.Pipes.{PipeStands}
use Rattle.node_links.specs.Links.{IsLinkOf}
use Rattle.node_moments.specs.NodeView.{NodeView, HasLineIn, HasLineOut, HasLink, done_at, taken_pieces, given_pieces}
use Rattle.turn_pieces.specs.Pieces.{wanted_of}
use Rattle.node_links.specs.declared.link.Link.{Link}

-- the bytes that were taken of all inputs
pub record InputBytes : Type 0 where
  pub line : (a : ℕ) → List ℕ
  pub client : (n : ℕ) → List ℕ

-- What the inputs of a node, of which these bytes were taken, may turn out to be, each for itself. A client whose
-- connection has not started may turn out to be anything.
pub record MayGive (plan : Plan) (read : InputBytes) (node : NodeView) (inputs : Inputs) : Type 0 where
  pub lines : (a : ℕ) (line : LineView) → HasLineIn node a line → uses plan (port.LineIn a) ≡ true
      → MayBe (form_in plan a).scrambled line.reader.ending (read.line a) (inputs.line a)
  pub clients : (i n : ℕ) (x : Connection) (link : Link) → slice_get plan.connections i ≡ Some x → HasLink node i link
      → x.from ≡ from_end.Client n → x.start ≤ node.past + 1
      → MayShow link.pipe.taking (read.client n) (of_client (inputs.client n))

-- ---- the pieces of a line

-- what k pieces of a connection's own input took: the frames of a line, and whether a client's turn was taken
abbrev pub frames_by : Plan → Inputs → FromEnd → (past k : ℕ) → List Taken
frames_by plan inputs (from_end.Line a port slots) past k = frames_in (size_of (form_in plan a)) (inputs.line a) past k
frames_by plan inputs (from_end.Client n) past k = []
frames_by plan inputs (from_end.Signal signal) past k = []

abbrev pub ended_by : FromEnd → (k : ℕ) → Bool
ended_by (from_end.Line a port slots) k = false
ended_by (from_end.Client n) k = k == 1
ended_by (from_end.Signal signal) k = false

-- ---- the parts of a moment

-- the node is one of the plan, which is accepted, in turn past + 1
pub record PlanStands (plan : Plan) (node : NodeView) : Type 0 where
  pub accepted : fault_in plan ≡ None
  pub turns : node.turns ≡ plan.turns
  pub past : node.past ≤ node.turns
  pub wants : (name : PortName) → wanted_of node.pieces name ≡ pieces_of plan name
  pub most : (name : PortName) → done_at node name ≤ wanted_of node.pieces name
  pub over : node.turns ≤ node.past → (name : PortName) → done_at node name ≡ 0
  pub count : length node.links ≡ length plan.connections
  pub links : (i : ℕ) (x : Connection) (link : Link) → slice_get plan.connections i ≡ Some x → HasLink node i link
      → IsLinkOf x link

-- Each active connection stands where its own entry and its own input have it. So does each whose last turn is the last
-- that is done: all of its turns are done.
pub record PipesStand (plan : Plan) (read : InputBytes) (node : NodeView) : Type 0 where
  pub each : (inputs : Inputs) → MayGive plan read node inputs → (i : ℕ) (x : Connection) (link : Link)
      → slice_get plan.connections i ≡ Some x → HasLink node i link → IsActive x node.past
      → PipeStands x (own_input inputs x) (own_turn x node.past)
      (frames_by plan inputs x.from node.past (taken_pieces node x.from))
      (ended_by x.from (taken_pieces node x.from))
      (given_pieces node x.to) link.pipe
  pub last : (inputs : Inputs) → MayGive plan read node inputs → (i : ℕ) (x : Connection) (link : Link)
      → slice_get plan.connections i ≡ Some x → HasLink node i link
      → x.stop ≡ node.past → PipeStands x (own_input inputs x) (own_turn x node.past) [] false 0 link.pipe

-- ---- the ports

-- an input line that is used has given what its pieces want, and was asked nothing more
abbrev pub LineInAt : Plan → (first : BaysView) → InputBytes → NodeView → (now : BaysView) → (a : ℕ) → Type 0
LineInAt plan first read node now a = (line : LineView) → HasLineIn node a line → uses plan (port.LineIn a) ≡ true
    → LineStands (form_in plan a) (line_in_at first a) (line_in_at now a) (read.line a) node.past line
    × (line.pieces ≡ done_at node (port.LineIn a))

-- of an output line that is used the first so many frames were made, and those that do not wait were due to its place
abbrev pub LineOutAt : Plan → (first : BaysView) → InputBytes → NodeView → (now : BaysView) → (b : ℕ) → Type 0
LineOutAt plan first read node now b = (inputs : Inputs) → MayGive plan read node inputs → (line : LineOutView)
    → HasLineOut node b line → uses plan (port.LineOut b) ≡ true
    → (puts : List FramePut) × AreFramesOf plan inputs b
    (size_of (form_out plan b) * node.past + done_at node (port.LineOut b)) puts
    × LineMade b (form_out plan b) (line_out_at first b) (line_out_at now b) puts line

-- The place of a client, input or output, as its part of a connection has it by the turns that are done; it was emptied
-- where the connection says so.
pub record ClientAt {P : Type 0} (empties : Bool → P → P) (Part : P → ℕ → Type 0) (now : P) (x : Connection)
    (past pieces : ℕ) : Type 0 where
  pub was : P
  pub stands : Part was (turns_done x past pieces)
  pub place : now ≡ empties (is_retired x past) was

-- of the connection at a client's port: as above once it has started; until then the place is as it was first, and
-- nothing was taken of it
pub record ClientStands {P : Type 0} (plan : Plan) (node : NodeView) (name : PortName) (first now : P)
    (empties : Bool → P → P) (Part : Connection → Link → P → ℕ → Type 0) (read : List ℕ) : Type 0 where
  pub started : (i : ℕ) (x : Connection) (link : Link) → slice_get plan.connections i ≡ Some x → HasLink node i link
      → touches name x ≡ true → x.start ≤ node.past + 1
      → ClientAt empties (Part x link) now x node.past (done_at node name)
  pub waits : (i : ℕ) (x : Connection) → slice_get plan.connections i ≡ Some x → touches name x ≡ true
      → node.past + 1 < x.start
      → (now ≡ first) × (read ≡ [])

-- a client input has given what so many turns want
abbrev pub GivesText : (first : BaysView) → InputBytes → (n : ℕ) → Connection → Link → InView → ℕ → Type 0
GivesText first read n x link was k = ClientInStands x (client_in_at first n) was (read.client n) k link.pipe.taking

-- what arrived at a client output in so many turns was due to its place as text, whatever the inputs may turn out to be
abbrev pub GetsText : Plan → (first : BaysView) → InputBytes → NodeView → (n : ℕ) → Connection → Link → OutView → ℕ
    → Type 0
GetsText plan first read node n x link was k = (inputs : Inputs) → MayGive plan read node inputs
    → ClientOutStands x (own_input inputs x) (client_out_at first n) was k link.pipe.giving

-- a port of each kind
abbrev pub PortStands : Plan → (first : BaysView) → InputBytes → NodeView → (now : BaysView) → PortName → Type 0
PortStands plan first read node now (port.LineIn a) = LineInAt plan first read node now a
PortStands plan first read node now (port.LineOut b) = LineOutAt plan first read node now b
PortStands plan first read node now (port.ClientIn n) = ClientStands plan node (port.ClientIn n) (client_in_at first n)
    (client_in_at now n) after_retire (GivesText first read n) (read.client n)
PortStands plan first read node now (port.ClientOut n) = ClientStands plan node (port.ClientOut n)
    (client_out_at first n) (client_out_at now n) out_after_retire (GetsText plan first read node n) []

-- The node and its bays stand at a moment of the plan: in turn node.past + 1, after so many pieces of each port. The
-- bays were first so, and these bytes were taken of the inputs since. The place of a port that is not used is as it was
-- first.
pub record StandsAt (plan : Plan) (first : BaysView) (read : InputBytes) (node : NodeView)
    (now : BaysView) : Type 0 where
  pub plan_stands : PlanStands plan node
  pub pipes : PipesStand plan read node
  pub ports : (name : PortName) → PortStands plan first read node now name
  pub idle : (name : PortName) → uses plan name ≡ false → place_at now name ≡ place_at first name

-- From a moment on to one of the same plan, of whose inputs `more` are all bytes taken by then; which moment, the other
-- clauses say: what the inputs may turn out to be from then on they might be before.
pub record Later (plan : Plan) (first : BaysView) (read : InputBytes) (old new : NodeView)
    (now : BaysView) : Type 0 where
  pub more : InputBytes
  pub stands : StandsAt plan first more new now
  pub earlier : (inputs : Inputs) → MayGive plan more new inputs → MayGive plan read old inputs

-- nothing was taken
abbrev pub no_bytes : InputBytes
no_bytes = record { line = λ a. []; client = λ n. [] }
