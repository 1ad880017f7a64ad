-- API: how a node that is past its last turn is settled.
use Rattle.std.specs.Prelude.{◌≡◌, ◌≤◌, ℕ, true, false, slice_get, Some, Option}
use Rattle.std.specs.List.{Contains}
use Rattle.otn_base.specs.declared.kind.PortName.{PortName}
use Rattle.otn_base.specs.declared.kind.PortName.TheVariants as port
use Rattle.otn_base.specs.declared.limits.TheConstants.{LINES}
use Rattle.port_base.specs.Views.{BaysView, line_in_at, client_in_at}
use Rattle.line_side.specs.LineNumbers.{numbers_of}
use Rattle.line_side.specs.LineOutput.{LineOutView}
use Rattle.line_side.specs.LineStands.{LineView}
use Rattle.line_side.specs.declared.counts.LineCounts.{LineCounts}
use Rattle.plan_file.specs.declared.connection.Connection.{Connection}
use Rattle.plan_file.specs.declared.connection.FromEnd.TheVariants as from_end
use Rattle.plan_file.specs.declared.connection.ToEnd.TheVariants as to_end
use Rattle.plan_file.specs.declared.plan.Plan.{Plan}
use Rattle.cross_matrix.specs.Parts.{IsReceived}
use Rattle.device_model.specs.Entries.{form_in}
use Rattle.device_model.specs.Moments.{uses, emitted_by}
use Rattle.device_model.specs.Numbers.{client_numbers_by, state_after_turn}
use Rattle.device_model.specs.Outcomes.{IsOutcome}
use Rattle.device_model.specs.Report.{Numbers, ClientInNumbers, ClientOutNumbers}
use Rattle.device_model.specs.Through.{Inputs, own_input}
use Rattle.device_model.specs.declared.outcome.FromState.{FromState}
use Rattle.device_model.specs.declared.outcome.Outcome.{Outcome}
use Rattle.node_moments.specs.NodeView.{NodeView, HasLineIn, HasLineOut, HasLink, done_at}
use Rattle.device_model.specs.LineAsked.{InputLeft}
use Rattle.device_model.specs.RunLeft.{Takings, MayBeInputs, ClientInLeft, SamePlace, TookOf, TookOfText}
use Rattle.node_core.specs.Asking.{LinesAsked}
use Rattle.node_moments.specs.Stands.{InputBytes, MayGive, StandsAt}
use Rattle.node_links.specs.declared.link.Link.{Link}

-- ---- settling

-- where the inputs are these: how much was taken of the lines and of the texts, and the outcome; what went to the
-- outputs `RunOf` says
pub record SettledOf (plan : Plan) (first last : BaysView) (takings : Takings) (read : InputBytes) (node : NodeView)
    (outcome : Outcome) (inputs : Inputs) : Type 0 where
  pub may : MayGive plan read node inputs
  pub took : (a : ℕ) → uses plan (port.LineIn a) ≡ true → TookOf plan inputs takings a
  pub text : (x : Connection) (n : ℕ) → Contains plan.connections x → x.from ≡ from_end.Client n
      → TookOfText x (inputs.client n) (takings.client n)
  pub outcome_is : IsOutcome plan inputs last outcome

-- A node past its last turn, of whose inputs these bytes were taken, was settled: what was taken of its inputs in all,
-- how their places are, and how the run ended. Which places were asked `LinesAsked` says.
pub record Settled (plan : Plan) (first : BaysView) (read : InputBytes) (node : NodeView) (last : BaysView)
    (outcome : Outcome) : Type 0 where
  pub takings : Takings
  pub line_in : (a : ℕ) → uses plan (port.LineIn a) ≡ true
      → InputLeft (line_in_at first a) (line_in_at last a) (takings.line a) (takings.line_more a)
  pub client_in : (x : Connection) (n : ℕ) → Contains plan.connections x → x.from ≡ from_end.Client n
      → ClientInLeft x.retire (client_in_at first n) (client_in_at last n) (takings.client n) (takings.client_more n)
  pub idle : (name : PortName) → uses plan name ≡ false → SamePlace name first last
  pub of_inputs : (inputs : Inputs) → MayBeInputs plan first last takings inputs
      → SettledOf plan first last takings read node outcome inputs

-- a node past its last turn, which stood so, was settled with this outcome, and left the bays so
pub record WasSettled (plan : Plan) (first last : BaysView) (node : NodeView) (outcome : Outcome) : Type 0 where
  pub was : BaysView
  pub read : InputBytes
  pub stands : StandsAt plan first read node was
  pub over : node.turns ≤ node.past
  pub settled : Settled plan first read node last outcome
  pub asked : LinesAsked LINES node.pieces node.lines_in was last

-- ---- what a node is asked at the end

-- these are the counts of input line a, at whatever moment the node stands
abbrev pub IsLineCounts : NodeView → (a : ℕ) → LineCounts → Type 0
IsLineCounts node a counts = (plan : Plan) (first : BaysView) (read : InputBytes) (now : BaysView) (inputs : Inputs)
    (line : LineView) → StandsAt plan first read node now → MayGive plan read node inputs
    → uses plan (port.LineIn a) ≡ true → HasLineIn node a line
    → counts ≡ numbers_of (form_in plan a) line.reader.ending (inputs.line a) node.past line.pieces

-- so many frames of output line b count
abbrev pub IsFrameCount : NodeView → (b : ℕ) → (frames : ℕ) → Type 0
IsFrameCount node b frames = (line : LineOutView) → HasLineOut node b line → frames ≡ line.frames

-- these are the numbers of client input n, at whatever moment the node stands: by what is emitted until then, and
-- before its first turn none
abbrev pub IsClientInCount : NodeView → (n : ℕ) → ClientInNumbers → Type 0
IsClientInCount node n counts = (plan : Plan) (first : BaysView) (read : InputBytes) (now : BaysView) (inputs : Inputs)
    (x : Connection) → StandsAt plan first read node now
    → MayGive plan read node inputs → Contains plan.connections x → x.from ≡ from_end.Client n
    → counts ≡ client_numbers_by x (inputs.client n) (emitted_by x node.past (done_at node (port.ClientIn n)))

-- these are the numbers of client output n: those of the receiver of the connection that goes to it
abbrev pub IsClientOutCount : NodeView → (n : ℕ) → ClientOutNumbers → Type 0
IsClientOutCount node n counts = (plan : Plan) (first : BaysView) (read : InputBytes) (now : BaysView) (i : ℕ)
    (x : Connection) (link : Link) → StandsAt plan first read node now
    → slice_get plan.connections i ≡ Some x → HasLink node i link → x.to ≡ to_end.Client n
    → IsReceived link.pipe.giving (counts.frames, counts.packets)

-- this is what the from end of connection i was after the last turn that is done, at whatever moment the node stands
abbrev pub IsLastState : NodeView → (i : ℕ) → Option FromState → Type 0
IsLastState node i state = (plan : Plan) (first : BaysView) (read : InputBytes) (now : BaysView) (inputs : Inputs)
    (x : Connection) → StandsAt plan first read node now
    → MayGive plan read node inputs → slice_get plan.connections i ≡ Some x
    → state ≡ state_after_turn node.past x (own_input inputs x)

-- the numbers that a node of a plan tells, at any moment
pub record ToldBy (plan : Plan) (node : NodeView) (numbers : Numbers) : Type 0 where
  pub line_in : (a : ℕ) → uses plan (port.LineIn a) ≡ true → IsLineCounts node a (numbers.line_in a)
  pub line_out : (b : ℕ) → uses plan (port.LineOut b) ≡ true → IsFrameCount node b (numbers.line_out b)
  pub client_in : (n : ℕ) → uses plan (port.ClientIn n) ≡ true → IsClientInCount node n (numbers.client_in n)
  pub client_out : (n : ℕ) → uses plan (port.ClientOut n) ≡ true → IsClientOutCount node n (numbers.client_out n)
  pub from : (i : ℕ) (x : Connection) → slice_get plan.connections i ≡ Some x → IsLastState node i (numbers.from i)
