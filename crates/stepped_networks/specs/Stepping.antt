-- Believed: a network whose nodes are stepped in turn, in any order, while its fibres are filled by hand: what an
-- output got goes to the input at the other end whenever one likes. So a fibre may lead round to where it began.
use Rattle.std.specs.Prelude.{◌≡◌, ◌≢◌, ◌<◌, ℕ, false, List, ◌++◌, Some, length, slice_get}
use Rattle.std.specs.List.{Contains}
use Rattle.port_base.specs.Bytes.{after}
use Rattle.port_base.specs.Given.{Grew}
use Rattle.port_base.specs.Views.{Empty, Live, BaysView, line_in_at, line_out_at}
use Rattle.plan_file.specs.declared.plan.Plan.{Plan}
use Rattle.device_model.specs.Report.{Numbers}
use Rattle.device_model.specs.RunLeft.{Takings, RunLeft}
use Rattle.node_moments.specs.NodeView.{NodeView}
use Rattle.node_moments.specs.Stands.{InputBytes, StandsAt, Later}
use Rattle.live_laws.specs.HandedIn.{LineGrew}
use Rattle.run_laws.specs.SeenRuns.{Run}
use Rattle.network_laws.specs.Networks.{FibreEnds, Network, IsNetwork, NetworkRun}
use Rattle.network_laws.specs.Routes.{Leg, IsLeg, IsJoined, fibre_of}
use Rattle.network_laws.specs.Ways.{Fibre}

-- ---- how a network stands

-- a node that is stepped: its places as they were first, but with all that its lines were filled with since; the bytes
-- that were taken of its inputs; the node, and its places now
pub record NodeState : Type 0 where
  pub opened : BaysView
  pub read : InputBytes
  pub node : NodeView
  pub now : BaysView

-- a fibre: of what its output got since the beginning this was handed to its input, and that waits
pub record Handing (f : FibreEnds) (states : ℕ → NodeState) : Type 0 where
  pub handed : List ℕ
  pub waiting : List ℕ
  pub went : Grew (line_out_at (states f.here).opened f.out).got (line_out_at (states f.here).now f.out).got
      (handed ++ waiting)
  pub came : (line_in_at (states f.there).opened f.into).left ≡ Some handed

-- each node stands at a moment of its plan, whichever, and each fibre so
pub record NetworkStands (network : Network) (states : ℕ → NodeState) : Type 0 where
  pub nodes : (i : ℕ) (plan : Plan) → slice_get network.plans i ≡ Some plan
      → StandsAt plan (states i).opened (states i).read (states i).node (states i).now
  pub fibres : (f : FibreEnds) → Contains network.fibres f → Handing f states

-- ---- what may be done

-- node i is stepped, or its turn ends: it stands at another moment, and what its outputs got grew
pub record NodeMoved (network : Network) (i : ℕ) (old new : ℕ → NodeState) : Type 0 where
  pub others : (j : ℕ) → j ≢ i → new j ≡ old j
  pub opened : (new i).opened ≡ (old i).opened
  pub stands : (plan : Plan) → slice_get network.plans i ≡ Some plan
      → StandsAt plan (new i).opened (new i).read (new i).node (new i).now
  pub grows : (b : ℕ) → (bytes : List ℕ)
      × ((line_out_at (new i).now b).got ≡ after (line_out_at (old i).now b).got bytes)

abbrev pub StepsKeepIt : Type 0
StepsKeepIt = (network : Network) (i : ℕ) (old new : ℕ → NodeState) → NetworkStands network old
    → NodeMoved network i old new → NetworkStands network new

-- All nodes went on at once: each from the moment at which it stood to a later one, whatever its plan and its places
-- first were, as the calls of a node promise; and what their outputs got grew.
pub record NodesWentOn (network : Network) (old : ℕ → NodeState) (nodes : ℕ → NodeView) (bays : ℕ → BaysView)
    : Type 0 where
  pub later : (i : ℕ) (plan : Plan) (first : BaysView) (read : InputBytes) → i < length network.plans
      → StandsAt plan first read (old i).node (old i).now
      → Later plan first read (old i).node (nodes i) (bays i)
  pub grows : (i b : ℕ) → i < length network.plans → (bytes : List ℕ)
      × ((line_out_at (bays i) b).got ≡ after (line_out_at (old i).now b).got bytes)

abbrev pub RoundsKeepIt : Type 0
RoundsKeepIt = (network : Network) (old : ℕ → NodeState) (nodes : ℕ → NodeView) (bays : ℕ → BaysView)
    → IsNetwork network → NetworkStands network old → NodesWentOn network old nodes bays
    → (new : ℕ → NodeState) × NetworkStands network new × ((i : ℕ) → i < length network.plans
    → ((new i).node ≡ nodes i) × ((new i).now ≡ bays i) × ((new i).opened ≡ (old i).opened))

-- the next bytes that wait for a fibre go to its input, which has not answered its end
pub record FibreFilled (f : FibreEnds) (more : List ℕ) (old new : ℕ → NodeState) : Type 0 where
  pub others : (j : ℕ) → j ≢ f.there → new j ≡ old j
  pub read : (new f.there).read ≡ (old f.there).read
  pub node : (new f.there).node ≡ (old f.there).node
  pub opened : LineGrew f.into more (old f.there).opened (new f.there).opened
  pub now : LineGrew f.into more (old f.there).now (new f.there).now
  pub open_yet : (line_in_at (old f.there).now f.into).ended ≡ false

abbrev pub HandsKeepIt : Type 0
HandsKeepIt = (network : Network) (f : FibreEnds) (more rest : List ℕ) (old new : ℕ → NodeState) → IsNetwork network
    → (has : Contains network.fibres f) → (stands : NetworkStands network old)
    → (stands.fibres f has).waiting ≡ more ++ rest → FibreFilled f more old new → NetworkStands network new

-- ---- how it ends

-- node i is past its last turn and was settled: it left this
pub record NodeEnded (network : Network) (states : ℕ → NodeState) (i : ℕ) (run : Run) : Type 0 where
  pub plan : slice_get network.plans i ≡ Some run.plan
  pub before : run.before ≡ (states i).opened
  pub line_out : run.after.line_out ≡ (states i).now.line_out
  pub takings : Takings
  pub numbers : Numbers
  pub left : RunLeft run.plan run.before run.after takings numbers

-- the places at both ends of a fibre have lived
pub record HasLivedEnds (f : FibreEnds) (run : ℕ → Run) : Type 0 where
  pub out_was : (line_out_at (run f.here).before f.out).state ≡ Live
  pub out_is : (line_out_at (run f.here).after f.out).state ≢ Empty
  pub in_was : (line_in_at (run f.there).before f.into).state ≡ Live
  pub in_is : (line_in_at (run f.there).after f.into).state ≡ Live

-- over each fibre by which an entry goes on in another, and whose ends have lived, came what was written to it, or a
-- part of that from the front
abbrev pub FibresBrought : Network → (run : ℕ → Run) → Type 0
FibresBrought network run = (here next : Leg) → IsLeg network here → IsLeg network next
    → (joined : IsJoined network here next) → HasLivedEnds (fibre_of joined) run
    → Fibre (run here.node) (run next.node) joined.b joined.c

-- Then this was a run of the network. What was handed over is what the fibres brought.
abbrev pub EndsAsARun : Type 0
EndsAsARun = (network : Network) (states : ℕ → NodeState) (run : ℕ → Run) → IsNetwork network
    → NetworkStands network states
    → ((i : ℕ) (plan : Plan) → slice_get network.plans i ≡ Some plan → NodeEnded network states i (run i))
    → (it : NetworkRun network) × (it.run ≡ run) × FibresBrought network run
