-- API: a live node: a node of a plan, to which so much was handed in while it went.
use Rattle.std.specs.Prelude.{◌≡◌, ◌<◌, ◌==◌, ℕ, false, if◌then◌else◌, List, [], ◌++◌, Some}
use Rattle.otn_base.specs.declared.kind.PortName.TheVariants as port
use Rattle.port_base.specs.Views.{Live, InView, OutView, BaysView, line_in_at, line_out_at, client_in_at, client_out_at}
use Rattle.plan_file.specs.declared.plan.Plan.{Plan}
use Rattle.device_model.specs.Report.{Numbers}
use Rattle.device_model.specs.RunLeft.{Takings, RunLeft}
use Rattle.node_moments.specs.NodeView.{NodeView, IsNode, is_ready}
use Rattle.node_moments.specs.Stands.{InputBytes, StandsAt}

-- ---- what was handed in

-- a place for an input to which these bytes were handed in, before any was read; and one for an output that got nothing
abbrev pub holding : List ℕ → InView
holding bytes = record { state = Live; boxed = false; left = Some bytes; ended = false; faults = 0; number = 0 }

abbrev pub telling : OutView
telling = record { state = Live; boxed = false; got = Some []; keeps = false; faults = 0; number = 0 }

-- the places as they would have been first if all that was handed in since had been there
pub record OpensWith (handed : InputBytes) (first : BaysView) : Type 0 where
  pub line_in : (a : ℕ) → a < 4 → line_in_at first a ≡ holding (handed.line a)
  pub line_out : (b : ℕ) → b < 4 → line_out_at first b ≡ telling
  pub client_in : (n : ℕ) → n < 16 → client_in_at first n ≡ holding (handed.client n)
  pub client_out : (n : ℕ) → n < 16 → client_out_at first n ≡ telling

-- further bytes were handed in at line a, or at client n, behind all others of it
abbrev pub with_line : (a : ℕ) → List ℕ → InputBytes → InputBytes
with_line a further handed = record {
  line = λ b. if b == a then handed.line b ++ further else handed.line b;
  client = handed.client;
}

abbrev pub with_client : (n : ℕ) → List ℕ → InputBytes → InputBytes
with_client n further handed = record {
  line = handed.line;
  client = λ m. if m == n then handed.client m ++ further else handed.client m;
}

-- ---- where it stands

-- no input has failed: bytes in memory can be read
pub record NeverFails (now : BaysView) : Type 0 where
  pub line_in : (a : ℕ) → (line_in_at now a).faults ≡ 0
  pub client_in : (n : ℕ) → (client_in_at now n).faults ≡ 0

-- The node and its places stand at a moment of the plan as they would if all that was handed in by now had been there
-- from the first, and no input has failed. Which moment it is, the node says. What holds of every node holds of it. So
-- all that is said of a node at a moment is said of this one, for whatever is handed in later.
pub record LiveStands (plan : Plan) (handed : InputBytes) (node : NodeView) (now : BaysView) : Type 0 where
  pub first : BaysView
  pub opens : OpensWith handed first
  pub read : InputBytes
  pub stands : StandsAt plan first read node now
  pub calm : NeverFails now
  pub is : IsNode node

-- no output has a piece left in the turn that goes
pub record AreServed (node : NodeView) : Type 0 where
  pub line_out : (b : ℕ) → b < 4 → is_ready node (port.LineOut b) ≡ false
  pub client_out : (n : ℕ) → n < 16 → is_ready node (port.ClientOut n) ≡ false

-- ---- what it leaves

-- what a run of the plan leaves over places with these bytes, whichever places those are
pub record LeavesAsRun (plan : Plan) (handed : InputBytes) (last : BaysView) (numbers : Numbers) : Type 0 where
  pub first : BaysView
  pub opens : OpensWith handed first
  pub takings : Takings
  pub left : RunLeft plan first last takings numbers
  pub calm : NeverFails last
