-- API: what the calls of a live node do, wherever it stands.
use Rattle.std.specs.Prelude.{◌≡◌, ℕ, List}
use Rattle.port_base.specs.Views.{BaysView}
use Rattle.plan_file.specs.declared.plan.Plan.{Plan}
use Rattle.device_model.specs.Report.{Numbers}
use Rattle.device_model.specs.declared.outcome.Outcome.TheVariants as outcome
use Rattle.node_core.specs.Settling.{ToldBy}
use Rattle.node_moments.specs.NodeView.{NodeView}
use Rattle.node_moments.specs.Stands.{InputBytes}
use Rattle.live_laws.specs.Live.{with_line, with_client, LiveStands, LeavesAsRun}
use Rattle.live_laws.specs.LiveTurns.{inputs_of, HaveLeft}

-- a node of whatever plan, to which whatever was handed in, stands as one to which that was handed in, and no more
abbrev pub GoesOn : (old new : NodeView) → (was is : BaysView) → Type 0
GoesOn old new was is = (plan : Plan) (handed : InputBytes) → LiveStands plan handed old was
    → LiveStands plan handed new is

-- it stands as one to which further bytes were handed in at line a, or at client n
abbrev pub TakesLine : (a : ℕ) → (further : List ℕ) → (old new : NodeView) → (was is : BaysView) → Type 0
TakesLine a further old new was is = (plan : Plan) (handed : InputBytes) → LiveStands plan handed old was
    → LiveStands plan (with_line a further handed) new is

abbrev pub TakesPackets : (n : ℕ) → (further : List ℕ) → (old new : NodeView) → (was is : BaysView) → Type 0
TakesPackets n further old new was is = (plan : Plan) (handed : InputBytes) → LiveStands plan handed old was
    → LiveStands plan (with_client n further handed) new is

-- What has left of a node that stood so is due of what was handed in by then; so it is where further bytes were handed
-- in at line a, or at client n, of the longer bytes.
abbrev pub PutsOut : (old new : NodeView) → (was is : BaysView) → Type 0
PutsOut old new was is = (plan : Plan) (handed : InputBytes) → LiveStands plan handed old was
    → HaveLeft plan (inputs_of plan handed) new is

abbrev pub PutsOutOfLine : (a : ℕ) → (further : List ℕ) → (old new : NodeView) → (was is : BaysView) → Type 0
PutsOutOfLine a further old new was is = (plan : Plan) (handed : InputBytes) → LiveStands plan handed old was
    → HaveLeft plan (inputs_of plan (with_line a further handed)) new is

abbrev pub PutsOutOfPackets : (n : ℕ) → (further : List ℕ) → (old new : NodeView) → (was is : BaysView) → Type 0
PutsOutOfPackets n further old new was is = (plan : Plan) (handed : InputBytes) → LiveStands plan handed old was
    → HaveLeft plan (inputs_of plan (with_client n further handed)) new is

-- nothing has changed of the node, and of what is seen of its places
pub record IsStill (old new : NodeView) (was is : BaysView) : Type 0 where
  pub node : new ≡ old
  pub places : is ≡ was

-- it has left what a run of its plan leaves over all that was handed in, with these numbers
abbrev pub HasLeft : (old : NodeView) → (was is : BaysView) → Numbers → Type 0
HasLeft old was is numbers = (plan : Plan) (handed : InputBytes) → LiveStands plan handed old was
    → LeavesAsRun plan handed is numbers

-- these are the numbers of its ports and connections as it stands, of whatever plan it is; its run is unfinished
pub record TellsNow (node : NodeView) (numbers : Numbers) : Type 0 where
  pub told : (plan : Plan) → ToldBy plan node numbers
  pub outcome : numbers.outcome ≡ outcome.Unfinished
