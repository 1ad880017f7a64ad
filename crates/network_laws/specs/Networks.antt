-- Believed: networks: nodes by their plans, and the fibres between them; and runs of a network. No order of the nodes
-- is asked for: a fibre may lead round to where it began.
use Rattle.std.specs.Prelude.{◌≡◌, ◌<◌, ℕ, true, List, None, Some, length, slice_get}
use Rattle.std.specs.List.{Contains}
use Rattle.otn_base.specs.declared.kind.PortName.TheVariants as port
use Rattle.otn_base.specs.declared.limits.TheConstants.{LINES}
use Rattle.plan_file.specs.Answer.{fault_in}
use Rattle.plan_file.specs.declared.plan.Plan.{Plan}
use Rattle.device_model.specs.Entries.{form_in, form_out}
use Rattle.device_model.specs.Moments.{uses}
use Rattle.run_laws.specs.SeenRuns.{Run, IsRun}

-- a fibre: from line output `out` of node `here` to line input `into` of node `there`, nodes by their index
pub record FibreEnds : Type 0 where
  pub here : ℕ
  pub out : ℕ
  pub there : ℕ
  pub into : ℕ

-- the plan of each node, and the fibres
pub record Network : Type 0 where
  pub plans : List Plan
  pub fibres : List FibreEnds

-- It is a network: its plans are accepted; each fibre leads from a line of one of its nodes to a line of one; where
-- both nodes use it, its ends are of one kind, and both scrambled or neither; and no line input is at the end of two. A
-- line output may be at the beginning of several.
pub record IsNetwork (network : Network) : Type 0 where
  pub accepted : (i : ℕ) (plan : Plan) → slice_get network.plans i ≡ Some plan → fault_in plan ≡ None
  pub ends : (f : FibreEnds) → Contains network.fibres f → (f.here < length network.plans)
      × (f.there < length network.plans) × (f.out < LINES) × (f.into < LINES)
  pub forms : (f : FibreEnds) (plan next : Plan) → Contains network.fibres f
      → slice_get network.plans f.here ≡ Some plan → slice_get network.plans f.there ≡ Some next
      → uses plan (port.LineOut f.out) ≡ true → uses next (port.LineIn f.into) ≡ true
      → form_in next f.into ≡ form_out plan f.out
  pub single : (f g : FibreEnds) → Contains network.fibres f → Contains network.fibres g → f.there ≡ g.there
      → f.into ≡ g.into → f ≡ g

-- A run of a network: a run of each node with its plan. How and in which order the nodes ran is free, and so is what
-- their fibres brought.
pub record NetworkRun (network : Network) : Type 0 where
  pub run : ℕ → Run
  pub carries : (i : ℕ) (plan : Plan) → slice_get network.plans i ≡ Some plan
      → ((run i).plan ≡ plan) × IsRun (run i)
