-- Believed: networks whose nodes were run by calls of `run`, one for each node, in whatever order and wherever.
use Rattle.std.specs.Prelude.{◌≡◌, ℕ, Some, slice_get}
use Rattle.plan_file.specs.declared.plan.Plan.{Plan}
use Rattle.run_laws.specs.SeenRuns.{Run}
use Rattle.network_laws.specs.Networks.{Network, NetworkRun}
use Rattle.run_command.specs.Headline.{Ran}

-- each node was run by a call of `run` that carried its plan
pub record CalledNetwork (network : Network) : Type 0 where
  pub run : ℕ → Run
  pub calls : (i : ℕ) (plan : Plan) → slice_get network.plans i ≡ Some plan → ((run i).plan ≡ plan) × Ran (run i)

-- So these are a run of the network, of which all laws of networks speak.
abbrev pub CallsAreARun : Type 0
CallsAreARun = (network : Network) (called : CalledNetwork network)
    → (it : NetworkRun network) × (it.run ≡ called.run)
