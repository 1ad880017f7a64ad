-- Believed: a live node whose turns are all done, as a run of its plan over the bytes handed in.
use Rattle.std.specs.Prelude.{◌≡◌, ◌<◌, ℕ, None}
use Rattle.port_base.specs.Views.{BaysView}
use Rattle.plan_file.specs.Answer.{fault_in}
use Rattle.plan_file.specs.declared.plan.Plan.{Plan}
use Rattle.device_model.specs.Report.{Numbers}
use Rattle.node_moments.specs.Stands.{InputBytes}
use Rattle.run_laws.specs.SeenRuns.{Run, IsRun, LineGave, ClientGave}
use Rattle.live_laws.specs.Live.{OpensWith, LeavesAsRun}
use Rattle.live_laws.specs.LiveTurns.{inputs_of}

-- a run of the plan over places with the bytes handed in, whose inputs gave these, and no others
pub record RunOfHanded (plan : Plan) (handed : InputBytes) (last : BaysView) : Type 0 where
  pub run : Run
  pub is_run : IsRun run
  pub plan_is : run.plan ≡ plan
  pub after_is : run.after ≡ last
  pub opens : OpensWith handed run.before
  pub line : (a : ℕ) → a < 4 → LineGave run a ((inputs_of plan handed).line a)
  pub client : (n : ℕ) → n < 16 → ClientGave run n ((inputs_of plan handed).client n)

-- What a live node of an accepted plan leaves at its end is what such a run leaves. So all that is proved of runs by
-- what is seen of their places is true of it, the headline too.
abbrev pub LivesAreRuns : Type 0
LivesAreRuns = (plan : Plan) (handed : InputBytes) (last : BaysView) (numbers : Numbers) → fault_in plan ≡ None
    → LeavesAsRun plan handed last numbers → RunOfHanded plan handed last
