-- API: how a view by a plan goes.
use Rattle.std.specs.Prelude.{◌≡◌, ℕ, List, Result, Ok, Err}
use Rattle.otn_base.specs.declared.memory.Memory.{Memory as NoMemory}
use Rattle.port_base.specs.PortViews.{SinkView, SourceView}
use Rattle.port_base.specs.Views.{InView}
use Rattle.check_command.specs.PlanReading.{PlanReading}
use Rattle.check_command.specs.declared.plan_text.Planned.{Planned}
use Rattle.check_command.specs.declared.plan_text.Planned.TheVariants as planned
use Rattle.plan_file.specs.declared.plan.Plan.{Plan}
use Rattle.line_side.specs.LineForm.{LineForm}
use Rattle.line_view.specs.ViewRuns.{ViewEnded}
use Rattle.line_view.specs.ViewText.{Showing}
use Rattle.plan_views.specs.PlanViews.{form_by, shown_by}
use Rattle.plan_views.specs.declared.by_plan.Viewed.{Viewed}
use Rattle.plan_views.specs.declared.by_plan.Viewed.TheVariants as viewed
use Rattle.plan_views.specs.declared.side.Side.{Side}

-- the line and the report are as they were
abbrev pub IsUntouched : (first now : InView) → (old new : SinkView) → Type 0
IsUntouched first now old new = (now ≡ first) × (new ≡ old)

-- a view of a line of this form and of these tributaries on it, or want of memory before anything was read
abbrev pub ViewsLine : LineForm → List Showing → (first now : InView) → (old new : SinkView) → Result Viewed NoMemory
    → Type 0
ViewsLine form shows first now old new (Ok (viewed.Shown ended)) = ViewEnded form shows first now old new ended
ViewsLine form shows first now old new (Ok (viewed.Refused error place)) = ⊥
ViewsLine form shows first now old new (Ok viewed.PlanFault) = ⊥
ViewsLine form shows first now old new (Err memory) = IsUntouched first now old new

-- What follows on the plan that was read: of an accepted plan, the view of the line that it says, and of the
-- tributaries that it has on it; else the line and the report are as they were, and the answer says why.
abbrev pub FollowsPlan : Side → (line : ℕ) → (first now : InView) → (old new : SinkView) → Result Planned NoMemory
    → Result Viewed NoMemory → Type 0
FollowsPlan side line first now old new (Ok (planned.Accepted plan)) answer = ViewsLine (form_by plan side line)
    (shown_by plan side line) first now old new answer
FollowsPlan side line first now old new (Ok (planned.Refused error place)) answer =
    (answer ≡ Ok (viewed.Refused error place)) × IsUntouched first now old new
FollowsPlan side line first now old new (Ok planned.Fault) answer = (answer ≡ Ok viewed.PlanFault)
    × IsUntouched first now old new
FollowsPlan side line first now old new (Err memory) answer = (answer ≡ Err memory) × IsUntouched first now old new

-- The plan was read, of which PlanReading says what it is, and this follows on it.
pub record ViewedBy (side : Side) (line : ℕ) (plan_old plan_new : SourceView) (first now : InView) (old new : SinkView)
    (answer : Result Viewed NoMemory) : Type 0 where
  pub planned : Result Planned NoMemory
  pub reading : PlanReading planned plan_old plan_new
  pub follows : FollowsPlan side line first now old new planned answer
