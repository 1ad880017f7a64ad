-- API: the answer of the program, over the plan's source, the line and the report.
use Rattle.std.specs.Prelude.{◌≡◌, ◌≢◌, map, Result, Ok, Err}
use Rattle.otn_base.specs.declared.memory.Memory.{Memory as NoMemory}
use Rattle.port_base.specs.PortViews.{SinkView, SourceView}
use Rattle.port_base.specs.Views.{InView}
use Rattle.port_base.specs.declared.ended.Ended.{Ended}
use Rattle.port_base.specs.declared.ended.Ended.TheVariants.{Memory}
use Rattle.command_base.specs.Ends.{line_status}
use Rattle.command_base.specs.declared.status.Status.{Status}
use Rattle.command_base.specs.declared.status.Status.TheVariants as status
use Rattle.line_view.specs.ViewRuns.{ViewEnded}
use Rattle.line_view.specs.Watching.{asked_of}
use Rattle.plan_views.specs.PlanRuns.{IsUntouched, ViewedBy}
use Rattle.plan_views.specs.declared.by_plan.Viewed.{Viewed}
use Rattle.plan_views.specs.declared.by_plan.Viewed.TheVariants.{Shown, Refused, PlanFault}
use Rattle.otn_view.specs.declared.words.Asked.{Asked}
use Rattle.otn_view.specs.declared.words.Asked.TheVariants.{Given, Planned}

-- to a view by a plan that ended so
abbrev pub viewed_status : Viewed → Status
viewed_status (Shown ended) = line_status ended
viewed_status (Refused error place) = status.Plan error place
viewed_status PlanFault = status.PlanFault

-- to what reading the plan and viewing its line came to
abbrev pub IsAnswerTo : Result Viewed NoMemory → Result Status NoMemory → Type 0
IsAnswerTo (Ok viewed) answer = answer ≡ Ok (viewed_status viewed)
IsAnswerTo (Err memory) answer = answer ≡ Err memory

-- What is asked for was viewed: a line of the form that is given, with its tributaries, or the line of the plan with
-- its connections. Of the first the plan's source is as it was.
abbrev pub IsViewed : Asked → (plan_old plan_new : SourceView) → (first now : InView) → (old new : SinkView)
    → Result Status NoMemory → Type 0
IsViewed (Given kind scrambled shown) plan_old plan_new first now old new answer = (ended : Ended)
    × (answer ≡ Ok (line_status ended)) × (plan_new ≡ plan_old)
    × (ended ≡ Memory → IsUntouched first now old new)
    × (ended ≢ Memory → ViewEnded (record { kind = kind; scrambled = scrambled }) (map asked_of shown.items) first now
    old new ended)
IsViewed (Planned side line) plan_old plan_new first now old new answer = (viewed : Result Viewed NoMemory)
    × ViewedBy side line plan_old plan_new first now old new viewed × IsAnswerTo viewed answer
