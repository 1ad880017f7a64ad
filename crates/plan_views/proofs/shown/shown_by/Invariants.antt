use Rattle.std.proofs.Common.{◌≡◌, take, flat_map}
use Rattle.std.specs.Prelude.{map}
use Rattle.line_view.specs.Watching.{asked_of}
use Rattle.plan_views.specs.PlanViews.{shown_at}
use Rattle.plan_views.proofs.shown.shown_by.Given as goal

-- those of the connections so far
abbrev pub invariant-loop-x : goal.invariant-loop-x
invariant-loop-x l = map asked_of l.shown.items ≡ flat_map (shown_at l.side l.line) (take l.x-index l.connections)
