use Rattle.std.proofs.Common.{◌≡◌, ◌==◌, drop}
use Rattle.std.specs.List.{list_any}
use Rattle.plan_views.proofs.lines.has_number.Given as goal

-- whether it is among those to come, or at all
abbrev pub invariant-loop-n : goal.invariant-loop-n
invariant-loop-n l = list_any (λ n. n == l.number) (drop l.n-index l.list) ≡ list_any (λ n. n == l.number) l.list
