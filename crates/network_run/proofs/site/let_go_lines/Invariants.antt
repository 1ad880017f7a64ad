use Rattle.std.proofs.Common.{◌≡◌}
use Rattle.network_run.specs.Sites.{rack_view}
use Rattle.network_run.proofs.site.let_go_lines.Given as goal

abbrev pub invariant-loop-b : goal.invariant-loop-b
invariant-loop-b g l = rack_view g.P.Source g.K.Sink l.bays ≡ rack_view g.P.Source g.K.Sink l.fn.bays
