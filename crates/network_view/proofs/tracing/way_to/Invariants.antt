use Rattle.std.proofs.Common.{◌≡◌, ◌-◌, []}
use Rattle.std.specs.Prelude.{reverse}
use Rattle.network_ways.specs.Tracing.{trace}
use Rattle.network_view.proofs.tracing.way_to.Given as goal

-- the way on from the entry that was come to
abbrev pub invariant-loop : goal.invariant-loop
invariant-loop l = trace l.named.network l.most l.end [] ≡ trace l.named.network (l.most - l.counter) l.leg (reverse l.back.items)
