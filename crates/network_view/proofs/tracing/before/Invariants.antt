use Rattle.std.proofs.Common.{◌≡◌, drop}
use Rattle.network_ways.specs.Tracing.{before, before_by}
use Rattle.network_view.proofs.tracing.before.Given as goal

-- none by the fibres so far
abbrev pub invariant-loop-f : goal.invariant-loop-f
invariant-loop-f l = before l.named.network l.next ≡ before_by l.named.network l.next (drop l.f-index l.fibres)
