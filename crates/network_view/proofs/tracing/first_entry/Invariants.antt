use Rattle.std.proofs.Common.{◌≡◌, drop}
use Rattle.network_ways.specs.Tracing.{first_entry, goes_on}
use Rattle.network_view.proofs.tracing.first_entry.Given as goal

-- none of the entries so far
abbrev pub invariant-loop-x : goal.invariant-loop-x
invariant-loop-x l =
    first_entry (λ x. goes_on x l.y l.out l.into) l.entries ≡ first_entry (λ x. goes_on x l.y l.out l.into) (drop l.x-index l.entries)
