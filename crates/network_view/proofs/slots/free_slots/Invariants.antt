use Rattle.std.proofs.Common.{◌≡◌}
use Rattle.std.specs.Prelude.{filter, not}
use Rattle.std.specs.List.{range_with_len}
use Rattle.network_view.specs.Slots.{is_used}
use Rattle.network_view.proofs.slots.free_slots.Given as goal

-- those of the first slots, so many
abbrev pub invariant-loop-k : goal.invariant-loop-k
invariant-loop-k l = l.free.items ≡ filter (λ k. not (is_used l.plan l.line k)) (range_with_len 1 l.k)
