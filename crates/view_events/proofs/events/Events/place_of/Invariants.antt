use Rattle.std.proofs.Common.{◌≡◌, ◌<◌, ℕ, Some, false, slice_get}
use Rattle.view_events.specs.Steps.Places.{is_next}
use Rattle.view_events.specs.declared.tributary.Tributary.{Tributary}
use Rattle.view_events.proofs.events.Events.place_of.Given as goal

-- the line is of none before
abbrev pub invariant-loop-i : goal.invariant-loop-i
invariant-loop-i l = (k : ℕ) (one : Tributary) → k < l.i → slice_get l.self.tributaries.items k ≡ Some one → is_next l.self.turn l.label one ≡ false
