use Rattle.std.proofs.Common.{◌≡◌, ℕ, Some, slice_get, vec_len}
use Rattle.line_view.specs.Steps.Watching.{IsNew}
use Rattle.line_view.specs.declared.shown.Shown.{Shown}
use Rattle.line_view.specs.declared.watched.Watched.{Watched}
use Rattle.line_view.proofs.watched.new_watched.Given as goal

-- those so far
abbrev pub invariant-loop-i : goal.invariant-loop-i
invariant-loop-i l = record {
  len : vec_len l.watched ≡ l.i;
  each : (k : ℕ) (one : Watched) → slice_get l.watched.items k ≡ Some one → (asked : Shown) → slice_get l.shown k ≡ Some asked → IsNew asked one;
}
