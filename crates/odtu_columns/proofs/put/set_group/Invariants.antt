use Rattle.std.proofs.Common.{◌≡◌, ℕ, ◌+◌, ◌<◌, get_or}
use Rattle.frame_geometry.specs.Places.{place_of}
use Rattle.odtu_columns.proofs.put.set_group.Given as goal

abbrev pub invariant-loop-i : goal.invariant-loop-i
invariant-loop-i l = record {
  put : (j : ℕ) → j < l.i → get_or l.frame (place_of 4080 l.row (l.first + get_or l.slots j 0)) 0 ≡ get_or l.bytes j 0;
  kept : (place : ℕ) → ((j : ℕ) → j < l.i → place ≡ place_of 4080 l.row (l.first + get_or l.slots j 0) → ⊥) → get_or l.frame place 0 ≡ get_or l.initial.frame place 0;
}
