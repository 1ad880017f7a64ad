use Rattle.std.proofs.Common.{◌≡◌, ℕ, ◌+◌, ◌*◌, ◌<◌, ◌≤◌, ◌⊎◌, get_or}
use Rattle.lane_kernels.proofs.turn.together.Given as goal

abbrev pub invariant-loop-block : goal.invariant-loop-block
invariant-loop-block l = record {
  here : (k j : ℕ) → k < 8 → j < 16 * l.block → j < l.count → get_or l.into (l.first + l.step * j + k) 0 ≡ get_or l.lists (l.at + l.wide * k + j) 0;
  others : (n : ℕ) → ((j : ℕ) → j < l.count → (n < l.first + l.step * j) ⊎ (l.first + l.step * j + 8 ≤ n)) → get_or l.into n 0 ≡ get_or l.initial.into n 0;
}
