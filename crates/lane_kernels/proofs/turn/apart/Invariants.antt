use Rattle.std.proofs.Common.{◌≡◌, ℕ, ◌+◌, ◌*◌, ◌<◌, ◌≤◌, ◌⊎◌, get_or}
use Rattle.lane_kernels.proofs.turn.apart.Given as goal

abbrev pub invariant-loop-block : goal.invariant-loop-block
invariant-loop-block l = record {
  here : (k j : ℕ) → k < 8 → j < 16 * l.block → j < l.count → get_or l.into (l.to + l.wide * k + j) 0 ≡ get_or l.row (l.first + l.step * j + k) 0;
  others : (n : ℕ) → ((k : ℕ) → k < 8 → (n < l.to + l.wide * k) ⊎ (l.to + l.wide * k + l.count ≤ n)) → get_or l.into n 0 ≡ get_or l.initial.into n 0;
}
