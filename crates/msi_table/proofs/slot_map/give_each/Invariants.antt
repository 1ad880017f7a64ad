use Rattle.std.proofs.Common.{◌≡◌, ℕ, ◌-◌, ◌<◌, ◌≤◌, length, get_or}
use Rattle.msi_table.proofs.slot_map.give_each.Given as goal

abbrev pub invariant-loop-slot : goal.invariant-loop-slot
invariant-loop-slot l = record {
  size : length l.ports ≡ length l.fn.ports;
  bound : (most : ℕ) → l.port ≤ most → ((k : ℕ) → k < length l.fn.ports → get_or l.fn.ports k 0 ≤ most) → (k : ℕ) → k < length l.ports → get_or l.ports k 0 ≤ most;
  given : (j : ℕ) → j < l.slot-index → get_or l.ports (get_or l.slots j 0 - 1) 0 ≡ l.port;
  others : (s : ℕ) → 1 ≤ s → ((j : ℕ) → j < l.slot-index → get_or l.slots j 0 ≡ s → ⊥) → get_or l.ports (s - 1) 0 ≡ get_or l.fn.ports (s - 1) 0;
}
