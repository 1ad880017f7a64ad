use Rattle.std.proofs.Common.{◌≡◌, ◌<◌, ℕ, None, get_or, length}
use Rattle.node_core.specs.Settling.{IsLastState}
use Rattle.node_core.proofs.node.Node.states_told.Given as goal

abbrev pub invariant-loop-i : goal.invariant-loop-i
invariant-loop-i l = record {
  size : length l.told ≡ 48;
  told : (m : ℕ) → m < l.i → IsLastState l.self m (get_or l.told m None);
}
