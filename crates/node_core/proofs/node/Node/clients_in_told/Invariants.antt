use Rattle.std.proofs.Common.{◌≡◌, ◌<◌, ℕ, get_or, length}
use Rattle.device_model.specs.RunNumbers.{client_in_numbers, no_client_in}
use Rattle.node_core.specs.Settling.{IsClientInCount}
use Rattle.node_core.proofs.node.Node.clients_in_told.Given as goal

abbrev pub invariant-loop-n : goal.invariant-loop-n
invariant-loop-n l = record {
  size : length l.told ≡ 16;
  told : (m : ℕ) → m < l.n → IsClientInCount l.self m (client_in_numbers (get_or l.told m no_client_in));
}
