use Rattle.std.proofs.Common.{◌≡◌, ◌<◌, ℕ, get_or, length}
use Rattle.device_model.specs.RunNumbers.{client_out_numbers, no_client_out}
use Rattle.node_core.specs.Settling.{IsClientOutCount}
use Rattle.node_core.proofs.node.Node.clients_out_told.Given as goal

abbrev pub invariant-loop-n : goal.invariant-loop-n
invariant-loop-n l = record {
  size : length l.told ≡ 16;
  told : (m : ℕ) → m < l.n → IsClientOutCount l.self m (client_out_numbers (get_or l.told m no_client_out));
}
