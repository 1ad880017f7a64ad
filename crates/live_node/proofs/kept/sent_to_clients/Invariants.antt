use Rattle.std.proofs.Common.{◌≡◌, ◌<◌, ℕ, length, get_or}
use Rattle.port_base.specs.Views.{client_out_at}
use Rattle.live_node.specs.Places.{places}
use Rattle.live_node.proofs.kept.sent_to_clients.Given as goal

abbrev pub invariant-loop-n : goal.invariant-loop-n
invariant-loop-n l = record {
  many : length l.sent ≡ 16;
  each : (m : ℕ) → m < l.n → get_or l.sent m 0 ≡ (client_out_at (places l.bays) m).number;
}
