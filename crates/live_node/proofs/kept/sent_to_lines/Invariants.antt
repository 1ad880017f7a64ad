use Rattle.std.proofs.Common.{◌≡◌, ◌<◌, ℕ, length, get_or}
use Rattle.port_base.specs.Views.{line_out_at}
use Rattle.live_node.specs.Places.{places}
use Rattle.live_node.proofs.kept.sent_to_lines.Given as goal

abbrev pub invariant-loop-b : goal.invariant-loop-b
invariant-loop-b l = record {
  many : length l.sent ≡ 4;
  each : (m : ℕ) → m < l.b → get_or l.sent m 0 ≡ (line_out_at (places l.bays) m).number;
}
