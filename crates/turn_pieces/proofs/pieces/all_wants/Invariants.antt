use Rattle.std.proofs.Common.{◌≡◌, ◌<◌, ℕ, get_or, vec_len}
use Rattle.device_model.specs.Moments.{pieces_of}
use Rattle.turn_pieces.specs.Ports.{port_at}
use Rattle.turn_pieces.proofs.pieces.all_wants.Given as goal

abbrev pub invariant-loop-i : goal.invariant-loop-i
invariant-loop-i l = record {
  len : vec_len l.wants ≡ l.i;
  each : (k : ℕ) → k < l.i → get_or l.wants.items k 0 ≡ pieces_of l.plan (port_at k);
}
