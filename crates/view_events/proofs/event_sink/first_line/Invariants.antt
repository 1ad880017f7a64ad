use Rattle.std.proofs.Common.{◌≢◌, ◌<◌, ℕ, get_or}
use Rattle.view_events.proofs.event_sink.first_line.Given as goal

-- no line feed stands before
abbrev pub invariant-loop-n : goal.invariant-loop-n
invariant-loop-n l = (k : ℕ) → k < l.n → get_or l.bytes k 0 ≢ 10
