use Rattle.std.proofs.Common.{◌≡◌, false, take}
use Rattle.packet_text.specs.TextLines.{has_lf}
use Rattle.packet_text.proofs.line_feed.next_lf.Given as goal

abbrev pub invariant-loop-n : goal.invariant-loop-n
invariant-loop-n l = has_lf (take l.n l.bytes) ≡ false
