use Rattle.std.proofs.Common.{◌≡◌, ◌≤◌, ◌-◌, false, length, take}
use Rattle.packet_text.specs.TextLines.{has_lf}
use Rattle.packet_text.proofs.line_feed.first_lf.Given as goal

abbrev pub invariant-loop-before : goal.invariant-loop-before
invariant-loop-before l = record {
  within : l.before ≤ length l.bytes;
  clean : has_lf (take l.before l.bytes) ≡ false;
}

abbrev pub decreases-loop-before : goal.decreases-loop-before
decreases-loop-before l = length l.bytes - l.before
