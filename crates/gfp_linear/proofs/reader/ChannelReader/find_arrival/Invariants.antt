use Rattle.std.proofs.Common.{◌-◌, ◌≤◌, length}
use Rattle.gfp_linear.proofs.Arrived.{Passed}
use Rattle.gfp_linear.proofs.reader.ChannelReader.find_arrival.Given as goal

abbrev pub invariant-loop-at : goal.invariant-loop-at
invariant-loop-at l = record {
  within : l.at ≤ length l.bytes;
  passed : Passed l.bytes l.fn.self l.at l.self-inside.reader;
}

abbrev pub decreases-loop-at : goal.decreases-loop-at
decreases-loop-at l = length l.bytes - l.at
