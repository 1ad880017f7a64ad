use Rattle.std.proofs.Common.{◌-◌, ◌≤◌, length, take, None}
use Rattle.gfp_frames.specs.Steps.Reader.{GoesTo, NoneBefore}
use Rattle.gfp_frames.proofs.reader.GfpReader.find_packet.Given as goal

abbrev pub invariant-loop-at : goal.invariant-loop-at
invariant-loop-at l = record {
  within : l.at ≤ length l.bytes;
  goes : GoesTo l.fn.self (take l.at l.bytes) None l.self;
  before : NoneBefore l.fn.self l.bytes l.at;
}

abbrev pub decreases-loop-at : goal.decreases-loop-at
decreases-loop-at l = length l.bytes - l.at
