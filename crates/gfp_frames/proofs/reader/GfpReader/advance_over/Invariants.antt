use Rattle.std.proofs.Common.{◌-◌, ◌≤◌, length, take, false}
use Rattle.gfp_frames.specs.Steps.Reader.{GoesOver}
use Rattle.gfp_frames.proofs.reader.GfpReader.advance_over.Given as goal

abbrev pub invariant-loop-at : goal.invariant-loop-at
invariant-loop-at l = record {
  within : l.at ≤ length l.bytes;
  goes : GoesOver l.fn.self (take l.at l.bytes) false l.self;
}

abbrev pub decreases-loop-at : goal.decreases-loop-at
decreases-loop-at l = length l.bytes - l.at
