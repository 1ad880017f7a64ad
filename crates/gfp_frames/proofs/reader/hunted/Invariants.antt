use Rattle.std.proofs.Common.{ℕ, ◌<◌, ◌^◌, take, false}
use Rattle.gfp_frames.specs.Steps.Reader.{GoesOver, hunts_after}
use Rattle.gfp_frames.proofs.reader.hunted.Given as goal

abbrev pub invariant-loop-i : goal.invariant-loop-i
invariant-loop-i l = record {
  goes : (register : ℕ) → GoesOver (hunts_after l.fn.three register) (take l.i l.bytes) false (hunts_after l.last register);
  small : l.last < 2 ^ 24;
}
