use Rattle.std.proofs.Common.{◌≡◌, ◌-◌, ◌/◌, ◌%◌, ◌≤◌, length, take}
use Rattle.gfp_frames.specs.Maker.{idle_bytes}
use Rattle.gfp_frames.proofs.maker.put_few_idles.Given as goal

abbrev pub invariant-loop-into : goal.invariant-loop-into
invariant-loop-into l = record {
  within : l.at ≤ length l.into;
  frames : l.at % 4 ≡ 0;
  idle : take l.at l.into ≡ idle_bytes (l.at / 4);
}

abbrev pub decreases-loop-into : goal.decreases-loop-into
decreases-loop-into l = length l.initial.into - l.at

abbrev pub invariant-loop-at : goal.invariant-loop-at
invariant-loop-at l = record {
  within : l.at ≤ length l.into;
  frames : l.at % 4 ≡ 0;
  idle : take l.at l.into ≡ idle_bytes (l.at / 4);
}

abbrev pub decreases-loop-at : goal.decreases-loop-at
decreases-loop-at l = length l.initial.into - l.at
