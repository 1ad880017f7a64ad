use Rattle.std.proofs.Common.{◌≡◌, ◌-◌, ◌++◌, take, drop}
use Rattle.std.specs.Prelude.{map}
use Rattle.gfp_linear.proofs.maker.pass_frames.Given as goal

abbrev pub invariant-loop-wait : goal.invariant-loop-wait
invariant-loop-wait l = l.waits ≡ map (λ wait. wait - l.count) (take l.wait-index l.fn.waits) ++ drop l.wait-index l.fn.waits
