use Rattle.std.proofs.Common.{◌≡◌, ◌+◌, ◌-◌, ◌∙◌, arith}
use Rattle.gfp_frames.proofs.Idles.{idle_put, idles_put}
use Rattle.gfp_frames.proofs.maker.put_few_idles.Goals as goal

pub loop-into-preserved : goal.loop-into-preserved
loop-into-preserved c =
    let at = c.loop-into.at in
    let size : at + 64 - at ≡ 64 = omega arith in
    let put =
    idles_put c.loop-into.into at (at + 64 - at) c.copy_from_slice.new.self (omega arith) size (c.copy_from_slice.ensures.after ∙ c.sixteen_idles-sixteen.ensures) c.loop-into.invariant.frames c.loop-into.invariant.idle in
    record { within = put.0; frames = omega arith; idle = put.1 }

pub loop-at-preserved : goal.loop-at-preserved
loop-at-preserved c =
    let at = c.loop-at.at in
    let four : at + 4 - at ≡ 4 = omega arith in
    let put =
    idle_put c.loop-at.into at (at + 4 - at) c.copy_from_slice-in-loop-at.new.self (omega arith) four c.copy_from_slice-in-loop-at.ensures.after c.loop-at.invariant.frames c.loop-at.invariant.idle in
    record { within = put.0; frames = omega arith; idle = put.1 }
