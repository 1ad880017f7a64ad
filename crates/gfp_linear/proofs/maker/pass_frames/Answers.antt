use Rattle.std.proofs.Common.{◌-◌, ◌∙◌, get_or, ap, arith}
use Rattle.std.specs.Prelude.{slice_set}
use Rattle.std.proofs.lemmas.List.{get_or_default}
use Rattle.std.proofs.lemmas.List.Edits.{map_over_more}
use Rattle.gfp_linear.proofs.maker.pass_frames.Goals as goal

pub loop-wait-preserved : goal.loop-wait-preserved
loop-wait-preserved c =
    let xs = c.args.waits.now in
    let ys = c.loop-wait.waits in
    let i = c.loop-wait.wait-index in
    ap (slice_set ys i) c.after_frames.ensures ∙ map_over_more (λ wait. wait - c.args.count) xs ys i (get_or ys i 0) c.loop-wait-test.true c.loop-wait.invariant
    (get_or_default ys i 0 (get_or ys i 0) (omega (arith, c.loop-wait.auto.waits, c.loop-wait-test.true)))
