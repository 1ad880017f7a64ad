use Rattle.std.proofs.Common.{◌≡◌, ◌-◌, take, drop, length, ap, ◌∙◌, arith, length-drop}
use Rattle.std.proofs.lemmas.List.{take_rest}
use Rattle.gfp_frames.proofs.Idles.{filled}
use Rattle.gfp_frames.proofs.maker.GfpMaker.fill.Goals as goal

pub returns-then-count-into-clause-made : goal.returns-then-count-into-clause-made
returns-then-count-into-clause-made c = λ frames emitted made.
    let n = length c.args.into.now in
    let into = c.give-count.new.into in
    let count = c.give-count.result in
    let size : length into ≡ n = omega arith in
    let rest : length (take (length into - count) (drop count into)) ≡ n - count = ap length (take_rest into count) ∙ length-drop count into ∙ ap (λ k. k - count) size in
    filled frames emitted c.args.self.now c.give-count.new.self c.idle_on.new.self c.give-count.new.into c.idle_on.new.into n count (length (take (length into - count) (drop count into)))
    made c.give-count.ensures.count (omega arith) size
    c.give-count.ensures.bytes c.give-count.ensures.register rest c.idle_on.ensures.bytes c.idle_on.ensures.register
