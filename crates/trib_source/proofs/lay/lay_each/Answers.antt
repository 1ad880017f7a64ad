use Rattle.std.proofs.Common.{◌≡◌, ◌≤◌, ◌+◌, ◌*◌, ◌∙◌, length, ap, sym, subst, arith}
use Rattle.gmp_rule.specs.DataRule.{Progress, data_count}
use Rattle.trib_source.proofs.Laid.{LaidNext, laid_over, next_enough, laid_next}
use Rattle.trib_source.proofs.lay.lay_each.Goals as goal

pub lay_next-from-requires-clause-enough : goal.lay_next-from-requires-clause-enough
lay_next-from-requires-clause-enough c =
    let inv = c.loop-cycle.invariant in
    let r = c.args.runner.now in
    let from = c.loop-cycle.from in
    let long = length c.args.fresh.now in
    subst (λ (p : Progress). from + c.args.m * data_count p.cm (p.asked + 1) ≤ long + c.args.m * data_count p.cm p.asked) (sym inv.runner)
    (next_enough c.args.m r.cm r.asked c.args.cycles c.loop-cycle.cycle from long c.requires.fresh c.loop-cycle-test.true inv.laid.from_is)

pub loop-cycle-preserved : goal.loop-cycle-preserved
loop-cycle-preserved c =
    let inv = c.loop-cycle.invariant in
    let r = c.args.runner.now in
    let x = c.loop-cycle.cycle in
    let e = c.lay_next-from.ensures in
    let m = c.args.m in
    let old = c.loop-cycle.into in
    let new = c.lay_next-from.new.into in
    let next = c.lay_next-from.result in
    let more : LaidNext m r.cm (r.asked + x) c.args.fresh.now c.loop-cycle.from (m * x) next old new =
    subst (λ (p : Progress). LaidNext m p.cm p.asked c.args.fresh.now c.loop-cycle.from (m * x) next old new) inv.runner
    (laid_over m c.loop-cycle.own.cm c.loop-cycle.own.asked c.args.fresh.now c.loop-cycle.from (m * x) next old old new e.from e.bytes (λ i h. inv.clear (m * x + i) (omega arith)) e.front e.behind) in
    record {
      runner = e.runner ∙ ap (λ (p : Progress). record p { asked = p.asked + 1 }) inv.runner
          ∙ ap (λ k. record { cm = r.cm; asked = k }) (let f : r.asked + x + 1 ≡ r.asked + (x + 1) = omega arith in f);
      clear = λ n h. (let wide : m * x + m ≤ n = omega arith in e.behind n wide ∙ inv.clear n (omega arith));
      laid = laid_next m r.cm r.asked x c.loop-cycle.from next c.args.fresh.now old new inv.laid more;
    }
