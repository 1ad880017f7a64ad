use Rattle.std.proofs.Common.{◌≡◌, ℕ, ◌≤◌, ◌<◌, ◌+◌, ◌*◌, ◌-◌, ◌∙◌, length, ap, sym, subst, arith}
use Rattle.gmp_rule.specs.DataRule.{Progress, IsData, data_count}
use Rattle.trib_source.proofs.Laid.{LaidTo, LaidNext, LaidRun, laid_over, next_enough, laid_next, run_enough, run_room, laid_run}
use Rattle.trib_source.proofs.lay.lay_runs.Goals as goal

pub lay_next-behind-requires-clause-enough : goal.lay_next-behind-requires-clause-enough
lay_next-behind-requires-clause-enough c =
    let inv = c.loop-cycle.invariant in
    let r = c.args.runner.now in
    let from = c.loop-cycle.from in
    let long = length c.args.fresh.now in
    subst (λ (p : Progress). from + c.args.m * data_count p.cm (p.asked + 1) ≤ long + c.args.m * data_count p.cm p.asked) (sym inv.runner)
    (next_enough c.args.m r.cm r.asked c.args.cycles c.loop-cycle.cycle from long c.requires.fresh c.loop-cycle-test.true inv.laid.from_is)

pub copy_at-from-requires-clause-fresh : goal.copy_at-from-requires-clause-fresh
copy_at-from-requires-clause-fresh c =
    let inv = c.loop-cycle.invariant in
    let r = c.args.runner.now in
    let x = c.loop-cycle.cycle in
    let run = c.data_run-run.result in
    let e = c.lay_next-behind.ensures in
    let m = c.args.m in
    let old = c.loop-cycle.into in
    let mid = c.lay_next-behind.new.into in
    let next = c.lay_next-behind.result in
    let more : LaidNext m r.cm (r.asked + x) c.args.fresh.now c.loop-cycle.from (m * x) next old mid =
    subst (λ (p : Progress). LaidNext m p.cm p.asked c.args.fresh.now c.loop-cycle.from (m * x) next old mid) inv.runner
    (laid_over m c.loop-cycle.runner.cm c.loop-cycle.runner.asked c.args.fresh.now c.loop-cycle.from (m * x) next old c.clear_at.new.into mid e.from e.bytes c.clear_at.ensures.bytes
    (λ n h. e.front n h ∙ c.clear_at.ensures.front n h) (λ n h. e.behind n h ∙ c.clear_at.ensures.behind n h)) in
    let asked : c.lay_next-behind.new.runner ≡ record { cm = r.cm; asked = r.asked + (x + 1) } =
    e.runner ∙ ap (λ (p : Progress). record p { asked = p.asked + 1 }) inv.runner ∙ ap (λ k. record { cm = r.cm; asked = k }) (let f : r.asked + x + 1 ≡ r.asked + (x + 1) = omega arith in f) in
    let each : (i : ℕ) → i < run → IsData r.cm (r.asked + (x + 1) + i + 1) = λ i l. subst (λ (p : Progress). IsData p.cm (p.asked + i + 1)) asked (c.data_run-run.ensures.«data» i l) in
    let most : run ≤ c.args.cycles - (x + 1) = c.data_run-run.ensures.most in
    let below = c.loop-cycle-test.true in
    run_enough m r.cm r.asked c.args.cycles (x + 1) run next (length c.args.fresh.now) c.requires.fresh (omega arith)
    (laid_next m r.cm r.asked x c.loop-cycle.from next c.args.fresh.now old mid inv.laid more).from_is each

pub copy_at-from-requires-clause-room : goal.copy_at-from-requires-clause-room
copy_at-from-requires-clause-room c =
    let x = c.loop-cycle.cycle in
    let most = c.data_run-run.ensures.most in
    let below = c.loop-cycle-test.true in
    let room = run_room c.args.m (x + 1) c.data_run-run.result c.args.cycles (omega arith) in
    let one = c.loop-cycle.auto.into in
    let two = c.lay_next-behind.auto.into in
    let size = c.requires.size in
    omega arith

pub loop-cycle-preserved : goal.loop-cycle-preserved
loop-cycle-preserved c =
    let inv = c.loop-cycle.invariant in
    let r = c.args.runner.now in
    let x = c.loop-cycle.cycle in
    let run = c.data_run-run.result in
    let e = c.lay_next-behind.ensures in
    let m = c.args.m in
    let old = c.loop-cycle.into in
    let mid = c.lay_next-behind.new.into in
    let new = c.copy_at-from.new.into in
    let next = c.lay_next-behind.result in
    let fresh = c.args.fresh.now in
    let more : LaidNext m r.cm (r.asked + x) fresh c.loop-cycle.from (m * x) next old mid =
    subst (λ (p : Progress). LaidNext m p.cm p.asked fresh c.loop-cycle.from (m * x) next old mid) inv.runner
    (laid_over m c.loop-cycle.runner.cm c.loop-cycle.runner.asked fresh c.loop-cycle.from (m * x) next old c.clear_at.new.into mid e.from e.bytes c.clear_at.ensures.bytes
    (λ n h. e.front n h ∙ c.clear_at.ensures.front n h) (λ n h. e.behind n h ∙ c.clear_at.ensures.behind n h)) in
    let asked : c.lay_next-behind.new.runner ≡ record { cm = r.cm; asked = r.asked + (x + 1) } =
    e.runner ∙ ap (λ (p : Progress). record p { asked = p.asked + 1 }) inv.runner ∙ ap (λ k. record { cm = r.cm; asked = k }) (let f : r.asked + x + 1 ≡ r.asked + (x + 1) = omega arith in f) in
    let each : (i : ℕ) → i < run → IsData r.cm (r.asked + (x + 1) + i + 1) = λ i l. subst (λ (p : Progress). IsData p.cm (p.asked + i + 1)) asked (c.data_run-run.ensures.«data» i l) in
    let ran : LaidRun m r.cm (r.asked + (x + 1)) fresh next (m * (x + 1)) run mid new =
    record { each = each; bytes = c.copy_at-from.ensures.bytes; front = c.copy_at-from.ensures.front; behind = c.copy_at-from.ensures.behind } in
    let most = c.data_run-run.ensures.most in
    let below = c.loop-cycle-test.true in
    record {
      inside = omega arith;
      runner = c.data_run-run.ensures.step ∙ ap (λ (p : Progress). record p { asked = p.asked + run }) asked
          ∙ ap (λ k. record { cm = r.cm; asked = k }) (let f : r.asked + (x + 1) + run ≡ r.asked + (x + 1 + run) = omega arith in f);
      laid = subst (λ k. LaidTo m r.cm r.asked fresh (x + 1 + run) k new) (sym c.copy_at-from.ensures.next) (laid_run m r.cm r.asked (x + 1) run next fresh mid new (laid_next m r.cm r.asked x c.loop-cycle.from next fresh old mid inv.laid more) ran);
    }
