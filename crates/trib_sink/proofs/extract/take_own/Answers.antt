use Rattle.std.proofs.Common.{◌≡◌, ◌+◌, ◌++◌, [], ◌∷◌, cond, ap, arith, rules, subst, sym, take, append-nil, ◌∙◌}
use Rattle.gmp_rule.specs.DataRule.{Progress, IsData, is_data_at}
use Rattle.odtu_columns.specs.Payload.{payload_group}
use Rattle.trib_sink.proofs.Rows.{row_data-none}
use Rattle.trib_sink.proofs.Runs.{row_more}
use Rattle.trib_sink.proofs.extract.take_own.Goals as goal

pub loop-cycle-init : goal.loop-cycle-init
loop-cycle-init c = record {
  cycles = search rules;
  state = search rules;
  few = search rules;
  bytes = sym (ap (λ ys. take c.args.at c.args.into.now ++ ys) (row_data-none _ _ _ _ _) ∙ append-nil (take c.args.at c.args.into.now));
}

pub loop-cycle-preserved : goal.loop-cycle-preserved
loop-cycle-preserved c =
    let cm = c.args.runner.now.cm in
    let before = c.args.runner.now.asked in
    let x = c.loop-cycle.cycle in
    let run = c.data_run-run.result in
    let front = take c.loop-cycle.end c.loop-cycle.into in
    let here = payload_group 1 c.args.own.now (1 ∷ []) x in
    let asked : c.take_byte-end.new.runner ≡ record { cm = cm; asked = before + x + 1 } =
    c.take_byte-end.ensures.runner ∙ ap (λ (r : Progress). record r { asked = r.asked + 1 }) c.loop-cycle.invariant.state in
    let one : take c.take_byte-end.result c.take_byte-end.new.into ≡ front ++ cond (is_data_at cm (before + x + 1)) here [] =
    c.take_byte-end.ensures.bytes ∙ ap (λ (r : Progress). front ++ cond (is_data_at r.cm (r.asked + 1)) here []) c.loop-cycle.invariant.state in
    record {
      cycles = omega arith;
      state = c.data_run-run.ensures.step ∙ ap (λ (r : Progress). record r { asked = r.asked + run }) asked
          ∙ ap (λ n. record { cm = cm; asked = n }) (let e : before + x + 1 + run ≡ before + (x + (run + 1)) = omega arith in e);
      few = omega arith;
      bytes = row_more 1 cm before c.args.own.now (1 ∷ []) (take c.args.at c.args.into.now) c.loop-cycle.into c.take_byte-end.new.into c.put_bytes-end.new.into
          c.loop-cycle.end c.take_byte-end.result c.put_bytes-end.result x run c.loop-cycle.invariant.bytes one c.put_bytes-end.ensures.bytes
          (λ i below. subst (λ (r : Progress). IsData r.cm (r.asked + i + 1)) asked (c.data_run-run.ensures.«data» i below));
    }
