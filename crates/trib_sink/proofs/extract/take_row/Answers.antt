use Rattle.std.proofs.Common.{◌≡◌, ◌+◌, ◌*◌, ◌≤◌, ◌++◌, [], cond, length, ap, arith, rules, subst, sym, take, append-nil, ◌∙◌}
use Rattle.gmp_rule.specs.DataRule.{Progress, IsData, is_data_at}
use Rattle.otn_base.specs.LineSlots.{slots_of}
use Rattle.frame_geometry.specs.Places.{payload_row_of}
use Rattle.odtu_columns.specs.Payload.{payload_group}
use Rattle.trib_sink.proofs.LineRows.{room_behind}
use Rattle.trib_sink.proofs.Rows.{row_data-none}
use Rattle.trib_sink.proofs.Runs.{row_more}
use Rattle.trib_sink.specs.Rows.{row_cycles}
use Rattle.trib_sink.proofs.extract.take_row.Goals as goal

pub loop-cycle-init : goal.loop-cycle-init
loop-cycle-init g c = record {
  cycles = search rules;
  runner = search rules;
  few = search rules;
  bytes = sym (ap (λ ys. take c.args.at c.args.into.now ++ ys) (row_data-none _ _ _ _ _) ∙ append-nil (take c.args.at c.args.into.now));
}

pub put_cycles-end-requires-clause-room : goal.put_cycles-end-requires-clause-room
put_cycles-end-requires-clause-room g c =
    let m = length c.args.slots.now.list in
    let x = c.loop-cycle.cycle in
    let behind : c.take_cycle-end.result ≤ c.args.at + m * (x + 1) = (let end = c.take_cycle-end.ensures.end in let few = c.loop-cycle.invariant.few in let more : m * (x + 1) ≡ m * x + m = omega arith in omega arith) in
    let all : m * row_cycles c.args.slots.now.kind ≡ m * c.groups_of_row-groups.result = ap (λ n. m * n) (sym c.groups_of_row-groups.ensures.groups) in
    let fits = c.requires.room in
    let room = room_behind m c.args.at c.take_cycle-end.result (x + 1) c.data_run-run.result c.groups_of_row-groups.result (length c.args.into.now) behind (omega arith) (omega arith) in
    omega arith

pub loop-cycle-preserved : goal.loop-cycle-preserved
loop-cycle-preserved g c =
    let cm = c.args.runner.now.cm in
    let before = c.args.runner.now.asked in
    let x = c.loop-cycle.cycle in
    let run = c.data_run-run.result in
    let front = take c.loop-cycle.end c.loop-cycle.into in
    let here = payload_group (slots_of c.args.slots.now.kind) (payload_row_of 4080 c.args.row (g.F.TakeFrame.bytes c.args.frame.now)) c.args.slots.now.list x in
    let asked : c.take_cycle-end.new.runner ≡ record { cm = cm; asked = before + x + 1 } =
    c.take_cycle-end.ensures.runner ∙ ap (λ (r : Progress). record r { asked = r.asked + 1 }) c.loop-cycle.invariant.runner in
    let one : take c.take_cycle-end.result c.take_cycle-end.new.into ≡ front ++ cond (is_data_at cm (before + x + 1)) here [] =
    c.take_cycle-end.ensures.bytes ∙ ap (λ (r : Progress). front ++ cond (is_data_at r.cm (r.asked + 1)) here []) c.loop-cycle.invariant.runner in
    record {
      cycles = omega arith;
      runner = c.data_run-run.ensures.step ∙ ap (λ (r : Progress). record r { asked = r.asked + run }) asked
          ∙ ap (λ n. record { cm = cm; asked = n }) (let e : before + x + 1 + run ≡ before + (x + (run + 1)) = omega arith in e);
      few = grind arith;
      bytes = row_more (slots_of c.args.slots.now.kind) cm before (payload_row_of 4080 c.args.row (g.F.TakeFrame.bytes c.args.frame.now)) c.args.slots.now.list (take c.args.at c.args.into.now) c.loop-cycle.into c.take_cycle-end.new.into c.put_cycles-end.new.into
          c.loop-cycle.end c.take_cycle-end.result c.put_cycles-end.result x run c.loop-cycle.invariant.bytes one c.put_cycles-end.ensures.bytes
          (λ i below. subst (λ (r : Progress). IsData r.cm (r.asked + i + 1)) asked (c.data_run-run.ensures.«data» i below));
    }
