use Rattle.std.proofs.Common.{◌≡◌, ◌+◌, ◌*◌, ◌++◌, length, ap, arith, rules, sym, take, append-nil, append_assoc, ◌∙◌}
use Rattle.otn_base.specs.LineSlots.{slots_of}
use Rattle.frame_geometry.specs.Places.{payload_row_of}
use Rattle.odtu_columns.specs.Payload.{payload_group, run_groups}
use Rattle.odtu_columns.proofs.RunGroups.{run_groups-none, run_groups-more}
use Rattle.trib_sink.proofs.LineRows.{room_behind}
use Rattle.trib_sink.proofs.extract.put_few.Goals as goal

pub loop-i-init : goal.loop-i-init
loop-i-init g c = record {
  end = search rules;
  bytes = sym (ap (λ ys. take c.args.at c.args.into.now ++ ys) (run_groups-none _ _ _ _) ∙ append-nil (take c.args.at c.args.into.now));
}

pub put_cycle-end-requires-clause-room : goal.put_cycle-end-requires-clause-room
put_cycle-end-requires-clause-room g c =
    let m = length c.args.slots.now.list in
    let end = c.loop-i.invariant.end in
    let below = c.loop-i-test.true in
    let fits = c.requires.room in
    let room = room_behind m c.args.at c.loop-i.end c.loop-i.i 1 c.args.count (length c.args.into.now) (omega arith) (omega arith) fits in
    let one : m * 1 ≡ m = omega arith in
    omega arith

pub loop-i-preserved : goal.loop-i-preserved
loop-i-preserved g c =
    let front = take c.args.at c.args.into.now in
    let line = slots_of c.args.slots.now.kind in
    let list = c.args.slots.now.list in
    let groups = run_groups line (payload_row_of 4080 c.args.row (g.F.TakeFrame.bytes c.args.frame.now)) list c.args.first in
    let here = payload_group line (payload_row_of 4080 c.args.row (g.F.TakeFrame.bytes c.args.frame.now)) list (c.args.first + c.loop-i.i) in
    record {
      end = (let m = length list in let more : m * (c.loop-i.i + 1) ≡ m * c.loop-i.i + m = omega arith in let was = c.loop-i.invariant.end in let now = c.put_cycle-end.ensures.end in omega arith);
      bytes = c.put_cycle-end.ensures.bytes ∙ ap (λ ys. ys ++ here) c.loop-i.invariant.bytes ∙ append_assoc front (groups c.loop-i.i) here
          ∙ ap (λ ys. front ++ ys) (sym (run_groups-more line (payload_row_of 4080 c.args.row (g.F.TakeFrame.bytes c.args.frame.now)) list c.args.first c.loop-i.i));
    }
