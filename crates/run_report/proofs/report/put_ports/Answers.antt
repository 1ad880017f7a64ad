use Rattle.std.proofs.Common.{◌≡◌, ◌≤◌, ◌+◌, ◌*◌, ◌++◌, arith, sym, subst, append-nil, length}
use Rattle.port_base.specs.Racks.{bays_view}
use Rattle.device_model.specs.Moments.{uses}
use Rattle.device_model.specs.Report.{used_lines}
use Rattle.device_model.specs.RunNumbers.{numbers_of_run}
use Rattle.run_report.specs.Steps.RunReport.{count_of, port_line, port_of, width_of}
use Rattle.run_report.proofs.RunReports.{most_more, room_left, used_more}
use Rattle.run_report.proofs.report.put_ports.Goals as goal

pub loop-n-init : goal.loop-n-init
loop-n-init g c = record { text = sym (append-nil c.args.text.now.bytes); most = omega arith }

pub put_used-requires-clause-port : goal.put_used-requires-clause-port
put_used-requires-clause-port g c = omega (arith, c.loop-n-test.true, c.count-n-end.ensures)

pub put_used-requires-clause-room : goal.put_used-requires-clause-room
put_used-requires-clause-room g c =
    room_left (length c.args.text.now.bytes) (length c.loop-n.text.bytes) (width_of c.args.kind) c.loop-n.n (count_of c.args.kind) c.loop-n.invariant.most (omega (arith, c.loop-n-test.true, c.count-n-end.ensures)) c.requires.room

pub loop-n-preserved : goal.loop-n-preserved
loop-n-preserved g c = record {
  text = used_more (λ n. uses c.args.plan.now (port_of c.args.kind n)) (port_line (numbers_of_run c.args.numbers.now) (bays_view g.I.Source g.O.Sink c.args.bays.now) c.args.kind)
      c.loop-n.n c.args.text.now.bytes c.loop-n.text.bytes c.put_used.new.text.bytes c.loop-n.invariant.text c.put_used.ensures.text;
  most = most_more (length c.args.text.now.bytes) (length c.loop-n.text.bytes) (length c.put_used.new.text.bytes) (width_of c.args.kind) c.loop-n.n c.loop-n.invariant.most c.put_used.ensures.most;
}

pub returns-clause-text : goal.returns-clause-text
returns-clause-text g c =
    let last : c.loop-n.n ≡ count_of c.args.kind = omega (arith, c.loop-n-test.false, c.loop-n.auto.n-end, c.count-n-end.ensures) in
    subst
    (λ k. c.loop-n.text.bytes ≡ c.args.text.now.bytes
    ++ used_lines k (λ n. uses c.args.plan.now (port_of c.args.kind n)) (port_line (numbers_of_run c.args.numbers.now) (bays_view g.I.Source g.O.Sink c.args.bays.now) c.args.kind))
    last c.loop-n.invariant.text

pub returns-clause-most : goal.returns-clause-most
returns-clause-most g c =
    let last : c.loop-n.n ≡ count_of c.args.kind = omega (arith, c.loop-n-test.false, c.loop-n.auto.n-end, c.count-n-end.ensures) in
    subst (λ k. length c.loop-n.text.bytes ≤ length c.args.text.now.bytes + width_of c.args.kind * k) last c.loop-n.invariant.most
