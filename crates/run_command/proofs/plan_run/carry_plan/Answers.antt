use Rattle.std.proofs.Common.{◌∙◌, ap}
use Rattle.port_base.specs.Bytes.{raised}
use Rattle.port_base.specs.PortViews.{sink_view}
use Rattle.port_base.specs.Racks.{bays_view}
use Rattle.device_model.specs.RunNumbers.{numbers_of_run}
use Rattle.run_command.proofs.CarriedPlans.{carried_whole, carried_lost}
use Rattle.run_command.proofs.plan_run.carry_plan.Goals as goal

pub returns-in-Whole-clause-ran : goal.returns-in-Whole-clause-ran
returns-in-Whole-clause-ran g c =
    let first = bays_view g.I.Source g.O.Sink c.args.bays.now in
    let left = c.carry_node-numbers.ensures.left c.args.plan.now first (c.in_ok-node.ensures.stands first) in
    let asked = c.carry_node-numbers.ensures.asked ∙ ap (λ pieces. raised (g.C.Chooser.asked c.args.chooser.now) pieces) c.in_ok-node.ensures.left in
    let text = c.as_bytes.ensures.value ∙ c.deref.ensures.0 ∙ c.put_report.ensures.text in
    carried_whole c.args.plan.now first (bays_view g.I.Source g.O.Sink c.carry_node-numbers.new.bays) (sink_view g.K.Sink c.args.report.now) (sink_view g.K.Sink c.write_whole.new.sink)
    (g.C.Chooser.asked c.args.chooser.now) (g.C.Chooser.asked c.carry_node-numbers.new.chooser) left.0 (numbers_of_run c.carry_node-numbers.result) left.1
    (rw text at c.in-Whole.ensures.port) asked

pub returns-clause-ran : goal.returns-clause-ran
returns-clause-ran g c =
    let first = bays_view g.I.Source g.O.Sink c.args.bays.now in
    let left = c.carry_node-numbers.ensures.left c.args.plan.now first (c.in_ok-node.ensures.stands first) in
    let asked = c.carry_node-numbers.ensures.asked ∙ ap (λ pieces. raised (g.C.Chooser.asked c.args.chooser.now) pieces) c.in_ok-node.ensures.left in
    let text = c.as_bytes.ensures.value ∙ c.deref.ensures.0 ∙ c.put_report.ensures.text in
    carried_lost c.args.plan.now first (bays_view g.I.Source g.O.Sink c.carry_node-numbers.new.bays) (sink_view g.K.Sink c.args.report.now) (sink_view g.K.Sink c.write_whole.new.sink)
    (g.C.Chooser.asked c.args.chooser.now) (g.C.Chooser.asked c.carry_node-numbers.new.chooser) left.0 (numbers_of_run c.carry_node-numbers.result) left.1
    (rw text at c.in-Lost.ensures.port) asked
