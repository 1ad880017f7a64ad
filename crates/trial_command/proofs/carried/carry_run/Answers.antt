use Rattle.port_base.specs.Racks.{bays_view}
use Rattle.port_base.specs.contracts.mem_source.MemSourceSource.TheImpl as source
use Rattle.node_moments.specs.NodeView.{left_of}
use Rattle.device_model.specs.RunNumbers.{numbers_of_run}
use Rattle.trial_command.proofs.TrialPlaces.{run_went}
use Rattle.trial_command.proofs.carried.carry_run.Goals as goal

pub returns : goal.returns
returns g c =
    let first = bays_view source.ghosts g.K.Sink c.args.bays.now in
    run_went g.K.Sink c.args.run first c.carry_node.new.bays c.in_ok-plan.plan (numbers_of_run c.carry_node.result) (g.C.Chooser.asked c.args.chooser.now) (g.C.Chooser.asked c.carry_node.new.chooser) (left_of c.in_ok-node.node)
    c.requires c.in_ok-plan.ensures.plan (c.carry_node.ensures.left c.in_ok-plan.plan first (c.in_ok-node.ensures.stands first)) c.in_ok-node.ensures.left c.carry_node.ensures.asked
