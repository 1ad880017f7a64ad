use Rattle.node_moments.specs.Stands.{no_bytes}
use Rattle.node_tests.proofs.orders.run.Goals as goal

pub state_of_first-requires : goal.state_of_first-requires
state_of_first-requires c =
    let later = c.carry.ensures.stands c.args.plan.now _ no_bytes (c.in_ok-node.ensures.stands _) in
    later.stands.plan_stands.count
