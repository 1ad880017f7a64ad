use Rattle.std.proofs.Common.{rules}
use Rattle.live_node.specs.Places.{places}
use Rattle.live_node.proofs.Keeping.{keeps_all}
use Rattle.live_node.proofs.Turning.{opens_live}
use Rattle.live_laws.proofs.LiveTurns.{live_turns}
use Rattle.node_moments.specs.Stands.{no_bytes}
use Rattle.live_node.proofs.live_node.LiveNode.new.Goals as goal

pub returns-clause-stands : goal.returns-clause-stands
returns-clause-stands c =
    let first = places c.in_ok-bays.bays in
    opens_live c.args.plan c.in_ok-node.node c.serve_outputs.new.node first c.serve_outputs.new.bays c.serve_outputs.ensures.stands
    c.in_ok-bays.ensures
    (c.in_ok-node.ensures.stands first) c.serve_outputs.ensures.node

pub returns-clause-left : goal.returns-clause-left
returns-clause-left c =
    live_turns c.args.plan no_bytes c.serve_outputs.new.node (places c.serve_outputs.new.bays) (returns-clause-stands c) c.serve_outputs.ensures.served

pub returns-clause-handed : goal.returns-clause-handed
returns-clause-handed c =
    keeps_all c.nothing_sent.result.lines c.nothing_sent.result.clients c.args.plan c.serve_outputs.new.node c.serve_outputs.new.bays c.nothing_sent.ensures
    (search rules) (returns-clause-stands c) c.serve_outputs.ensures.served
