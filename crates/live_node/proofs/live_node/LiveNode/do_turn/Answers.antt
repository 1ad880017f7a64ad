use Rattle.std.proofs.Common.{rules, ◌∙◌}
use Rattle.network_core.proofs.Growth.{grows_twice}
use Rattle.live_node.specs.Places.{places}
use Rattle.live_node.proofs.Keeping.{all_handed}
use Rattle.live_node.proofs.Turning.{puts_out, still, turned}
use Rattle.live_node.proofs.live_node.LiveNode.do_turn.Goals as goal

pub returns-clause-stands : goal.returns-clause-stands
returns-clause-stands c =
    turned c.args.self.now.node c.end_turn.new.node c.serve_outputs.new.node (places c.args.self.now.bays) (places c.let_go_of_outputs.new.bays)
    c.end_turn.new.bays
    c.serve_outputs.new.bays c.let_go_of_outputs.ensures c.end_turn.ensures.stands c.serve_outputs.ensures.stands c.end_turn.ensures.node c.serve_outputs.ensures.node

pub returns-then-not-keep_all-clause-stands : goal.returns-then-not-keep_all-clause-stands
returns-then-not-keep_all-clause-stands c =
    turned c.args.self.now.node c.end_turn.new.node c.serve_outputs.new.node (places c.args.self.now.bays) (places c.let_go_of_outputs.new.bays)
    c.end_turn.new.bays
    c.serve_outputs.new.bays c.let_go_of_outputs.ensures c.end_turn.ensures.stands c.serve_outputs.ensures.stands c.end_turn.ensures.node c.serve_outputs.ensures.node

pub returns-clause-left : goal.returns-clause-left
returns-clause-left c =
    puts_out c.args.self.now.node c.serve_outputs.new.node (places c.args.self.now.bays) (places c.serve_outputs.new.bays)
    (turned c.args.self.now.node c.end_turn.new.node c.serve_outputs.new.node (places c.args.self.now.bays) (places c.let_go_of_outputs.new.bays)
    c.end_turn.new.bays
    c.serve_outputs.new.bays c.let_go_of_outputs.ensures c.end_turn.ensures.stands c.serve_outputs.ensures.stands c.end_turn.ensures.node c.serve_outputs.ensures.node)
    c.serve_outputs.ensures.served

pub returns-then-not-keep_all-clause-left : goal.returns-then-not-keep_all-clause-left
returns-then-not-keep_all-clause-left c =
    puts_out c.args.self.now.node c.serve_outputs.new.node (places c.args.self.now.bays) (places c.serve_outputs.new.bays)
    (turned c.args.self.now.node c.end_turn.new.node c.serve_outputs.new.node (places c.args.self.now.bays) (places c.let_go_of_outputs.new.bays)
    c.end_turn.new.bays
    c.serve_outputs.new.bays c.let_go_of_outputs.ensures c.end_turn.ensures.stands c.serve_outputs.ensures.stands c.end_turn.ensures.node c.serve_outputs.ensures.node)
    c.serve_outputs.ensures.served

pub returns-then-finished-clause-left : goal.returns-then-finished-clause-left
returns-then-finished-clause-left c =
    let node = c.args.self.now.node in
    let bays = places c.args.self.now.bays in
    puts_out node node bays bays (still node bays) c.args.self.now.served

pub returns-in-Some-clause-left : goal.returns-in-Some-clause-left
returns-in-Some-clause-left c =
    let node = c.args.self.now.node in
    let bays = places c.args.self.now.bays in
    puts_out node node bays bays (still node bays) c.args.self.now.served

pub returns-clause-handed : goal.returns-clause-handed
returns-clause-handed c = λ done.
    let sent = c.sent_so_far-sent.result in
    all_handed sent.lines sent.clients c.args.self.now.node c.serve_outputs.new.node (places c.args.self.now.bays) (places c.let_go_of_outputs.new.bays)
    c.serve_outputs.new.bays c.let_go_of_outputs.ensures c.sent_so_far-sent.ensures (search rules)
    (grows_twice (places c.let_go_of_outputs.new.bays) (places c.end_turn.new.bays) (places c.serve_outputs.new.bays) c.end_turn.ensures.grows c.serve_outputs.ensures.grows)
    (returns-clause-stands c) c.args.self.now.served c.serve_outputs.ensures.served (c.serve_outputs.ensures.past ∙ c.end_turn.ensures.past)
