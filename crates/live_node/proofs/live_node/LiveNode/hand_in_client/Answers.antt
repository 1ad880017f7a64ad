use Rattle.std.proofs.Common.{ap, arith, ◌∙◌}
use Rattle.port_base.specs.Racks.{line_outs, client_outs}
use Rattle.live_laws.specs.Live.{with_client}
use Rattle.live_laws.proofs.Live.{live_client}
use Rattle.live_laws.proofs.LiveTurns.{live_turns}
use Rattle.live_node.specs.Places.{places}
use Rattle.live_node.proofs.Calm.{calm}
use Rattle.live_node.proofs.Turning.{stays_as}
use Rattle.live_node.proofs.live_node.LiveNode.hand_in_client.Goals as goal

pub returns-clause-taken : goal.returns-clause-taken
returns-clause-taken c = λ taken plan handed h.
    let e = c.hand_in_client-answer.ensures in
    let node = c.args.self.now.node in
    let was = places c.args.self.now.bays in
    let is = places c.hand_in_client-answer.new.bays in
    let text = c.args.text.now in
    stays_as plan (with_client c.args.n text handed) node c.client_answered.new.self.node is (places c.client_answered.new.self.bays)
    c.client_answered.ensures.still
    (live_client plan handed node c.args.n text was is (omega arith) (e.going taken) (calm c.hand_in_client-answer.new.bays) (e.grew taken) h)

pub returns-clause-left : goal.returns-clause-left
returns-clause-left c = λ taken plan handed h.
    let new = c.client_answered.new.self in
    live_turns plan (with_client c.args.n c.args.text.now handed) new.node (places new.bays) (returns-clause-taken c taken plan handed h) new.served

pub returns-clause-kept : goal.returns-clause-kept
returns-clause-kept c =
    let e = c.hand_in_client-answer.ensures.keeps in
    record {
      lines = ap line_outs c.client_answered.ensures.bays ∙ e.lines;
      clients = ap client_outs c.client_answered.ensures.bays ∙ e.clients;
    }
