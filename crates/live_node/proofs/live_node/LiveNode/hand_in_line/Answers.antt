use Rattle.std.proofs.Common.{ap, arith, ◌∙◌}
use Rattle.port_base.specs.Racks.{line_outs, client_outs}
use Rattle.live_laws.specs.Live.{with_line}
use Rattle.live_laws.proofs.Live.{live_line}
use Rattle.live_laws.proofs.LiveTurns.{live_turns}
use Rattle.live_node.specs.Places.{places}
use Rattle.live_node.proofs.Calm.{calm}
use Rattle.live_node.proofs.Turning.{stays_as}
use Rattle.live_node.proofs.live_node.LiveNode.hand_in_line.Goals as goal

pub returns-clause-taken : goal.returns-clause-taken
returns-clause-taken c = λ taken plan handed h.
    let e = c.hand_in_line-answer.ensures in
    let noted = c.note_line.new.self in
    let is = places c.hand_in_line-answer.new.bays in
    let frames = c.args.frames.now in
    let one = stays_as plan handed c.args.self.now.node noted.node (places c.args.self.now.bays) (places noted.bays) c.note_line.ensures.still h in
    stays_as plan (with_line c.args.a frames handed) noted.node c.line_answered.new.self.node is (places c.line_answered.new.self.bays)
    c.line_answered.ensures.still
    (live_line plan handed noted.node c.args.a frames (places noted.bays) is (omega arith) (e.going taken) (calm c.hand_in_line-answer.new.bays) (e.grew taken) one)

pub returns-clause-still : goal.returns-clause-still
returns-clause-still c = λ not. record {
  node = c.line_answered.ensures.still.node ∙ c.note_line.ensures.still.node;
  places = c.line_answered.ensures.still.places ∙ c.hand_in_line-answer.ensures.still not ∙ c.note_line.ensures.still.places;
}

pub returns-clause-left : goal.returns-clause-left
returns-clause-left c = λ taken plan handed h.
    let new = c.line_answered.new.self in
    live_turns plan (with_line c.args.a c.args.frames.now handed) new.node (places new.bays) (returns-clause-taken c taken plan handed h) new.served

pub returns-clause-kept : goal.returns-clause-kept
returns-clause-kept c =
    let e = c.hand_in_line-answer.ensures.keeps in
    record {
      lines = ap line_outs c.line_answered.ensures.bays ∙ e.lines ∙ ap line_outs c.note_line.ensures.bays;
      clients = ap client_outs c.line_answered.ensures.bays ∙ e.clients ∙ ap client_outs c.note_line.ensures.bays;
    }
