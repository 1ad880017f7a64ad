use Rattle.std.proofs.Common.{arith}
use Rattle.view_events.proofs.Reading.{alignment_read, turn_by, turn_word}
use Rattle.view_events.proofs.view_lines.turn_said.Goals as goal

pub returns : goal.returns
returns c frames said h is =
    let line = c.args.line.now in
    let a = c.alignment_of-alignment in
    turn_by said c.number_at-number.result a.result c.number_at-lead_in.result c.number_at-fas.result c.number_at-sm.result c.number_at-pm.result
    (c.number_at-number.ensures said.number h.number (turn_word frames said h line is 1 (omega arith)))
    (alignment_read a.result said.alignment _ (turn_word frames said h line is 2 (omega arith)) a.ensures.whole a.ensures.lost a.ensures.none a.ensures.end)
    (c.number_at-lead_in.ensures said.lead_in h.lead_in (turn_word frames said h line is 6 (omega arith)))
    (c.number_at-fas.ensures said.fas h.fas (turn_word frames said h line is 8 (omega arith)))
    (c.number_at-sm.ensures said.sm h.sm (turn_word frames said h line is 10 (omega arith)))
    (c.number_at-pm.ensures said.pm h.pm (turn_word frames said h line is 12 (omega arith)))
