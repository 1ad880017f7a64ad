use Rattle.port_base.specs.Racks.{bays_view}
use Rattle.node_core.proofs.runs.carry_node.Goals as goal

pub returns-clause-left : goal.returns-clause-left
returns-clause-left g c = λ plan first h.
    let later = c.carry.ensures.stands plan first _ h in
    c.numbers.ensures.left plan first (bays_view g.I.Source g.O.Sink c.settle-outcome.new.bays)
    (record {
      was = bays_view g.I.Source g.O.Sink c.carry.new.bays;
      read = later.more;
      stands = later.stands;
      over = c.carry.ensures.finished;
      settled = c.settle-outcome.ensures.settled plan first later.more later.stands;
      asked = c.settle-outcome.ensures.asked;
    })
