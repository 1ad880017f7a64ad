use Rattle.std.proofs.Common.{◌≤◌, rules}
use Rattle.live_node.specs.Places.{places}
use Rattle.live_node.proofs.Calm.{calm}
use Rattle.live_node.proofs.live_node.LiveNode.finish.Goals as goal

pub returns-clause-left : goal.returns-clause-left
returns-clause-left c = λ plan handed h.
    let settled = c.settle-outcome.ensures in
    let over : c.args.self.now.node.turns ≤ c.args.self.now.node.past = search rules in
    let left = c.numbers.ensures.left plan h.first (places c.settle-outcome.new.bays) (record {
      was = places c.args.self.now.bays;
      read = h.read;
      stands = h.stands;
      over = over;
      settled = settled.settled plan h.first h.read h.stands;
      asked = settled.asked;
    }) in
    record { first = h.first; opens = h.opens; takings = left.0; left = left.1; calm = calm c.settle-outcome.new.bays }
