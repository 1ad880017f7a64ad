use Rattle.std.proofs.Common.{◌≡◌, length, refl}
use Rattle.node_core.proofs.Told.{all_told}
use Rattle.node_core.proofs.WholeRuns.{run_told}
use Rattle.node_core.proofs.node.Node.numbers.Goals as goal

pub returns-clause-told : goal.returns-clause-told
returns-clause-told c = λ plan.
    let lines : length c.args.self.now.lines_in ≡ 4 = rw (← c.self.view_is) c.self.invariant.lines_in in
    let outs : length c.args.self.now.lines_out ≡ 4 = rw (← c.self.view_is) c.self.invariant.lines_out in
    all_told plan c.args.self.now _ lines outs
    c.lines_in_told-lines_in.ensures c.lines_out_told-lines_out.ensures c.clients_in_told-clients_in.ensures c.clients_out_told-clients_out.ensures c.states_told-from.ensures

pub returns-clause-left : goal.returns-clause-left
returns-clause-left c = λ plan first last s.
    let lines : length c.args.self.now.lines_in ≡ 4 = rw (← c.self.view_is) c.self.invariant.lines_in in
    let outs : length c.args.self.now.lines_out ≡ 4 = rw (← c.self.view_is) c.self.invariant.lines_out in
    (s.settled.takings, run_told plan first s.was last s.read c.args.self.now c.args.outcome _ lines outs s.stands s.over s.settled s.asked (returns-clause-told c plan) refl)
