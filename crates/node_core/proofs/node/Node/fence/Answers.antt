use Rattle.port_base.specs.Racks.{bays_view}
use Rattle.node_moments.proofs.Fences.{fence_moves}
use Rattle.node_core.proofs.node.Node.fence.Goals as goal

pub returns-clause-stands : goal.returns-clause-stands
returns-clause-stands g c = λ plan first read h.
    fence_moves plan first read c.args.self.now c.next_turn.new.self (bays_view g.P.Source g.K.Sink c.args.bays.now) (bays_view g.P.Source g.K.Sink c.retire_all.new.bays) c.requires.going c.requires.none
    c.next_turn.ensures.ends (rw (← c.self.view_is, ← c.deref.ensures.value) c.retire_all.ensures) h
