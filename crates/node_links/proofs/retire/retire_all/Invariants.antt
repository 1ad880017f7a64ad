use Rattle.port_base.specs.Racks.{bays_view}
use Rattle.node_links.proofs.Emptied.{RestRetires}
use Rattle.node_links.proofs.retire.retire_all.Given as goal

-- those to come make the rest
abbrev pub invariant-loop-link : goal.invariant-loop-link
invariant-loop-link g l = RestRetires l.past l.link-index l.links (bays_view g.P.Source g.K.Sink l.fn.bays) (bays_view g.P.Source g.K.Sink l.bays)
