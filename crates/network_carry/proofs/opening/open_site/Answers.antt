use Rattle.network_run.specs.Sites.{rack_view, site_view}
use Rattle.network_carry.proofs.Opened.{keeps_edges, site_opens}
use Rattle.network_carry.proofs.opening.open_site.Goals as goal

pub returns-clause-opens : goal.returns-clause-opens
returns-clause-opens g c =
    site_opens g.P.Source g.K.Sink c.args.fibres.now c.args.index c.args.plan.now record { node = c.in_ok-node.node; bays = c.put_near_ends.new.bays }
    (rack_view g.P.Source g.K.Sink c.args.places) (rack_view g.P.Source g.K.Sink c.put_far_ends.new.bays) c.in_ok-node.ensures.stands
    c.in_ok-put_far_ends.ensures c.in_ok-put_near_ends.ensures

pub returns-clause-edges : goal.returns-clause-edges
returns-clause-edges g c =
    keeps_edges c.args.fibres.now c.args.index (rack_view g.P.Source g.K.Sink c.args.places) (rack_view g.P.Source g.K.Sink c.put_far_ends.new.bays)
    (rack_view g.P.Source g.K.Sink c.put_near_ends.new.bays) c.in_ok-put_far_ends.ensures c.in_ok-put_near_ends.ensures
