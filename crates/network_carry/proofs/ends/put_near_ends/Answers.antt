use Rattle.network_run.specs.Sites.{rack_view}
use Rattle.network_carry.proofs.PutEnds.{near_next, near_none}
use Rattle.network_carry.proofs.ends.put_near_ends.Goals as goal

pub loop-b-init : goal.loop-b-init
loop-b-init g c = near_none c.args.fibres.now c.args.node (rack_view g.P.Source g.K.Sink c.args.bays.now)

pub loop-b-preserved : goal.loop-b-preserved
loop-b-preserved g c =
    near_next c.args.fibres.now c.args.node c.loop-b.b (rack_view g.P.Source g.K.Sink c.args.bays.now) (rack_view g.P.Source g.K.Sink c.loop-b.bays)
    (rack_view g.P.Source g.K.Sink c.put_near_end.new.bays) c.loop-b.invariant c.in_ok-put_near_end.ensures
