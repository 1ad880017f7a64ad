use Rattle.network_run.specs.Sites.{rack_view}
use Rattle.network_carry.proofs.PutEnds.{far_next, far_none}
use Rattle.network_carry.proofs.ends.put_far_ends.Goals as goal

pub loop-c-init : goal.loop-c-init
loop-c-init g c = far_none c.args.fibres.now c.args.node (rack_view g.P.Source g.K.Sink c.args.bays.now)

pub loop-c-preserved : goal.loop-c-preserved
loop-c-preserved g c =
    far_next c.args.fibres.now c.args.node c.loop-c.c (rack_view g.P.Source g.K.Sink c.args.bays.now) (rack_view g.P.Source g.K.Sink c.loop-c.bays)
    (rack_view g.P.Source g.K.Sink c.put_far_end.new.bays) c.loop-c.invariant c.in_ok-put_far_end.ensures
