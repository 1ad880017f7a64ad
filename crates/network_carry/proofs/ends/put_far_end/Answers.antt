use Rattle.std.proofs.Common.{sym, subst, rules}
use Rattle.network_run.specs.Sites.{rack_view}
use Rattle.network_carry.specs.Ends.{FarEnd}
use Rattle.network_carry.proofs.PutEnds.{far_put}
use Rattle.network_carry.proofs.ends.put_far_end.Goals as goal

pub returns-in_ok-end : goal.returns-in_ok-end
returns-in_ok-end g c =
    let bays = c.args.bays.now in
    subst (λ rack. FarEnd c.args.fibres.now c.args.node c.args.c (rack_view g.P.Source g.K.Sink bays) (rack_view g.P.Source g.K.Sink rack))
    (sym c.set_line_in.ensures)
    (far_put g.P.Source g.K.Sink c.args.fibres.now c.args.node c.args.c bays c.in_ok-end.end c.requires.few c.in_ok-end.ensures (search rules))
