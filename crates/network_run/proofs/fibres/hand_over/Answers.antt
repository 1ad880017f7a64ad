use Rattle.std.proofs.Common.{◌≡◌, Some, arith}
use Rattle.std.specs.Prelude.{slice_get}
use Rattle.network_run.proofs.Each.{at_index}
use Rattle.network_run.proofs.Lent.{handed, one_still}
use Rattle.network_run.proofs.fibres.hand_over.Goals as goal

pub returns-clause-taken : goal.returns-clause-taken
returns-clause-taken g c = λ e.
    let sites = c.args.sites.now.items in
    let old = c.index_mut.result.now in
    let at : slice_get sites c.args.span.now.there ≡ Some old =
    at_index sites c.args.span.now.there old (let test = c.if-there-len.false in let ok = c.args.sites.now.ok in let len = c.len.ensures in omega arith)
    c.index_mut.ensures.value in
    handed g.P.Source g.K.Sink sites c.args.span.now.there c.args.span.now.into c.args.frames.now old c.hand_in.new.site at (c.hand_in.ensures.taken e)

pub returns-clause-not : goal.returns-clause-not
returns-clause-not g c = λ e.
    let sites = c.args.sites.now.items in
    let old = c.index_mut.result.now in
    let at : slice_get sites c.args.span.now.there ≡ Some old =
    at_index sites c.args.span.now.there old (let test = c.if-there-len.false in let ok = c.args.sites.now.ok in let len = c.len.ensures in omega arith)
    c.index_mut.ensures.value in
    one_still g.P.Source g.K.Sink sites c.args.span.now.there old c.hand_in.new.site at (c.hand_in.ensures.not e)
