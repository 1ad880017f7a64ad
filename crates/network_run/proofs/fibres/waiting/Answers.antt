use Rattle.std.proofs.Common.{arith}
use Rattle.network_run.proofs.Lent.{waits_if}
use Rattle.network_run.proofs.fibres.waiting.Goals as goal

pub returns : goal.returns
returns g c =
    waits_if g.P.Source g.K.Sink c.args.sites.now c.args.span.now c.args.mark c.waiting_at.new.frames.items c.index-sites-here.result c.line_out.result.now
    (let test = c.if-here-sites.false in omega arith) c.line_out.ensures c.waiting_at.result c.waiting_at.ensures
