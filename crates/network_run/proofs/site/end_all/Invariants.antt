use Rattle.network_run.specs.Sites.{SiteTurned}
use Rattle.network_run.proofs.Each.{Gone}
use Rattle.network_run.proofs.site.end_all.Given as goal

-- the nodes so far have gone on
abbrev pub invariant-loop-site : goal.invariant-loop-site
invariant-loop-site g l = Gone (SiteTurned g.P.Source g.K.Sink) l.site-index l.fn.sites.items l.site-items
