use Rattle.network_run.specs.Sites.{SiteWent}
use Rattle.network_run.proofs.Each.{Gone}
use Rattle.network_run.proofs.site.write_all.Given as goal

-- the nodes so far have gone on
abbrev pub invariant-loop-site : goal.invariant-loop-site
invariant-loop-site g l = Gone (SiteWent g.P.Source g.K.Sink) l.site-index l.fn.sites.items l.site-items
