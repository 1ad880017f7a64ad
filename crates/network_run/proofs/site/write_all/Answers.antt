use Rattle.std.proofs.Common.{◌≡◌, ◌<◌, ◌≤◌, length, arith, rules}
use Rattle.network_run.specs.Sites.{SiteWent}
use Rattle.network_run.proofs.Each.{one_gone, all_gone_back}
use Rattle.network_run.proofs.site.write_all.Goals as goal

pub loop-site-preserved : goal.loop-site-preserved
loop-site-preserved g c =
    let olds = c.args.sites.now.items in
    let news = c.loop-site.site-items in
    let i = c.loop-site.site-index in
    let count : length news ≡ length olds = c.loop-site.invariant.count in
    let less : i < length olds = (let test = c.loop-site-test.true in omega arith) in
    one_gone (SiteWent g.P.Source g.K.Sink) i olds news c.site-item.result c.write_site.new.site less c.loop-site.invariant c.write_site.ensures

pub returns : goal.returns
returns g c =
    let olds = c.args.sites.now.items in
    let news = c.loop-site.site-items in
    let i = c.loop-site.site-index in
    let count : length news ≡ length olds = c.loop-site.invariant.count in
    let most : length olds ≤ i = (let test = c.loop-site-test.false in omega arith) in
    all_gone_back (SiteWent g.P.Source g.K.Sink) i c.args.sites.now.len olds news (search rules) most c.loop-site.invariant
