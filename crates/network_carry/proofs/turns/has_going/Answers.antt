use Rattle.std.proofs.Common.{◌≡◌, ◌∙◌, arith, rules}
use Rattle.network_run.proofs.Over.{is_going, none_over, over_all, over_more}
use Rattle.network_carry.proofs.turns.has_going.Goals as goal

pub loop-site-init : goal.loop-site-init
loop-site-init g c = none_over c.args.sites.now

pub loop-site-preserved : goal.loop-site-preserved
loop-site-preserved g c =
    over_more c.args.sites.now c.loop-site.site-index c.site-item.result (let test = c.loop-site-test.true in omega arith) c.site-item.is
    (search rules) c.loop-site.invariant

pub returns-then-not-finished-clause-some : goal.returns-then-not-finished-clause-some
returns-then-not-finished-clause-some g c = λ e.
    is_going c.args.sites.now c.loop-site.site-index c.site-item.result (let test = c.loop-site-test.true in omega arith) c.site-item.is (search rules)

pub returns-clause-none : goal.returns-clause-none
returns-clause-none g c = λ e. over_all c.args.sites.now c.loop-site.site-index (let test = c.loop-site-test.false in omega arith) c.loop-site.invariant
