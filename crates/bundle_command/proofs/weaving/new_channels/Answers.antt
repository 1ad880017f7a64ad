use Rattle.std.proofs.Common.{◌+◌, arith, sym, subst}
use Rattle.bundle_command.proofs.Lists.{Made, made_all, made_none, made_one}
use Rattle.bundle_command.proofs.weaving.new_channels.Goals as goal

pub loop-client-init : goal.loop-client-init
loop-client-init c = subst (λ cs. Made c.args.clients.now cs 0) (sym c.new-channels.ensures.items) (made_none c.args.clients.now)

pub loop-client-preserved : goal.loop-client-preserved
loop-client-preserved c =
    let n = c.loop-client.client-index in
    subst (λ cs. Made c.args.clients.now cs (n + 1)) (sym c.in_ok-push.ensures.items)
    (made_one c.args.clients.now c.loop-client.channels.items n c.in_ok-new.field-0 c.in_ok-new.ensures.stands c.in_ok-new.ensures.client c.in_ok-new.ensures.fresh c.loop-client.invariant)

pub returns : goal.returns
returns c = made_all c.args.clients.now c.loop-client.channels.items c.loop-client.client-index (let test = c.loop-client-test.false in omega arith) (let most = c.loop-client.auto.client-index-end in omega arith) c.loop-client.invariant
