use Rattle.std.proofs.Common.{◌≡◌, ◌≢◌, arith, rules}
use Rattle.bundle_command.specs.declared.channel.Standing.TheVariants.{Ended}
use Rattle.bundle_command.proofs.Lists.{all_ended, known_item, one_more, some_open}
use Rattle.bundle_command.proofs.settling.are_ended.Goals as goal

pub loop-channel-preserved : goal.loop-channel-preserved
loop-channel-preserved c =
    let ended : c.channel-item.result.standing ≡ Ended = search rules in
    one_more (λ k channel. channel.standing ≡ Ended) c.args.channels.now c.loop-channel.channel-index c.channel-item.result
    (known_item c.args.channels.now c.loop-channel.channel-index c.channel-item.result (let test = c.loop-channel-test.true in omega arith) c.channel-item.is) ended c.loop-channel.invariant

pub returns-then-ne : goal.returns-then-ne
returns-then-ne c =
    let other : c.channel-item.result.standing ≢ Ended = search rules in
    some_open c.args.channels.now c.loop-channel.channel-index c.channel-item.result
    (known_item c.args.channels.now c.loop-channel.channel-index c.channel-item.result (let test = c.loop-channel-test.true in omega arith) c.channel-item.is) other

pub returns : goal.returns
returns c = all_ended c.args.channels.now c.loop-channel.channel-index (let test = c.loop-channel-test.false in omega arith) c.loop-channel.invariant
