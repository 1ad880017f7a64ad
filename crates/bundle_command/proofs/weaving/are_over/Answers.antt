use Rattle.std.proofs.Common.{◌≡◌, arith, rules, true}
use Rattle.bundle_command.specs.Steps.Channels.{is_over}
use Rattle.bundle_command.proofs.Idles.{all_over}
use Rattle.bundle_command.proofs.Lists.{known_item, one_more}
use Rattle.bundle_command.proofs.weaving.are_over.Goals as goal

pub loop-channel-preserved : goal.loop-channel-preserved
loop-channel-preserved c =
    let over : is_over c.channel-item.result.standing ≡ true = search rules in
    one_more (λ k channel. is_over channel.standing ≡ true) c.args.channels.now c.loop-channel.channel-index c.channel-item.result
    (known_item c.args.channels.now c.loop-channel.channel-index c.channel-item.result (let test = c.loop-channel-test.true in omega arith) c.channel-item.is) over c.loop-channel.invariant

pub returns : goal.returns
returns c = λ yes. all_over c.args.channels.now c.loop-channel.channel-index (let test = c.loop-channel-test.false in omega arith) c.loop-channel.invariant
