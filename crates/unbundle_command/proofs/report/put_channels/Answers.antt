use Rattle.std.proofs.Common.{◌≡◌, ◌++◌, arith, sym, subst, append-nil}
use Rattle.unbundle_command.specs.Unbundled.{channel_lines}
use Rattle.unbundle_command.proofs.Telling.{line_more}
use Rattle.unbundle_command.proofs.report.put_channels.Goals as goal

pub loop-cid-init : goal.loop-cid-init
loop-cid-init c = record { text = λ first now arrived h few. sym (append-nil c.args.text.now.bytes); most = omega arith }

pub put_channel-requires : goal.put_channel-requires
put_channel-requires c = omega (arith, c.requires.room, c.loop-cid.invariant.most, c.loop-cid-test.true)

pub loop-cid-preserved : goal.loop-cid-preserved
loop-cid-preserved c = record {
  text = λ first now arrived h few.
      line_more first now arrived c.args.outputs.now c.loop-cid.cid c.channel.result.now c.args.text.now.bytes c.loop-cid.text.bytes c.put_channel.new.text.bytes h few c.loop-cid-test.true c.channel.ensures
      (c.loop-cid.invariant.text first now arrived h few) c.put_channel.ensures.text;
  most = omega (arith, c.put_channel.ensures.most, c.loop-cid.invariant.most);
}

pub returns-clause-text : goal.returns-clause-text
returns-clause-text c = λ first now arrived h few.
    let all : c.loop-cid.cid ≡ 16 = omega (arith, c.loop-cid-test.false, c.loop-cid.auto.cid-end) in
    subst (λ n. c.loop-cid.text.bytes ≡ c.args.text.now.bytes ++ channel_lines arrived n) all (c.loop-cid.invariant.text first now arrived h few)
