use Rattle.std.proofs.Common.{◌++◌, take}
use Rattle.tributary_model.specs.Stretches.{bytes_of}
use Rattle.trib_sink.proofs.Bytes.{no_bytes, more_bytes, all_bytes}
use Rattle.trib_sink.proofs.watching.take_all.Goals as goal

pub loop-pair-init : goal.loop-pair-init
loop-pair-init c = λ port taken h. no_bytes port taken c.args.msi.now c.args.watches.now h

pub loop-pair-preserved : goal.loop-pair-preserved
loop-pair-preserved c = λ port taken h.
    more_bytes port taken c.args.msi.now c.loop-pair.pair-index _ c.take_one.new.watches c.loop-pair-test.true
    (c.take_one.ensures port (λ k. taken k ++ bytes_of k (take c.loop-pair.pair-index c.args.msi.now)) (c.loop-pair.invariant port taken h))

pub returns : goal.returns
returns c = λ port taken h. all_bytes port taken c.args.msi.now c.loop-pair.pair-index c.loop-pair.watches c.loop-pair-test.false (c.loop-pair.invariant port taken h)
