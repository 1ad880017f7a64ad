use Rattle.lane_kernels.proofs.Spreads.{pair_spread, pair_others}
use Rattle.lane_kernels.proofs.spread.put_pairs.Goals as goal

pub loop-pair-preserved : goal.loop-pair-preserved
loop-pair-preserved c =
    let lanes = c.spread_lanes-lanes in
    record {
      here = pair_spread c.args.slots.now c.args.bytes.now c.loop-pair.row c.put_pair.new.row lanes.result c.loop-pair.pair c.requires.slots c.requires.few lanes.ensures
          c.loop-pair.invariant.here c.put_pair.ensures.here c.put_pair.ensures.outside;
      others = pair_others c.args.slots.now c.args.row.now c.loop-pair.row c.put_pair.new.row lanes.result c.loop-pair.pair lanes.ensures
          c.loop-pair.invariant.others c.put_pair.ensures.kept c.put_pair.ensures.outside;
    }
