use Rattle.std.proofs.Common.{◌∙◌, w8}
use Rattle.std.proofs.lemmas.Simd.{length-swz_l}
use Rattle.std.specs.Simd.Lanes.{chunk}
use Rattle.lane_kernels.proofs.Spreads.{lanes_spread, pair_put, pair_kept, pair_outside}
use Rattle.lane_kernels.proofs.spread.put_pair.Goals as goal

pub swizzle-new : goal.swizzle-new
swizzle-new c = lanes_spread c.args.lanes c.requires.long c.requires.low

pub where_low-merged-requires-clause-new : goal.where_low-merged-requires-clause-new
where_low-merged-requires-clause-new c = length-swz_l w8 16 (chunk c.args.from 16 c.args.bytes.now) 0 c.args.lanes ∙ c.requires.long

pub returns-clause-here : goal.returns-clause-here
returns-clause-here c =
    pair_put c.args.bytes.now c.args.row.now c.args.lanes c.where_low-merged.result c.args.from c.args.at c.requires.row c.requires.long c.where_low-merged.ensures.long c.where_low-merged.ensures.each

pub returns-clause-kept : goal.returns-clause-kept
returns-clause-kept c =
    pair_kept c.args.bytes.now c.args.row.now c.args.lanes c.where_low-merged.result c.args.from c.args.at c.requires.row c.where_low-merged.ensures.long c.where_low-merged.ensures.each

pub returns-clause-outside : goal.returns-clause-outside
returns-clause-outside c = pair_outside c.args.row.now c.where_low-merged.result c.args.at c.where_low-merged.ensures.long
