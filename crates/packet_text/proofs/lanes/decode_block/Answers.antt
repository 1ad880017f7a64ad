use Rattle.std.proofs.Common.{◌*◌}
use Rattle.std.proofs.lemmas.Simd.{get_or-put_chunk_below}
use Rattle.packet_text.proofs.DigitLanes.{worths_at, first_worths, second_worths, block_here, seen_small, values_small, seen_large}
use Rattle.packet_text.proofs.lanes.decode_block.Goals as goal

pub returns-clause-seen : goal.returns-clause-seen
returns-clause-seen c =
    let digits = c.args.digits.now in
    let from = 2 * c.args.at in
    let first = first_worths digits _ _ from c.load.ensures c.values-first.ensures in
    let second = second_worths digits _ _ from c.load-2.ensures c.values-second.ensures in
    seen_small c.args.seen _ _ (worths_at digits from) c.fits-seen.0 first second

pub returns-clause-here : goal.returns-clause-here
returns-clause-here c = λ all.
    let digits = c.args.digits.now in
    let from = 2 * c.args.at in
    let first = first_worths digits _ _ from c.load.ensures c.values-first.ensures in
    let second = second_worths digits _ _ from c.load-2.ensures c.values-second.ensures in
    let small = values_small c.args.seen _ _ (worths_at digits from) c.fits-seen.0 first second all in
    block_here digits c.args.bytes.now c.joined.result c.args.at c.requires.bytes (c.joined.ensures (worths_at digits from) first second small) small

pub returns-clause-none : goal.returns-clause-none
returns-clause-none c =
    let digits = c.args.digits.now in
    let from = 2 * c.args.at in
    let first = first_worths digits _ _ from c.load.ensures c.values-first.ensures in
    let second = second_worths digits _ _ from c.load-2.ensures c.values-second.ensures in
    seen_large digits c.args.seen _ _ c.args.at c.fits-seen.0 first second

pub returns-clause-before : goal.returns-clause-before
returns-clause-before c = λ i h. get_or-put_chunk_below c.args.at c.args.bytes.now c.joined.result i 0 h
