use Rattle.std.proofs.Common.{◌≡◌, ◌+◌, ◌-◌, ◌*◌, length, arith}
use Rattle.packet_text.proofs.DigitBlocks.{Seen, more_seen}
use Rattle.packet_text.proofs.pairs.decode_blocks.Goals as goal

pub loop-two-preserved : goal.loop-two-preserved
loop-two-preserved c =
    let first = c.decode_block-seen.ensures in
    let second = c.decode_block-seen-in-loop-two.ensures in
    let last = length c.args.bytes.now - 16 in
    let some = c.requires.some in
    let long = c.loop-two.auto.bytes in
    let size = first.size in
    let one : Seen c.args.digits.now c.decode_block-seen.new.bytes c.decode_block-seen.result (32 * c.loop-two.two + 16) =
    more_seen _ _ _ _ _ (32 * c.loop-two.two) last _ first.size (omega (arith, some, long)) c.min.ensures first.seen first.here first.none first.before
    c.loop-two.invariant in
    let two : Seen c.args.digits.now c.decode_block-seen-in-loop-two.new.bytes c.decode_block-seen-in-loop-two.result (32 * c.loop-two.two + 16 + 16) =
    more_seen _ _ _ _ _ (32 * c.loop-two.two + 16) last _ second.size (omega (arith, some, long, size)) c.min-in-loop-two.ensures second.seen second.here
    second.none second.before one in
    let next : 32 * c.loop-two.two + 16 + 16 ≡ 32 * (c.loop-two.two + 1) = omega arith in
    rw next at two
