use Rattle.std.proofs.Common.{refl, arith}
use Rattle.pcap_packets.proofs.ManyLines.{rest_all}
use Rattle.pcap_packets.proofs.DecodedDigits.{decoded_none, decoded_more}
use Rattle.pcap_packets.proofs.decoding.decode_front.Goals as goal

pub loop-count-init : goal.loop-count-init
loop-count-init c = record { decoded = decoded_none c.args.text.now c.args.buffer.now c.args.at c.requires; even = refl }

pub returns-then-more-lt-BLOCK : goal.returns-then-more-lt-BLOCK
returns-then-more-lt-BLOCK c =
    let text = c.args.text.now in
    let l = c.loop-count in
    decoded_more text c.args.buffer.now l.buffer c.decode_some-more.new.buffer c.args.at l.count c.decode_some-more.result l.invariant.even l.auto.buffer l.invariant.decoded (rw (rest_all l.count text) at c.decode_some-more.ensures.decoded)

pub loop-count-preserved : goal.loop-count-preserved
loop-count-preserved c =
    let text = c.args.text.now in
    let l = c.loop-count in
    let e = c.decode_some-more.ensures in
    record {
      decoded = decoded_more text c.args.buffer.now l.buffer c.decode_some-more.new.buffer c.args.at l.count c.decode_some-more.result l.invariant.even l.auto.buffer l.invariant.decoded (rw (rest_all l.count text) at e.decoded);
      even = omega (arith, l.invariant.even, e.bound, c.if-more-lt-BLOCK.false);
    }

pub returns : goal.returns
returns c =
    let text = c.args.text.now in
    let l = c.loop-count in
    decoded_more text c.args.buffer.now l.buffer c.decode_last.new.buffer c.args.at l.count c.decode_last.result l.invariant.even l.auto.buffer l.invariant.decoded (rw (rest_all l.count text) at c.decode_last.ensures)
