use Rattle.std.proofs.Common.{◌<◌, length, sym}
use Rattle.pcap_packets.proofs.Digits.{all_lower-none}
use Rattle.pcap_packets.proofs.ManyLines.{lower_next}
use Rattle.pcap_packets.proofs.leading.all_digits.Goals as goal

pub loop-byte-init : goal.loop-byte-init
loop-byte-init c = record { all = sym all_lower-none }

pub loop-byte-preserved : goal.loop-byte-preserved
loop-byte-preserved c =
    let i = c.loop-byte.byte-index in
    let bytes = c.args.bytes.now in
    let less : i < length bytes = c.loop-byte-test.true in
    record { all = rw (c.loop-byte.invariant.all, c.is_digit-all.ensures) (sym (lower_next bytes i less)) }
