use Rattle.std.proofs.Common.{◌∙◌, ap, length, arith}
use Rattle.pcap_packets.specs.Written.{all_lower}
use Rattle.pcap_packets.proofs.Digits.{all_lower-none}
use Rattle.pcap_packets.proofs.record.LineRecord.new.Goals as goal

pub invariant_of-result : goal.invariant_of-result
invariant_of-result c =
    let none = c.in_ok-new.ensures.none in
    record { front = c.in_ok-new.ensures.front; few = omega (arith, ap length none); digits = ap all_lower none ∙ all_lower-none; even = λ some. absurd (some c.in_ok-new-2.ensures.none) }
