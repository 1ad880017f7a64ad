use Rattle.std.proofs.Common.{◌≢◌, [], ◌%◌, ◌∙◌, ap, length, arith}
use Rattle.pcap_packets.specs.HeldBytes.{held}
use Rattle.pcap_packets.specs.Written.{all_lower}
use Rattle.pcap_packets.proofs.Windows.{some_behind}
use Rattle.pcap_packets.proofs.Digits.{all_lower-none}
use Rattle.pcap_packets.proofs.record.LineRecord.write.Goals as goal

pub invariant_of-self-2 : goal.invariant_of-self-2
invariant_of-self-2 g c =
    let none = c.clear.ensures.none in
    record { front = c.clear.ensures.front; few = omega (arith, ap length none); digits = ap all_lower none ∙ all_lower-none; even = λ some. ap (λ l. length l % 2) none }

pub invariant_of-self : goal.invariant_of-self
invariant_of-self g c =
    let old = c.args.self.now in
    let written = c.drain.ensures.sent in
    record { front = old.front; few = old.few; digits = old.digits; even = λ some. old.even (let all : held old.rest ≢ [] = rw written.parts (some_behind written.written (held c.drain.new.self) some) in all) }
