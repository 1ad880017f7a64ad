use Rattle.std.proofs.Common.{◌≡◌, ◌≤◌, ◌+◌, ◌∙◌, ap, sym, length, take, length-append, arith, true}
use Rattle.std.proofs.lemmas.List.{take-take, length-take}
use Rattle.pcap_packets.specs.HeldBytes.{held}
use Rattle.pcap_packets.specs.Written.{all_lower}
use Rattle.pcap_packets.proofs.Digits.{all_lower-append, digits_take, digits_few}
use Rattle.pcap_packets.proofs.record.LineRecord.take_digits.Goals as goal

pub invariant_of-self : goal.invariant_of-self
invariant_of-self c =
    let n = c.leading_digits-count.result in
    let room = c.min-room.result in
    let line = held c.args.self.now.line in
    let bound = c.leading_digits-count.ensures.bound in
    let few = c.args.self.now.few in
    let fits : n ≤ room = omega (arith, bound, length-take room c.args.bytes.now) in
    let digits : all_lower (take n c.args.bytes.now) ≡ true = sym (ap all_lower (take-take n room c.args.bytes.now fits)) ∙ c.leading_digits-count.ensures.digits in
    let size : length (held c.push.new.self) ≡ length line + length (take n c.args.bytes.now) = ap length c.push.ensures.bytes ∙ length-append line (take n c.args.bytes.now) in
    record {
      front = c.push.ensures.front;
      few = omega (arith, size, few, fits, length-take n c.args.bytes.now, c.min-room.ensures, ap length c.bytes.ensures);
      digits = ap all_lower c.push.ensures.bytes ∙ all_lower-append line (take n c.args.bytes.now) c.args.self.now.digits digits;
      even = λ some. absurd (some c.requires);
    }

pub returns-clause-count : goal.returns-clause-count
returns-clause-count c =
    let room = c.min-room.result in
    let taken = c.leading_digits-count.ensures.count ∙ digits_take room c.args.bytes.now in
    let few = digits_few c.args.bytes.now in
    omega (arith, taken, few, c.min-room.ensures, ap length c.bytes.ensures)
