use Rattle.std.proofs.Common.{◌%◌, ◌++◌, ◌∙◌, arith, ap, length}
use Rattle.pcap_packets.specs.Written.{all_lower, packet_of, record_of}
use Rattle.pcap_packets.proofs.ManyLines.{whole_line-is}
use Rattle.pcap_packets.proofs.record.LineRecord.hold_part.Goals as goal

pub push-requires-clause-room : goal.push-requires-clause-room
push-requires-clause-room c =
    let w = whole_line-is c.args.digits.now c.requires.line in
    let few = w.few in
    let none = ap length c.clear.ensures.none in
    omega (arith, few, none)

pub push_record-requires-clause-room : goal.push_record-requires-clause-room
push_record-requires-clause-room c =
    let w = whole_line-is c.args.digits.now c.requires.line in
    let few = w.few in
    let none = ap length c.clear-2.ensures.none in
    omega (arith, few, none)

pub push_record-requires-clause-even : goal.push_record-requires-clause-even
push_record-requires-clause-even c = (whole_line-is c.args.digits.now c.requires.line).even

pub push_record-requires-clause-digits : goal.push_record-requires-clause-digits
push_record-requires-clause-digits c = (whole_line-is c.args.digits.now c.requires.line).lower

pub pass-requires : goal.pass-requires
pass-requires c =
    let is = ap length (c.push_record.ensures.bytes ∙ ap (λ l. l ++ record_of (packet_of c.args.digits.now)) c.clear-2.ensures.none) in
    let part = c.requires.part in
    omega (arith, is, part)

pub invariant_of-self : goal.invariant_of-self
invariant_of-self c =
    let w = whole_line-is c.args.digits.now c.requires.line in
    let is = c.push.ensures.bytes ∙ ap (λ l. l ++ c.args.digits.now) c.clear.ensures.none in
    let few = w.few in
    record { front = c.push.ensures.front; few = omega (arith, few, ap length is); digits = ap all_lower is ∙ w.lower; even = λ some. ap (λ l. length l % 2) is ∙ w.even }
