use Rattle.std.proofs.Common.{sym, arith}
use Rattle.pcap_packets.proofs.Digits.{all_lower-more, digits_end, digits_all}
use Rattle.pcap_packets.proofs.leading.leading_digits.Goals as goal

pub loop-count-init : goal.loop-count-init
loop-count-init c = record { within = c.leading_blocks-count.ensures.bound; digits = c.leading_blocks-count.ensures.digits }

pub loop-count-preserved : goal.loop-count-preserved
loop-count-preserved c =
    let less = c.loop-count-test.true in
    record {
      within = omega (arith, less);
      digits = all_lower-more c.args.bytes.now c.loop-count.count less c.loop-count.invariant.digits (sym c.if-is_digit.ensures);
    }

pub returns-else-is_digit-clause-count : goal.returns-else-is_digit-clause-count
returns-else-is_digit-clause-count c = digits_end c.args.bytes.now c.loop-count.count c.loop-count-test.true c.loop-count.invariant.digits (sym c.if-is_digit.ensures)

pub returns-after-loop-count-clause-count : goal.returns-after-loop-count-clause-count
returns-after-loop-count-clause-count c = digits_all c.args.bytes.now c.loop-count.count c.loop-count.invariant.within c.loop-count-test.false c.loop-count.invariant.digits
