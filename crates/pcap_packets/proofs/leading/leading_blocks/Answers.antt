use Rattle.std.proofs.Common.{◌≡◌, ◌+◌, ◌-◌, ◌∙◌, arith, sym, ap, take, drop, true}
use Rattle.pcap_packets.specs.Written.{all_lower}
use Rattle.pcap_packets.proofs.Digits.{all_lower-none}
use Rattle.pcap_packets.proofs.ManyLines.{lower_block}
use Rattle.pcap_packets.proofs.leading.leading_blocks.Goals as goal

pub loop-count-init : goal.loop-count-init
loop-count-init c = record { within = omega arith; digits = all_lower-none }

pub loop-count-preserved : goal.loop-count-preserved
loop-count-preserved c =
    let count = c.loop-count.count in
    let enough = c.loop-count-test.true in
    let within = c.loop-count.invariant.within in
    let size : count + 32 - count ≡ 32 = omega arith in
    let block : all_lower (take 32 (drop count c.args.bytes.now)) ≡ true = ap (λ n. all_lower (take n (drop count c.args.bytes.now))) (sym size) ∙ (sym c.all_digits.ensures ∙ c.if-all_digits.true) in
    record {
      within = omega (arith, enough, within);
      digits = lower_block c.args.bytes.now count 32 c.loop-count.invariant.digits block;
    }
