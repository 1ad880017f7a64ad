use Rattle.std.proofs.Common.{◌+◌, ◌∙◌, [], length, arith, length-drop, ap, refl}
use Rattle.pcap_packets.specs.HeldBytes.{held}
use Rattle.pcap_packets.proofs.ManyLines.{rest_all, gathered_none, gathered_next}
use Rattle.pcap_packets.proofs.record.LineRecord.gather.Goals as goal

pub loop-more-init : goal.loop-more-init
loop-more-init c =
    let e = c.add_record-more.ensures in
    record {
      within = (let w = e.within in omega (arith, w));
      gathered = gathered_next c.args.bytes.now (held c.clear.new.self) (held c.add_record-more.new.self.rest) 0 c.add_record-more.result (gathered_none [] (held c.clear.new.self) refl c.clear.ensures.none) e.none e.some;
      line = e.line;
      front = e.front;
      begun = e.begun;
    }

pub loop-more-preserved : goal.loop-more-preserved
loop-more-preserved c =
    let e = c.add_record-more-in-loop-more.ensures in
    let done = c.loop-more.done + c.loop-more.more in
    let within = c.loop-more.invariant.within in
    record {
      within = (let w = e.within in let size = ap length (rest_all done c.args.bytes.now) in let behind = length-drop done c.args.bytes.now in omega (arith, w, size, behind, within));
      gathered = gathered_next c.args.bytes.now (held c.loop-more.self.rest) (held c.add_record-more-in-loop-more.new.self.rest) done c.add_record-more-in-loop-more.result c.loop-more.invariant.gathered e.none (λ some. rw (rest_all done c.args.bytes.now) at (e.some some));
      line = e.line;
      front = e.front;
      begun = e.begun ∙ c.loop-more.invariant.begun;
    }
