use Rattle.std.proofs.Common.{◌≤◌, ◌-◌, ◌∙◌, arith, length}
use Rattle.pcap_packets.specs.Captures.{lines_left}
use Rattle.pcap_packets.proofs.Fronts.{given_on}
use Rattle.pcap_packets.proofs.lines.CaptureLines.put_records.Goals as goal

pub loop-order-preserved : goal.loop-order-preserved
loop-order-preserved c =
    let done = c.loop-order.done in
    let n = c.put_next-more.result in
    let into = c.loop-order.into in
    let i = c.loop-order.invariant in
    let e = c.put_next-more.ensures in
    let room : n ≤ length into - done = omega (arith, e.bound) in
    record {
      within = omega (arith, room);
      bytes = λ coming. given_on (lines_left c.args.self.now coming) (lines_left c.loop-order.self coming) into c.put_next-more.new.into _ (lines_left c.put_next-more.new.self coming)
          done n i.within (omega (arith, room, c.put_next-more.auto.into)) (i.bytes coming) (e.bytes coming);
      records = e.stage ∙ i.records;
      empty = e.empty;
    }
