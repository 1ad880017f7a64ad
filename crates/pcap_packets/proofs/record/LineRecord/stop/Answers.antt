use Rattle.std.proofs.Common.{◌≡◌, ◌+◌, ◌-◌, ◌∙◌, arith, sym, ap, length, take, drop}
use Rattle.pcap_packets.specs.HeldBytes.{held}
use Rattle.pcap_packets.specs.Written.{packet_of, record_of}
use Rattle.pcap_packets.specs.Steps.Gathering.{is_whole_line}
use Rattle.pcap_packets.proofs.ManyLines.{in_hand, part_went, rest_some}
use Rattle.pcap_packets.proofs.record.LineRecord.stop.Goals as goal

pub hold_part-requires-clause-line : goal.hold_part-requires-clause-line
hold_part-requires-clause-line c =
    let e = c.stopped_line-done.ensures in
    let r = c.stopped_line-done.result in
    let s = e.stops c.requires.lines c.requires.cut in
    let h = in_hand c.requires.lines c.args.lines.now c.args.sent r.0 r.2 r.1 s e.next in
    let n : r.0 + r.1 - r.0 ≡ r.1 = omega arith in
    ap (λ n. is_whole_line (take n (drop r.0 c.args.lines.now))) n ∙ ap is_whole_line h.is ∙ h.whole

pub hold_part-requires-clause-part : goal.hold_part-requires-clause-part
hold_part-requires-clause-part c =
    let e = c.stopped_line-done.ensures in
    let r = c.stopped_line-done.result in
    let s = e.stops c.requires.lines c.requires.cut in
    let h = in_hand c.requires.lines c.args.lines.now c.args.sent r.0 r.2 r.1 s e.next in
    let n : r.0 + r.1 - r.0 ≡ r.1 = omega arith in
    let same = ap (λ n. length (record_of (packet_of (take n (drop r.0 c.args.lines.now))))) n ∙ ap (λ d. length (record_of (packet_of d))) h.is in
    let less = s.less in
    omega (arith, same, less)

pub returns-clause-stopped : goal.returns-clause-stopped
returns-clause-stopped c = λ all cut. (
    let e = c.stopped_line-done.ensures in
    let r = c.stopped_line-done.result in
    let n : r.0 + r.1 - r.0 ≡ r.1 = omega arith in
    let line = c.hold_part.ensures.line ∙ ap (λ n. take n (drop r.0 c.args.lines.now)) n in
    part_went all c.args.lines.now (held c.hold_part.new.self.line) (held c.hold_part.new.self.rest) c.args.sent r.0 r.2 r.1 (e.stops all cut) e.next line (c.hold_part.ensures.rest ∙ ap (λ l. drop r.2 (record_of (packet_of l))) (sym c.hold_part.ensures.line)))

pub returns-clause-rest : goal.returns-clause-rest
returns-clause-rest c =
    let e = c.stopped_line-done.ensures in
    let r = c.stopped_line-done.result in
    let s = e.stops c.requires.lines c.requires.cut in
    let h = in_hand c.requires.lines c.args.lines.now c.args.sent r.0 r.2 r.1 s e.next in
    let n : r.0 + r.1 - r.0 ≡ r.1 = omega arith in
    let line = c.hold_part.ensures.line ∙ ap (λ n. take n (drop r.0 c.args.lines.now)) n ∙ h.is in
    rest_some c.requires.lines c.args.lines.now (held c.hold_part.new.self.line) (held c.hold_part.new.self.rest) c.args.sent r.0 r.2 s line (c.hold_part.ensures.rest ∙ ap (λ l. drop r.2 (record_of (packet_of l))) (sym c.hold_part.ensures.line))
