use Rattle.std.proofs.Common.{◌≢◌, ◌≤◌, ◌-◌, ◌∙◌, length, arith, ap, length-drop, rules}
use Rattle.port_base.specs.declared.drain.Written.TheVariants.{Lost}
use Rattle.port_base.proofs.TakenTwice.{sent_more}
use Rattle.pcap_packets.proofs.ManyLines.{rest_all}
use Rattle.pcap_packets.proofs.sink.PcapSinkSink.write_lines.Goals as goal

pub returns-then-eq-clause-bytes : goal.returns-then-eq-clause-bytes
returns-then-eq-clause-bytes g c =
    let lines = c.args.lines.now in
    let done = c.loop-done.done in
    let e = c.write_some-answer.ensures in
    let within = e.within in
    let size = ap length (rest_all done lines) in
    let behind = length-drop done lines in
    let room : c.write_some-answer.result.1 ≤ length lines - done = omega (arith, within, size, behind) in
    sent_more _ _ _ lines done c.write_some-answer.result.1 c.loop-done.invariant.within room c.loop-done.invariant.bytes e.got

pub loop-done-preserved : goal.loop-done-preserved
loop-done-preserved g c =
    let lines = c.args.lines.now in
    let done = c.loop-done.done in
    let e = c.write_some-answer.ensures in
    let i = c.loop-done.invariant in
    let within = e.within in
    let before = i.within in
    let size = ap length (rest_all done lines) in
    let behind = length-drop done lines in
    let room : c.write_some-answer.result.1 ≤ length lines - done = omega (arith, within, size, behind) in
    let whole : c.write_some-answer.result.0 ≢ Lost = search rules in
    record {
      within = omega (arith, room, before);
      bytes = sent_more _ _ _ lines done c.write_some-answer.result.1 i.within room i.bytes e.got;
      well = e.well whole ∙ i.well;
      still = e.still whole ∙ i.still;
    }
