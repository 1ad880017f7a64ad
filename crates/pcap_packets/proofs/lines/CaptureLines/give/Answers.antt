use Rattle.std.proofs.Common.{◌≤◌, ◌++◌, arith, length}
use Rattle.pcap_packets.specs.HeldBytes.{held}
use Rattle.pcap_packets.specs.Captures.{lines_left, text_from}
use Rattle.pcap_packets.proofs.Fronts.{given_on, line_given}
use Rattle.pcap_packets.proofs.lines.CaptureLines.give.Goals as goal

pub returns-clause-bytes : goal.returns-clause-bytes
returns-clause-bytes c = λ coming.
    let old = c.args.self.now in
    let done = c.give-done.result in
    let into = c.give-done.new.into in
    let e = c.give-done.ensures in
    let size = e.size in
    let few : done ≤ length (held old.line) = omega (arith, size) in
    let fits : done ≤ length into = omega (arith, size, c.give-done.auto.into) in
    given_on (lines_left old coming) _ into c.give_lines.new.into _ (lines_left c.give_lines.new.self coming) done c.give_lines.result fits (omega (arith, c.give_lines.ensures.bound, c.give_lines.auto.into))
    (line_given (held old.line) (held c.give-done.new.self) (text_from old.stage (held old.hand ++ coming)) c.args.into.now into done few e.bytes e.rest) (c.give_lines.ensures.bytes coming)
