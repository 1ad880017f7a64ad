use Rattle.std.proofs.Common.{◌≤◌, ◌++◌, arith, length}
use Rattle.pcap_packets.specs.HeldBytes.{held}
use Rattle.pcap_packets.specs.Captures.{lines_left, text_from}
use Rattle.pcap_packets.proofs.Fronts.{given_more}
use Rattle.pcap_packets.proofs.lines.CaptureLines.give_lines.Goals as goal

pub returns-then-next-clause-bytes : goal.returns-then-next-clause-bytes
returns-then-next-clause-bytes c = λ coming.
    let line = held c.next.new.self.line in
    let done = c.put_lines-done.result in
    let n = c.give.result in
    let into = c.put_lines-done.new.into in
    let size = c.give.ensures.size in
    let few : n ≤ length line = omega (arith, size) in
    given_more (lines_left c.args.self.now coming) (lines_left c.put_lines-done.new.self coming) into c.give.new.into _ line (held c.give.new.self) _ (text_from c.next.new.self.stage (held c.next.new.self.hand ++ coming))
    done n (omega (arith, c.if-done-into.true)) few (omega (arith, size, c.give.auto.into)) (c.put_lines-done.ensures.bytes coming) (c.next.ensures.same coming) c.give.ensures.bytes c.give.ensures.rest
