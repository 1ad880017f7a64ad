use Rattle.std.proofs.Common.{◌∙◌, ◌++◌, ap, arith}
use Rattle.pcap_packets.specs.HeldBytes.{held}
use Rattle.pcap_packets.specs.Steps.Captures.{stages_left}
use Rattle.pcap_packets.proofs.Fronts.{header_made}
use Rattle.pcap_packets.proofs.lines.CaptureLines.start_records.Goals as goal

pub returns-clause-same : goal.returns-clause-same
returns-clause-same c =
    let old = c.args.self.now in
    λ coming. c.next_line.ensures.same coming ∙ rw (c.requires.start, c.pass.ensures) (ap (λ text. held old.line ++ text) (header_made c.args.order (held old.hand) c.requires.long c.requires.header coming))

pub returns-clause-steps : goal.returns-clause-steps
returns-clause-steps c = λ no_line.
    let less = c.next_line.ensures.steps no_line in
    omega (arith, less, ap stages_left c.requires.start)
