use Rattle.std.proofs.Common.{◌≡◌, true}
use Rattle.pcap_packets.specs.HeldBytes.{held}
use Rattle.pcap_packets.specs.Steps.Captures.{is_waiting}
use Rattle.pcap_packets.specs.declared.lines.Stage.TheVariants.{Start}
use Rattle.pcap_packets.proofs.Fronts.{ends_at_start}
use Rattle.pcap_packets.proofs.lines.CaptureLines.end.Goals as goal

pub returns-in-Start-clause-same : goal.returns-in-Start-clause-same
returns-in-Start-clause-same c =
    let old = c.args.self.now in
    let waits : is_waiting Start (held old.hand) ≡ true = rw c.in-Start.is at c.requires.waits in
    rw (c.end_badly.ensures.stage, c.in-Start.is) (ends_at_start (held old.line) (held old.hand) (held c.end_badly.new.self.line) c.requires.none waits c.end_badly.ensures.line)
