use Rattle.std.proofs.Common.{◌≡◌, ◌≢◌, sym, [], true, refl}
use Rattle.pcap_packets.specs.HeldBytes.{held}
use Rattle.pcap_packets.specs.Steps.Captures.{is_waiting}
use Rattle.pcap_packets.specs.declared.lines.Stage.TheVariants.{Records}
use Rattle.pcap_packets.proofs.Fronts.{ends_in_record, ends_well}
use Rattle.pcap_packets.proofs.lines.CaptureLines.end_records.Goals as goal

pub returns-then-is_empty-clause-same : goal.returns-then-is_empty-clause-same
returns-then-is_empty-clause-same c =
    let old = c.args.self.now in
    rw (c.requires.records, c.requires.waits.none) (sym (ends_well c.args.order (held old.hand) (c.if-is_empty.ensures.0 refl)))

pub returns-else-is_empty-clause-same : goal.returns-else-is_empty-clause-same
returns-else-is_empty-clause-same c =
    let old = c.args.self.now in
    let waits : is_waiting (Records c.args.order) (held old.hand) ≡ true = rw c.requires.records at c.requires.waits.waits in
    let some : held old.hand ≢ [] = λ none. (let is = c.is_empty.ensures.1 none in let not = c.if-is_empty.false in cc) in
    rw (c.end_badly.ensures.stage, c.requires.records) (ends_in_record c.args.order (held old.line) (held old.hand) (held c.end_badly.new.self.line) c.requires.waits.none waits some c.end_badly.ensures.line)
