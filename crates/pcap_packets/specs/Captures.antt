-- API: what is seen of a source over a capture.
use Rattle.std.specs.Prelude.{ℕ, ◌+◌, Bool, List, [], ◌++◌, Option}
use Rattle.std.specs.Option.{option_map}
use Rattle.pcap_packets.specs.CaptureText.{records_text, capture_text}
use Rattle.pcap_packets.specs.HeldBytes.{held}
use Rattle.pcap_packets.specs.declared.lines.Stage.{Stage}
use Rattle.pcap_packets.specs.declared.lines.Stage.TheVariants.{Start, Records, Over}
use Rattle.pcap_packets.specs.declared.lines.CaptureLines.{CaptureLines}
use Rattle.pcap_packets.specs.declared.source.PcapSource.{PcapSource}

-- the text of bytes at which a reader stands so
abbrev pub text_from : Stage → List ℕ → List ℕ
text_from Start bytes = capture_text bytes
text_from (Records order) bytes = records_text order bytes
text_from Over bytes = []

-- the text that lines have yet to give where these bytes come yet
abbrev pub lines_left : CaptureLines → List ℕ → List ℕ
lines_left lines coming = held lines.line ++ text_from lines.stage (held lines.hand ++ coming)

-- the text still to come, where the inner source tells its bytes
abbrev pub capture_left : {S : Type 0} → (S → Option (List ℕ)) → PcapSource S → Option (List ℕ)
capture_left left source = option_map (lines_left source.lines) (left source.inner)

-- whether it has answered that it ended
abbrev pub capture_ended : {S : Type 0} → PcapSource S → Bool
capture_ended source = source.ended

-- the count of faults of the inner source
abbrev pub capture_faults : {S : Type 0} → (S → ℕ) → PcapSource S → ℕ
capture_faults faults source = faults source.inner
