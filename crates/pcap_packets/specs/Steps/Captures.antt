-- Steps of `front_of`, `settle` and others: what private contracts alone cite, beside the definitions of `Captures`.
use Rattle.std.specs.Prelude.{ℕ, ◌+◌, ◌-◌, ◌*◌, ◌≡◌, ◌<◌, ◌≤◌, ◌&&◌, not, nat_lt, Bool, true, false, List, [], length}
use Rattle.pcap_packets.specs.CaptureText.{captured, is_whole_record}
use Rattle.pcap_packets.specs.declared.order.ByteOrder.{ByteOrder}
use Rattle.pcap_packets.specs.HeldBytes.{held}
use Rattle.pcap_packets.specs.declared.front.Front.{Front}
use Rattle.pcap_packets.specs.declared.front.Front.TheVariants.{Waits, Whole, Bad}
use Rattle.pcap_packets.specs.declared.lines.Stage.{Stage}
use Rattle.pcap_packets.specs.declared.lines.Stage.TheVariants.{Start, Records, Over}
use Rattle.pcap_packets.specs.declared.lines.CaptureLines.{CaptureLines}

-- more bytes are wanted before the record at the front is judged: it is not whole, and so far it may be
abbrev pub is_begun : ByteOrder → List ℕ → Bool
is_begun order bytes = nat_lt (length bytes) 65543 && not (is_whole_record order bytes)

-- what the bytes at the front are said to be
abbrev pub IsFront : ByteOrder → List ℕ → Front → Type 0
IsFront order bytes Waits = is_begun order bytes ≡ true
IsFront order bytes (Whole size) = (is_whole_record order bytes ≡ true) × (captured order bytes ≡ size)
IsFront order bytes Bad = (16 ≤ length bytes) × (65527 < captured order bytes)

-- more bytes are wanted before these are judged
abbrev pub is_waiting : Stage → List ℕ → Bool
is_waiting Start bytes = nat_lt (length bytes) 24
is_waiting (Records order) bytes = is_begun order bytes
is_waiting Over bytes = false

-- no line is in hand, and more bytes are wanted before the next one is made
pub record IsWaiting (lines : CaptureLines) : Type 0 where
  pub none : held lines.line ≡ []
  pub waits : is_waiting lines.stage (held lines.hand) ≡ true

-- how far a reader is from the end
abbrev pub stages_left : Stage → ℕ
stages_left Start = 2
stages_left (Records order) = 1
stages_left Over = 0

-- more bytes than this many do not go by before a line is in hand or the text is over
abbrev pub bytes_left : CaptureLines → ℕ
bytes_left lines = 200000 * stages_left lines.stage + (131072 - length (held lines.hand))
