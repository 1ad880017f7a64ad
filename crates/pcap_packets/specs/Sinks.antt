-- API: what is seen of a sink over a capture.
use Rattle.std.specs.Prelude.{ℕ, ◌==◌, ◌||◌, if◌then◌else◌, [], ◌∷◌, length, Bool, not, ◌+◌, ◌-◌, ◌^◌, min, List, ◌++◌, Option}
use Rattle.std.specs.Option.{option_map}
use Rattle.port_base.specs.declared.sink.Sink.{Ghosts}
use Rattle.packet_text.specs.PacketText.{is_nothing, hex_text}
use Rattle.pcap_packets.specs.HeldBytes.{held}
use Rattle.pcap_packets.specs.Written.{packets_written, digits_in_front, is_line}
use Rattle.pcap_packets.specs.declared.sink.PcapSink.{PcapSink}

-- the text that it got: the lines of the whole records that its inner sink got, where that tells its bytes, and the
-- digits of the line in hand
abbrev pub written_got : {S : Type 0} {g : Ghosts S} → (S → Option (List ℕ)) → PcapSink S g → Option (List ℕ)
written_got got sink = option_map (λ bytes. hex_text (packets_written bytes) ++ held sink.lines.line) (got sink.inner)

-- the count of faults of the inner sink and its own together, as far as it goes
abbrev pub written_faults : {S : Type 0} {g : Ghosts S} → (S → ℕ) → PcapSink S g → ℕ
written_faults faults sink = min (faults sink.inner + sink.own) (2 ^ 64 - 1)

-- the sink that it writes to
abbrev pub written_to : {S : Type 0} {g : Ghosts S} → PcapSink S g → S
written_to sink = sink.inner

-- whether a rest of a record is left, whose write failed
abbrev pub has_rest : {S : Type 0} {g : Ghosts S} → PcapSink S g → Bool
has_rest sink = not (is_nothing (held sink.lines.rest))

-- how many bytes a write takes where the sink below does not fail: LF alone, behind a line or where a rest of its
-- record is left, or else the digits in front, as far as the line has room
abbrev pub bytes_taken : (digits rest bytes : List ℕ) → ℕ
bytes_taken digits rest [] = 0
bytes_taken digits rest (byte ∷ bytes) = if byte == 10 then (if not (is_nothing rest) || is_line digits then 1 else 0)
    else if is_nothing rest then min (131062 - length digits) (digits_in_front (byte ∷ bytes)) else 0

-- the same of a sink
abbrev pub takes : {S : Type 0} {g : Ghosts S} → PcapSink S g → List ℕ → ℕ
takes sink bytes = bytes_taken (held sink.lines.line) (held sink.lines.rest) bytes
