-- API: laws of the text of captures.
use Rattle.std.specs.Prelude.{◌≡◌, ◌≢◌, ◌⊎◌, ℕ, true, List, []}
use Rattle.std.specs.List.{All}
use Rattle.packet_text.specs.Laws.{IsPacket}
use Rattle.packet_text.specs.PacketText.{Ended, packets_of}
use Rattle.pcap_packets.specs.CaptureText.{header_order, bad_line, capture_text}
use Rattle.pcap_packets.specs.Turned.{other, turned}
use Rattle.std.specs.Option.{option_map}
use Rattle.pcap_packets.specs.Written.{capture_of, packets_written, read_back}
use Rattle.pcap_packets.specs.Writing.{all_fit}

-- With its numbers in the other byte order a capture has the same text: its header says the other order.
abbrev pub ByteOrderAlike : Type 0
ByteOrderAlike = (bytes : List ℕ) → (header_order (turned bytes) ≡ option_map other (header_order bytes))
    × (capture_text (turned bytes) ≡ capture_text bytes)

-- What is written of packets reads back as their lines, up to the first that is too long to be read.
abbrev pub WrittenReadsBack : Type 0
WrittenReadsBack = (packets : List (List ℕ)) → packets ≢ [] → all_fit packets ≡ true
    → capture_text (capture_of packets) ≡ read_back packets []

-- What is written of packets of 1 to 65,527 bytes gives a client these packets.
abbrev pub WrittenGivesPackets : Type 0
WrittenGivesPackets = (packets : List (List ℕ)) → packets ≢ [] → All IsPacket packets
    → packets_of (capture_text (capture_of packets)) ≡ record { packets = packets; ending = Ended }

-- what a sink wrote reads back as the packets of its whole records, and behind them the bad line where a part of a
-- record stands
abbrev pub ReadsBack : List ℕ → Type 0
ReadsBack bytes = (capture_text bytes ≡ read_back (packets_written bytes) [])
    ⊎ (capture_text bytes ≡ read_back (packets_written bytes) bad_line)
