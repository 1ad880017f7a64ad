-- API: what is proved of the texts of packets.
use Rattle.std.specs.Prelude.{◌≡◌, ◌≢◌, ◌≤◌, ℕ, List, length}
use Rattle.std.specs.List.{All}
use Rattle.hex.specs.Hex.{IsBytes}
use Rattle.port_base.specs.Given.{HadToGive}
use Rattle.port_base.specs.Views.{InView}
use Rattle.packet_text.specs.TextLines.{text_of_dead}
use Rattle.packet_text.specs.PacketText.{Ended, packets_of, hex_text}
use Rattle.packet_text.specs.LinesStand.{LinesView, LinesStand, MayBe}
use Rattle.packet_text.specs.declared.line.Line.TheVariants.{Lost}

-- a packet of 1 to 65,527 bytes
pub record IsPacket (packet : List ℕ) : Type 0 where
  pub some : 1 ≤ length packet
  pub most : length packet ≤ 65527
  pub bytes : IsBytes packet

-- What is written of packets reads back as these packets.
abbrev pub ReadsBack : Type 0
ReadsBack = (packets : List (List ℕ)) → All IsPacket packets
    → packets_of (hex_text packets) ≡ record { packets = packets; ending = Ended }

-- What a place that tells its bytes gave in the whole run is among the texts that it may have; of a place that died,
-- what is left of it.
abbrev pub AvailableIsAmong : Type 0
AvailableIsAmong = (first now : InView) (read available : List ℕ) (packets : List (List ℕ)) (view : LinesView)
    → LinesStand first now read packets view → HadToGive first now available
    → (view.answer ≢ Lost → MayBe view read available) × (view.answer ≡ Lost → MayBe view read (text_of_dead available))
