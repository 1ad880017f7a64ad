-- Believed: what a client's output makes of the bytes that arrive.
use Rattle.std.specs.Prelude.{ℕ, ◌+◌, List, [], ◌∷◌, flat_map}
use Rattle.gfp_frames.specs.Delivered.{delivered}
use Rattle.packet_text.specs.PacketText.{hex_text}
use Rattle.odu_client.specs.AlignedRuns.{Arrival, Handed, Broken, arrivals, runs_of}

-- the packets that are delivered by these bytes: each run of payload bytes between breaks is a stream of GFP frames of
-- its own
unfoldable pub arriving_packets : List ℕ → List (List ℕ)
arriving_packets bytes = flat_map delivered (runs_of (arrivals bytes))

-- the text that is written of them
unfoldable pub arriving_text : List ℕ → List ℕ
arriving_text bytes = hex_text (arriving_packets bytes)

-- how many of these arrivals are frames that are handed on
unfoldable pub handed_count : List Arrival → ℕ
handed_count [] = 0
handed_count (Handed frame ∷ later) = handed_count later + 1
handed_count (Broken ∷ later) = handed_count later

-- how many whole frames are handed on
abbrev pub arriving_frames : List ℕ → ℕ
arriving_frames bytes = handed_count (arrivals bytes)
