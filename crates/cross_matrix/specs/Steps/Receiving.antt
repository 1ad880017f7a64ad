-- Steps of `hand_on`, `take_all` and others: what private contracts alone cite, beside the definitions of `Receiving`.
use Rattle.std.specs.Prelude.{◌≡◌, ℕ, List, [], ◌++◌, length, flat_map}
use Rattle.port_base.specs.Sent.{IsSent}
use Rattle.port_base.specs.Views.{Dead, OutView}
use Rattle.gfp_frames.specs.Delivered.{delivered}
use Rattle.gfp_frames.specs.Reader.{ReaderState, HasRead}
use Rattle.odu_client.specs.AlignedRuns.{Arrival, arrivals, runs_of}
use Rattle.odu_client.specs.Aligner.{AlignerState, HasAligned}
use Rattle.odu_client.specs.ClientOutput.{arriving_packets, arriving_frames}
use Rattle.otn_base.specs.Counts.{saturated}
use Rattle.device_model.specs.Numbers.{counted_packets}
use Rattle.packet_text.specs.PacketText.{hex_text}
use Rattle.cross_matrix.specs.Receiving.{last_run, HeldView, NoneHeld}

-- the text of these packets was due to a place, and so many of them count
pub record LinesSent (first now : OutView) (packets : List (List ℕ)) (count : ℕ) : Type 0 where
  pub sent : IsSent first (hex_text packets) now
  pub counted : count ≡ saturated (counted_packets first.state packets sent.written)

-- and no packet counts
pub record IsNew (held : HeldView) : Type 0 where
  pub none : NoneHeld held
  pub packets : held.packets ≡ 0

-- Of these packets, the text of the first was due to a place, and so many of them count; that of the others is held.
-- For a dead place none is held.
pub record LinesHeld (first now : OutView) (packets : List (List ℕ)) (held : HeldView) : Type 0 where
  pub due : List (List ℕ)
  pub waiting : List (List ℕ)
  pub parts : due ++ waiting ≡ packets
  pub sent : LinesSent first now due held.packets
  pub text : held.text ≡ hex_text waiting
  pub count : held.count ≡ length waiting
  pub dead : now.state ≡ Dead → waiting ≡ []

-- the reader has read these bytes of a run: behind earlier packets, those that they deliver are due to the place
pub record RunRead (first now : OutView) (earlier : List (List ℕ)) (read : List ℕ) (reader : ReaderState)
    (held : HeldView) : Type 0 where
  pub has_read : HasRead read reader
  pub lines : LinesHeld first now (earlier ++ delivered read) held

-- all that arrived was read
pub record AllRead (first now : OutView) (arrived : List Arrival) (reader : ReaderState)
    (held : HeldView) : Type 0 where
  pub read : HasRead (last_run (runs_of arrived)) reader
  pub lines : LinesHeld first now (flat_map delivered (runs_of arrived)) held

-- These bytes have arrived at a receiver with this aligner and this reader, where so many whole frames were handed on:
-- the packets that they deliver are due to the place.
pub record HoldsAfter (first now : OutView) (arrived : List ℕ) (aligner : AlignerState) (frames : ℕ)
    (reader : ReaderState) (held : HeldView) : Type 0 where
  pub aligned : HasAligned arrived aligner
  pub whole : frames ≡ saturated (arriving_frames arrived)
  pub read : HasRead (last_run (runs_of (arrivals arrived))) reader
  pub lines : LinesHeld first now (arriving_packets arrived) held
