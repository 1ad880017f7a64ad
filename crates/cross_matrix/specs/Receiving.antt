-- API: a client's output: the packets that arrive, written as text.
use Rattle.std.specs.Prelude.{◌≡◌, ℕ, List, [], ◌∷◌}
use Rattle.port_base.specs.Sent.{IsSent}
use Rattle.port_base.specs.Views.{OutView}
use Rattle.gfp_frames.specs.Reader.{ReaderState, HasRead}
use Rattle.odu_client.specs.AlignedRuns.{arrivals, runs_of}
use Rattle.odu_client.specs.Aligner.{AlignerState, HasAligned}
use Rattle.odu_client.specs.ClientOutput.{arriving_packets, arriving_text, arriving_frames}
use Rattle.otn_base.specs.Counts.{saturated}
use Rattle.device_model.specs.Numbers.{counted_packets}

-- what is seen of a receiver: its aligner, its GFP reader, how many whole frames were handed on, and how many packets
-- count
pub record ReceiverView : Type 0 where
  pub aligner : AlignerState
  pub reader : ReaderState
  pub frames : ℕ
  pub packets : ℕ

-- the last of some runs of payload bytes: the one that is still open
abbrev pub last_run : List (List ℕ) → List ℕ
last_run [] = []
last_run (run ∷ []) = run
last_run (run ∷ next ∷ runs) = last_run (next ∷ runs)

-- These bytes have arrived at the receiver since its start. `first` and `now` are views of its place: between them the
-- text of the packets that the bytes deliver was due to it.
pub record ReceiverStands (first now : OutView) (arrived : List ℕ) (receiver : ReceiverView) : Type 0 where
  pub aligned : HasAligned arrived receiver.aligner
  pub read : HasRead (last_run (runs_of (arrivals arrived))) receiver.reader
  pub sent : IsSent first (arriving_text arrived) now
  pub frames : receiver.frames ≡ saturated (arriving_frames arrived)
  pub packets : receiver.packets ≡ saturated (counted_packets first.state (arriving_packets arrived) sent.written)

-- ---- steps of a receiver

-- what is seen of lines that are held: their text, how many they are, and how many packets count
pub record HeldView : Type 0 where
  pub text : List ℕ
  pub count : ℕ
  pub packets : ℕ

-- no line is held
pub record NoneHeld (held : HeldView) : Type 0 where
  pub text : held.text ≡ []
  pub count : held.count ≡ 0
