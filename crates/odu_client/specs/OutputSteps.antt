-- API: how a client's output goes on, step by step, as bytes arrive: an aligner takes them, and a reader of GFP frames
-- the payload that is handed on.
use Rattle.std.specs.Prelude.{◌≡◌, ℕ, List, [], ◌∷◌, ◌++◌}
use Rattle.gfp_frames.specs.Delivered.{delivered}
use Rattle.gfp_frames.specs.Reader.{ReaderState, HasRead}
use Rattle.otn_base.specs.Counts.{saturated}
use Rattle.packet_text.specs.PacketText.{hex_text}
use Rattle.odu_client.specs.AlignedRuns.{arrivals, payload_of, runs_of}
use Rattle.odu_client.specs.Aligner.{AlignerState, HasAligned, Aligns, AlignsBy}
use Rattle.odu_client.specs.ClientOutput.{arriving_packets, arriving_text, arriving_frames}
use Rattle.odu_client.specs.View.{frames_after}
use Rattle.odu_client.specs.declared.aligned.Aligned.{Aligned}
use Rattle.odu_client.specs.declared.aligned.Aligned.TheVariants.{Nothing, Whole, Break}

-- an output: the bytes that arrived since its start, the packets that it delivered, its aligner and its reader
pub record OutputState : Type 0 where
  pub arrived : List ℕ
  pub packets : List (List ℕ)
  pub aligner : AlignerState
  pub reader : ReaderState

-- The aligner took all bytes that arrived; the reader took the payload that was handed on since the last break; and
-- what it delivered in all is what the bytes deliver.
pub record HasPutOut (output : OutputState) : Type 0 where
  pub ended : List (List ℕ)
  pub run : List ℕ
  pub runs : runs_of (arrivals output.arrived) ≡ ended ++ run ∷ []
  pub aligned : HasAligned output.arrived output.aligner
  pub read : HasRead run output.reader
  pub all : output.packets ≡ arriving_packets output.arrived

-- a step: the bytes that arrive, the aligner's answer and frame, the packets that the reader delivers, and what both
-- are after it
pub record OutputStep : Type 0 where
  pub bytes : List ℕ
  pub answer : Aligned
  pub frame : List ℕ
  pub packets : List (List ℕ)
  pub aligner : AlignerState
  pub reader : ReaderState

-- the output after a step
abbrev pub output_after : OutputState → OutputStep → OutputState
output_after output step = record {
  arrived = output.arrived ++ step.bytes;
  packets = output.packets ++ step.packets;
  aligner = step.aligner;
  reader = step.reader;
}

-- What a reader does where the aligner gives this answer, and the packets that it delivers in it: it rests, takes the
-- payload of the frame, or begins anew.
abbrev pub ReaderDoes : Aligned → (frame : List ℕ) → (packets : List (List ℕ)) → (old new : ReaderState) → Type 0
ReaderDoes Nothing frame packets old new = (packets ≡ []) × (new ≡ old)
ReaderDoes Whole frame packets old new = (run : List ℕ) → HasRead run old
    → HasRead (run ++ payload_of frame) new × (delivered (run ++ payload_of frame) ≡ delivered run ++ packets)
ReaderDoes Break frame packets old new = (packets ≡ []) × HasRead [] new

-- at the start nothing was put out
abbrev pub OutputStarts : Type 0
OutputStarts = (aligner : AlignerState) (reader : ReaderState) → HasAligned [] aligner → HasRead [] reader
    → HasPutOut (record { arrived = []; packets = []; aligner = aligner; reader = reader })

-- The aligner took some bytes more, and the reader did what its answer asks for: what was put out is, with the packets
-- of this step, what all bytes deliver.
abbrev pub OutputGoesOn : Type 0
OutputGoesOn = (output : OutputState) (step : OutputStep) → HasPutOut output
    → AlignsBy output.arrived step.bytes step.answer step.frame step.aligner
    → ReaderDoes step.answer step.frame step.packets output.reader step.reader → HasPutOut (output_after output step)

-- the same for one byte
abbrev pub OutputGoesOnByByte : Type 0
OutputGoesOnByByte = (output : OutputState) (step : OutputStep) (byte : ℕ) → step.bytes ≡ byte ∷ []
    → HasPutOut output → Aligns output.arrived byte step.answer step.frame step.aligner
    → ReaderDoes step.answer step.frame step.packets output.reader step.reader → HasPutOut (output_after output step)

-- The text that is written of a step's packets goes behind that which was written before.
abbrev pub OutputTextGoesOn : Type 0
OutputTextGoesOn = (output : OutputState) (step : OutputStep) → HasPutOut output → HasPutOut (output_after output step)
    → arriving_text (output.arrived ++ step.bytes) ≡ arriving_text output.arrived ++ hex_text step.packets

-- a count of the whole frames that were handed on goes on as the aligner's does
abbrev pub FramesGoOn : Type 0
FramesGoOn = (output : OutputState) (step : OutputStep) (frames : ℕ)
    → AlignsBy output.arrived step.bytes step.answer step.frame step.aligner
    → frames ≡ saturated (arriving_frames output.arrived)
    → frames_after frames step.answer ≡ saturated (arriving_frames (output.arrived ++ step.bytes))
