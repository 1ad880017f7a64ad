-- API: a maker of GFP frames, as contracts see it.
use Rattle.std.specs.Prelude.{◌≡◌, ℕ, ◌+◌, ◌-◌, ◌/◌, List, [], ◌∷◌, ◌++◌, length, flat_map, replicate}
use Rattle.gfp_scrambler.specs.Register.{last_bits, scrambled}
use Rattle.gfp_frames.specs.CoreHeader.{core_header}
use Rattle.gfp_frames.specs.GfpText.{Frame, Idle, areas_of, text_of}

-- what is left of the frame in hand, and the last 43 bits of the areas so far
pub record MakerState : Type 0 where
  pub hand : List ℕ
  pub register : ℕ

-- Since its start the maker began these frames and emitted these bytes: with what it has in hand they are the
-- frames' text.
pub record HasMade (frames : List Frame) (emitted : List ℕ) (maker : MakerState) : Type 0 where
  pub text : emitted ++ maker.hand ≡ text_of frames
  pub last : maker.register ≡ last_bits 0 (scrambled 0 (areas_of frames))

-- what holds of the bytes that any maker has emitted since it began these frames
abbrev pub OfMade : List Frame → ((emitted : List ℕ) → Type 0) → Type 0
OfMade frames Holds = (emitted : List ℕ) (maker : MakerState) → HasMade frames emitted maker → Holds emitted

-- the frames that begin with the next byte: an idle frame, where nothing is in hand
abbrev pub begun : (hand : List ℕ) → List Frame
begun [] = Idle ∷ []
begun (byte ∷ hand) = []

-- what is in hand as the next byte is given
abbrev pub in_hand : (hand : List ℕ) → List ℕ
in_hand [] = core_header 0
in_hand (byte ∷ hand) = byte ∷ hand

-- how many idle frames begin as n bytes are given, where no packet is offered meanwhile
abbrev pub idles_begun : (hand : List ℕ) (n : ℕ) → ℕ
idles_begun hand n = (n - length hand + 3) / 4

-- the bytes of so many idle frames
abbrev pub idle_bytes : ℕ → List ℕ
idle_bytes count = flat_map core_header (replicate count 0)

-- a maker after its start
abbrev pub fresh : MakerState
fresh = record { hand = core_header 0; register = 0 }

-- a maker that has the frame of this plain area in hand, scrambled after these last bits
abbrev pub made_frame : (area : List ℕ) (register : ℕ) → MakerState
made_frame area register =
    record {
      hand = core_header (length area) ++ scrambled register area;
      register = last_bits register (scrambled register area);
    }
