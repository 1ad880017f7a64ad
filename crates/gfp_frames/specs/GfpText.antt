-- Believed: the bytes of a stream of GFP frames.
use Rattle.std.specs.Prelude.{ℕ, List, [], ◌∷◌, ◌++◌, Bool, length, take, drop, map, flat_map, replicate}
use Rattle.gfp_scrambler.specs.Register.{scrambled}
use Rattle.gfp_frames.specs.CoreHeader.{core_header}
use Rattle.gfp_frames.specs.Area.{client_area}

-- a frame that a sender makes: an idle frame, one that carries a packet, with or without FCS, or one of any other plain
-- payload area
pub data Frame : Type 0 where
  Idle : Frame
  Client : (packet : List ℕ) (fcs : Bool) → Frame
  WithArea : (area : List ℕ) → Frame

-- the plain payload area of a frame; G.7041 clause 6.2.1: an idle frame has PLI 0 and no area
abbrev pub area_of : Frame → List ℕ
area_of Idle = []
area_of (Client packet fcs) = client_area packet fcs
area_of (WithArea area) = area

-- all plain payload areas of a stream, joined
abbrev pub areas_of : List Frame → List ℕ
areas_of frames = flat_map area_of frames

-- the frames one after another, each with its own part of what is sent for the areas: core headers pass beside the
-- scrambler
unfoldable pub laid_out : (sent : List ℕ) → List Frame → List ℕ
laid_out sent [] = []
laid_out sent (frame ∷ frames) =
    core_header (length (area_of frame)) ++ take (length (area_of frame)) sent
    ++ laid_out (drop (length (area_of frame)) sent) frames

-- G.7041 clause 6.1.2.3: the payload areas of a stream are scrambled as one list of bits.
unfoldable pub text_of : List Frame → List ℕ
text_of frames = laid_out (scrambled 0 (areas_of frames)) frames

-- the frames of a client's stream: one idle frame, the packets' frames without a gap, and then idle frames
abbrev pub stream_frames : (packets : List (List ℕ)) (fcs : Bool) (idles : ℕ) → List Frame
stream_frames packets fcs idles = Idle ∷ map (λ packet. Client packet fcs) packets ++ replicate idles Idle

-- the first bytes of such a stream, which goes on with idle frames without end
unfoldable pub gfp_text : (packets : List (List ℕ)) (fcs : Bool) (n : ℕ) → List ℕ
gfp_text packets fcs n = take n (text_of (stream_frames packets fcs n))
