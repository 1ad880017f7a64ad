-- API: an aligner of client frames, as contracts see it.
use Rattle.std.specs.Prelude.{◌≡◌, ℕ, Bool, true, if◌then◌else◌, List, [], ◌∷◌, ◌++◌, length}
use Rattle.odu_client.specs.AlignedRuns.{Arrival, Handed, Broken, searching, framing, arrivals}
use Rattle.odu_client.specs.declared.aligned.Aligned.{Aligned}
use Rattle.odu_client.specs.declared.aligned.Aligned.TheVariants.{Nothing, Whole, Break}

-- whether it searches, how many frames in a row did not begin with the FAS, and the bytes that it holds: of the FAS in
-- a search, else of the frame that has begun
pub record AlignerState : Type 0 where
  pub searches : Bool
  pub misses : ℕ
  pub held : List ℕ

-- what arrives where a search is at the list's front
abbrev pub from_search : List ℕ → List Arrival
from_search bytes = searching (length bytes) bytes

-- what arrives where a frame, behind so many in a row without the FAS, is at the list's front
abbrev pub from_frame : ℕ → List ℕ → List Arrival
from_frame misses bytes = framing (length bytes) misses bytes

-- what is yet to arrive, if these bytes come
abbrev pub to_come : AlignerState → List ℕ → List Arrival
to_come aligner more = if aligner.searches then from_search (aligner.held ++ more)
    else from_frame aligner.misses (aligner.held ++ more)

-- The aligner read these bytes since its start: whatever comes, in the whole list arrives what arrived in these and
-- what is yet to arrive.
pub record HasAligned (read : List ℕ) (aligner : AlignerState) : Type 0 where
  pub whole : (more : List ℕ) → arrivals (read ++ more) ≡ arrivals read ++ to_come aligner more

-- what an answer says to have arrived
abbrev pub news : Aligned → List ℕ → List Arrival
news Nothing frame = []
news Whole frame = Handed frame ∷ []
news Break frame = Broken ∷ []

-- with one byte more
pub record Aligns (read : List ℕ) (byte : ℕ) (result : Aligned) (frame : List ℕ) (new : AlignerState) : Type 0 where
  pub arrived : arrivals (read ++ byte ∷ []) ≡ arrivals read ++ news result frame
  pub aligned : HasAligned (read ++ byte ∷ []) new

-- with these bytes more
pub record AlignsBy (read bytes : List ℕ) (result : Aligned) (frame : List ℕ) (new : AlignerState) : Type 0 where
  pub arrived : arrivals (read ++ bytes) ≡ arrivals read ++ news result frame
  pub aligned : HasAligned (read ++ bytes) new

-- an aligner after its start
abbrev pub searches_anew : AlignerState
searches_anew = record { searches = true; misses = 0; held = [] }
