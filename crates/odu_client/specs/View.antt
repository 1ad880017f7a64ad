-- API: what is seen of an aligner.
use Rattle.std.specs.Prelude.{ℕ, ◌+◌, List}
use Rattle.otn_base.specs.Counts.{saturated}
use Rattle.odu_client.specs.Aligner.{AlignerState}
use Rattle.odu_client.specs.declared.aligned.Aligned.{Aligned}
use Rattle.odu_client.specs.declared.aligned.Aligned.TheVariants.{Nothing, Whole, Break}
use Rattle.odu_client.specs.declared.aligner.ClientAligner.{ClientAligner}

-- the state of an aligner: whether it searches, how many frames in a row had no FAS, and the bytes that it holds
abbrev pub aligner_state : ClientAligner → AlignerState
aligner_state a = record { searches = a.searching; misses = a.misses; held = a.held.items }

-- the frame of the last answer Whole; before the first, bytes that are 0
abbrev pub handed : ClientAligner → List ℕ
handed a = a.frame

-- a count of whole frames, which stops at its end
abbrev pub frames_after : ℕ → Aligned → ℕ
frames_after frames Nothing = frames
frames_after frames Whole = saturated (frames + 1)
frames_after frames Break = frames
