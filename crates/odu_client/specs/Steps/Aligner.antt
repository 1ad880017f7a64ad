-- Steps of `search` and `go_on`: what private contracts alone cite, beside the definitions of `Aligner`.
use Rattle.std.specs.Prelude.{◌≡◌, ℕ, List, [], ◌∷◌, ◌++◌}
use Rattle.odu_client.specs.declared.aligned.Aligned.{Aligned}
use Rattle.odu_client.specs.Aligner.{AlignerState, to_come, news}

-- a step: what was to arrive with this byte arrived, or is to arrive still; and nothing arrives of itself
pub record Goes (old : AlignerState) (byte : ℕ) (result : Aligned) (frame : List ℕ) (new : AlignerState) : Type 0 where
  pub each : (more : List ℕ) → to_come old (byte ∷ more) ≡ news result frame ++ to_come new more
  pub none : to_come new [] ≡ []

-- so many bytes were read at once
pub record GoesBy (old : AlignerState) (bytes : List ℕ) (result : Aligned) (frame : List ℕ)
    (new : AlignerState) : Type 0 where
  pub each : (more : List ℕ) → to_come old (bytes ++ more) ≡ news result frame ++ to_come new more
  pub none : to_come new [] ≡ []
