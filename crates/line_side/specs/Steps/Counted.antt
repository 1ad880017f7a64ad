-- Steps of `take` and `take_ahead`: what private contracts alone cite, beside the definitions of `Counted`.
use Rattle.std.specs.Prelude.{ℕ, List, [], ◌∷◌, ◌++◌}
use Rattle.line_side.specs.Counted.{Counted, HasCounted}

-- one frame more was taken, whatever was before it
abbrev pub CountsOn : (old : Counted) → (frame : List ℕ) → (new : Counted) → Type 0
CountsOn old frame new = (frames : List (List ℕ)) → HasCounted frames old → HasCounted (frames ++ frame ∷ []) new
