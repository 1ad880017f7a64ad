-- API: what a reader is once the arrival that borrows it is gone.
use Rattle.std.specs.Prelude.{ℕ, ⊤, List, [], ◌∷◌, ◌++◌}
use Rattle.std.specs.Borrow.{MutBor, Fml, follows_so}
use mathlib.Core.Option.{none}
use Rattle.gfp_frames.specs.Reader.{ReaderState, HasRead}
use Rattle.gfp_linear.specs.contracts.reader.ChannelReader.{the_row}

-- it has read one byte more
abbrev pub EndsHavingRead : MutBor ReaderState → ℕ → Fml
EndsHavingRead reader byte =
    follows_so the_row the_row reader.ghost_name none (λ _ _. ⊤) (λ last. (read : List ℕ) → HasRead read reader.now
    → HasRead (read ++ byte ∷ []) last)

-- it has read these bytes more
abbrev pub EndsHavingReadAll : MutBor ReaderState → List ℕ → Fml
EndsHavingReadAll reader bytes =
    follows_so the_row the_row reader.ghost_name none (λ _ _. ⊤) (λ last. (read : List ℕ) → HasRead read reader.now
    → HasRead (read ++ bytes) last)
