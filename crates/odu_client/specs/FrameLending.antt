-- API: what a maker is once the frame that borrows it is gone.
use Rattle.std.specs.Prelude.{ℕ, ◌+◌, ⊤, List, ◌++◌}
use Rattle.std.specs.Borrow.{MutBor, Fml, follows_so}
use mathlib.Core.Option.{none}
use Rattle.odu_client.specs.ClientOverhead.{MakerState, HasMadeFrames}
use Rattle.odu_client.specs.contracts.frame_maker.FrameMaker.{the_row}

-- it has made one frame more
abbrev pub EndsHavingMade : MutBor MakerState → (sapi payload : List ℕ) → Fml
EndsHavingMade maker sapi payload =
    follows_so the_row the_row maker.ghost_name none (λ _ _. ⊤)
    (λ last. (count : ℕ) (emitted : List ℕ) → HasMadeFrames sapi count emitted maker.now.overhead
    → HasMadeFrames sapi (count + 1) (emitted ++ payload) last.overhead)
