-- Steps of `put_frame`, `take_bytes` and others: what private contracts alone cite, beside the definitions of
-- `FeedTurn`.
use Rattle.std.specs.Prelude.{◌≡◌, ℕ, ◌+◌, ◌-◌, ◌*◌, ◌≤◌, List, IsSome, length}
use Rattle.otn_base.specs.declared.limits.TheConstants.{LINE_COLUMNS, LINE_FRAME_BYTES, OTU2_SLOTS, ROWS}
use Rattle.otn_base.specs.declared.line_kind.LineKind.TheVariants.{Otu2}
use Rattle.port_base.specs.Views.{OutView}
use Rattle.tributary_model.specs.Places.{Tributary, tributary_of, byte_at}
use Rattle.tributary_model.specs.Puts.{IsPut, IsSourcePlace}
use Rattle.trib_source.specs.Source.{Source, StandsAfter}
use Rattle.tributary_line.specs.FeedTurn.{FeedView, FeedHas}

-- All of those before the last turn, and n of it.
pub record FeedIn (own : Tributary) (first now : OutView) (turns : List (List ℕ)) (n : ℕ)
    (feed : FeedView) : Type 0 where
  pub some : 1 ≤ length turns
  pub source : StandsAfter own turns n feed.source
  pub has : FeedHas own first now turns (OTU2_SLOTS * (length turns - 1) + n) feed

-- a turn was begun, and so many of its frames were filled
pub record IsBegun (n : ℕ) (source : Source) : Type 0 where
  pub kind : source.slots.kind ≡ Otu2
  pub begun : IsSome source.said
  pub filled : source.filled ≡ n

-- what the source put into a frame where all else is 0
pub record IsFilled (n : ℕ) (source : Source) (bytes : List ℕ) : Type 0 where
  pub size : length bytes ≡ LINE_FRAME_BYTES
  pub put : (own : Tributary) (turns : List (List ℕ)) → StandsAfter own turns n source
      → IsPut own turns (length turns - 1) n bytes
  pub other : (port row column : ℕ) → 1 ≤ row → row ≤ ROWS → 1 ≤ column → column ≤ LINE_COLUMNS
      → (IsSourcePlace (tributary_of source.slots port) n row column → ⊥) → byte_at bytes row column ≡ 0
