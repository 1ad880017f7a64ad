-- API: how the channels stand with their clients' texts.
use Rattle.std.specs.Prelude.{◌≡◌, ◌≢◌, ◌⊎◌, ◌<◌, ℕ, []}
use Rattle.gfp_linear.specs.Weave.{asked_after, last_giver}
use Rattle.gfp_linear.specs.Weaver.{Woven}
use Rattle.bundle_command.specs.BundleStream.{IsAskedIn}

-- ---- one channel

-- ---- bytes of frames

-- a channel was asked for one of the frames so far, or for the next one
abbrev pub HasAsked : (count : ℕ) → Woven → (c : ℕ) → Type 0
HasAsked count at c = IsAskedIn count at.frames c
    ⊎ ((j : ℕ) × (j < at.others) × (asked_after count (last_giver at.frames) j ≡ c))

-- there are frames so far, and a channel is left to be asked for the next one
pub record IsGoing (count : ℕ) (at : Woven) : Type 0 where
  pub few : at.others < count
  pub some : at.frames ≢ []

-- ---- all channels

-- ---- steps
