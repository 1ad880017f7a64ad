-- API: a maker of the frames of several channels, as contracts see it.
use Rattle.std.specs.Prelude.{replicate, ◌≡◌, ℕ, ◌+◌, ◌-◌, ◌<◌, nat_lt, if◌then◌else◌, List, [], ◌∷◌, ◌++◌, Option, Some, None, length, map, reverse, slice_index}
use Rattle.gfp_frames.specs.Maker.{MakerState, HasMade}
use Rattle.gfp_linear.specs.Weave.{ChannelText, WovenFrame, IdleFrame, made_of, is_loss_of, last_giver, asked_first, asked_after, next_of, next_frame, weave}

-- the channels' CIDs; for each how many frames have to pass before its next loss frame; the maker of the frames; which
-- channel is asked first for the next one, and how many others gave nothing
pub record WeaverState : Type 0 where
  pub cids : List ℕ
  pub waits : List ℕ
  pub maker : MakerState
  pub first : ℕ
  pub asked : ℕ

-- how far a stream is: the frames that began, and how many channels gave nothing for the next one
pub record Woven : Type 0 where
  pub frames : List WovenFrame
  pub others : ℕ

-- at the start the idle frame began
abbrev pub woven_first : Woven
woven_first = record { frames = IdleFrame ∷ []; others = 0 }

-- the channel that is asked
abbrev pub channel_at : (count : ℕ) → Woven → ℕ
channel_at count at = asked_after count (last_giver at.frames) at.others

-- The channel that is asked gave this frame, which begins; or nothing, and the next channel is asked, or behind the
-- last an idle frame begins.
abbrev pub woven_on : (count : ℕ) → Woven → Option WovenFrame → Woven
woven_on count at (Some frame) = record { frames = at.frames ++ frame ∷ []; others = 0 }
woven_on count at None = if nat_lt (at.others + 1) count then record { frames = at.frames; others = at.others + 1 }
    else record { frames = at.frames ++ IdleFrame ∷ []; others = 0 }

-- no channel gives a frame any more, and so many idle frames begin
abbrev pub idles_on : (idles : ℕ) → Woven → Woven
idles_on idles at = record { frames = at.frames ++ replicate idles IdleFrame; others = 0 }

-- how many frames have to pass before a channel's next loss frame, by the frames so far, the last one first
abbrev pub wait_behind : (channel : ℕ) → List WovenFrame → ℕ
wait_behind c [] = 0
wait_behind c (frame ∷ past) = if is_loss_of c frame then 1000 else wait_behind c past - 1

abbrev pub wait_of : (channel : ℕ) → List WovenFrame → ℕ
wait_of c frames = wait_behind c (reverse frames)

-- ---- steps of the maker

-- Since its start the maker was told for each frame what the channels of these CIDs gave, and is so far; and it gave
-- these bytes.
pub record HasWoven (cids : List ℕ) (at : Woven) (emitted : List ℕ) (maker : WeaverState) : Type 0 where
  pub made : HasMade (map (made_of cids) at.frames) emitted maker.maker
  pub same : maker.cids ≡ cids
  pub first : maker.first ≡ asked_first (length cids) (last_giver at.frames)
  pub others : maker.asked ≡ at.others
  pub sizes : length maker.waits ≡ length cids
  pub waits : (c : ℕ) → c < length cids → slice_index maker.waits c ≡ wait_of c at.frames

-- A stream that is the weave of these texts, so far: its frames are the first of it, and the channels that were asked
-- for the next one had nothing to give.
pub record IsWeave (texts : List ChannelText) (at : Woven) : Type 0 where
  pub begun : ℕ
  pub begins : at.frames ≡ weave texts begun
  pub next : next_frame texts at.frames ≡ next_of (length texts - at.others) texts at.frames at.others
  pub few : at.others < length texts
