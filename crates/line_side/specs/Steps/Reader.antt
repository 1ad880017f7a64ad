-- Steps of `advance`, `read_next` and others: what private contracts alone cite, beside the definitions of `Reader`.
use Rattle.std.specs.Prelude.{◌≡◌, ◌≢◌, ◌<◌, ◌+◌, max, ℕ, Bool, true, false, List, [], ◌++◌, length, Option, Some, None}
use Rattle.otn_base.specs.Counts.{saturated}
use Rattle.otn_base.specs.declared.limits.TheConstants.{LINE_FRAME_BYTES}
use Rattle.port_base.specs.Views.{InView, Live, Dead}
use Rattle.port_base.specs.Given.{Gave}
use Rattle.port_base.specs.Reads.{HasEnded}
use Rattle.port_base.specs.declared.in_place.InPlaceOf.{InPlaceOf}
use Rattle.port_base.specs.declared.in_place.Reading.{Reading}
use Rattle.port_base.specs.declared.in_place.Reading.TheVariants.{Full, End, Lost}
use Rattle.line_side.specs.LineForm.{through_mask}
use Rattle.line_side.specs.LineFile.{frame_at, whole_frames, mfas_of}
use Rattle.line_side.specs.Counted.{Counted}
use Rattle.multiframe.specs.LineTurns.{one_if, looked_ahead, is_start}
use Rattle.line_side.specs.MayBe.{MayBe}
use Rattle.line_side.specs.declared.ending.Ending.{Ending}
use Rattle.line_side.specs.declared.ending.Ending.TheVariants.{Open, Seen, Died}
use Rattle.line_side.specs.Reader.{ReaderView, HasRead, EndedAs}

-- What a move of a reader comes to, whatever line it may be on and however far it has read. `available` are all bytes
-- of the line; of them n are read after the move, `further` in it; u frames were used before it, and w were wanted.
abbrev pub OnAnyLine : (old new : ReaderView) → (further : List ℕ)
    → ((available : List ℕ) → (n u w : ℕ) → Type 0) → Type 0
OnAnyLine old new further Comes = (available read : List ℕ) (u w : ℕ)
    → MayBe new.scrambled new.ending (read ++ further) available
    → HasRead available (length read) u w old
    → Comes available (length (read ++ further)) u w

-- what a read of a frame says: a whole frame came, which is read through the mask, or the place gives no more
pub record FrameRead (scrambled : Bool) (reading : Reading) (was : InView) (frame : List ℕ) (is : InView) : Type 0 where
  pub further : List ℕ
  pub gave : Gave was further is
  pub whole : reading ≡ Full → (frame ≡ through_mask scrambled further) × (length further ≡ LINE_FRAME_BYTES)
  pub short : reading ≢ Full → (length further < LINE_FRAME_BYTES) × (is.state ≡ Live → HasEnded is.left is.ended)
  pub end : (k : ℕ) → reading ≡ End k → (k ≡ length further) × (is.state ≢ Dead)
  pub lost : reading ≡ Lost → is.state ≡ Dead
  pub unended : ((k : ℕ) → reading ≢ End k) → is.ended ≡ was.ended

-- this frame, which was looked ahead at, is in hand, and so much was counted with it; without one nothing changes
abbrev pub taking : Option (List ℕ) → Counted → ReaderView → ReaderView
taking None seen r = r
taking (Some frame) seen r = record {
  scrambled = r.scrambled;
  hand = frame;
  ahead = None;
  ending = r.ending;
  frames = saturated (r.frames + 1);
  rest = r.rest;
  seen = seen;
}

-- the frame that the reader looked ahead at, if it did, is in hand, and so much was counted with it
abbrev pub with_ahead : Counted → ReaderView → ReaderView
with_ahead seen r = taking r.ahead seen r

-- the bytes have ended where no whole frame came
abbrev pub ending_after : Reading → Ending → Ending
ending_after Full ending = ending
ending_after (End n) ending = Seen
ending_after Lost ending = Died

-- how many bytes came after the last whole frame: as many as came of one that is not whole
abbrev pub left_after : Reading → ℕ → ℕ
left_after Full rest = rest
left_after (End n) rest = n
left_after Lost rest = rest

-- the reader after a read of a frame that said this, but for the frame itself
abbrev pub with_reading : Reading → ReaderView → ReaderView
with_reading reading r = record r { ending = ending_after reading r.ending; rest = left_after reading r.rest }

-- Once the bytes have ended, the place is asked nothing more, and they stay ended.
abbrev pub AsksNoMore : {P : Type 0} → Ending → InPlaceOf P → Ending → InPlaceOf P → Type 0
AsksNoMore old was new is = old ≢ Open → (is ≡ was) × (new ≢ Open)

-- A step of a reader at the place of its line, in which these bytes came. Once the bytes have ended none come; a live
-- place has ended with them, and how they ended goes on to agree with the place. While the end is not seen, the place
-- answers none.
pub record ReadStep (old : ReaderView) (was : InView) (further : List ℕ) (new : ReaderView) (is : InView) : Type 0 where
  pub scrambled : new.scrambled ≡ old.scrambled
  pub gave : Gave was further is
  pub quiet : old.ending ≢ Open → (further ≡ []) × (new.ending ≢ Open)
  pub over : (old.ending ≢ Open → was.state ≡ Live → HasEnded was.left was.ended) → new.ending ≢ Open → is.state ≡ Live
      → HasEnded is.left is.ended
  pub ended : EndedAs old.ending was → EndedAs new.ending is
  pub unended : new.ending ≢ Seen → (old.ending ≢ Seen) × (is.ended ≡ was.ended)

-- the frame after those that are used came into the hand, or there is none
pub record Advanced (available : List ℕ) (n u w : ℕ) (result : Bool) (r : ReaderView) : Type 0 where
  pub frame : result ≡ true → HasRead available n (u + 1) w r × (u < whole_frames available)
      × (r.hand ≡ frame_at available u)
  pub none : result ≡ false → HasRead available n u w r × (u ≡ whole_frames available) × (r.ending ≢ Open)

-- the reader went on to the next frame, which it wanted
pub record Advances (result : Bool) (old : ReaderView) (was : InView) (new : ReaderView) (is : InView) : Type 0 where
  pub further : List ℕ
  pub step : ReadStep old was further new is
  pub alone : new.ahead ≡ None
  pub line : OnAnyLine old new further (λ available n u w. Advanced available n u (max w (u + 1)) result new)

-- the frame after those that are used was looked at, or there is none
pub record LookedAhead (available : List ℕ) (n u w : ℕ) (result : Bool) (r : ReaderView) : Type 0 where
  pub read : HasRead available n u w r
  pub frame : result ≡ true → (u < whole_frames available) × (r.ahead ≡ Some (frame_at available u))
  pub none : result ≡ false → (u ≡ whole_frames available) × (r.ahead ≡ None)

-- the reader looked ahead at the next frame, which it wanted
pub record LooksAhead (result : Bool) (old : ReaderView) (was : InView) (new : ReaderView) (is : InView) : Type 0 where
  pub further : List ℕ
  pub step : ReadStep old was further new is
  pub hand : new.hand ≡ old.hand
  pub line : OnAnyLine old new further (λ available n u w. LookedAhead available n u (max w (u + 1)) result new)

-- whether a multiframe may begin with the frame in hand, the last one that is used: by it and the next frame
pub record Began (size : ℕ) (available : List ℕ) (n u w : ℕ) (result : Bool) (r : ReaderView) : Type 0 where
  pub read : HasRead available n (u + 1) (max w (u + 1 + one_if (looked_ahead size (mfas_of available) u))) r
  pub start : is_start size (mfas_of available) u ≡ result

-- the reader has the last used frame in hand, and tells whether a multiframe may begin with it
pub record Begins (size : ℕ) (result : Bool) (old : ReaderView) (was : InView) (new : ReaderView)
    (is : InView) : Type 0 where
  pub further : List ℕ
  pub step : ReadStep old was further new is
  pub hand : new.hand ≡ old.hand
  pub line : OnAnyLine old new further (λ available n used w. (u : ℕ) → used ≡ u + 1 → old.hand ≡ frame_at available u
      → Began size available n u w result new)
