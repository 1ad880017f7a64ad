-- Steps of `have_frame` and `give`: what private contracts alone cite, beside the definitions of `FramerSteps`.
use Rattle.std.specs.Prelude.{◌≡◌, ℕ, List, ◌++◌}
use Rattle.port_base.specs.Views.{InView}
use Rattle.packet_text.specs.LinesStand.{LinesView, MayBe}
use Rattle.odu_client.specs.Framing.{FramerState, TextStands, Framed}

-- a framer that has made frames, of which these bytes were emitted
pub record FramedSome (first now : InView) (read emitted : List ℕ) (lines : LinesView)
    (framer : FramerState) : Type 0 where
  pub packets : List (List ℕ)
  pub payload : List ℕ
  pub count : ℕ
  pub text : TextStands first now read packets lines framer.stream
  pub framed : Framed packets payload count emitted framer

-- a call in which the text may have gone on
pub record Makes (first now : InView) (read emitted : List ℕ) (old new : LinesView)
    (was is : FramerState) : Type 0 where
  pub further : List ℕ
  pub stands : FramedSome first now (read ++ further) emitted new is
  pub earlier : (text : List ℕ) → MayBe new (read ++ further) text → MayBe old read text
  pub sapi : is.sapi ≡ was.sapi
  pub fcs : is.stream.fcs ≡ was.stream.fcs

-- these bytes of the frame in hand were emitted
pub record Gives (bytes : List ℕ) (old new : FramerState) : Type 0 where
  pub bytes_of : old.left ≡ bytes ++ new.left
  pub same : new ≡ record old { left = new.left }
