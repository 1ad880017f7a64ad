-- Steps of `fill_front`, `fill` and others: the client frames that carry the channels, and the turns of the command.
use Rattle.std.specs.Prelude.{◌≡◌, ◌<◌, ◌*◌, ℕ, List, [], ◌++◌, drop, length}
use Rattle.std.specs.List.{concat}
use Rattle.otn_base.specs.declared.limits.TheConstants.{CLIENT_FRAME_BYTES, NOMINAL}
use Rattle.port_base.specs.Views.{BaysView, line_out_at}
use Rattle.odu_client.specs.ClientFrames.{client_frames}
use Rattle.odu_client.specs.ClientOverhead.{HasMadeFrames}
use Rattle.bundle_command.specs.Steps.Channels.{WeavingStands}
use Rattle.bundle_command.specs.declared.framing.Framing.{Framing}

-- only client inputs changed
pub record OnlyInputs (first now : BaysView) : Type 0 where
  pub line_in : now.line_in ≡ first.line_in
  pub line_out : now.line_out ≡ first.line_out
  pub client_out : now.client_out ≡ first.client_out

-- what is left of the frame in hand
abbrev pub left_of : Framing → List ℕ
left_of framing = drop framing.at framing.frame

-- Frames were made of the channels' stream, of which these bytes are due.
pub record FramesHave (clients : List ℕ) (first now : BaysView) (due : List ℕ) (framing : Framing) : Type 0 where
  pub emitted : List ℕ
  pub count : ℕ
  pub weaving : WeavingStands clients first now emitted framing.weaving
  pub made : HasMadeFrames [] count emitted framing.overhead
  pub frames : due ++ left_of framing ≡ concat (client_frames [] count emitted)
  pub trace : framing.trace ≡ []

-- and some bytes of the last
pub record FramesStand (clients : List ℕ) (first now : BaysView) (due : List ℕ) (framing : Framing) : Type 0 where
  pub has : FramesHave clients first now due framing
  pub part : length (left_of framing) < CLIENT_FRAME_BYTES

-- it is so of some channels
pub record AreReady (now : BaysView) (framing : Framing) : Type 0 where
  pub clients : List ℕ
  pub first : BaysView
  pub due : List ℕ
  pub ready : FramesHave clients first now due framing
