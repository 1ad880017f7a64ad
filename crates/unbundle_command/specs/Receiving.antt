-- API: what arrives on channels, within the bytes of a turn: their outputs, a reader of GFP frames and an aligner of
-- client frames.
use Rattle.std.specs.Prelude.{ℕ, List}

-- ---- the outputs

-- what is seen of a channel: the text of its lines that are held, and how many packets and losses arrived on it
pub record ChannelView : Type 0 where
  pub text : List ℕ
  pub packets : ℕ
  pub losses : ℕ

-- what is seen of the outputs: the channels that have one, and how much arrived on others
pub record OutputsView : Type 0 where
  pub channels : List ChannelView
  pub other : ℕ

-- ---- what is read
