-- Steps of `put_packet`, `given_by` and others: what private contracts alone cite, beside the definitions of `Weaver`.
use Rattle.std.specs.Prelude.{ℕ, ◌+◌, ◌-◌, ◌%◌, List, length, map, slice_index, slice_set}
use Rattle.gfp_frames.specs.CoreHeader.{core_header}
use Rattle.gfp_frames.specs.Maker.{made_frame}
use Rattle.gfp_linear.specs.ChannelFrames.{packet_area, loss_area}
use Rattle.gfp_linear.specs.Weaver.{WeaverState}

-- no channel gave a frame, and an idle one begins
abbrev pub idle_put : WeaverState → WeaverState
idle_put m = record m {
  waits = map (λ wait. wait - 1) m.waits;
  maker = record m.maker { hand = core_header 0 };
  asked = 0;
}

-- a channel gave a frame: the one after it is asked first for the next, and one frame has passed
abbrev pub given_on : WeaverState → (channel : ℕ) → WeaverState
given_on m channel = record m {
  waits = map (λ wait. wait - 1) m.waits;
  first = (channel + 1) % length m.cids;
  asked = 0;
}

-- a channel gave its packet's frame
abbrev pub packet_put : WeaverState → (channel : ℕ) → (packet : List ℕ) → WeaverState
packet_put m channel packet = given_on (record m {
  maker = made_frame
      (packet_area (slice_index m.cids channel) packet) m.maker.register;
}) channel

-- a channel gave its loss frame, and waits for the next
abbrev pub loss_put : WeaverState → (channel : ℕ) → WeaverState
loss_put m channel = record {
  cids = m.cids;
  waits = slice_set (map (λ wait. wait - 1) m.waits) channel 1000;
  maker = made_frame (loss_area (slice_index m.cids channel)) m.maker.register;
  first = (channel + 1) % length m.cids;
  asked = 0;
}
