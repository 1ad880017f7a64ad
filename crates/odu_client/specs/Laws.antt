-- API: what is proved of client frames.
use Rattle.std.specs.Prelude.{◌≡◌, ℕ, ◌*◌, ◌/◌, Bool, List, ◌++◌}
use Rattle.gfp_frames.specs.GfpText.{stream_frames}
use Rattle.gfp_frames.specs.Within.{packets_within, CanCarryAll}
use Rattle.odu_client.specs.ClientFrames.{client_stream}
use Rattle.odu_client.specs.ClientOutput.{arriving_packets}
use Rattle.otn_base.specs.declared.limits.TheConstants.{CLIENT_FRAME_BYTES, CLIENT_PAYLOAD_BYTES}

-- what bytes deliver they deliver, whatever bytes come behind them
pub record StaysDelivered (bytes more : List ℕ) : Type 0 where
  pub later : List (List ℕ)
  pub parts : arriving_packets (bytes ++ more) ≡ arriving_packets bytes ++ later

-- Of the first n bytes of a client's stream the packets arrive, in order, whose GFP frames lie whole in the frames that
-- are whole.
abbrev pub PacketsArrive : Type 0
PacketsArrive = (sapi : List ℕ) (packets : List (List ℕ)) (fcs : Bool) (n : ℕ)
    → CanCarryAll (stream_frames packets fcs (CLIENT_PAYLOAD_BYTES * (n / CLIENT_FRAME_BYTES)))
    → arriving_packets (client_stream sapi packets fcs n)
    ≡ packets_within (CLIENT_PAYLOAD_BYTES * (n / CLIENT_FRAME_BYTES))
    (stream_frames packets fcs (CLIENT_PAYLOAD_BYTES * (n / CLIENT_FRAME_BYTES)))
