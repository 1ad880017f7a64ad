-- API: steps of a framer.
use Rattle.std.specs.Prelude.{ℕ, Bool, true, List, []}
use Rattle.odu_client.specs.Framing.{FramerState}
use Rattle.odu_client.specs.PacketStream.{fresh_stream}
use Rattle.std.specs.Prelude.{None}

-- a framer before its first frame
abbrev pub fresh_framer : (sapi : List ℕ) → (fcs : Bool) → FramerState
fresh_framer sapi fcs = record {
  sapi = sapi;
  stream = fresh_stream fcs;
  path = record { last = None; before = None };
  mfas = 0;
  left = [];
  fresh = true;
}
