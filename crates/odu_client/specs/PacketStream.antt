-- API: steps of a stream of GFP frames.
use Rattle.std.specs.Prelude.{Bool}
use Rattle.gfp_frames.specs.Maker.{fresh}
use Rattle.packet_text.specs.declared.line.Line.TheVariants.{Packet}
use Rattle.odu_client.specs.Framing.{StreamState}

-- a stream before its first byte
abbrev pub fresh_stream : (fcs : Bool) → StreamState
fresh_stream fcs = record { maker = fresh; fcs = fcs; answer = Packet; packets = 0 }
