use Rattle.std.proofs.Common.{◌≡◌, ◌≢◌, ◌≤◌, ◌-◌, length, take}
use Rattle.port_base.specs.InPlace.{in_view}
use Rattle.packet_text.specs.LinesStand.{lines_view}
use Rattle.packet_text.specs.declared.line.Line.TheVariants.{Packet}
use Rattle.odu_client.specs.Steps.Framing.{StreamsBy, IdlesBy}
use Rattle.odu_client.proofs.packet_stream.PacketStream.fill.Given as goal

abbrev pub invariant-loop-done : goal.invariant-loop-done
invariant-loop-done g l = record {
  within : l.done ≤ length l.into;
  size : length l.into ≡ length l.fn.into;
  goes : StreamsBy (in_view g.P.Source l.fn.place) (in_view g.P.Source l.place) (take l.done l.into) (lines_view l.fn.lines) (lines_view l.lines) l.fn.self l.self;
  over : l.fn.self.answer ≢ Packet → (l.place ≡ l.fn.place) × (l.lines ≡ l.fn.lines) × (l.self.answer ≡ l.fn.self.answer);
  idle : IdlesBy (take l.done l.into) l.fn.self l.self;
}

abbrev pub decreases-loop-done : goal.decreases-loop-done
decreases-loop-done g l = length l.into - l.done
