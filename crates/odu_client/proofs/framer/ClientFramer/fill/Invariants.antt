use Rattle.std.proofs.Common.{◌≡◌, ◌≢◌, ◌<◌, ◌≤◌, ◌+◌, ◌-◌, ◌++◌, ℕ, List, length, take}
use Rattle.port_base.specs.InPlace.{in_view}
use Rattle.port_base.specs.Views.{InView}
use Rattle.packet_text.specs.LinesStand.{lines_view}
use Rattle.packet_text.specs.declared.line.Line.TheVariants.{Packet}
use Rattle.odu_client.specs.Framing.{ClientStands}
use Rattle.odu_client.specs.Steps.FramerSteps.{Makes}
use Rattle.odu_client.proofs.framer.ClientFramer.fill.Given as goal

abbrev pub invariant-loop-done : goal.invariant-loop-done
invariant-loop-done g l = record {
  within : l.done ≤ length l.into;
  size : length l.into ≡ length l.fn.into;
  short : (first : InView) (read emitted : List ℕ) → ClientStands first (in_view g.P.Source l.fn.place) read emitted (lines_view l.fn.lines) l.fn.self → length l.self.left < 15296;
  goes : (first : InView) (read emitted : List ℕ) → ClientStands first (in_view g.P.Source l.fn.place) read emitted (lines_view l.fn.lines) l.fn.self
      → Makes first (in_view g.P.Source l.place) read (emitted ++ take l.done l.into) (lines_view l.fn.lines) (lines_view l.lines) l.fn.self l.self;
  over : l.fn.self.stream.answer ≢ Packet → (l.place ≡ l.fn.place) × (l.lines ≡ l.fn.lines) × (l.self.stream.answer ≡ l.fn.self.stream.answer);
  hand : length l.fn.into ≤ length l.fn.self.left → (l.place ≡ l.fn.place) × (l.lines ≡ l.fn.lines) × (length l.self.left + l.done ≡ length l.fn.self.left);
}

abbrev pub decreases-loop-done : goal.decreases-loop-done
decreases-loop-done g l = length l.into - l.done
