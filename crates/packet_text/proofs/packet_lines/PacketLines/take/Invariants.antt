use Rattle.std.proofs.Common.{◌≡◌, ◌-◌, ℕ, List, true}
use Rattle.port_base.specs.Views.{InView}
use Rattle.port_base.specs.InPlace.{in_view}
use Rattle.packet_text.specs.LinesStand.{lines_view}
use Rattle.packet_text.specs.Steps.Finding.{Seeks, Finds}
use Rattle.packet_text.specs.declared.found.Found.TheVariants.{Empty}
use Rattle.packet_text.proofs.packet_lines.PacketLines.take.Given as goal

abbrev pub invariant-loop-found : goal.invariant-loop-found
invariant-loop-found g l = record {
  finds : (first : InView) (read : List ℕ) (packets : List (List ℕ)) → Seeks first read packets (lines_view l.fn.self) (in_view g.P.Source l.fn.place)
      → Finds Empty first read packets (lines_view l.fn.self) (lines_view l.self) (in_view g.P.Source l.place);
  alive : (in_view g.P.Source l.place).state ≡ (in_view g.P.Source l.fn.place).state;
  kept : (lines_view l.self).packet ≡ (lines_view l.fn.self).packet;
  quiet : (lines_view l.fn.self).ended ≡ true → (l.place ≡ l.fn.place) × ((lines_view l.self).ended ≡ true);
}

abbrev pub decreases-loop-found : goal.decreases-loop-found
decreases-loop-found g l = 65537 - l.self.empty
