use Rattle.std.proofs.Common.{◌≡◌, ◌≤◌, ◌+◌, true, length}
use Rattle.port_base.specs.InPlace.{in_view}
use Rattle.packet_text.specs.Cutting.{cut_view}
use Rattle.packet_text.specs.Steps.Cutting.{Goes}
use Rattle.packet_text.proofs.Cuts.{left}
use Rattle.packet_text.proofs.cutter.Cutter.next.Given as goal

abbrev pub invariant-loop-self : goal.invariant-loop-self
invariant-loop-self g l = record {
  goes : Goes (cut_view l.fn.self).hand l.fn.self.ended (in_view g.P.Source l.fn.place) (cut_view l.self) (in_view g.P.Source l.place);
  short : length l.self.line.items ≤ 131055;
  quiet : l.fn.self.ended ≡ true → (l.place ≡ l.fn.place) × (l.self.ended ≡ true);
}

abbrev pub decreases-loop-self : goal.decreases-loop-self
decreases-loop-self g l = left l.self.ended (length (cut_view l.self).line + length (cut_view l.self).hand)
