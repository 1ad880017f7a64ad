use Rattle.otn_base.specs.LineSlots.{slots_of}
use Rattle.port_base.specs.InPlace.{in_view}
use Rattle.line_side.specs.Steps.Reader.{AsksNoMore}
use Rattle.line_side.proofs.Hunting.{HuntsOn}
use Rattle.line_side.proofs.line_in.LineIn.hunt.Given as goal

abbrev pub invariant-loop : goal.invariant-loop
invariant-loop g l = record {
  hunts : HuntsOn (slots_of l.fn.self.kind) l.fn.self (in_view g.P.Source l.fn.place) l.counter l.self (in_view g.P.Source l.place);
  quiet : AsksNoMore l.fn.self.reader.ending l.fn.place l.self.reader.ending l.place;
}
