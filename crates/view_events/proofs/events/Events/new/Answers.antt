use Rattle.std.proofs.Common.{refl, sym, subst, []}
use Rattle.view_events.specs.Stands.{EachStands}
use Rattle.view_events.proofs.events.Events.new.Goals as goal

pub returns-clause-stands : goal.returns-clause-stands
returns-clause-stands c = record {
  turn = refl;
  line = c.new-line.ensures;
  slots = c.new-slots.ensures;
  each = subst (EachStands []) (sym c.new-tributaries.ensures.items) tt;
}
