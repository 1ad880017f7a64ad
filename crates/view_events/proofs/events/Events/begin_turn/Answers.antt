use Rattle.std.proofs.Common.{◌≡◌, ◌∙◌, ◌++◌, ◌∷◌, sym, ap, subst}
use Rattle.view_events.specs.EventText.{turn_events_text}
use Rattle.view_events.specs.EventsOf.{line_events, said_after}
use Rattle.view_events.specs.LineEvents.{LineStands}
use Rattle.view_events.specs.SlotEvents.{SlotStands}
use Rattle.view_events.specs.Stands.{EachStands}
use Rattle.view_events.proofs.events.Events.begin_turn.Goals as goal

pub returns-clause-told : goal.returns-clause-told
unfolding line_events said_after
returns-clause-told c said frames turn h is stands =
    let same : c.turn_said-said.result ≡ turn = c.turn_said-said.ensures frames turn h is in
    let t = c.in_ok-take_turn.ensures in
    record {
      stands = record {
        turn = t.turn ∙ ap (λ s. s.number) same;
        line = subst (λ s. LineStands (s ∷ said.turns) c.take_turn.new.self.line) same (t.line said.turns stands.line);
        slots = subst (SlotStands said.bytes) (sym t.slots) stands.slots;
        each = subst (λ v. EachStands said.each v.items) (sym t.tributaries) stands.each;
      };
      text = t.told said.turns stands.line ∙ ap (λ s. c.args.out.now.items ++ turn_events_text said.turns s) same;
    }
