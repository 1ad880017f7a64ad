use Rattle.std.proofs.Common.{◌≡◌, ◌∙◌, ◌++◌, ◌∷◌, sym, ap, subst}
use Rattle.view_events.specs.EventText.{msi_events_text}
use Rattle.view_events.specs.EventsOf.{line_events, said_after, turn_now}
use Rattle.view_events.specs.LineEvents.{LineStands}
use Rattle.view_events.specs.SlotEvents.{SlotStands}
use Rattle.view_events.specs.Stands.{EachStands}
use Rattle.view_events.specs.declared.said.MsiSaid.{MsiSaid}
use Rattle.view_events.proofs.events.Events.note_msi.Goals as goal

pub returns-clause-told : goal.returns-clause-told
unfolding line_events said_after
returns-clause-told c said slot byte low few is stands =
    let one : MsiSaid = record { turn = turn_now said.turns; slot = slot; byte = byte } in
    let same : c.msi_said-said.result ≡ one = c.msi_said-said.ensures.said slot byte low few is ∙ ap (λ n. record { turn = n; slot = slot; byte = byte }) stands.turn in
    let t = c.in_ok-take_msi.ensures in
    record {
      stands = record {
        turn = t.turn ∙ stands.turn;
        line = subst (LineStands said.turns) (sym t.line) stands.line;
        slots = subst (λ s. SlotStands (s ∷ said.bytes) c.take_msi.new.self.slots) same (t.slots said.bytes stands.slots);
        each = subst (λ v. EachStands said.each v.items) (sym t.tributaries) stands.each;
      };
      text = t.told said.bytes stands.slots ∙ ap (λ s. c.args.out.now.items ++ msi_events_text said.bytes s) same;
    }
