use Rattle.view_events.proofs.Wholes.{told_by_text}
use Rattle.event_laws.specs.ViewOf.{view_lines}
use Rattle.line_view.specs.ViewText.{view_text}
use Rattle.event_laws.proofs.InRange.{view_in_range}
use Rattle.event_laws.proofs.Lines.{view_has}
use Rattle.event_laws.proofs.Asked.{asked_are_shown}
use Rattle.event_laws.proofs.Planned.{planned_are_shown}
use Rattle.event_laws.proofs.laws.what_events_say.Goals as goal

pub returns-clause-lines : goal.returns-clause-lines
returns-clause-lines g c = view_has

pub returns-clause-asked : goal.returns-clause-asked
returns-clause-asked g c = asked_are_shown

pub returns-clause-planned : goal.returns-clause-planned
returns-clause-planned g c = planned_are_shown

pub returns-clause-range : goal.returns-clause-range
returns-clause-range g c = view_in_range

pub returns-clause-events : goal.returns-clause-events
returns-clause-events g c form shows ending available bytes shown first events h =
    told_by_text g.K.Sink first (view_text form shows ending available) (view_lines form shows ending available) events
    (view_in_range form shows ending available bytes shown)
    (view_has form shows ending available) h
