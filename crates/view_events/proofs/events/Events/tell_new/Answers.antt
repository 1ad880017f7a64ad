use Rattle.std.proofs.Common.{◌≡◌, ◌∙◌, ◌++◌, ◌∷◌, [], ap, subst}
use Rattle.view_events.specs.EventsOf.{tributary_said, turn_now}
use Rattle.view_events.specs.TributaryEvents.{TributaryStands}
use Rattle.view_events.proofs.Telling.{new_text_by}
use Rattle.view_events.proofs.events.Events.tell_new.Goals as goal

pub returns-clause-told : goal.returns-clause-told
returns-clause-told c said x h is stands name =
    let turn = c.tributary_said-said.result in
    let equal : turn ≡ tributary_said (turn_now said.turns) x = c.tributary_said-said.ensures x h is ∙ ap (λ t. tributary_said t x) stands.turn in
    let f = c.in_ok-one.ensures in
    record {
      text = f.told ∙ ap (λ e. c.args.out.now.items ++ e) (new_text_by said x c.args.label.items turn c.is_whole-whole.result equal (c.is_whole-whole.ensures said.turns stands.line) name);
      one = c.in_ok-one.one;
      label = f.label ∙ name;
      stands = subst (λ y. TributaryStands (y ∷ []) c.in_ok-one.one.tally) equal f.stands;
      added = c.in_ok-push.ensures.items;
    }
