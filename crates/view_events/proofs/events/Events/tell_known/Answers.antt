use Rattle.std.proofs.Common.{◌≡◌, ◌∙◌, ◌++◌, ◌∷◌, refl, sym, ap, subst}
use Rattle.std.proofs.lemmas.Option.{same_Some, slice_get_read}
use Rattle.view_events.specs.EventText.{changes_text}
use Rattle.view_events.specs.EventsOf.{right_byte, tributary_said, turn_now}
use Rattle.view_events.specs.TributaryEvents.{TributaryStands, tributary_event}
use Rattle.view_events.proofs.Telling.{event_text_by}
use Rattle.view_events.proofs.events.Events.tell_known.Goals as goal

pub returns-clause-at : goal.returns-clause-at
returns-clause-at c =
    let s = c.args.self.now in
    let was = c.index_mut.result.now in
    let t = c.in_ok-tell.ensures in
    record {
      was = was;
      is = c.tell.new.self;
      said = c.tributary_said-said.result;
      at = slice_get_read s.tributaries.items _ c.args.i was s.tributaries.ok.0 c.requires c.index_mut.ensures.value;
      told = record { label = t.label; stands = t.stands };
      set = refl;
    }

pub returns-clause-told : goal.returns-clause-told
returns-clause-told c said x h is stands one at past some stood =
    let s = c.args.self.now in
    let items = s.tributaries.items in
    let was = c.index_mut.result.now in
    let here = slice_get_read items _ c.args.i was s.tributaries.ok.0 c.requires c.index_mut.ensures.value in
    let same : one ≡ was = same_Some one was (sym at ∙ here) in
    let turn = c.tributary_said-said.result in
    let equal : turn ≡ tributary_said (turn_now said.turns) x = c.tributary_said-said.ensures x h is ∙ ap (λ t. tributary_said t x) stands.turn in
    let slots = c.as_slice.ensures.value ∙ c.slots_said-slots.ensures.said x h is in
    let right = c.right_byte-right.ensures x h is in
    let t = c.in_ok-tell.ensures in
    let has = subst (λ o. TributaryStands past o.tally) same stood in
    let event = tributary_event said.turns said.bytes past (tributary_said (turn_now said.turns) x) x.slots (right_byte x.port) in
    record {
      text = t.told said.turns said.bytes past stands.line stands.slots has
          ∙ ap (λ e. c.args.out.now.items ++ e) (event_text_by said x past was.label.items turn _ _ equal slots right)
          ∙ ap (λ o. c.args.out.now.items ++ changes_text (turn_now said.turns) o.label.items event) (sym same);
      next = c.tell.new.self;
      label = t.label ∙ ap (λ o. o.label) (sym same);
      stands = subst (λ y. TributaryStands (y ∷ past) c.tell.new.self.tally) equal (t.stands past some has);
      set = refl;
    }
