-- A line of a tributary, told: of one that was shown before, or of a new one.
use Rattle.std.proofs.Common.{◌≡◌, ◌≢◌, ◌<◌, ◌∙◌, ℕ, Bool, List, [], ◌++◌, Option, Some, None, length, slice_get, refl, sym, ap, subst}
use Rattle.std.specs.List.{position_or_len}
use Rattle.view_events.specs.EventText.{changes_text}
use Rattle.view_events.specs.EventsOf.{Said, label_of, line_events, past_of, right_byte, said_after, told_to, tributary_said, tributary_text, turn_now}
use Rattle.view_events.specs.LineEvents.{LineStands, whole_now}
use Rattle.view_events.specs.SlotEvents.{SlotStands}
use Rattle.view_events.specs.Stands.{EachStands, EventsStand, IsTold}
use Rattle.view_events.specs.Steps.Places.{IsKnownTold, IsNewTold, is_next}
use Rattle.view_events.specs.TributaryEvents.{TributaryStands, change_of, marked_slot, tributary_event}
use Rattle.view_events.specs.ViewLines.{OfTributary, TributaryLine}
use Rattle.view_events.specs.declared.events.Events.{Events}
use Rattle.view_events.specs.declared.said.SinkState.{SinkState}
use Rattle.view_events.specs.declared.said.SinkState.TheVariants.{Waiting, Up, Down}
use Rattle.view_events.specs.declared.said.TributarySaid.{TributarySaid}
use Rattle.view_events.specs.declared.tributary.Tributary.{Tributary}
use Rattle.view_events.proofs.Places.{found, known_told, new_told, nothing_before}

-- the event of a tributary, by what was read of its line
pub event_text_by : (said : Said) (x : TributaryLine) (past : List TributarySaid) (label : List ℕ) (s : TributarySaid) (slots : List ℕ) (right : ℕ)
    → s ≡ tributary_said (turn_now said.turns) x → slots ≡ x.slots → right ≡ right_byte x.port
    → changes_text s.turn label (tributary_event said.turns said.bytes past s slots right)
    ≡ changes_text (turn_now said.turns) label (tributary_event said.turns said.bytes past (tributary_said (turn_now said.turns) x) x.slots (right_byte x.port))
event_text_by said x past label s slots right same list port =
    ap (λ y. changes_text y.turn label (tributary_event said.turns said.bytes past y slots right)) same
    ∙ ap (λ y. changes_text (turn_now said.turns) label (tributary_event said.turns said.bytes past (tributary_said (turn_now said.turns) x) y right)) list
    ∙ ap (λ y. changes_text (turn_now said.turns) label (tributary_event said.turns said.bytes past (tributary_said (turn_now said.turns) x) x.slots y)) port

-- in its first turn no slot is marked
none_marked : (turn : ℕ) (state : SinkState) (cm cnd : ℕ) (whole : Bool) (marked : Option ℕ)
    → change_of [] (record { turn = turn; state = state; cm = cm; cnd = cnd }) whole None ≡ change_of [] (record { turn = turn; state = state; cm = cm; cnd = cnd }) whole marked
none_marked turn Waiting cm cnd whole marked = refl
none_marked turn Up cm cnd whole marked = refl
none_marked turn Down cm cnd whole marked = refl

pub new_text_by : (said : Said) (x : TributaryLine) (label : List ℕ) (s : TributarySaid) (whole : Bool) → s ≡ tributary_said (turn_now said.turns) x → whole ≡ whole_now said.turns
    → label ≡ label_of x → changes_text s.turn label (change_of [] s whole None) ≡ tributary_text said [] x
unfolding tributary_text
new_text_by said x label s whole same multiframe name =
    let now = tributary_said (turn_now said.turns) x in
    ap (λ y. changes_text y.turn label (change_of [] y whole None)) same
    ∙ ap (λ y. changes_text (turn_now said.turns) label (change_of [] now y None)) multiframe
    ∙ ap (λ y. changes_text (turn_now said.turns) y (change_of [] now (whole_now said.turns) None)) name
    ∙ ap (changes_text (turn_now said.turns) (label_of x)) (none_marked now.turn now.state now.cm now.cnd (whole_now said.turns) (marked_slot said.bytes [] x.slots (right_byte x.port)))

-- of one that was shown before
pub known_is_told : (said : Said) (x : TributaryLine) (i : ℕ) (old new : Events) (was is : List ℕ) → EventsStand said old
    → position_or_len (is_next old.turn (label_of x)) old.tributaries.items ≡ i → i < length old.tributaries.items → new.turn ≡ old.turn → new.line ≡ old.line → new.slots ≡ old.slots
    → ((one : Tributary) → slice_get old.tributaries.items i ≡ Some one → (past : List TributarySaid) → past ≢ [] → TributaryStands past one.tally
    → IsKnownTold said x past i one old.tributaries.items new.tributaries.items was is) → IsTold said (OfTributary x) new was is
unfolding line_events said_after tributary_text
known_is_told said x i old new was is h at less turn line slots told =
    let now = turn_now said.turns in
    let label = label_of x in
    let items = old.tributaries.items in
    let place : position_or_len (is_next now label) items ≡ i = ap (λ t. position_or_len (is_next t label) items) (sym h.turn) ∙ at in
    let f = found now label said.each items i h.each place less in
    let k = told f.one f.at (past_of now label said.each) f.some f.stands in
    let name : k.next.label.items ≡ label = ap (λ l. l.items) k.label ∙ f.label_is in
    record {
      stands = record {
        turn = turn ∙ h.turn;
        line = subst (LineStands said.turns) (sym line) h.line;
        slots = subst (SlotStands said.bytes) (sym slots) h.slots;
        each = subst (EachStands (told_to now label (tributary_said now x) said.each)) (sym k.set)
            (known_told now label (tributary_said now x) k.next said.each items i h.each place less name k.stands);
      };
      text = k.text ∙ ap (λ l. was ++ changes_text now l (tributary_event said.turns said.bytes (past_of now label said.each) (tributary_said now x) x.slots (right_byte x.port))) f.label_is;
    }

-- of a new one
pub new_is_told : (said : Said) (x : TributaryLine) (old new : Events) (was is : List ℕ) → EventsStand said old
    → position_or_len (is_next old.turn (label_of x)) old.tributaries.items ≡ length old.tributaries.items → new.turn ≡ old.turn → new.line ≡ old.line → new.slots ≡ old.slots
    → IsNewTold said x old.tributaries.items new.tributaries.items was is → IsTold said (OfTributary x) new was is
unfolding line_events said_after
new_is_told said x old new was is h at turn line slots k =
    let now = turn_now said.turns in
    let label = label_of x in
    let items = old.tributaries.items in
    let place : position_or_len (is_next now label) items ≡ length items = ap (λ t. position_or_len (is_next t label) items) (sym h.turn) ∙ at in
    record {
      stands = record {
        turn = turn ∙ h.turn;
        line = subst (LineStands said.turns) (sym line) h.line;
        slots = subst (SlotStands said.bytes) (sym slots) h.slots;
        each = subst (EachStands (told_to now label (tributary_said now x) said.each)) (sym k.added)
            (new_told now label (tributary_said now x) k.one said.each items h.each place k.label k.stands);
      };
      text = k.text ∙ ap (λ p. was ++ tributary_text said p x) (sym (nothing_before now label said.each items h.each place));
    }
