-- The numbers of the line of a tributary.
use Rattle.std.proofs.Common.{◌≡◌, ◌<◌, ◌≤◌, ◌+◌, ◌-◌, ◌*◌, ◌/◌, ℕ, zero, suc, List, [], ◌∷◌, length, sym, subst, arith}
use Rattle.std.proofs.lemmas.List.Elements.{All-from_get_or}
use Rattle.otn_base.specs.SlotList.{IsSlotList}
use Rattle.otn_base.proofs.RisingSlots.{few_slots}
use Rattle.maintenance_signals.specs.Stream.{signal_byte}
use Rattle.maintenance_signals.specs.declared.signal.Signal.TheVariants.{Ais}
use Rattle.line_side.specs.LineForm.{LineForm, size_of}
use Rattle.number_lists.specs.NumberLists.{IsNumberList}
use Rattle.trib_sink.specs.Pairs.{pair_of}
use Rattle.tributary_model.specs.Carries.{past_of}
use Rattle.tributary_model.specs.Laws.{IsTributary}
use Rattle.tributary_model.specs.Places.{AreWholeTurns, Tributary}
use Rattle.tributary_model.specs.Stretches.{DownTurn, EndingTurn, Part, StretchTurn, WaitingTurn, course}
use Rattle.tributary_model.proofs.Law.{SoundCourse, few_bytes, stands}
use Rattle.tributary_model.proofs.OnLine.{evenly, few_of_kind}
use Rattle.device_model.specs.LineViews.{view_at}
use Rattle.device_model.proofs.LineViews.{whole_at}
use Rattle.line_view.specs.ViewText.{Showing, told_at, views_from}
use Rattle.view_events.specs.ViewLines.{IsCount, IsPair, IsViewLine}
use Rattle.event_laws.specs.Laws.{IsShown}
use Rattle.event_laws.specs.ViewOf.{tributary_of}

-- ---- what is told

past_whole : (own : Tributary) (available : List ℕ) (first n : ℕ) → IsTributary own → AreWholeTurns (length own.slots) (past_of (view_at own available) first n)
past_whole own available first zero is = tt
past_whole own available first (suc n) is = (whole_at own available (first + n) is, past_whole own available first n is)

pair_small : (m : ℕ) (parts : List Part) → m ≤ 32 → SoundCourse m parts → IsPair (pair_of parts)
pair_small m [] few sound = tt
pair_small m (WaitingTurn ∷ parts) few sound = tt
pair_small m (DownTurn ∷ parts) few sound = tt
pair_small m (EndingTurn stretch ∷ parts) few sound = tt
pair_small m (StretchTurn [] ∷ parts) few sound = tt
pair_small m (StretchTurn (last ∷ before) ∷ parts) few sound =
    let cm = sound.small.0 in
    let cnd = sound.small.1 in
    (omega (arith, cm), omega (arith, few, cnd))

-- Cm and CnD are of 16 bits
pub told_pair : (own : Tributary) (first : ℕ) (available : List ℕ) (t : ℕ) → IsTributary own → length own.slots ≤ 32
    → IsPair (told_at own first available t).pair
unfolding told_at views_from
told_pair own first available t is few =
    let view = view_at own available t in
    let past = past_of (view_at own available) first (t - first) in
    pair_small (length own.slots) (course own (view ∷ past)) few
    (stands own (view ∷ past) is.slots.taken (whole_at own available t is, past_whole own available first (t - first) is)).sound

-- so many bytes in a turn are a count
pub told_count : (own : Tributary) (first : ℕ) (available : List ℕ) (t : ℕ) → IsTributary own → length own.slots ≤ 32
    → IsCount (told_at own first available t).bytes
unfolding told_at views_from
told_count own first available t is few =
    let view = view_at own available t in
    let past = past_of (view_at own available) first (t - first) in
    let most = few_bytes own (signal_byte Ais) past view is.slots.taken (whole_at own available t is, past_whole own available first (t - first) is) in
    omega (arith, most, few)

-- ---- the line

is_tributary : (form : LineForm) (x : Showing) → IsShown form x → IsTributary x.own
is_tributary form x h = record {
  slots = subst (λ n. IsSlotList n x.own.slots) (sym h.line) h.slots;
  even = subst (λ n. n * (3808 / n) ≡ 3808) (sym h.line) (evenly form.kind);
}

slots_few : (form : LineForm) (x : Showing) → IsShown form x → length x.own.slots ≤ 32
slots_few form x h =
    let few = few_slots (size_of form) x.own.slots h.slots in
    let most = few_of_kind form.kind in
    omega (arith, few, most)

list_of : (form : LineForm) (x : Showing) → IsShown form x → IsNumberList 33 32 x.own.slots
list_of form x h = record {
  some = (let some = h.slots.taken in omega (arith, some));
  few = slots_few form x h;
  below = All-from_get_or (λ n. n < 33) x.own.slots 0 (λ i lt. let high = h.slots.high i lt in let most = few_of_kind form.kind in omega (arith, high, most));
}

-- the line of a tributary in a turn is a line of a view
pub tributary_line_in : (form : LineForm) (available : List ℕ) (t : ℕ) (x : Showing) → IsShown form x
    → IsViewLine (tributary_of x.name x.own.port x.own.slots (told_at x.own x.first available t))
tributary_line_in form available t x h = record {
  name = h.name;
  port = (let port = h.port in let most = few_of_kind form.kind in omega (arith, port, most));
  slots = list_of form x h;
  pair = told_pair x.own x.first available t (is_tributary form x h) (slots_few form x h);
  bytes = told_count x.own x.first available t (is_tributary form x h) (slots_few form x h);
}
