-- A sink whose views carry a list of bytes emits these bytes, each turn's two turns later.
use Rattle.std.proofs.Common.{◌≡◌, ℕ, zero, suc, ◌+◌, ◌*◌, ◌/◌, ◌-◌, ◌<◌, ◌≤◌, List, [], ◌∷◌, length, Bool, true, false, cond, Option, Some, None, refl, ap, ◌∙◌, sym, subst, arith}
use Rattle.std.specs.Prelude.{slice_range, nat_lt}
use Rattle.std.proofs.Math.Nat.{div-add-mod}
use Rattle.tributary_model.specs.declared.turns.Hearing.TheVariants.{Pair}
use Rattle.tributary_model.specs.declared.turns.Said.{Said}
use Rattle.tributary_model.specs.declared.turns.SinkState.TheVariants.{Waiting as StateWaiting, Up as StateUp, Down as StateDown}
use Rattle.tributary_model.specs.declared.turns.SinkState.{SinkState}
use Rattle.tributary_model.specs.Places.{Tributary, View, IsWholeTurn, AreWholeTurns}
use Rattle.tributary_model.specs.Messages.{hears_message}
use Rattle.tributary_model.specs.Stretches.{Member, Part, WaitingTurn, DownTurn, StretchTurn, EndingTurn, groups_of, any_marked, goes_on, continues, next_part, course, state_of, state_after}
use Rattle.tributary_model.specs.Emission.{data_bytes, emission}
use Rattle.tributary_model.specs.Machine.{Machine, start, begun, gone_on, waits_on, opened, went_on, heard_in, after, up_gives, gives, machine_after, state_of_standing}
use Rattle.tributary_model.specs.Carries.{sent, cm_in, cnd_in, former_of, CarriesTurn, past_of}
use Rattle.tributary_model.specs.Carriage.{Arrives, IsUpAfter, EmitsTwoLater, EmitsWhatIsCarried, IsUpWhileCarried, EmitsTheRest, HasEqualIndicators, SaysAnew, EmitsAfterDamage, IsUpAfterDamage}
use Rattle.tributary_model.proofs.Law.{course_next, machine_next, machine_is_emission, state_is}
use Rattle.tributary_model.proofs.Ranges.{none_between}
use Rattle.tributary_model.proofs.Totals.{steady_front_reaches, steady_before}
use Rattle.tributary_model.proofs.CarriedMessage.{heard_anew, first_says_anew}
use Rattle.tributary_model.proofs.Unmarked.{unmarked_first, unmarked_next}
use Rattle.tributary_model.proofs.CarriedTurns.{up_at, said_now, anew_after, IsCarried, turns_next, unmarked_on, machine_on, emission_on, rest_less, Kept, IsNear, IsExact, kept_next, emits_next, near_next, exact_after_near, exact_emits}

-- ---- by turns

-- the bytes up to a turn are in the whole groups up to the next
reached_at : (own : Tributary) (bytes p : List ℕ) (views : ℕ → Option View) (a s b u i : ℕ) → Arrives own bytes p views a s b u → s + suc i ≤ u + 1
    → sent p i ≤ length own.slots * (sent p (suc i) / length own.slots)
reached_at own bytes p views a s b u i r high = steady_front_reaches (length own.slots) p (u + 1 - s) i r.slots r.carries.numbers r.steady (omega arith)

reached_before : (own : Tributary) (bytes p : List ℕ) (views : ℕ → Option View) (a s b u i : ℕ) → Arrives own bytes p views a s b u → s + i ≤ u + 1
    → sent p (i - 1) ≤ length own.slots * (sent p i / length own.slots)
reached_before own bytes p views a s b u i r high = steady_before (length own.slots) p (u + 1 - s) i r.slots r.carries.numbers r.steady (omega arith)

-- what is known of turn a + n, the i-th of the sender
carried_turn : (own : Tributary) (bytes p : List ℕ) (views : ℕ → Option View) (a s b u n i : ℕ) → Arrives own bytes p views a s b u → a + n ≡ s + i → b ≤ a + n → a + n ≤ u
    → IsCarried own bytes p views a n i
carried_turn own bytes p views a s b u n i r e low high =
    let m = length own.slots in
    let seen = r.carries.each (a + n) low high in
    let place : a + n - s ≡ i = omega arith in
    let numbers = r.carries.numbers in
    record {
      view = seen.0;
      is = seen.1.0;
      turn = subst (λ x. CarriesTurn own bytes p x seen.0) place seen.1.1;
      whole = subst (IsWholeTurn m) seen.1.0 (r.whole (a + n) (omega arith) high);
      fits = subst (λ x. cm_in m p x ≤ 15232) place (r.carries.fits (a + n) low high);
      within = omega arith;
      reaches = reached_before own bytes p views a s b u i r (omega arith);
    }

fits_at : (own : Tributary) (bytes p : List ℕ) (views : ℕ → Option View) (a s b u i : ℕ) → Arrives own bytes p views a s b u → b ≤ s + i → s + i ≤ u → cm_in (length own.slots) p i ≤ 15232
fits_at own bytes p views a s b u i r low high = subst (λ x. cm_in (length own.slots) p x ≤ 15232) (let e : s + i - s ≡ i = omega arith in e) (r.carries.fits (s + i) low high)

all_whole : (own : Tributary) (bytes p : List ℕ) (views : ℕ → Option View) (a s b u n : ℕ) → Arrives own bytes p views a s b u → a + n ≤ u + 1 → AreWholeTurns (length own.slots) (past_of views a n)
all_whole own bytes p views a s b u zero r h = tt
all_whole own bytes p views a s b u (suc n) r h = (r.whole (a + n) (omega arith) (omega arith), all_whole own bytes p views a s b u n r (omega arith))

-- a turn taken up anew, as turn n of the connection, from 0, and turn i of the sender
record TakenUp (own : Tributary) (bytes p : List ℕ) (views : ℕ → Option View) (a s b u n i : ℕ) : Type 0 where
  arrives : Arrives own bytes p views a s b u
  place : a + n ≡ s + i
  low : b ≤ a + n
  message : (view : View) → views (a + n) ≡ Some view → HasEqualIndicators view.message
  unmarked : any_marked own (past_of views a (suc n)) ≡ false

-- the machine after it is Up with its pair
kept_anew : (own : Tributary) (bytes p : List ℕ) (views : ℕ → Option View) (a s b u n i : ℕ) → TakenUp own bytes p views a s b u n i → a + n ≤ u → Kept own p views a (suc n) i
kept_anew own bytes p views a s b u n i up high =
    let m = length own.slots in
    let r = up.arrives in
    let t : IsCarried own bytes p views a n i = carried_turn own bytes p views a s b u n i r up.place up.low high in
    let before = machine_after own (past_of views a n) in
    let now : machine_after own (past_of views a (suc n)) ≡ after m false (Some t.view) before = machine_on own views a n t.view t.is up.unmarked in
    let heard : (kept : Option ℕ) → hears_message kept m t.view.message ≡ Pair (cm_in m p i) (cnd_in m p i) true =
    λ kept. heard_anew m (former_of m p i) kept (cm_in m p i) (cnd_in m p i) t.view.message t.fits (rest_less m p i r.slots) t.turn.message (up.message t.view t.is) in
    let with_pair = anew_after m t.view (cm_in m p i) (cnd_in m p i) before heard in
    record { said = with_pair.said; pending = with_pair.pending; is = now ∙ with_pair.is; cm = with_pair.cm; cnd = with_pair.cnd }

-- no own slot is marked from it on
unmarked_from : (own : Tributary) (bytes p : List ℕ) (views : ℕ → Option View) (a s b u n0 i0 : ℕ) → TakenUp own bytes p views a s b u n0 i0
    → (k n : ℕ) → n ≡ suc n0 + k → a + n ≤ u + 1 → any_marked own (past_of views a n) ≡ false
unmarked_from own bytes p views a s b u n0 i0 up zero n e high = subst (λ n. any_marked own (past_of views a n) ≡ false) (let f : suc n0 ≡ n = omega arith in f) up.unmarked
unmarked_from own bytes p views a s b u n0 i0 up (suc k) zero e high = absurd (omega arith)
unmarked_from own bytes p views a s b u n0 i0 up (suc k) (suc n) e high =
    let place = up.place in
    let low = up.low in
    let order = up.arrives.carries.order in
    let t : IsCarried own bytes p views a n (a + n - s) = carried_turn own bytes p views a s b u n (a + n - s) up.arrives (omega arith) (omega arith) (omega arith) in
    unmarked_on own bytes p views a n (a + n - s) t (unmarked_from own bytes p views a s b u n0 i0 up k n (omega arith) (omega arith))

-- a turn more, whose machine keeps the remainder of the turn before too
near_from : (own : Tributary) (bytes p : List ℕ) (views : ℕ → Option View) (a s b u n0 i0 : ℕ) → TakenUp own bytes p views a s b u n0 i0
    → (k n i : ℕ) → n ≡ suc n0 + k → a + n ≡ s + i + 1 → a + n ≤ u → Kept own p views a n i → IsNear own p views a (suc n) i
near_from own bytes p views a s b u n0 i0 up k n i e f high kept =
    let place = up.place in
    let low = up.low in
    let r = up.arrives in
    let t : IsCarried own bytes p views a n (suc i) = carried_turn own bytes p views a s b u n (suc i) r (omega arith) (omega arith) high in
    near_next own bytes p views a n i r.slots t (fits_at own bytes p views a s b u i r (omega arith) (omega arith)) (unmarked_from own bytes p views a s b u n0 i0 up (suc k) (suc n) (omega arith) (omega arith)) kept

-- it stays Up, with each turn's pair
kept_from : (own : Tributary) (bytes p : List ℕ) (views : ℕ → Option View) (a s b u n0 i0 : ℕ) → TakenUp own bytes p views a s b u n0 i0
    → (k n i : ℕ) → n ≡ suc n0 + k → a + n ≡ s + i + 1 → a + n ≤ u + 1 → Kept own p views a n i
kept_from own bytes p views a s b u n0 i0 up zero n i e f high =
    let place = up.place in
    let order = up.arrives.carries.order in
    let last : suc n0 ≡ n = omega arith in
    let same : i0 ≡ i = omega arith in
    subst (λ n. Kept own p views a n i) last (subst (λ i. Kept own p views a (suc n0) i) same (kept_anew own bytes p views a s b u n0 i0 up (omega arith)))
kept_from own bytes p views a s b u n0 i0 up (suc k) zero i e f high = absurd (omega arith)
kept_from own bytes p views a s b u n0 i0 up (suc k) (suc n) zero e f high = absurd (let place = up.place in omega arith)
kept_from own bytes p views a s b u n0 i0 up (suc k) (suc n) (suc i) e f high =
    let near = near_from own bytes p views a s b u n0 i0 up k n i (omega arith) (omega arith) (omega arith) (kept_from own bytes p views a s b u n0 i0 up k n i (omega arith) (omega arith) (omega arith)) in
    let m = length own.slots in
    record {
      said = said_now (cm_in m p (suc i)) (cnd_in m p (suc i)) (Some (cnd_in m p i));
      pending = near.pending;
      is = near.machine;
      cm = refl;
      cnd = refl;
    }

-- from the third turn on it is exact
exact_from : (own : Tributary) (bytes p : List ℕ) (views : ℕ → Option View) (a s b u n0 i0 : ℕ) → TakenUp own bytes p views a s b u n0 i0
    → (k n i : ℕ) → n ≡ suc n0 + k → a + n ≡ s + i + 1 → a + n + 1 ≤ u → IsExact own bytes p views a (suc (suc n)) (suc i)
exact_from own bytes p views a s b u n0 i0 up k n i e f high =
    let place = up.place in
    let low = up.low in
    let r = up.arrives in
    let kept = kept_from own bytes p views a s b u n0 i0 up k n i e f (omega arith) in
    let near = near_from own bytes p views a s b u n0 i0 up k n i e f (omega arith) kept in
    let t : IsCarried own bytes p views a (suc n) (suc (suc i)) = carried_turn own bytes p views a s b u (suc n) (suc (suc i)) r (omega arith) (omega arith) (omega arith) in
    exact_after_near own bytes p views a (suc n) i r.slots t (fits_at own bytes p views a s b u (suc i) r (omega arith) (omega arith))
    (unmarked_from own bytes p views a s b u n0 i0 up (suc (suc k)) (suc (suc n)) (omega arith) (omega arith)) near

-- and so the turn after it emits what is carried
emits_from : (own : Tributary) (ais : ℕ → ℕ) (bytes p : List ℕ) (views : ℕ → Option View) (a s b u n0 i0 : ℕ) → TakenUp own bytes p views a s b u n0 i0
    → (k n i : ℕ) → n ≡ suc n0 + k → a + n ≡ s + i + 1 → a + n + 2 ≤ u
    → emission own ais (past_of views a (suc (suc n))) (views (a + suc (suc n))) ≡ slice_range bytes (sent p (suc i)) (sent p (suc (suc i)))
emits_from own ais bytes p views a s b u n0 i0 up k n i e f high =
    let place = up.place in
    let low = up.low in
    let r = up.arrives in
    let exact = exact_from own bytes p views a s b u n0 i0 up k n i e f (omega arith) in
    let t : IsCarried own bytes p views a (suc (suc n)) (suc (suc (suc i))) = carried_turn own bytes p views a s b u (suc (suc n)) (suc (suc (suc i))) r (omega arith) (omega arith) (omega arith) in
    exact_emits own ais bytes p views a (suc (suc n)) (suc i) r.slots (all_whole own bytes p views a s b u (suc (suc (suc n))) r (omega arith)) t
    (fits_at own bytes p views a s b u (suc (suc i)) r (omega arith) (omega arith))
    (unmarked_from own bytes p views a s b u n0 i0 up (suc (suc (suc k))) (suc (suc (suc n))) (omega arith) (omega arith))
    (reached_at own bytes p views a s b u (suc i) r (omega arith)) exact

-- a machine that is Up is a sink that is Up
up_state : (own : Tributary) (p : List ℕ) (views : ℕ → Option View) (a n i : ℕ) → 0 < length own.slots → AreWholeTurns (length own.slots) (past_of views a n) → Kept own p views a n i
    → state_after own (past_of views a n) ≡ StateUp
up_state own p views a n i h whole kept =
    sym (state_is own (past_of views a n) h whole) ∙ ap (λ (s : Machine). state_of_standing s.standing) kept.is

-- ---- the laws

-- the emission of a turn by its place in the connection
emits_at : (own : Tributary) (ais : ℕ → ℕ) (bytes p : List ℕ) (views : ℕ → Option View) (a s t n i j : ℕ) → t - a ≡ n → a + n ≡ t → t - s - 2 ≡ i → t - s - 1 ≡ j
    → emission own ais (past_of views a n) (views (a + n)) ≡ slice_range bytes (sent p i) (sent p j) → EmitsTwoLater own ais bytes p views a s t
emits_at own ais bytes p views a s t n i j e f g k h =
    ap (λ n. emission own ais (past_of views a n) (views t)) e
    ∙ ap (λ t. emission own ais (past_of views a n) (views t)) (sym f)
    ∙ h
    ∙ ap (λ i. slice_range bytes (sent p i) (sent p j)) (sym g)
    ∙ ap (λ j. slice_range bytes (sent p (t - s - 2)) (sent p j)) (sym k)

-- turn h as a turn of the connection
taken_up : (own : Tributary) (bytes p : List ℕ) (views : ℕ → Option View) (a s b u h : ℕ) → Arrives own bytes p views a s b u → b ≤ h → SaysAnew own views a h
    → TakenUp own bytes p views a s b u (h - a) (h - s)
taken_up own bytes p views a s b u h r low anew =
    let first = r.order in
    let order = r.carries.order in
    let place : h ≡ a + (h - a) = omega arith in
    record {
      arrives = r;
      place = omega arith;
      low = omega arith;
      message = subst (λ t. (view : View) → views t ≡ Some view → HasEqualIndicators view.message) place anew.message;
      unmarked = subst (λ n. any_marked own (past_of views a n) ≡ false) (let e : h + 1 - a ≡ suc (h - a) = omega arith in e) anew.unmarked;
    }

-- The sink is Up from turn h on.
healed_up : (own : Tributary) (bytes p : List ℕ) (views : ℕ → Option View) (a s b u h t : ℕ) → Arrives own bytes p views a s b u → b ≤ h → SaysAnew own views a h
    → h ≤ t → t ≤ u → IsUpAfter own views a t
healed_up own bytes p views a s b u h t r low anew from high =
    let first = r.order in
    let order = r.carries.order in
    let up = taken_up own bytes p views a s b u h r low anew in
    let n = t + 1 - a in
    up_state own p views a n (t - s) r.slots (all_whole own bytes p views a s b u n r (omega arith))
    (kept_from own bytes p views a s b u (h - a) (h - s) up (t - h) n (t - s) (omega arith) (omega arith) (omega arith))

-- From the third turn after it on it emits what is carried.
healed_emits : (own : Tributary) (ais : ℕ → ℕ) (bytes p : List ℕ) (views : ℕ → Option View) (a s b u h t : ℕ) → Arrives own bytes p views a s b u → b ≤ h → SaysAnew own views a h
    → h + 3 ≤ t → t ≤ u → EmitsTwoLater own ais bytes p views a s t
healed_emits own ais bytes p views a s b u h t r low anew from high =
    let first = r.order in
    let order = r.carries.order in
    let up = taken_up own bytes p views a s b u h r low anew in
    let n = t - a - 2 in
    let i = t - s - 3 in
    emits_at own ais bytes p views a s t (suc (suc n)) (suc i) (suc (suc i)) (omega arith) (omega arith) (omega arith) (omega arith)
    (emits_from own ais bytes p views a s b u (h - a) (h - s) up (t - h - 3) n i (omega arith) (omega arith) (omega arith))

pub emits_after_damage : EmitsAfterDamage
emits_after_damage own ais bytes p views a s b u h r low anew t from high = healed_emits own ais bytes p views a s b u h t r low anew from high

pub up_after_damage : IsUpAfterDamage
up_after_damage own bytes p views a s b u h r low anew t from high = healed_up own bytes p views a s b u h t r low anew from high

-- ---- from the first turn on

start_is : (own : Tributary) → machine_after own [] ≡ start
unfolding machine_after
start_is own = refl

some_view : (x y : View) → Some x ≡ Some y → x ≡ y
some_view x y e = ap pick e
  where
    pick : Option View → View
    pick (Some z) = z
    pick None = x

-- the first turn says its pair anew
first_anew : (own : Tributary) (bytes p : List ℕ) (views : ℕ → Option View) (s u : ℕ) → Arrives own bytes p views s s s u → s ≤ u → SaysAnew own views s s
first_anew own bytes p views s u r high =
    let seen = r.carries.each s (omega arith) high in
    let m = length own.slots in
    let here : s + 0 ≡ s = omega arith in
    let zeroth : s - s ≡ 0 = omega arith in
    let turn : CarriesTurn own bytes p 0 seen.0 = subst (λ x. CarriesTurn own bytes p x seen.0) zeroth seen.1.1 in
    let is : views (s + 0) ≡ Some seen.0 = ap views here ∙ seen.1.0 in
    let unmarked : any_marked own (past_of views s 1) ≡ false = turns_next own views s 0 seen.0 is ∙ unmarked_next own [] seen.0 (unmarked_first own) turn.msi in
    record {
      message = λ view e.
          subst (λ (v : View). HasEqualIndicators v.message) (some_view seen.0 view (sym seen.1.0 ∙ e)) (first_says_anew (cm_in m p 0) (cnd_in m p 0) seen.0.message turn.message);
      unmarked = subst (λ n. any_marked own (past_of views s n) ≡ false) (let e : 1 ≡ s + 1 - s = omega arith in e) unmarked;
    }

-- the machine after it, and what it gives
first_after : (m : ℕ) (view : View) (c d : ℕ) → hears_message None m view.message ≡ Pair c d true → after m false (Some view) start ≡ up_at (said_now c d None) []
first_after m view c d e = ap (λ h. opened (begun (Some h)) (waits_on 0)) e

-- what is known of the first turns
record Begins (own : Tributary) (bytes p : List ℕ) (views : ℕ → Option View) (s u : ℕ) : Type 0 where
  arrives : Arrives own bytes p views s s s u
  up : TakenUp own bytes p views s s s u 0 0

begins_here : (own : Tributary) (bytes p : List ℕ) (views : ℕ → Option View) (s u : ℕ) → Arrives own bytes p views s s s u → s ≤ u → Begins own bytes p views s u
begins_here own bytes p views s u r high =
    let zeroth : s - s ≡ 0 = omega arith in
    record { arrives = r; up = subst (λ n. TakenUp own bytes p views s s s u n n) zeroth (taken_up own bytes p views s s s u s r (omega arith) (first_anew own bytes p views s u r high)) }

first_machine : (own : Tributary) (bytes p : List ℕ) (views : ℕ → Option View) (s u : ℕ) → Begins own bytes p views s u → s ≤ u
    → machine_after own (past_of views s 1) ≡ up_at (said_now (cm_in (length own.slots) p 0) (cnd_in (length own.slots) p 0) None) []
first_machine own bytes p views s u b high =
    let m = length own.slots in
    let r = b.arrives in
    let t : IsCarried own bytes p views s 0 0 = carried_turn own bytes p views s s s u 0 0 r refl (omega arith) (omega arith) in
    machine_on own views s 0 t.view t.is b.up.unmarked
    ∙ ap (after m false (Some t.view)) (start_is own)
    ∙ first_after m t.view (cm_in m p 0) (cnd_in m p 0) (heard_anew m None None (cm_in m p 0) (cnd_in m p 0) t.view.message t.fits (rest_less m p 0 r.slots) t.turn.message (b.up.message t.view t.is))

first_emits : (own : Tributary) (ais : ℕ → ℕ) (bytes p : List ℕ) (views : ℕ → Option View) (s u : ℕ) → Begins own bytes p views s u → s ≤ u
    → emission own ais (past_of views s 0) (views (s + 0)) ≡ slice_range bytes (sent p 0) (sent p 0)
first_emits own ais bytes p views s u b high =
    let m = length own.slots in
    let r = b.arrives in
    let t : IsCarried own bytes p views s 0 0 = carried_turn own bytes p views s s s u 0 0 r refl (omega arith) (omega arith) in
    emission_on own ais views s 0 t.view r.slots (all_whole own bytes p views s s s u 1 r (omega arith)) t.is b.up.unmarked
    ∙ ap (gives m ais false (Some t.view)) (start_is own)
    ∙ sym (none_between bytes (sent p 0))

second_emits : (own : Tributary) (ais : ℕ → ℕ) (bytes p : List ℕ) (views : ℕ → Option View) (s u : ℕ) → Begins own bytes p views s u → s + 1 ≤ u
    → emission own ais (past_of views s 1) (views (s + 1)) ≡ slice_range bytes (sent p 0) (sent p 0)
second_emits own ais bytes p views s u b high =
    let m = length own.slots in
    let r = b.arrives in
    let t : IsCarried own bytes p views s 1 1 = carried_turn own bytes p views s s s u 1 1 r refl (omega arith) (omega arith) in
    emits_next own ais bytes p views s 1 0 None [] r.slots (all_whole own bytes p views s s s u 2 r (omega arith)) t (fits_at own bytes p views s s s u 0 r (omega arith) (omega arith))
    (unmarked_from own bytes p views s s s u 0 0 b.up 1 2 refl (omega arith)) (first_machine own bytes p views s u b (omega arith))
    ∙ sym (none_between bytes (sent p 0))

second_exact : (own : Tributary) (bytes p : List ℕ) (views : ℕ → Option View) (s u : ℕ) → Begins own bytes p views s u → s + 1 ≤ u → IsExact own bytes p views s 2 0
second_exact own bytes p views s u b high =
    let m = length own.slots in
    let r = b.arrives in
    let t : IsCarried own bytes p views s 1 1 = carried_turn own bytes p views s s s u 1 1 r refl (omega arith) (omega arith) in
    let none : m * (0 / m) ≡ 0 = (let e = div-add-mod 0 m in omega arith) in
    kept_next own bytes p views s 1 0 None [] r.slots t (fits_at own bytes p views s s s u 0 r (omega arith) (omega arith))
    (unmarked_from own bytes p views s s s u 0 0 b.up 1 2 refl (omega arith)) (first_machine own bytes p views s u b (omega arith))
    ∙ ap (λ x. up_at (said_now (cm_in m p 1) (cnd_in m p 1) (Some (cnd_in m p 0))) (slice_range bytes x (m * (sent p 1 / m)))) none

third_emits : (own : Tributary) (ais : ℕ → ℕ) (bytes p : List ℕ) (views : ℕ → Option View) (s u : ℕ) → Begins own bytes p views s u → s + 2 ≤ u
    → emission own ais (past_of views s 2) (views (s + 2)) ≡ slice_range bytes (sent p 0) (sent p 1)
third_emits own ais bytes p views s u b high =
    let r = b.arrives in
    let t : IsCarried own bytes p views s 2 2 = carried_turn own bytes p views s s s u 2 2 r refl (omega arith) (omega arith) in
    exact_emits own ais bytes p views s 2 0 r.slots (all_whole own bytes p views s s s u 3 r (omega arith)) t (fits_at own bytes p views s s s u 1 r (omega arith) (omega arith))
    (unmarked_from own bytes p views s s s u 0 0 b.up 2 3 refl (omega arith)) (reached_at own bytes p views s s s u 0 r (omega arith)) (second_exact own bytes p views s u b (omega arith))

carried_emits : (own : Tributary) (ais : ℕ → ℕ) (bytes p : List ℕ) (views : ℕ → Option View) (s u t k : ℕ) → Arrives own bytes p views s s s u → s + k ≡ t → t ≤ u → EmitsTwoLater own ais bytes p views s s t
carried_emits own ais bytes p views s u t zero r e high =
    emits_at own ais bytes p views s s t 0 0 0 (omega arith) (omega arith) (omega arith) (omega arith) (first_emits own ais bytes p views s u (begins_here own bytes p views s u r (omega arith)) (omega arith))
carried_emits own ais bytes p views s u t (suc zero) r e high =
    emits_at own ais bytes p views s s t 1 0 0 (omega arith) (omega arith) (omega arith) (omega arith) (second_emits own ais bytes p views s u (begins_here own bytes p views s u r (omega arith)) (omega arith))
carried_emits own ais bytes p views s u t (suc (suc zero)) r e high =
    emits_at own ais bytes p views s s t 2 0 1 (omega arith) (omega arith) (omega arith) (omega arith) (third_emits own ais bytes p views s u (begins_here own bytes p views s u r (omega arith)) (omega arith))
carried_emits own ais bytes p views s u t (suc (suc (suc k))) r e high =
    healed_emits own ais bytes p views s s s u s t r (omega arith) (first_anew own bytes p views s u r (omega arith)) (omega arith) high

pub emits_what_is_carried : EmitsWhatIsCarried
emits_what_is_carried own ais bytes p views s u r t low high = carried_emits own ais bytes p views s u t (t - s) r (omega arith) high

pub up_while_carried : IsUpWhileCarried
up_while_carried own bytes p views s u r t low high = healed_up own bytes p views s s s u s t r (omega arith) (first_anew own bytes p views s u r (omega arith)) low high

-- ---- the turn after which it is Down

-- a machine that is Up, and Down after the turn, gives what is pending
ends_pending : (m : ℕ) (ais : ℕ → ℕ) (marked : Bool) (view : Option View) (said : Said) (pending : List ℕ) → state_of_standing (after m marked view (up_at said pending)).standing ≡ StateDown
    → gives m ais marked view (up_at said pending) ≡ pending
ends_pending m ais marked view said pending e = go (gone_on (heard_in (Some said.cm) m marked view) said) e
  where
    fresh : List ℕ
    fresh = data_bytes said.cm (groups_of view)

    go : (o : Option Said) → state_of_standing (went_on o said pending fresh).standing ≡ StateDown → up_gives o said pending fresh ≡ pending
    go (Some next) f = absurd (let bad : ⊥ = cc in bad)
    go None f = refl

ends_here : (own : Tributary) (ais : ℕ → ℕ) (past : List (Option View)) (view : Option View) (said : Said) (pending : List ℕ) → 0 < length own.slots → AreWholeTurns (length own.slots) (view ∷ past)
    → machine_after own past ≡ up_at said pending → state_after own (view ∷ past) ≡ StateDown → emission own ais past view ≡ pending
ends_here own ais past view said pending h whole is down =
    let m = length own.slots in
    let marked = any_marked own (view ∷ past) in
    let stands : state_of_standing (after m marked view (up_at said pending)).standing ≡ StateDown =
    ap (λ s. state_of_standing (after m marked view s).standing) (sym is) ∙ ap (λ (s : Machine). state_of_standing s.standing) (sym (machine_next own past view)) ∙ state_is own (view ∷ past) h whole ∙ down in
    sym (machine_is_emission own ais past view h whole) ∙ ap (gives m ais marked view) is ∙ ends_pending m ais marked view said pending stands

-- after any turns from the first on
rest_after : (own : Tributary) (ais : ℕ → ℕ) (bytes p : List ℕ) (views : ℕ → Option View) (s u i : ℕ) (view : Option View) → Arrives own bytes p views s s s u → s + i ≡ u
    → IsWholeTurn (length own.slots) view → state_after own (view ∷ past_of views s (suc i)) ≡ StateDown
    → emission own ais (past_of views s (suc i)) view ≡ slice_range bytes (sent p (i - 1)) (length own.slots * (sent p i / length own.slots))
rest_after own ais bytes p views s u zero view r e whole down =
    let m = length own.slots in
    let b = begins_here own bytes p views s u r (omega arith) in
    let none : m * (0 / m) ≡ 0 = (let e = div-add-mod 0 m in omega arith) in
    ends_here own ais (past_of views s 1) view (said_now (cm_in m p 0) (cnd_in m p 0) None) [] r.slots (whole, all_whole own bytes p views s s s u 1 r (omega arith))
    (first_machine own bytes p views s u b (omega arith)) down
    ∙ sym (none_between bytes 0)
    ∙ ap (slice_range bytes 0) (sym none)
rest_after own ais bytes p views s u (suc zero) view r e whole down =
    let m = length own.slots in
    let b = begins_here own bytes p views s u r (omega arith) in
    ends_here own ais (past_of views s 2) view _ _ r.slots (whole, all_whole own bytes p views s s s u 2 r (omega arith)) (second_exact own bytes p views s u b (omega arith)) down
rest_after own ais bytes p views s u (suc (suc i)) view r e whole down =
    let b = begins_here own bytes p views s u r (omega arith) in
    let before : suc (suc i) - 1 ≡ suc i = omega arith in
    ends_here own ais (past_of views s (suc (suc (suc i)))) view _ _ r.slots (whole, all_whole own bytes p views s s s u (suc (suc (suc i))) r (omega arith))
    (exact_from own bytes p views s s s u 0 0 b.up i (suc i) i (omega arith) (omega arith) (omega arith)) down
    ∙ ap (λ x. slice_range bytes (sent p x) (length own.slots * (sent p (suc (suc i)) / length own.slots))) (sym before)

pub emits_the_rest : EmitsTheRest
emits_the_rest own ais bytes p views s u view r low whole down =
    let i = u - s in
    let n : u + 1 - s ≡ suc i = omega arith in
    ap (λ n. emission own ais (past_of views s n) view) n
    ∙ rest_after own ais bytes p views s u i view r (omega arith) whole (subst (λ n. state_after own (view ∷ past_of views s n) ≡ StateDown) n down)

-- a sink that is Up is Down after a turn without a multiframe
pub down_without : (own : Tributary) (past : List (Option View)) → state_after own past ≡ StateUp → state_after own (None ∷ past) ≡ StateDown
down_without own past up = ap state_of (course_next own past None) ∙ go (any_marked own (None ∷ past)) (course own past) up
  where
    waits : (t : Bool) → cond {A = SinkState} t StateWaiting StateDown ≡ StateUp → ⊥
    waits true e = cc
    waits false e = cc

    stops : (marked : Bool) (stretch : List Member) → goes_on own marked None stretch ≡ None
    stops true stretch = refl
    stops false stretch = refl

    go : (marked : Bool) (parts : List Part) → state_of parts ≡ StateUp → state_of (next_part own marked None parts ∷ parts) ≡ StateDown
    go marked [] e = absurd (let bad : ⊥ = cc in bad)
    go marked (WaitingTurn ∷ parts) e = absurd (waits (nat_lt (length parts) 2) e)
    go marked (DownTurn ∷ parts) e = absurd (let bad : ⊥ = cc in bad)
    go marked (EndingTurn stretch ∷ parts) e = absurd (let bad : ⊥ = cc in bad)
    go marked (StretchTurn stretch ∷ parts) e = ap (λ o. state_of (continues stretch o ∷ StretchTurn stretch ∷ parts)) (stops marked stretch)
