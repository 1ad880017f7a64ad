-- What a sink emits of bytes that are carried in numbers which are not steady.
use Rattle.std.proofs.Common.{◌≡◌, ◌<◌, ◌≤◌, ◌⊎◌, inl, inr, ◌+◌, ◌-◌, ◌*◌, ◌/◌, ◌%◌, ℕ, zero, suc, min, List, [], ◌++◌, Bool, true, false, Option, Some, None, length, take, drop, get_or, refl, sym, ap, ◌∙◌, subst, arith}
use Rattle.std.specs.Prelude.{slice_range}
use Rattle.std.specs.Option.{ForSome}
use Rattle.std.proofs.lemmas.Bool.{cases_lt}
use Rattle.std.proofs.lemmas.List.{take_all, drop_all, length-take}
use Rattle.std.proofs.Math.Nat.{div-add-mod, mod-lt}
use Rattle.tributary_model.specs.declared.turns.Hearing.TheVariants.{Pair}
use Rattle.tributary_model.specs.declared.turns.Said.{Said}
use Rattle.tributary_model.specs.declared.turns.SinkState.TheVariants.{Up as StateUp}
use Rattle.tributary_model.specs.Carriage.{IsUpAfter}
use Rattle.tributary_model.specs.Carries.{sent, cm_in, cnd_in, CarriesTurn, past_of}
use Rattle.tributary_model.specs.Damage.{emissions}
use Rattle.tributary_model.specs.Emission.{data_bytes, emission}
use Rattle.tributary_model.specs.Machine.{Machine, start, begun, next_said, waits_on, opened, went_on, given_of, kept_of, up_gives, after, gives, machine_after, state_of_standing}
use Rattle.tributary_model.specs.Messages.{hears_message}
use Rattle.tributary_model.specs.Passing.{joined_back}
use Rattle.tributary_model.specs.Places.{Tributary, View, IsWhole, IsWholeTurn, AreWholeTurns}
use Rattle.tributary_model.specs.Stretches.{any_marked, state_after}
use Rattle.tributary_model.proofs.CarriedGroups.{carried_data}
use Rattle.tributary_model.proofs.CarriedMessage.{heard_back, heard_anew, first_says_anew}
use Rattle.tributary_model.proofs.CarriedTurns.{up_at, said_now, turns_next, machine_on, emission_on, rest_less}
use Rattle.tributary_model.proofs.Law.{state_is}
use Rattle.tributary_model.proofs.Ranges.{none_between, joined, front_of, back_of, from_start}
use Rattle.tributary_model.proofs.Totals.{sent_next, sent_up, groups_next, div_up}
use Rattle.tributary_model.proofs.Unmarked.{unmarked_first, unmarked_next}
use Rattle.connection_laws.specs.HeldBack.{Comes, IsNearlyAll}

-- how many bytes are emitted after n turns
abbrev pub front_after : (m : ℕ) → (p : List ℕ) → (n : ℕ) → ℕ
front_after m p n = min (sent p (n - 2)) (m * (sent p (n - 1) / m))

-- ---- ranges

-- a front of a range that may be longer than it, and what is behind that
front_within : (xs : List ℕ) (a b d : ℕ) → a ≤ b → take d (slice_range xs a b) ≡ slice_range xs a (min (a + d) b)
front_within xs a b d h = go (cases_lt b (a + d))
  where
    go : (b < a + d) ⊎ (a + d ≤ b) → take d (slice_range xs a b) ≡ slice_range xs a (min (a + d) b)
    go (inl past) =
        let long = length-take (b - a) (drop a xs) in
        take_all d (slice_range xs a b) (omega arith) ∙ ap (slice_range xs a) (let e : b ≡ min (a + d) b = omega arith in e)
    go (inr low) = front_of xs a b d low ∙ ap (slice_range xs a) (let e : a + d ≡ min (a + d) b = omega arith in e)

back_within : (xs : List ℕ) (a b d : ℕ) → a ≤ b → drop d (slice_range xs a b) ≡ slice_range xs (min (a + d) b) b
back_within xs a b d h = go (cases_lt b (a + d))
  where
    go : (b < a + d) ⊎ (a + d ≤ b) → drop d (slice_range xs a b) ≡ slice_range xs (min (a + d) b) b
    go (inl past) =
        let long = length-take (b - a) (drop a xs) in
        let end : b ≡ min (a + d) b = omega arith in
        drop_all d (slice_range xs a b) (omega arith) ∙ sym (none_between xs b) ∙ ap (λ k. slice_range xs k b) end
    go (inr low) = back_of xs a b d low ∙ ap (λ k. slice_range xs k b) (let e : a + d ≡ min (a + d) b = omega arith in e)

-- ---- a turn

-- the bytes of the whole groups of the first n turns
abbrev whole_of : (m : ℕ) → (p : List ℕ) → (n : ℕ) → ℕ
whole_of m p n = m * (sent p n / m)

-- those of the turn after n that have left by then, of the bytes of these turns
abbrev left_of : (m : ℕ) → (p : List ℕ) → (n : ℕ) → ℕ
left_of m p n = min (sent p n) (whole_of m p (suc n))

-- what is known of turn s + i
record Turn (own : Tributary) (bytes p : List ℕ) (views : ℕ → Option View) (s i : ℕ) : Type 0 where
  view : View
  is : views (s + i) ≡ Some view
  turn : CarriesTurn own bytes p i view
  whole : IsWhole (length own.slots) view
  fits : cm_in (length own.slots) p i ≤ 15232
  within : i < length p

turn_at : (own : Tributary) (bytes p : List ℕ) (views : ℕ → Option View) (s u i : ℕ) → Comes own bytes p views s u → s + i ≤ u → Turn own bytes p views s i
turn_at own bytes p views s u i c high =
    let m = length own.slots in
    let seen = c.carries.each (s + i) (omega arith) high in
    let place : s + i - s ≡ i = omega arith in
    let numbers = c.carries.numbers in
    record {
      view = seen.0;
      is = seen.1.0;
      turn = subst (λ x. CarriesTurn own bytes p x seen.0) place seen.1.1;
      whole = subst (IsWholeTurn m) seen.1.0 (c.whole (s + i) (omega arith) high);
      fits = subst (λ x. cm_in m p x ≤ 15232) place (c.carries.fits (s + i) (omega arith) high);
      within = omega arith;
    }

whole_turns : (own : Tributary) (bytes p : List ℕ) (views : ℕ → Option View) (s u n : ℕ) → Comes own bytes p views s u → s + n ≤ u + 1 → AreWholeTurns (length own.slots) (past_of views s n)
whole_turns own bytes p views s u zero c h = tt
whole_turns own bytes p views s u (suc n) c h = (c.whole (s + n) (omega arith) (omega arith), whole_turns own bytes p views s u n c (omega arith))

never_marked : (own : Tributary) (bytes p : List ℕ) (views : ℕ → Option View) (s u n : ℕ) → Comes own bytes p views s u → s + n ≤ u + 1 → any_marked own (past_of views s n) ≡ false
never_marked own bytes p views s u zero c h = unmarked_first own
never_marked own bytes p views s u (suc n) c h =
    let t = turn_at own bytes p views s u n c (omega arith) in
    turns_next own views s n t.view t.is ∙ unmarked_next own (past_of views s n) t.view (never_marked own bytes p views s u n c (omega arith)) t.turn.msi

-- what is heard in it, after the number of the turn before
some_low : (c : ℕ) → c ≤ 15232 → ForSome (Some c) (λ n. n ≤ 15232)
some_low c h x e = subst (λ n. n ≤ 15232) (ap value e) h
  where
    value : Option ℕ → ℕ
    value (Some n) = n
    value None = 0

heard : (own : Tributary) (bytes p : List ℕ) (views : ℕ → Option View) (s i : ℕ) → 0 < length own.slots → (t : Turn own bytes p views s (suc i)) → cm_in (length own.slots) p i ≤ 15232
    → (equal : Bool) × (hears_message (Some (cm_in (length own.slots) p i)) (length own.slots) t.view.message ≡ Pair (cm_in (length own.slots) p (suc i)) (cnd_in (length own.slots) p (suc i)) equal)
heard own bytes p views s i h t low =
    let m = length own.slots in
    (_, heard_back m (Some (cm_in m p i)) (cm_in m p (suc i)) (cnd_in m p (suc i)) t.view.message (some_low (cm_in m p i) low) t.fits (rest_less m p (suc i) h) t.turn.message)

-- what it extracts
fresh : (own : Tributary) (bytes p : List ℕ) (views : ℕ → Option View) (s i : ℕ) → 0 < length own.slots → (t : Turn own bytes p views s (suc i)) → cm_in (length own.slots) p i ≤ 15232
    → data_bytes (cm_in (length own.slots) p i) t.view.groups ≡ slice_range bytes (whole_of (length own.slots) p i) (whole_of (length own.slots) p (suc i))
fresh own bytes p views s i h t low =
    let m = length own.slots in
    let c = cm_in m p i in
    let before : suc i - 1 ≡ i = omega arith in
    let within = t.within in
    carried_data m c (sent p i / m) bytes t.view.groups low t.whole.many (λ j l r d. t.turn.groups j l r d ∙ ap (λ x. Some (take m (drop (m * (sent p x / m + j * c / 15232 - 1)) bytes))) before)
    ∙ ap (λ x. slice_range bytes (m * (sent p i / m)) (m * x)) (groups_next m p i h (omega arith) ∙ ap (λ x. sent p x / m) (let e : i + 1 ≡ suc i = omega arith in e))

-- ---- the machine

up_after : (m : ℕ) (said : Said) (pending : List ℕ) (view : View) (c d : ℕ) (equal : Bool) → hears_message (Some said.cm) m view.message ≡ Pair c d equal
    → after m false (Some view) (up_at said pending) ≡ up_at (said_now c d (Some said.cnd)) (kept_of said.due pending (data_bytes said.cm view.groups))
up_after m said pending view c d equal e = ap (λ h. went_on (next_said said h) said pending (data_bytes said.cm view.groups)) e

up_emits : (m : ℕ) (ais : ℕ → ℕ) (said : Said) (pending : List ℕ) (view : View) (c d : ℕ) (equal : Bool) → hears_message (Some said.cm) m view.message ≡ Pair c d equal
    → gives m ais false (Some view) (up_at said pending) ≡ given_of said.due pending (data_bytes said.cm view.groups)
up_emits m ais said pending view c d equal e = ap (λ h. up_gives (next_said said h) said pending (data_bytes said.cm view.groups)) e

kept : (own : Tributary) (bytes p : List ℕ) (views : ℕ → Option View) (s u i : ℕ) (former : Option ℕ) (pending : List ℕ) → Comes own bytes p views s u → s + suc i ≤ u
    → machine_after own (past_of views s (suc i)) ≡ up_at (said_now (cm_in (length own.slots) p i) (cnd_in (length own.slots) p i) former) pending
    → machine_after own (past_of views s (suc (suc i)))
    ≡ up_at (said_now (cm_in (length own.slots) p (suc i)) (cnd_in (length own.slots) p (suc i)) (Some (cnd_in (length own.slots) p i)))
    (kept_of former pending (slice_range bytes (whole_of (length own.slots) p i) (whole_of (length own.slots) p (suc i))))
kept own bytes p views s u i former pending c high e =
    let m = length own.slots in
    let t = turn_at own bytes p views s u (suc i) c high in
    let low = (turn_at own bytes p views s u i c (omega arith)).fits in
    let said = said_now (cm_in m p i) (cnd_in m p i) former in
    machine_on own views s (suc i) t.view t.is (never_marked own bytes p views s u (suc (suc i)) c (omega arith))
    ∙ ap (after m false (Some t.view)) e
    ∙ up_after m said pending t.view (cm_in m p (suc i)) (cnd_in m p (suc i)) (heard own bytes p views s i c.slots t low).0 (heard own bytes p views s i c.slots t low).1
    ∙ ap (λ xs. up_at (said_now (cm_in m p (suc i)) (cnd_in m p (suc i)) (Some (cnd_in m p i))) (kept_of former pending xs)) (fresh own bytes p views s i c.slots t low)

available : (own : Tributary) (ais : ℕ → ℕ) (bytes p : List ℕ) (views : ℕ → Option View) (s u i : ℕ) (former : Option ℕ) (pending : List ℕ) → Comes own bytes p views s u → s + suc i ≤ u
    → machine_after own (past_of views s (suc i)) ≡ up_at (said_now (cm_in (length own.slots) p i) (cnd_in (length own.slots) p i) former) pending
    → emission own ais (past_of views s (suc i)) (views (s + suc i)) ≡ given_of former pending (slice_range bytes (whole_of (length own.slots) p i) (whole_of (length own.slots) p (suc i)))
available own ais bytes p views s u i former pending c high e =
    let m = length own.slots in
    let t = turn_at own bytes p views s u (suc i) c high in
    let low = (turn_at own bytes p views s u i c (omega arith)).fits in
    let said = said_now (cm_in m p i) (cnd_in m p i) former in
    emission_on own ais views s (suc i) t.view c.slots (whole_turns own bytes p views s u (suc (suc i)) c (omega arith)) t.is (never_marked own bytes p views s u (suc (suc i)) c (omega arith))
    ∙ ap (gives m ais false (Some t.view)) e
    ∙ up_emits m ais said pending t.view (cm_in m p (suc i)) (cnd_in m p (suc i)) (heard own bytes p views s i c.slots t low).0 (heard own bytes p views s i c.slots t low).1
    ∙ ap (given_of former pending) (fresh own bytes p views s i c.slots t low)

-- the first turn begins a stretch
start_is : (own : Tributary) → machine_after own [] ≡ start
unfolding machine_after
start_is own = refl

first_after : (m : ℕ) (view : View) (c d : ℕ) → hears_message None m view.message ≡ Pair c d true → after m false (Some view) start ≡ up_at (said_now c d None) []
first_after m view c d e = ap (λ h. opened (begun (Some h)) (waits_on 0)) e

first_kept : (own : Tributary) (bytes p : List ℕ) (views : ℕ → Option View) (s u : ℕ) → Comes own bytes p views s u → s ≤ u
    → machine_after own (past_of views s 1) ≡ up_at (said_now (cm_in (length own.slots) p 0) (cnd_in (length own.slots) p 0) None) []
first_kept own bytes p views s u c high =
    let m = length own.slots in
    let t = turn_at own bytes p views s u 0 c (omega arith) in
    machine_on own views s 0 t.view t.is (never_marked own bytes p views s u 1 c (omega arith))
    ∙ ap (after m false (Some t.view)) (start_is own)
    ∙ first_after m t.view (cm_in m p 0) (cnd_in m p 0)
    (heard_anew m None None (cm_in m p 0) (cnd_in m p 0) t.view.message t.fits (rest_less m p 0 c.slots) t.turn.message (first_says_anew (cm_in m p 0) (cnd_in m p 0) t.view.message t.turn.message))

-- ---- its totals

no_less : (m : ℕ) (p : List ℕ) (i : ℕ) → 0 < m → whole_of m p i ≤ whole_of m p (suc i)
no_less m p i h =
    let up = div_up m (sent p i) (sent p (suc i)) h (sent_up p i (suc i) (omega arith)) in
    grind arith

parts_of : (m : ℕ) (p : List ℕ) (i : ℕ) → whole_of m p (suc i) + cnd_in m p i ≡ sent p (suc i)
parts_of m p i = ap (λ x. whole_of m p (suc i) + sent p x % m) (let e : i + 1 ≡ suc i = omega arith in e) ∙ div-add-mod (sent p (suc i)) m

-- the machine after turn i + 2
held : (own : Tributary) (bytes p : List ℕ) (views : ℕ → Option View) (s u i : ℕ) → Comes own bytes p views s u → s + suc i ≤ u
    → machine_after own (past_of views s (suc (suc i)))
    ≡ up_at (said_now (cm_in (length own.slots) p (suc i)) (cnd_in (length own.slots) p (suc i)) (Some (cnd_in (length own.slots) p i)))
    (slice_range bytes (left_of (length own.slots) p i) (whole_of (length own.slots) p (suc i)))
held own bytes p views s u zero c high =
    let m = length own.slots in
    let none : whole_of m p 0 ≡ left_of m p 0 = (let e = div-add-mod 0 m in omega arith) in
    kept own bytes p views s u 0 None [] c high (first_kept own bytes p views s u c (omega arith))
    ∙ ap (λ k. up_at (said_now (cm_in m p 1) (cnd_in m p 1) (Some (cnd_in m p 0))) (slice_range bytes k (whole_of m p 1))) none
held own bytes p views s u (suc i) c high =
    let m = length own.slots in
    let x = whole_of m p (suc i) in
    let y = whole_of m p (suc (suc i)) in
    kept own bytes p views s u (suc i) (Some (cnd_in m p i)) _ c high (held own bytes p views s u i c (omega arith))
    ∙ ap (up_at (said_now (cm_in m p (suc (suc i))) (cnd_in m p (suc (suc i))) (Some (cnd_in m p (suc i)))))
    (back_within bytes x y (cnd_in m p i) (no_less m p (suc i) c.slots) ∙ ap (λ k. slice_range bytes (min k y) y) (parts_of m p i))

-- ---- what it emits

-- turn i + 3
emits_held : (own : Tributary) (ais : ℕ → ℕ) (bytes p : List ℕ) (views : ℕ → Option View) (s u i : ℕ) → Comes own bytes p views s u → s + suc (suc i) ≤ u
    → emission own ais (past_of views s (suc (suc i))) (views (s + suc (suc i))) ≡ slice_range bytes (left_of (length own.slots) p i) (left_of (length own.slots) p (suc i))
emits_held own ais bytes p views s u i c high =
    let m = length own.slots in
    let w = left_of m p i in
    let x = whole_of m p (suc i) in
    let y = whole_of m p (suc (suc i)) in
    let up = no_less m p (suc i) c.slots in
    let sum = parts_of m p i in
    available own ais bytes p views s u (suc i) (Some (cnd_in m p i)) (slice_range bytes w x) c high (held own bytes p views s u i c (omega arith))
    ∙ ap (λ ys. slice_range bytes w x ++ ys) (front_within bytes x y (cnd_in m p i) up)
    ∙ joined bytes w x (min (x + cnd_in m p i) y) (omega arith) (omega arith)
    ∙ ap (λ k. slice_range bytes w (min k y)) sum

emits_first : (own : Tributary) (ais : ℕ → ℕ) (bytes p : List ℕ) (views : ℕ → Option View) (s u : ℕ) → Comes own bytes p views s u → s ≤ u → emission own ais (past_of views s 0) (views (s + 0)) ≡ []
emits_first own ais bytes p views s u c high =
    let t = turn_at own bytes p views s u 0 c (omega arith) in
    emission_on own ais views s 0 t.view c.slots (whole_turns own bytes p views s u 1 c (omega arith)) t.is (never_marked own bytes p views s u 1 c (omega arith))
    ∙ ap (gives (length own.slots) ais false (Some t.view)) (start_is own)

emits_second : (own : Tributary) (ais : ℕ → ℕ) (bytes p : List ℕ) (views : ℕ → Option View) (s u : ℕ) → Comes own bytes p views s u → s + 1 ≤ u → emission own ais (past_of views s 1) (views (s + 1)) ≡ []
emits_second own ais bytes p views s u c high = available own ais bytes p views s u 0 None [] c high (first_kept own bytes p views s u c (omega arith))

left_up : (m : ℕ) (p : List ℕ) (i : ℕ) → 0 < m → left_of m p i ≤ left_of m p (suc i)
left_up m p i h =
    let more = sent_up p i (suc i) (omega arith) in
    let up = no_less m p (suc i) h in
    let sum = parts_of m p i in
    omega arith

-- after n + 2 turns
joins_held : (own : Tributary) (ais : ℕ → ℕ) (bytes p : List ℕ) (views : ℕ → Option View) (s u n : ℕ) → Comes own bytes p views s u → s + suc (suc n) ≤ u + 1
    → joined_back (emissions own ais (past_of views s (suc (suc n)))) ≡ take (left_of (length own.slots) p n) bytes
joins_held own ais bytes p views s u zero c h =
    let first = emits_first own ais bytes p views s u c (omega arith) in
    let second = emits_second own ais bytes p views s u c (omega arith) in
    let none : left_of (length own.slots) p 0 ≡ 0 = omega arith in
    ap (λ e. ([] ++ emission own ais (past_of views s 0) (views (s + 0))) ++ e) second
    ∙ ap (λ e. ([] ++ e) ++ []) first
    ∙ ap (λ k. take k bytes) (sym none)
joins_held own ais bytes p views s u (suc n) c h =
    let m = length own.slots in
    let a = left_of m p n in
    let b = left_of m p (suc n) in
    ap (λ xs. xs ++ emission own ais (past_of views s (suc (suc n))) (views (s + suc (suc n)))) (joins_held own ais bytes p views s u n c (omega arith) ∙ sym (from_start bytes a))
    ∙ ap (λ ys. slice_range bytes 0 a ++ ys) (emits_held own ais bytes p views s u n c (omega arith))
    ∙ joined bytes 0 a b (omega arith) (left_up m p n c.slots)
    ∙ from_start bytes b

pub emits_a_front : (own : Tributary) (ais : ℕ → ℕ) (bytes p : List ℕ) (views : ℕ → Option View) (s u n : ℕ) → Comes own bytes p views s u → s + n ≤ u + 1
    → joined_back (emissions own ais (past_of views s n)) ≡ take (front_after (length own.slots) p n) bytes
emits_a_front own ais bytes p views s u zero c h = ap (λ k. take k bytes) (let e : 0 ≡ front_after (length own.slots) p 0 = omega arith in e)
emits_a_front own ais bytes p views s u (suc zero) c h =
    ap (λ e. [] ++ e) (emits_first own ais bytes p views s u c (omega arith)) ∙ ap (λ k. take k bytes) (let e : 0 ≡ front_after (length own.slots) p 1 = omega arith in e)
emits_a_front own ais bytes p views s u (suc (suc n)) c h =
    let m = length own.slots in
    joins_held own ais bytes p views s u n c h
    ∙ ap (λ k. take (min (sent p k) (m * (sent p (suc n) / m))) bytes) (let e : n ≡ suc (suc n) - 2 = omega arith in e)
    ∙ ap (λ k. take (min (sent p (suc (suc n) - 2)) (m * (sent p k / m))) bytes) (let e : suc n ≡ suc (suc n) - 1 = omega arith in e)

-- ---- how it stands

pub stays_up : (own : Tributary) (bytes p : List ℕ) (views : ℕ → Option View) (s u t : ℕ) → Comes own bytes p views s u → s ≤ t → t ≤ u → IsUpAfter own views s t
stays_up own bytes p views s u t c low high = subst (λ n. state_after own (past_of views s n) ≡ StateUp) (let e : suc (t - s) ≡ t + 1 - s = omega arith in e) (up (t - s) (omega arith))
  where
    stands : (n : ℕ) (said : Said) (pending : List ℕ) → s + n ≤ u + 1 → machine_after own (past_of views s n) ≡ up_at said pending → state_after own (past_of views s n) ≡ StateUp
    stands n said pending h e = sym (state_is own (past_of views s n) c.slots (whole_turns own bytes p views s u n c h)) ∙ ap (λ (x : Machine). state_of_standing x.standing) e

    up : (i : ℕ) → s + i ≤ u → state_after own (past_of views s (suc i)) ≡ StateUp
    up zero h = stands 1 _ _ (omega arith) (first_kept own bytes p views s u c (omega arith))
    up (suc i) h = stands (suc (suc i)) _ _ (omega arith) (held own bytes p views s u i c h)

-- ---- how little is held back

pub holds_back_less : (m : ℕ) (p : List ℕ) (n : ℕ) → 0 < m → IsNearlyAll m p n
holds_back_less m p n h =
    let more = sent_up p (n - 2) (n - 1) (omega arith) in
    let up = div_up m (sent p (n - 2)) (sent p (n - 1)) h more in
    let split = div-add-mod (sent p (n - 2)) m in
    let less = mod-lt (sent p (n - 2)) h in
    let groups : m * (sent p (n - 2) / m) ≤ m * (sent p (n - 1) / m) = grind arith in
    record { most = omega arith; least = omega arith }

pub catches_up : (m : ℕ) (p : List ℕ) (n : ℕ) → 0 < m → n < length p → m ≤ get_or p n 0 → front_after m p (n + 2) ≡ sent p n
catches_up m p n h within many =
    let next = sent_next p n within in
    let split = div-add-mod (sent p (n + 1)) m in
    let less = mod-lt (sent p (n + 1)) h in
    let two : n + 2 - 2 ≡ n = omega arith in
    let one : n + 2 - 1 ≡ n + 1 = omega arith in
    ap (λ k. min (sent p k) (m * (sent p (n + 2 - 1) / m))) two ∙ ap (λ k. min (sent p n) (m * (sent p k / m))) one ∙ omega arith
