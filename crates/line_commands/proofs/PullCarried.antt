-- What `pull` writes of carried bytes, by the laws of carriage.
use Rattle.std.proofs.Common.{◌≡◌, ◌≤◌, ◌<◌, ◌+◌, ◌-◌, ◌*◌, ◌/◌, ◌∙◌, inl, ℕ, zero, suc, Bool, true, false, List, ◌∷◌, ◌++◌, Option, Some, None, length, take, refl, sym, ap, subst, arith, append-nil, append_assoc}
use Rattle.std.specs.Prelude.{option_map, slice_range}
use Rattle.std.specs.List.{flat_map, range_with_len}
use Rattle.otn_base.specs.SlotList.{IsSlotList}
use Rattle.line_side.specs.LineFile.{mfas_of}
use Rattle.maintenance_signals.specs.Stream.{signal_byte}
use Rattle.maintenance_signals.specs.declared.signal.Signal.TheVariants.{Ais}
use Rattle.multiframe.specs.LineTurns.{LineState, Hunting, Locked, Ended, Lock, Outcome, CutShort, Lost, Whole, line_state, multiframe, multiframe_at, lock_of, lock_from, least_start, outcome_of, after_outcome, after_hunt, kept_if, after_turn, has_ended}
use Rattle.tributary_model.specs.declared.turns.SinkState.TheVariants.{Down}
use Rattle.tributary_model.specs.Places.{Tributary, View, turn_view}
use Rattle.tributary_model.specs.Stretches.{state_after}
use Rattle.tributary_model.specs.Emission.{emission}
use Rattle.tributary_model.specs.Carries.{sent, past_of}
use Rattle.tributary_model.specs.Damage.{emissions}
use Rattle.tributary_model.specs.Carriage.{Arrives, EmitsTwoLater}
use Rattle.tributary_model.specs.Passing.{joined_back}
use Rattle.device_model.proofs.LineViews.{whole_at}
use Rattle.tributary_model.proofs.Intact.{up_while_carried, emits_after_damage, down_without}
use Rattle.tributary_model.proofs.Ranges.{joined, none_between}
use Rattle.tributary_model.proofs.Totals.{sent_up}
use Rattle.tributary_model.proofs.Passing.{joins, joins_to_whole_groups}
use Rattle.device_model.specs.LineViews.{frames_of, view_at, views_until, emitted_at}
use Rattle.line_commands.specs.PullReport.{tributary}
use Rattle.line_commands.specs.PullCarried.{LineCarries, BeginsWithWhatIsCarried, IsTheWholeGroups, HasWhatIsCarriedAfterDamage}
use Rattle.line_commands.proofs.PullTurns.{written_first, written_all}
use Rattle.tributary_line.proofs.TurnsDone.{stays_ended}
use Rattle.line_commands.proofs.PullWorlds.{is_tributary}

-- ---- the turns of a line

-- a turn with a multiframe leaves the line locked, and finds it going
locked_after : (ms : List ℕ) (st : LineState) (lock : Lock) → multiframe_at 8 ms (lock_of 8 ms st) ≡ Some lock → (has_ended st ≡ false) × (has_ended (after_turn 8 ms st) ≡ false)
locked_after ms Ended lock e = absurd (let bad : ⊥ = cc in bad)
locked_after ms (Locked at) lock e = (refl, go (outcome_of 8 ms at) e)
  where
    go : (o : Outcome) → kept_if o at ≡ Some lock → has_ended (after_outcome 8 at o) ≡ false
    go CutShort f = absurd (let bad : ⊥ = cc in bad)
    go Lost f = refl
    go Whole f = refl
locked_after ms (Hunting i) lock e = (refl, hunt (lock_from ms i (least_start 8 ms i 8)) e)
  where
    go : (at : Lock) (o : Outcome) → kept_if o at ≡ Some lock → has_ended (after_outcome 8 at o) ≡ false
    go at CutShort f = absurd (let bad : ⊥ = cc in bad)
    go at Lost f = refl
    go at Whole f = refl

    hunt : (found : Option Lock) → multiframe_at 8 ms found ≡ Some lock → has_ended (after_hunt 8 ms i found) ≡ false
    hunt None f = absurd (let bad : ⊥ = cc in bad)
    hunt (Some at) f = go at (outcome_of 8 ms at) f

line_state_next : (ms : List ℕ) (t : ℕ) → line_state 8 ms (suc t) ≡ after_turn 8 ms (line_state 8 ms t)
unfolding line_state
line_state_next ms t = refl

-- a turn that shows something goes on, and so does the line after it
goes_on : (own : Tributary) (available : List ℕ) (t : ℕ) (view : View) → own.line_slots ≡ 8 → view_at own available t ≡ Some view
    → (has_ended (line_state 8 (mfas_of available) t) ≡ false) × (has_ended (line_state 8 (mfas_of available) (suc t)) ≡ false)
unfolding view_at
goes_on own available t view size e =
    go (multiframe 8 (mfas_of available) t) refl (subst (λ n. turn_view own (option_map (frames_of own.line_slots available) (multiframe n (mfas_of available) t)) ≡ Some view) size e)
  where
    ms : List ℕ
    ms = mfas_of available

    go : (o : Option Lock) → multiframe 8 ms t ≡ o → turn_view own (option_map (frames_of own.line_slots available) o) ≡ Some view
        → (has_ended (line_state 8 ms t) ≡ false) × (has_ended (line_state 8 ms (suc t)) ≡ false)
    go None f g = absurd (let bad : ⊥ = cc in bad)
    go (Some lock) f g =
        let both = locked_after ms (line_state 8 ms t) lock f in
        (both.0, ap has_ended (line_state_next ms t) ∙ both.1)

-- a line that goes on has gone on before
went_on : (ms : List ℕ) (s n : ℕ) → s ≤ n → has_ended (line_state 8 ms n) ≡ false → has_ended (line_state 8 ms s) ≡ false
went_on ms s n h going = go (has_ended (line_state 8 ms s)) refl
  where
    go : (t : Bool) → has_ended (line_state 8 ms s) ≡ t → has_ended (line_state 8 ms s) ≡ false
    go false e = e
    go true e = absurd (let late : has_ended (line_state 8 ms n) ≡ true = stays_ended 8 ms s (n - s) n (omega arith) e in let bad : ⊥ = cc in bad)

-- a turn after which the line has ended shows nothing
shows_none : (own : Tributary) (available : List ℕ) (t : ℕ) → own.line_slots ≡ 8 → has_ended (line_state 8 (mfas_of available) (suc t)) ≡ true → view_at own available t ≡ None
shows_none own available t size ended = go (view_at own available t) refl
  where
    go : (o : Option View) → view_at own available t ≡ o → o ≡ None
    go None e = refl
    go (Some view) e = absurd (let going = (goes_on own available t view size e).1 in let bad : ⊥ = cc in bad)

-- ---- their views

arrives : (port : ℕ) (slots available bytes p : List ℕ) (s b u : ℕ) → IsSlotList 8 slots → LineCarries (tributary port slots) available bytes p s b u
    → Arrives (tributary port slots) bytes p (view_at (tributary port slots) available) 0 s b u
arrives port slots available bytes p s b u list h = record {
  slots = list.taken;
  order = omega arith;
  whole = λ t low high. whole_at (tributary port slots) available t (is_tributary port slots list);
  carries = h.carries;
  steady = h.steady;
}

past_is : (own : Tributary) (available : List ℕ) (n : ℕ) → views_until own available n ≡ past_of (view_at own available) 0 n
unfolding views_until
past_is own available zero = refl
past_is own available (suc n) = ap (λ k. view_at own available k ∷ views_until own available n) (let e : n ≡ 0 + n = omega arith in e) ∙ ap (λ past. view_at own available (0 + n) ∷ past) (past_is own available n)

emitted_is : (own : Tributary) (available : List ℕ) (t : ℕ) → emitted_at own available t ≡ emission own (signal_byte Ais) (past_of (view_at own available) 0 t) (view_at own available t)
unfolding emitted_at
emitted_is own available t = ap (λ past. emission own (signal_byte Ais) past (view_at own available t)) (past_is own available t)

-- ---- turns joined

flat_more : (f : ℕ → List ℕ) (a n : ℕ) → flat_map f (range_with_len a (suc n)) ≡ flat_map f (range_with_len a n) ++ f (a + n)
flat_more f a zero = append-nil (f a) ∙ ap f (let e : a ≡ a + 0 = omega arith in e)
flat_more f a (suc n) =
    ap (λ xs. f a ++ xs) (flat_more f (a + 1) n)
    ∙ sym (append_assoc (f a) (flat_map f (range_with_len (a + 1) n)) (f (a + 1 + n)))
    ∙ ap (λ k. (f a ++ flat_map f (range_with_len (a + 1) n)) ++ f k) (let e : a + 1 + n ≡ a + suc n = omega arith in e)

-- what the first turns emit
joined_is : (own : Tributary) (available : List ℕ) (n : ℕ) → flat_map (emitted_at own available) (range_with_len 0 n) ≡ joined_back (emissions own (signal_byte Ais) (past_of (view_at own available) 0 n))
joined_is own available zero = refl
joined_is own available (suc n) =
    let views = view_at own available in
    let here : n ≡ 0 + n = omega arith in
    flat_more (emitted_at own available) 0 n
    ∙ ap (λ xs. xs ++ emitted_at own available (0 + n)) (joined_is own available n)
    ∙ ap (λ xs. joined_back (emissions own (signal_byte Ais) (past_of views 0 n)) ++ xs)
    (emitted_is own available (0 + n) ∙ ap (λ k. emission own (signal_byte Ais) (past_of views 0 k) (views (0 + n))) (sym here))

-- a first part of a longer range
range_more : (f : ℕ → List ℕ) (a n k : ℕ) → flat_map f (range_with_len a (n + k)) ≡ flat_map f (range_with_len a n) ++ flat_map f (range_with_len (a + n) k)
range_more f a n zero = ap (λ i. flat_map f (range_with_len a i)) (let e : n + 0 ≡ n = omega arith in e) ∙ sym (append-nil (flat_map f (range_with_len a n)))
range_more f a n (suc k) =
    ap (λ i. flat_map f (range_with_len a i)) (let e : n + suc k ≡ suc (n + k) = omega arith in e)
    ∙ flat_more f a (n + k)
    ∙ ap (λ xs. xs ++ f (a + (n + k))) (range_more f a n k)
    ∙ append_assoc (flat_map f (range_with_len a n)) (flat_map f (range_with_len (a + n) k)) (f (a + (n + k)))
    ∙ ap (λ i. flat_map f (range_with_len a n) ++ (flat_map f (range_with_len (a + n) k) ++ f i)) (let e : a + (n + k) ≡ a + n + k = omega arith in e)
    ∙ ap (λ xs. flat_map f (range_with_len a n) ++ xs) (sym (flat_more f (a + n) k))

-- turns that each emit the bytes from one place to the next
flat_slices : (f : ℕ → List ℕ) (xs : List ℕ) (g : ℕ → ℕ) (a n : ℕ) → ((i j : ℕ) → i ≤ j → g i ≤ g j) → ((i : ℕ) → i < n → f (a + i) ≡ slice_range xs (g i) (g (suc i)))
    → flat_map f (range_with_len a n) ≡ slice_range xs (g 0) (g n)
flat_slices f xs g a zero up each = sym (none_between xs (g 0))
flat_slices f xs g a (suc n) up each =
    flat_more f a n
    ∙ ap (λ ys. ys ++ f (a + n)) (flat_slices f xs g a n up (λ i l. each i (omega arith)))
    ∙ ap (λ ys. slice_range xs (g 0) (g n) ++ ys) (each n (omega arith))
    ∙ joined xs (g 0) (g n) (g (suc n)) (up 0 n (omega arith)) (up n (suc n) (omega arith))

-- ---- the laws

-- the line goes on up to a turn that carries, and after it
going_to : (port : ℕ) (slots available bytes p : List ℕ) (s b u : ℕ) → LineCarries (tributary port slots) available bytes p s b u → b ≤ u → (t : ℕ) → t ≤ suc u → has_ended (line_state 8 (mfas_of available) t) ≡ false
going_to port slots available bytes p s b u h low t high =
    let seen = h.carries.each u low (omega arith) in
    went_on (mfas_of available) t (suc u) high (goes_on (tributary port slots) available u seen.0 refl seen.1.0).1

pub begins_with : BeginsWithWhatIsCarried
begins_with port slots available bytes p u list h few =
    let own = tributary port slots in
    let r = arrives port slots available bytes p 0 0 u list h in
    let first = written_first own available (suc u) (omega arith) (λ t l. going_to port slots available bytes p 0 0 u h (omega arith) t (omega arith)) in (
      first.0,
      first.1
          ∙ ap (λ xs. xs ++ first.0) (joined_is own available (suc u) ∙ joins own (signal_byte Ais) bytes p (view_at own available) 0 u (suc u) r (omega arith)
          ∙ ap (λ k. take (sent p k) bytes) (let e : suc u - 2 ≡ u - 1 = omega arith in e)),
    )

pub whole_groups : IsTheWholeGroups
whole_groups port slots available bytes p u list h few ended =
    let own = tributary port slots in
    let views = view_at own available in
    let m = length slots in
    let r = arrives port slots available bytes p 0 0 u list h in
    let two : u + 2 ≡ suc (suc u) = omega arith in
    let last : has_ended (line_state 8 (mfas_of available) (suc (suc u))) ≡ true = subst (λ n. has_ended (line_state 8 (mfas_of available) n) ≡ true) two ended in
    let none : views (0 + suc u) ≡ None = ap views (let e : 0 + suc u ≡ suc u = omega arith in e) ∙ shows_none own available (suc u) refl last in
    let up = up_while_carried own bytes p views 0 u r u (omega arith) (omega arith) in
    let down : state_after own (None ∷ past_of views 0 (u + 1 - 0)) ≡ Down = down_without own (past_of views 0 (u + 1 - 0)) up in
    let law = joins_to_whole_groups own (signal_byte Ais) bytes p views 0 u None r (omega arith) tt down in
    let n : u + 1 - 0 ≡ suc u = omega arith in
    written_all own available (suc (suc u)) (omega arith) (λ t l. going_to port slots available bytes p 0 0 u h (omega arith) t (omega arith)) (inl last)
    ∙ joined_is own available (suc (suc u))
    ∙ ap (λ v. joined_back (emissions own (signal_byte Ais) (v ∷ past_of views 0 (suc u)))) none
    ∙ ap (λ n. joined_back (emissions own (signal_byte Ais) (None ∷ past_of views 0 n))) (sym n)
    ∙ law
    ∙ ap (λ k. take (m * (sent p k / m)) bytes) (let e : u - 0 ≡ u = omega arith in e)

pub after_damage : HasWhatIsCarriedAfterDamage
after_damage port slots available bytes p s b u h list carried low anew three few =
    let own = tributary port slots in
    let views = view_at own available in
    let r = arrives port slots available bytes p s b u list carried in
    let order = carried.carries.order in
    let first = written_first own available (suc u) (omega arith) (λ t l. going_to port slots available bytes p s b u carried (omega arith) t (omega arith)) in
    let k = u - h - 2 in
    let all : suc u ≡ h + 3 + k = omega arith in
    let g : ℕ → ℕ = λ i. sent p (h + 1 - s + i) in
    let emits : (i : ℕ) → i < k → emitted_at own available (h + 3 + i) ≡ slice_range bytes (g i) (g (suc i)) =
    λ i l.
    let t = h + 3 + i in
    let law : EmitsTwoLater own (signal_byte Ais) bytes p views 0 s t = emits_after_damage own (signal_byte Ais) bytes p views 0 s b u h r low anew t (omega arith) (omega arith) in
    emitted_is own available t
    ∙ ap (λ n. emission own (signal_byte Ais) (past_of views 0 n) (views t)) (let e : t ≡ t - 0 = omega arith in e)
    ∙ law
    ∙ ap (λ n. slice_range bytes (sent p n) (sent p (t - s - 1))) (let e : t - s - 2 ≡ h + 1 - s + i = omega arith in e)
    ∙ ap (λ n. slice_range bytes (g i) (sent p n)) (let e : t - s - 1 ≡ h + 1 - s + suc i = omega arith in e) in
    let carries : flat_map (emitted_at own available) (range_with_len (0 + (h + 3)) k) ≡ slice_range bytes (sent p (h + 1 - s)) (sent p (u - s - 1)) =
    ap (λ a. flat_map (emitted_at own available) (range_with_len a k)) (let e : 0 + (h + 3) ≡ h + 3 = omega arith in e)
    ∙ flat_slices (emitted_at own available) bytes g (h + 3) k (λ i j l. sent_up p (h + 1 - s + i) (h + 1 - s + j) (omega arith)) emits
    ∙ ap (λ n. slice_range bytes (sent p n) (g k)) (let e : h + 1 - s + 0 ≡ h + 1 - s = omega arith in e)
    ∙ ap (λ n. slice_range bytes (sent p (h + 1 - s)) (sent p n)) (let e : h + 1 - s + k ≡ u - s - 1 = omega arith in e) in (
      first.0,
      first.1
          ∙ ap (λ n. flat_map (emitted_at own available) (range_with_len 0 n) ++ first.0) all
          ∙ ap (λ xs. xs ++ first.0) (range_more (emitted_at own available) 0 (h + 3) k)
          ∙ append_assoc (flat_map (emitted_at own available) (range_with_len 0 (h + 3))) (flat_map (emitted_at own available) (range_with_len (0 + (h + 3)) k)) first.0
          ∙ ap (λ xs. flat_map (emitted_at own available) (range_with_len 0 (h + 3)) ++ (xs ++ first.0)) carries,
    )
