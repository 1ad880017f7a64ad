-- The sink without totals emits in every turn what the totals say, whatever the views are.
use Rattle.std.proofs.Common.{◌≡◌, ◌⊎◌, inl, inr, ℕ, zero, suc, ◌+◌, ◌*◌, ◌/◌, ◌<◌, ◌≤◌, List, [], ◌∷◌, length, Bool, true, false, cond, Option, Some, None, refl, ap, ◌∙◌, sym, subst, arith}
use Rattle.std.specs.Prelude.{All, nat_lt, nat_le, not, ◌&&◌, option_map}
use Rattle.std.specs.List.{list_any}
use Rattle.std.proofs.lemmas.Bool.Decides.{nat_tests}
use Rattle.std.proofs.lemmas.List.FromFn.{length-map-range_with_len}
use Rattle.std.proofs.Math.Nat.{mul-le-mul_left, lt-mul-div-succ, lt_of_mul-lt-mul_left}
use Rattle.tributary_model.specs.declared.turns.Hearing.{Hearing}
use Rattle.tributary_model.specs.declared.turns.Hearing.TheVariants.{Damaged, Lost, Pair}
use Rattle.tributary_model.specs.declared.turns.Said.{Said}
use Rattle.tributary_model.specs.declared.turns.Standing.TheVariants.{Waiting, Down, Up}
use Rattle.tributary_model.specs.declared.turns.SinkState.TheVariants.{Waiting as StateWaiting, Down as StateDown}
use Rattle.tributary_model.specs.Places.{Tributary, View, IsWhole, IsWholeTurn, AreWholeTurns}
use Rattle.tributary_model.specs.Messages.{hears_message}
use Rattle.tributary_model.specs.Stretches.{Member, Part, WaitingTurn, DownTurn, StretchTurn, EndingTurn, groups_of, any_marked, fit_pair, fit, is_damaged, two_damaged, goes_on_with, goes_on, is_of_stretch, idle, opens, continues, next_part, course, state_of, state_after}
use Rattle.tributary_model.specs.Emission.{data_bytes, extracted, extracted_total, emitted_total, cm_sum, emits_in, emits_at_end, down_run, stream_bytes, emits, emission, amount_of}
use Rattle.tributary_model.specs.Machine.{Machine, start, first_said, begun, next_said, gone_on, given_of, kept_of, waits_on, opened, went_on, heard_in, after, down_gives, up_gives, gives, machine_after, state_of_standing}
use Rattle.tributary_model.proofs.Stretches.{IsSound, former_cnd, left_over, sound_first, nothing_left, Grows, grows, left_at_end, end_count}
use Rattle.tributary_model.proofs.Heard.{IsSmallPair, small_message}

-- ---- the machine at the end of a course

-- how many damaged messages in a row a stretch ends with
abbrev pub damaged_run : List Member → ℕ
damaged_run [] = 0
damaged_run (last ∷ before) = cond (is_damaged last.heard) (damaged_run before + 1) 0

abbrev pub said_of : Member → List Member → Said
said_of last before = record { cm = last.cm; cnd = last.cnd; damaged = damaged_run (last ∷ before); due = former_cnd before }

abbrev pub up_machine : (m : ℕ) → List Member → Machine
up_machine m [] = start
up_machine m (last ∷ before) = record { standing = Up (said_of last before); pending = left_over m (last ∷ before); place = 0 }

abbrev pub idle_machine : (m : ℕ) → List Part → Machine
idle_machine m parts =
    cond (nat_lt (length parts) 3 && not (list_any is_of_stretch parts)) (record { standing = Waiting (length parts); pending = []; place = 0 })
    (record { standing = Down; pending = []; place = down_run parts * (m * 15168) })

abbrev pub machine_of : (m : ℕ) → List Part → Machine
machine_of m [] = start
machine_of m (WaitingTurn ∷ parts) = idle_machine m (WaitingTurn ∷ parts)
machine_of m (DownTurn ∷ parts) = idle_machine m (DownTurn ∷ parts)
machine_of m (StretchTurn stretch ∷ parts) = up_machine m stretch
machine_of m (EndingTurn stretch ∷ parts) = idle_machine m (EndingTurn stretch ∷ parts)

-- ---- what is said

damaged_none : (n : ℕ) → nat_le 2 (cond false (n + 1) 0) ≡ false
damaged_none n = refl

two_is : (stretch : List Member) → nat_le 2 (damaged_run stretch) ≡ two_damaged stretch
two_is [] = refl
two_is (x ∷ []) = go (is_damaged x.heard)
  where
    go : (t : Bool) → nat_le 2 (cond t (0 + 1) 0) ≡ false
    go true = refl
    go false = refl
two_is (x ∷ y ∷ rest) = go (is_damaged x.heard) (is_damaged y.heard) (damaged_run rest)
  where
    past_two : (n : ℕ) → nat_le 2 (n + 1 + 1) ≡ true
    past_two n = grind (arith, nat_tests)

    go : (s t : Bool) (n : ℕ) → nat_le 2 (cond s (cond t (n + 1) 0 + 1) 0) ≡ (s && t)
    go true true n = past_two n
    go true false n = refl
    go false t n = refl

-- the first turn of a stretch
begun_is : (m : ℕ) (own : Tributary) (marked : Bool) (view : Option View) → m ≡ length own.slots
    → begun (heard_in None m marked view) ≡ option_map (λ first. said_of first []) (fit own marked view)
begun_is m own marked view e = go marked view
  where
    heard : (v : View) (h : Hearing) → first_said h ≡ option_map (λ first. said_of first []) (fit_pair v h)
    heard v (Pair n r true) = refl
    heard v (Pair n r false) = refl
    heard v Damaged = refl
    heard v Lost = refl

    go : (b : Bool) (v : Option View) → begun (heard_in None m b v) ≡ option_map (λ first. said_of first []) (fit own b v)
    go true v = refl
    go false None = refl
    go false (Some v) = ap (λ n. first_said (hears_message None n v.message)) e ∙ heard v (hears_message None (length own.slots) v.message)

-- the next turn of a stretch
next_is : (v : View) (last : Member) (before : List Member) (h : Hearing)
    → next_said (said_of last before) h ≡ option_map (λ next. said_of next (last ∷ before)) (goes_on_with v (two_damaged (last ∷ before)) last h)
next_is v last before (Pair n r equal) = refl
next_is v last before Lost = refl
next_is v last before Damaged = go (nat_le 2 (damaged_run (last ∷ before))) (two_damaged (last ∷ before)) (two_is (last ∷ before))
  where
    go : (s t : Bool) → s ≡ t
        → cond {A = Option Said} s None (Some (record { cm = last.cm; cnd = last.cnd; damaged = damaged_run (last ∷ before) + 1; due = Some last.cnd }))
        ≡ option_map (λ next. said_of next (last ∷ before)) (goes_on_with v t last Damaged)
    go true true e = refl
    go false false e = refl
    go true false e = cc
    go false true e = cc

gone_on_is : (own : Tributary) (marked : Bool) (view : Option View) (last : Member) (before : List Member)
    → gone_on (heard_in (Some last.cm) (length own.slots) marked view) (said_of last before) ≡ option_map (λ next. said_of next (last ∷ before)) (goes_on own marked view (last ∷ before))
gone_on_is own true view last before = refl
gone_on_is own false None last before = refl
gone_on_is own false (Some v) last before = next_is v last before (hears_message (Some last.cm) (length own.slots) v.message)

-- ---- what a turn brings

-- a turn of a stretch has a small pair, and the groups of its view
record IsTurn (m : ℕ) (view : Option View) (turn : Member) : Type 0 where
  cm : turn.cm ≤ 15232
  cnd : turn.cnd < m
  groups : turn.groups ≡ groups_of view

fit_turn : (own : Tributary) (marked : Bool) (view : Option View) (first : Member) → fit own marked view ≡ Some first → IsTurn (length own.slots) view first
fit_turn own true view first e = absurd (let bad : ⊥ = cc in bad)
fit_turn own false None first e = absurd (let bad : ⊥ = cc in bad)
fit_turn own false (Some v) first e = go (hears_message None (length own.slots) v.message) (small_message None (length own.slots) v.message) e
  where
    go : (h : Hearing) → IsSmallPair (length own.slots) h → fit_pair v h ≡ Some first → IsTurn (length own.slots) (Some v) first
    go (Pair n r true) small f =
        let made : Member = record { heard = Pair n r true; cm = n; cnd = r; groups = v.groups } in
        let same : made ≡ first = cc in
        subst (IsTurn (length own.slots) (Some v)) same (record { cm = small.cm_at_most n r true refl; cnd = small.cnd_below n r true refl; groups = refl })
    go (Pair n r false) small f = absurd (let bad : ⊥ = cc in bad)
    go Damaged small f = absurd (let bad : ⊥ = cc in bad)
    go Lost small f = absurd (let bad : ⊥ = cc in bad)

next_turn : (own : Tributary) (marked : Bool) (view : Option View) (last : Member) (before : List Member) (next : Member)
    → goes_on own marked view (last ∷ before) ≡ Some next → last.cm ≤ 15232 → last.cnd < length own.slots → IsTurn (length own.slots) view next
next_turn own true view last before next e low less = absurd (let bad : ⊥ = cc in bad)
next_turn own false None last before next e low less = absurd (let bad : ⊥ = cc in bad)
next_turn own false (Some v) last before next e low less =
    go (two_damaged (last ∷ before)) (hears_message (Some last.cm) (length own.slots) v.message)
    (small_message (Some last.cm) (length own.slots) v.message) e
  where
    go : (two : Bool) (h : Hearing) → IsSmallPair (length own.slots) h → goes_on_with v two last h ≡ Some next → IsTurn (length own.slots) (Some v) next
    go two (Pair n r equal) small f =
        let made : Member = record { heard = Pair n r equal; cm = n; cnd = r; groups = v.groups } in
        let same : made ≡ next = cc in
        subst (IsTurn (length own.slots) (Some v)) same (record { cm = small.cm_at_most n r equal refl; cnd = small.cnd_below n r equal refl; groups = refl })
    go true Damaged small f = absurd (let bad : ⊥ = cc in bad)
    go false Damaged small f =
        let made : Member = record { heard = Damaged; cm = last.cm; cnd = last.cnd; groups = v.groups } in
        let same : made ≡ next = cc in
        subst (IsTurn (length own.slots) (Some v)) same (record { cm = low; cnd = less; groups = refl })
    go two Lost small f = absurd (let bad : ⊥ = cc in bad)

-- only a turn with a view goes on
next_view : (own : Tributary) (marked : Bool) (view : Option View) (stretch : List Member) (next : Member) → goes_on own marked view stretch ≡ Some next → (v : View) × (view ≡ Some v)
next_view own true view stretch next e = absurd (let bad : ⊥ = cc in bad)
next_view own false None stretch next e = absurd (let bad : ⊥ = cc in bad)
next_view own false (Some v) stretch next e = (v, refl)

-- ---- one turn

abbrev pub SoundStretch : (m : ℕ) → List Member → Type 0
SoundStretch m [] = ⊥
SoundStretch m (last ∷ before) = IsSound m (last ∷ before)

-- whether a turn that begins no stretch waits
abbrev pub waits : List Part → Bool
waits parts = nat_lt (length parts) 3 && not (list_any is_of_stretch parts)

-- the stretch that a course ends with is sound, and a turn in no stretch is Waiting exactly where it waits
abbrev pub SoundCourse : (m : ℕ) → List Part → Type 0
SoundCourse m [] = Unit {0}
SoundCourse m (WaitingTurn ∷ parts) = waits parts ≡ true
SoundCourse m (DownTurn ∷ parts) = waits parts ≡ false
SoundCourse m (StretchTurn stretch ∷ parts) = SoundStretch m stretch
SoundCourse m (EndingTurn stretch ∷ parts) = Unit {0}

-- how many bytes of the stretch that a course ends with are emitted
abbrev pub emitted_in : (m : ℕ) → List Part → ℕ
emitted_in m [] = 0
emitted_in m (WaitingTurn ∷ parts) = 0
emitted_in m (DownTurn ∷ parts) = 0
emitted_in m (StretchTurn stretch ∷ parts) = emitted_total m stretch
emitted_in m (EndingTurn stretch ∷ parts) = 0

-- what one turn owes: the machine's bytes and its next state are those of the course, and few bytes come, which
-- complete few groups
pub record Follows (m : ℕ) (ais : ℕ → ℕ) (marked : Bool) (view : Option View) (parts : List Part) (part : Part) : Type 0 where
  pub bytes : gives m ais marked view (machine_of m parts) ≡ emits m ais parts part
  pub next : after m marked view (machine_of m parts) ≡ machine_of m (part ∷ parts)
  pub sound : SoundCourse m (part ∷ parts)
  pub few : length (emits m ais parts part) + 1 ≤ m * 15232 + m
  pub amount : length (emits m ais parts part) ≡ amount_of m part
  -- from some whole groups on, the bytes of the turn end at whole groups of which there are at most 15,232 more, and
  -- what the stretch has beyond them
  pub groups : (q : ℕ) × ((emitted_in m parts + length (emits m ais parts part) ≡ m * q + emitted_in m (part ∷ parts)) × (emitted_in m parts + length (emits m ais parts part) < m * (emitted_in m parts / m + 15232) + m))

-- ---- a turn in no stretch

stream_length : (ais : ℕ → ℕ) (place n : ℕ) → length (stream_bytes ais place n) ≡ n
unfolding stream_bytes
stream_length ais place n = length-map-range_with_len ais place n

emitted_first : (m : ℕ) (first : Member) → emitted_total m (first ∷ []) ≡ 0
unfolding emitted_total
emitted_first m first = refl

first_gives : (m : ℕ) (first : Member) → emits_in m (first ∷ []) ≡ []
unfolding emitted_total extracted
first_gives m first = refl

-- a machine that waits, and one that is down at a place
abbrev pub waiting_at : ℕ → Machine
waiting_at n = record { standing = Waiting n; pending = []; place = 0 }

abbrev pub down_at : ℕ → Machine
down_at place = record { standing = Down; pending = []; place = place }

-- no number past two is below three
not_past : (n : ℕ) → nat_lt (suc (suc (suc n))) 3 ≡ true → ⊥
not_past n e = let h : suc (suc (suc n)) < 3 = grind (arith, nat_tests) in omega arith

zero_place : (k : ℕ) → 0 ≡ 0 * k
zero_place k = omega arith

-- one turn more of waiting
waits_step : (n : ℕ) (any : Bool) (k : ℕ) → nat_lt n 3 ≡ true → any ≡ false
    → cond (nat_le 2 n) (down_at 0) (waiting_at (n + 1)) ≡ cond (nat_lt (suc n) 3 && not any) (waiting_at (suc n)) (down_at (0 * k))
waits_step n true k few new = cc
waits_step zero false k few new = refl
waits_step (suc zero) false k few new = refl
waits_step (suc (suc zero)) false k few new = ap down_at (zero_place k)
waits_step (suc (suc (suc n))) false k few new = absurd (not_past n few)

-- one turn more of being down
down_step : (n d : ℕ) (any : Bool) (k : ℕ) → (nat_lt n 3 && not any) ≡ false
    → down_at (d * k + k) ≡ cond (nat_lt (suc n) 3 && not any) (waiting_at (suc n)) (down_at (suc d * k))
down_step n d any k e = go (nat_lt (suc n) 3) any (λ f. less n f) e
  where
    less : (n : ℕ) → nat_lt (suc n) 3 ≡ true → nat_lt n 3 ≡ true
    less n f = grind (arith, nat_tests)

    place : d * k + k ≡ suc d * k
    place = omega arith

    go : (t u : Bool) → (t ≡ true → nat_lt n 3 ≡ true) → (nat_lt n 3 && not u) ≡ false → down_at (d * k + k) ≡ cond (t && not u) (waiting_at (suc n)) (down_at (suc d * k))
    go true true h f = ap down_at place
    go true false h f = absurd (let g : nat_lt n 3 ≡ true = h refl in let bad : (true && true) ≡ false = subst (λ b. (b && true) ≡ false) g f in let worse : ⊥ = cc in worse)
    go false u h f = ap down_at place

-- a turn after these, none of which goes on
abbrev pub is_going : List Part → Bool
is_going [] = false
is_going (WaitingTurn ∷ parts) = false
is_going (DownTurn ∷ parts) = false
is_going (StretchTurn stretch ∷ parts) = true
is_going (EndingTurn stretch ∷ parts) = false

idle_is : (m : ℕ) (parts : List Part) → is_going parts ≡ false → machine_of m parts ≡ idle_machine m parts
idle_is m [] e = refl
idle_is m (WaitingTurn ∷ parts) e = refl
idle_is m (DownTurn ∷ parts) e = refl
idle_is m (StretchTurn stretch ∷ parts) e = cc
idle_is m (EndingTurn stretch ∷ parts) e = refl

idle_opens : (own : Tributary) (marked : Bool) (view : Option View) (parts : List Part) → is_going parts ≡ false → next_part own marked view parts ≡ opens parts (fit own marked view)
idle_opens own marked view [] e = refl
idle_opens own marked view (WaitingTurn ∷ parts) e = refl
idle_opens own marked view (DownTurn ∷ parts) e = refl
idle_opens own marked view (StretchTurn stretch ∷ parts) e = cc
idle_opens own marked view (EndingTurn stretch ∷ parts) e = refl

idle_emitted : (m : ℕ) (parts : List Part) → is_going parts ≡ false → emitted_in m parts ≡ 0
idle_emitted m [] e = refl
idle_emitted m (WaitingTurn ∷ parts) e = refl
idle_emitted m (DownTurn ∷ parts) e = refl
idle_emitted m (StretchTurn stretch ∷ parts) e = cc
idle_emitted m (EndingTurn stretch ∷ parts) e = refl

and_left : (a b : Bool) → (a && not b) ≡ true → a ≡ true
and_left true b e = refl
and_left false b e = e

and_right : (a b : Bool) → (a && not b) ≡ true → b ≡ false
and_right true true e = sym e
and_right true false e = refl
and_right false true e = sym e
and_right false false e = refl

-- the machine after a turn in no stretch, by whether it waits and whether a stretch begins
idle_next : (m : ℕ) (parts : List Part) (w : Bool) (o : Option Member) → waits parts ≡ w
    → cond w (opened (option_map (λ first. said_of first []) o) (waits_on (length parts)))
    (opened (option_map (λ first. said_of first []) o) (down_at (down_run parts * (m * 15168) + m * 15168)))
    ≡ machine_of m (opens parts o ∷ parts)
idle_next m parts true (Some first) e = ap (λ p. record { standing = Up (said_of first []); pending = p; place = 0 }) (sym (nothing_left m first))
idle_next m parts false (Some first) e = ap (λ p. record { standing = Up (said_of first []); pending = p; place = 0 }) (sym (nothing_left m first))
idle_next m parts true None e =
    waits_step (length parts) (list_any is_of_stretch parts) (m * 15168) (and_left (nat_lt (length parts) 3) (list_any is_of_stretch parts) e) (and_right (nat_lt (length parts) 3) (list_any is_of_stretch parts) e)
    ∙ ap (λ t. machine_of m (cond t WaitingTurn DownTurn ∷ parts)) (sym e)
idle_next m parts false None e =
    down_step (length parts) (down_run parts) (list_any is_of_stretch parts) (m * 15168) e
    ∙ ap (λ t. machine_of m (cond t WaitingTurn DownTurn ∷ parts)) (sym e)

-- what it gives
idle_gives : (m : ℕ) (ais : ℕ → ℕ) (parts : List Part) (w : Bool) (o : Option Member) → waits parts ≡ w
    → cond w [] (down_gives (option_map (λ first. said_of first []) o) (stream_bytes ais (down_run parts * (m * 15168)) (m * 15168)))
    ≡ emits m ais parts (opens parts o)
idle_gives m ais parts true (Some first) e = sym (first_gives m first)
idle_gives m ais parts false (Some first) e = sym (first_gives m first)
idle_gives m ais parts true None e = ap (λ t. emits m ais parts (cond t WaitingTurn DownTurn)) (sym e)
idle_gives m ais parts false None e = ap (λ t. emits m ais parts (cond t WaitingTurn DownTurn)) (sym e)

-- how much: nothing, or a whole number of groups
idle_count : (m : ℕ) (ais : ℕ → ℕ) (parts : List Part) (w : Bool) (o : Option Member) → waits parts ≡ w
    → (length (emits m ais parts (opens parts o)) ≡ 0) ⊎ (length (emits m ais parts (opens parts o)) ≡ m * 15168)
idle_count m ais parts w (Some first) e = inl (ap length (first_gives m first))
idle_count m ais parts true None e = inl (ap (λ t. length (emits m ais parts (cond t WaitingTurn DownTurn))) e)
idle_count m ais parts false None e = inr (ap (λ t. length (emits m ais parts (cond t WaitingTurn DownTurn))) e ∙ stream_length ais (down_run parts * (m * 15168)) (m * 15168))

idle_amount : (m : ℕ) (ais : ℕ → ℕ) (parts : List Part) (w : Bool) (o : Option Member) → waits parts ≡ w → length (emits m ais parts (opens parts o)) ≡ amount_of m (opens parts o)
idle_amount m ais parts w (Some first) e = ap length (first_gives m first) ∙ (let z = emitted_first m first in omega arith)
idle_amount m ais parts true None e = ap (λ t. length (emits m ais parts (cond t WaitingTurn DownTurn))) e ∙ ap (λ t. amount_of m (cond t WaitingTurn DownTurn)) (sym e)
idle_amount m ais parts false None e =
    ap (λ t. length (emits m ais parts (cond t WaitingTurn DownTurn))) e
    ∙ stream_length ais (down_run parts * (m * 15168)) (m * 15168)
    ∙ ap (λ t. amount_of m (cond t WaitingTurn DownTurn)) (sym e)

idle_sound : (m : ℕ) (parts : List Part) (w : Bool) (o : Option Member) → waits parts ≡ w
    → ((first : Member) → o ≡ Some first → (first.cm ≤ 15232) × (first.cnd < m)) → SoundCourse m (opens parts o ∷ parts)
idle_sound m parts w (Some first) e small = sound_first m first (small first refl).0 (small first refl).1
idle_sound m parts true None e small = subst (λ t. SoundCourse m (cond t WaitingTurn DownTurn ∷ parts)) (sym e) e
idle_sound m parts false None e small = subst (λ t. SoundCourse m (cond t WaitingTurn DownTurn ∷ parts)) (sym e) e

idle_left : (m : ℕ) (parts : List Part) (w : Bool) (o : Option Member) → waits parts ≡ w → emitted_in m (opens parts o ∷ parts) ≡ 0
idle_left m parts w (Some first) e = emitted_first m first
idle_left m parts true None e = ap (λ t. emitted_in m (cond t WaitingTurn DownTurn ∷ parts)) e
idle_left m parts false None e = ap (λ t. emitted_in m (cond t WaitingTurn DownTurn ∷ parts)) e

-- the bounds, from how much comes
idle_few : (m n : ℕ) → 0 < m → (n ≡ 0) ⊎ (n ≡ m * 15168) → n + 1 ≤ m * 15232 + m
idle_few m n h (inl e) = omega arith
idle_few m n h (inr e) = omega arith

idle_groups : (m n before left : ℕ) → 0 < m → before ≡ 0 → left ≡ 0 → (n ≡ 0) ⊎ (n ≡ m * 15168)
    → (q : ℕ) × ((before + n ≡ m * q + left) × (before + n < m * (before / m + 15232) + m))
idle_groups m n before left h b a (inl e) = (0, (omega arith, omega arith))
idle_groups m n before left h b a (inr e) = (15168, (omega arith, omega arith))

-- a machine that waits or is down
idle_machine_gives : (m : ℕ) (ais : ℕ → ℕ) (marked : Bool) (view : Option View) (w : Bool) (n place : ℕ)
    → gives m ais marked view (cond w (waiting_at n) (down_at place)) ≡ cond w [] (down_gives (begun (heard_in None m marked view)) (stream_bytes ais place (m * 15168)))
idle_machine_gives m ais marked view true n place = refl
idle_machine_gives m ais marked view false n place = refl

idle_machine_after : (m : ℕ) (marked : Bool) (view : Option View) (w : Bool) (n place : ℕ)
    → after m marked view (cond w (waiting_at n) (down_at place)) ≡ cond w (opened (begun (heard_in None m marked view)) (waits_on n)) (opened (begun (heard_in None m marked view)) (down_at (place + m * 15168)))
idle_machine_after m marked view true n place = refl
idle_machine_after m marked view false n place = refl

-- a turn in no stretch
idle_turn : (own : Tributary) (ais : ℕ → ℕ) (marked : Bool) (view : Option View) (parts : List Part) → 0 < length own.slots → is_going parts ≡ false
    → Follows (length own.slots) ais marked view parts (next_part own marked view parts)
idle_turn own ais marked view parts h idle =
    let m = length own.slots in
    let o = fit own marked view in
    let w = waits parts in
    let place = down_run parts * (m * 15168) in
    let part = opens parts o in
    let is : machine_of m parts ≡ cond w (waiting_at (length parts)) (down_at place) = idle_is m parts idle in
    let first : begun (heard_in None m marked view) ≡ option_map (λ first. said_of first []) o = begun_is m own marked view refl in
    let count = idle_count m ais parts w o refl in
    let one : Follows m ais marked view parts part = record {
      bytes =
          ap (gives m ais marked view) is
          ∙ idle_machine_gives m ais marked view w (length parts) place
          ∙ ap (λ b. cond w [] (down_gives b (stream_bytes ais place (m * 15168)))) first
          ∙ idle_gives m ais parts w o refl;
      next =
          ap (after m marked view) is
          ∙ idle_machine_after m marked view w (length parts) place
          ∙ ap (λ b. cond w (opened b (waits_on (length parts))) (opened b (down_at (place + m * 15168)))) first
          ∙ idle_next m parts w o refl;
      sound = idle_sound m parts w o refl (λ first e. let turn = fit_turn own marked view first e in (turn.cm, turn.cnd));
      few = idle_few m (length (emits m ais parts part)) h count;
      amount = idle_amount m ais parts w o refl;
      groups = idle_groups m (length (emits m ais parts part)) (emitted_in m parts) (emitted_in m (part ∷ parts)) h (idle_emitted m parts idle) (idle_left m parts w o refl) count;
    } in
    subst (Follows m ais marked view parts) (sym (idle_opens own marked view parts idle)) one

-- ---- a turn after one of a stretch that goes on

-- with at most a multiframe's bytes left, all that was extracted is at most 15,232 groups beyond what was emitted
groups_ahead : (m s e : ℕ) → 0 < m → m * s ≤ e + m * 15232 → m * s ≤ m * (e / m + 15232)
groups_ahead m s e h near =
    let past : e < m * (e / m + 1) = lt-mul-div-succ e h in
    let wide : m * s < m * (e / m + 1 + 15232) = (let split : m * (e / m + 1 + 15232) ≡ m * (e / m + 1) + m * 15232 = omega arith in omega arith) in
    let less : s < e / m + 1 + 15232 = lt_of_mul-lt-mul_left m wide in
    mul-le-mul_left m (omega arith)

-- all that is extracted is whole groups
whole_groups : (m : ℕ) (last : Member) (before : List Member) → extracted_total m (last ∷ before) ≡ m * cm_sum before
whole_groups m last before = refl

no_place : (m : ℕ) → down_at 0 ≡ down_at (0 * (m * 15168))
no_place m = ap down_at (zero_place (m * 15168))

and_true : (a : Bool) → (a && true) ≡ a
and_true true = refl
and_true false = refl

and_false : (a : Bool) → (a && false) ≡ false
and_false true = refl
and_false false = refl

-- the ending turn leaves the machine down
ending_next : (m : ℕ) (stretch : List Member) (parts : List Part) → down_at 0 ≡ machine_of m (EndingTurn stretch ∷ parts)
ending_next m stretch parts = no_place m ∙ ap (λ t. cond t (waiting_at (suc (length parts))) (down_at (0 * (m * 15168)))) (sym (and_false (nat_lt (suc (length parts)) 3)))

stretch_turn : (own : Tributary) (ais : ℕ → ℕ) (marked : Bool) (view : Option View) (last : Member) (before : List Member) (parts : List Part) (o : Option Member)
    → 0 < length own.slots → IsWholeTurn (length own.slots) view → IsSound (length own.slots) (last ∷ before) → goes_on own marked view (last ∷ before) ≡ o
    → Follows (length own.slots) ais marked view (StretchTurn (last ∷ before) ∷ parts) (continues (last ∷ before) o)
stretch_turn own ais marked view last before parts (Some next) h whole sound e =
    let m = length own.slots in
    let stretch = last ∷ before in
    let turn = next_turn own marked view last before next e sound.small.0 sound.small.1 in
    let seen = next_view own marked view stretch next e in
    let groups : next.groups ≡ seen.0.groups = turn.groups ∙ ap groups_of seen.1 in
    let is_whole : IsWhole m seen.0 = subst (IsWholeTurn m) seen.1 whole in
    let grown : Grows m next stretch (former_cnd before) (data_bytes last.cm next.groups) =
    grows m next last before sound turn.cm turn.cnd (ap length groups ∙ is_whole.many) (subst (All (λ g. length g ≡ m)) (sym groups) is_whole.each) in
    let fresh : data_bytes last.cm (groups_of view) ≡ data_bytes last.cm next.groups = ap (data_bytes last.cm) (sym turn.groups) in
    let said : gone_on (heard_in (Some last.cm) m marked view) (said_of last before) ≡ Some (said_of next stretch) = gone_on_is own marked view last before ∙ ap (option_map (λ next. said_of next stretch)) e in
    let up_to = grown.up_to in
    let near = sound.near in
    let ahead : extracted_total m stretch ≤ m * (emitted_total m stretch / m + 15232) = groups_ahead m (cm_sum before) (emitted_total m stretch) h sound.near in
    let count = grown.count in
    record {
      bytes =
          ap (λ o. up_gives o (said_of last before) (left_over m stretch) (data_bytes last.cm (groups_of view))) said
          ∙ ap (given_of (former_cnd before) (left_over m stretch)) fresh
          ∙ grown.gives;
      next =
          ap (λ o. went_on o (said_of last before) (left_over m stretch) (data_bytes last.cm (groups_of view))) said
          ∙ ap (λ f. record { standing = Up (said_of next stretch); pending = kept_of (former_cnd before) (left_over m stretch) f; place = 0 }) fresh
          ∙ ap (λ p. record { standing = Up (said_of next stretch); pending = p; place = 0 }) grown.keeps;
      sound = grown.sound;
      few = grown.few;
      amount = omega arith;
      groups = (0, (omega arith, omega arith));
    }
stretch_turn own ais marked view last before parts None h whole sound e =
    let m = length own.slots in
    let stretch = last ∷ before in
    let said : gone_on (heard_in (Some last.cm) m marked view) (said_of last before) ≡ None = gone_on_is own marked view last before ∙ ap (option_map (λ next. said_of next stretch)) e in
    let gives_left : left_over m stretch ≡ emits_at_end m stretch = left_at_end m stretch sound in
    let count : emitted_total m stretch + length (emits_at_end m stretch) ≡ m * cm_sum before = end_count m stretch sound in
    let near = sound.near in
    let ahead : extracted_total m stretch ≤ m * (emitted_total m stretch / m + 15232) = groups_ahead m (cm_sum before) (emitted_total m stretch) h sound.near in
    let whole_is = whole_groups m last before in
    record {
      bytes = ap (λ o. up_gives o (said_of last before) (left_over m stretch) (data_bytes last.cm (groups_of view))) said ∙ gives_left;
      next = ap (λ o. went_on o (said_of last before) (left_over m stretch) (data_bytes last.cm (groups_of view))) said ∙ ending_next m stretch (StretchTurn stretch ∷ parts);
      sound = tt;
      few = omega arith;
      amount = omega arith;
      groups = (cm_sum before, (omega arith, omega arith));
    }

-- ---- all turns

any_turn : (own : Tributary) (ais : ℕ → ℕ) (marked : Bool) (view : Option View) (parts : List Part) → 0 < length own.slots → IsWholeTurn (length own.slots) view
    → SoundCourse (length own.slots) parts → Follows (length own.slots) ais marked view parts (next_part own marked view parts)
any_turn own ais marked view [] h whole sound = idle_turn own ais marked view [] h refl
any_turn own ais marked view (WaitingTurn ∷ parts) h whole sound = idle_turn own ais marked view (WaitingTurn ∷ parts) h refl
any_turn own ais marked view (DownTurn ∷ parts) h whole sound = idle_turn own ais marked view (DownTurn ∷ parts) h refl
any_turn own ais marked view (EndingTurn stretch ∷ parts) h whole sound = idle_turn own ais marked view (EndingTurn stretch ∷ parts) h refl
any_turn own ais marked view (StretchTurn [] ∷ parts) h whole sound = absurd sound
any_turn own ais marked view (StretchTurn (last ∷ before) ∷ parts) h whole sound =
    stretch_turn own ais marked view last before parts (goes_on own marked view (last ∷ before)) h whole sound refl

-- the machine after these turns stands to their course
pub record Stands (own : Tributary) (past : List (Option View)) : Type 0 where
  pub machine : machine_after own past ≡ machine_of (length own.slots) (course own past)
  pub sound : SoundCourse (length own.slots) (course own past)

pub course_next : (own : Tributary) (past : List (Option View)) (view : Option View)
    → course own (view ∷ past) ≡ next_part own (any_marked own (view ∷ past)) view (course own past) ∷ course own past
unfolding course
course_next own past view = refl

pub machine_next : (own : Tributary) (past : List (Option View)) (view : Option View)
    → machine_after own (view ∷ past) ≡ after (length own.slots) (any_marked own (view ∷ past)) view (machine_after own past)
unfolding machine_after
machine_next own past view = refl

stands_start : (own : Tributary) → Stands own []
unfolding course machine_after
stands_start own = record { machine = refl; sound = tt }

pub stands : (own : Tributary) (past : List (Option View)) → 0 < length own.slots → AreWholeTurns (length own.slots) past → Stands own past
stands own [] h whole = stands_start own
stands own (view ∷ past) h whole =
    let m = length own.slots in
    let before = stands own past h whole.1 in
    let marked = any_marked own (view ∷ past) in
    let turn = any_turn own (λ place. 0) marked view (course own past) h whole.0 before.sound in
    record {
      machine = machine_next own past view ∙ ap (after m marked view) before.machine ∙ turn.next ∙ ap (machine_of m) (sym (course_next own past view));
      sound = subst (SoundCourse m) (sym (course_next own past view)) turn.sound;
    }

-- a turn after these
pub turn_after : (own : Tributary) (ais : ℕ → ℕ) (past : List (Option View)) (view : Option View) → 0 < length own.slots → AreWholeTurns (length own.slots) (view ∷ past)
    → Follows (length own.slots) ais (any_marked own (view ∷ past)) view (course own past) (next_part own (any_marked own (view ∷ past)) view (course own past))
turn_after own ais past view h whole = any_turn own ais (any_marked own (view ∷ past)) view (course own past) h whole.0 (stands own past h whole.1).sound

-- In every turn the machine gives the emission by totals.
pub machine_is_emission : (own : Tributary) (ais : ℕ → ℕ) (past : List (Option View)) (view : Option View) → 0 < length own.slots → AreWholeTurns (length own.slots) (view ∷ past)
    → gives (length own.slots) ais (any_marked own (view ∷ past)) view (machine_after own past) ≡ emission own ais past view
machine_is_emission own ais past view h whole =
    ap (gives (length own.slots) ais (any_marked own (view ∷ past)) view) (stands own past h whole.1).machine ∙ (turn_after own ais past view h whole).bytes

-- At most m * 15232 + m - 1 bytes come in a turn.
pub few_bytes : (own : Tributary) (ais : ℕ → ℕ) (past : List (Option View)) (view : Option View) → 0 < length own.slots → AreWholeTurns (length own.slots) (view ∷ past)
    → length (emission own ais past view) + 1 ≤ length own.slots * 15232 + length own.slots
few_bytes own ais past view h whole = (turn_after own ais past view h whole).few

-- So many bytes come as the totals say.
pub amount_is : (own : Tributary) (ais : ℕ → ℕ) (past : List (Option View)) (view : Option View) → 0 < length own.slots → AreWholeTurns (length own.slots) (view ∷ past)
    → length (emission own ais past view) ≡ amount_of (length own.slots) (next_part own (any_marked own (view ∷ past)) view (course own past))
amount_is own ais past view h whole = (turn_after own ais past view h whole).amount

-- how the machine stands is how the sink stands
state_is_parts : (m : ℕ) (parts : List Part) → SoundCourse m parts → state_of_standing (machine_of m parts).standing ≡ state_of parts
state_is_parts m [] sound = refl
state_is_parts m (WaitingTurn ∷ parts) sound = go (length parts) (list_any is_of_stretch parts) (and_right (nat_lt (length parts) 3) (list_any is_of_stretch parts) sound)
  where
    same : (n : ℕ) → nat_lt (suc n) 3 ≡ nat_lt n 2
    same n = grind (arith, nat_tests)

    pick : (t : Bool) (n place : ℕ) → state_of_standing (cond t (waiting_at n) (down_at place)).standing ≡ cond t StateWaiting StateDown
    pick true n place = refl
    pick false n place = refl

    go : (n : ℕ) (any : Bool) → any ≡ false → state_of_standing (cond (nat_lt (suc n) 3 && not any) (waiting_at (suc n)) (down_at (0 * (m * 15168)))).standing ≡ cond (nat_lt n 2) StateWaiting StateDown
    go n true e = cc
    go n false e = pick (nat_lt (suc n) 3 && true) (suc n) (0 * (m * 15168)) ∙ ap (λ t. cond t StateWaiting StateDown) (and_true (nat_lt (suc n) 3) ∙ same n)
state_is_parts m (DownTurn ∷ parts) sound = ap (λ (s : Machine). state_of_standing s.standing) (sym (down_step (length parts) (down_run parts) (list_any is_of_stretch parts) (m * 15168) sound))
state_is_parts m (StretchTurn [] ∷ parts) sound = absurd sound
state_is_parts m (StretchTurn (last ∷ before) ∷ parts) sound = refl
state_is_parts m (EndingTurn stretch ∷ parts) sound = ap (λ (s : Machine). state_of_standing s.standing) (sym (ending_next m stretch parts))

pub state_is : (own : Tributary) (past : List (Option View)) → 0 < length own.slots → AreWholeTurns (length own.slots) past → state_of_standing (machine_after own past).standing ≡ state_after own past
state_is own past h whole =
    let s = stands own past h whole in
    ap (λ (x : Machine). state_of_standing x.standing) s.machine ∙ state_is_parts (length own.slots) (course own past) s.sound
