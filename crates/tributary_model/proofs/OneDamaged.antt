-- What was heard in a turn of a stretch shows in no emission, and in no later turn but by the count of damaged
-- messages.
use Rattle.std.proofs.Common.{◌≡◌, ℕ, suc, ◌+◌, ◌*◌, List, [], ◌∷◌, ◌++◌, length, Bool, true, false, cond, Option, Some, None, refl, ap, ◌∙◌, sym}
use Rattle.std.specs.Prelude.{nat_lt, not, ◌&&◌, max, min}
use Rattle.std.specs.List.{list_any, slice_range}
use Rattle.tributary_model.specs.declared.turns.Hearing.{Hearing}
use Rattle.tributary_model.specs.declared.turns.Hearing.TheVariants.{Damaged, Lost, Pair}
use Rattle.tributary_model.specs.declared.turns.SinkState.{SinkState}
use Rattle.tributary_model.specs.declared.turns.SinkState.TheVariants.{Waiting, Down}
use Rattle.tributary_model.specs.Places.{Tributary, View}
use Rattle.tributary_model.specs.Messages.{hears_message}
use Rattle.tributary_model.specs.Stretches.{Member, Part, WaitingTurn, DownTurn, StretchTurn, EndingTurn, msi_read, msi_of, any_marked, fit, is_damaged, two_damaged, goes_on_with, goes_on, is_of_stretch, opens, continues, next_part, course, state_of, state_after}
use Rattle.tributary_model.specs.Emission.{data_bytes, extracted, extracted_total, due_total, emitted_total, cm_sum, emits_in, emits_at_end, down_run, stream_bytes, emits, emission}
use Rattle.tributary_model.specs.Damage.{pair_had, is_third, NeverThree, emissions, states, IsAsIfRepeated}
use Rattle.tributary_model.proofs.Law.{course_next}
use Rattle.msi_table.specs.Marks.{is_marked}

-- ---- stretches without what was heard

-- a turn of a stretch without what was heard
abbrev mute : Member → Member
mute turn = record { heard = Damaged; cm = turn.cm; cnd = turn.cnd; groups = turn.groups }

abbrev mutes : List Member → List Member
mutes [] = []
mutes (turn ∷ stretch) = mute turn ∷ mutes stretch

abbrev mute_part : Part → Part
mute_part WaitingTurn = WaitingTurn
mute_part DownTurn = DownTurn
mute_part (StretchTurn stretch) = StretchTurn (mutes stretch)
mute_part (EndingTurn stretch) = EndingTurn (mutes stretch)

abbrev mute_parts : List Part → List Part
mute_parts [] = []
mute_parts (part ∷ parts) = mute_part part ∷ mute_parts parts

-- ---- the totals do not speak of what was heard

mute_extracted : (stretch : List Member) → extracted (mutes stretch) ≡ extracted stretch
unfolding extracted
mute_extracted [] = refl
mute_extracted (first ∷ []) = refl
mute_extracted (turn ∷ before ∷ rest) = ap (λ xs. xs ++ data_bytes before.cm turn.groups) (mute_extracted (before ∷ rest))

mute_cm_sum : (stretch : List Member) → cm_sum (mutes stretch) ≡ cm_sum stretch
mute_cm_sum [] = refl
mute_cm_sum (turn ∷ rest) = ap (λ n. n + turn.cm) (mute_cm_sum rest)

mute_total : (m : ℕ) (stretch : List Member) → extracted_total m (mutes stretch) ≡ extracted_total m stretch
mute_total m [] = refl
mute_total m (turn ∷ rest) = ap (λ n. m * n) (mute_cm_sum rest)

mute_due : (m : ℕ) (stretch : List Member) → due_total m (mutes stretch) ≡ due_total m stretch
mute_due m [] = refl
mute_due m (first ∷ []) = refl
mute_due m (second ∷ first ∷ []) = refl
mute_due m (turn ∷ before ∷ two_before ∷ rest) = ap (λ n. m * n + two_before.cnd) (mute_cm_sum (two_before ∷ rest))

mute_emitted : (m : ℕ) (stretch : List Member) → emitted_total m (mutes stretch) ≡ emitted_total m stretch
unfolding emitted_total
mute_emitted m [] = refl
mute_emitted m (first ∷ []) = refl
mute_emitted m (turn ∷ before ∷ rest) =
    ap (λ e. max e (min (extracted_total m (mutes (turn ∷ before ∷ rest))) (due_total m (mutes (turn ∷ before ∷ rest))))) (mute_emitted m (before ∷ rest))
    ∙ ap (λ x. max (emitted_total m (before ∷ rest)) (min x (due_total m (mutes (turn ∷ before ∷ rest))))) (mute_total m (turn ∷ before ∷ rest))
    ∙ ap (λ d. max (emitted_total m (before ∷ rest)) (min (extracted_total m (turn ∷ before ∷ rest)) d)) (mute_due m (turn ∷ before ∷ rest))

mute_emits_in : (m : ℕ) (stretch : List Member) → emits_in m (mutes stretch) ≡ emits_in m stretch
mute_emits_in m [] = refl
mute_emits_in m (turn ∷ rest) =
    ap (λ xs. slice_range xs (emitted_total m (mutes rest)) (emitted_total m (mutes (turn ∷ rest)))) (mute_extracted (turn ∷ rest))
    ∙ ap (λ i. slice_range (extracted (turn ∷ rest)) i (emitted_total m (mutes (turn ∷ rest)))) (mute_emitted m rest)
    ∙ ap (λ i. slice_range (extracted (turn ∷ rest)) (emitted_total m rest) i) (mute_emitted m (turn ∷ rest))

mute_at_end : (m : ℕ) (stretch : List Member) → emits_at_end m (mutes stretch) ≡ emits_at_end m stretch
mute_at_end m stretch =
    ap (λ xs. slice_range xs (emitted_total m (mutes stretch)) (extracted_total m (mutes stretch))) (mute_extracted stretch)
    ∙ ap (λ i. slice_range (extracted stretch) i (extracted_total m (mutes stretch))) (mute_emitted m stretch)
    ∙ ap (λ i. slice_range (extracted stretch) (emitted_total m stretch) i) (mute_total m stretch)

mute_run : (parts : List Part) → down_run (mute_parts parts) ≡ down_run parts
mute_run [] = refl
mute_run (WaitingTurn ∷ parts) = refl
mute_run (DownTurn ∷ parts) = ap (λ n. suc n) (mute_run parts)
mute_run (StretchTurn stretch ∷ parts) = refl
mute_run (EndingTurn stretch ∷ parts) = refl

mute_emits : (m : ℕ) (ais : ℕ → ℕ) (parts : List Part) (part : Part) → emits m ais (mute_parts parts) (mute_part part) ≡ emits m ais parts part
mute_emits m ais parts WaitingTurn = refl
mute_emits m ais parts DownTurn = ap (λ n. stream_bytes ais (n * (m * 15168)) (m * 15168)) (mute_run parts)
mute_emits m ais parts (StretchTurn stretch) = mute_emits_in m stretch
mute_emits m ais parts (EndingTurn stretch) = mute_at_end m stretch

mute_length : (parts : List Part) → length (mute_parts parts) ≡ length parts
mute_length [] = refl
mute_length (part ∷ parts) = ap (λ n. suc n) (mute_length parts)

mute_any : (parts : List Part) → list_any is_of_stretch (mute_parts parts) ≡ list_any is_of_stretch parts
mute_any [] = refl
mute_any (WaitingTurn ∷ parts) = mute_any parts
mute_any (DownTurn ∷ parts) = mute_any parts
mute_any (StretchTurn stretch ∷ parts) = refl
mute_any (EndingTurn stretch ∷ parts) = refl

mute_state : (parts : List Part) → state_of (mute_parts parts) ≡ state_of parts
mute_state [] = refl
mute_state (WaitingTurn ∷ parts) = ap (λ n. cond {A = SinkState} (nat_lt n 2) Waiting Down) (mute_length parts)
mute_state (DownTurn ∷ parts) = refl
mute_state (StretchTurn stretch ∷ parts) = refl
mute_state (EndingTurn stretch ∷ parts) = refl

-- ---- the next turn, where it is not the third damaged one in a row

-- where no count of damaged messages ends a stretch
abbrev calm_on : Tributary → (marked : Bool) → Option View → List Member → Option Member
calm_on own true view stretch = None
calm_on own false None stretch = None
calm_on own false (Some view) [] = None
calm_on own false (Some view) (last ∷ before) = goes_on_with view false last (hears_message (Some last.cm) (length own.slots) view.message)

-- the next turn without what was heard, after turns without what was heard
abbrev mute_on : List Member → Option Member → Part
mute_on stretch (Some next) = StretchTurn (mute next ∷ stretch)
mute_on stretch None = EndingTurn stretch

abbrev mute_next : Tributary → (marked : Bool) → Option View → List Part → Part
mute_next own marked view [] = mute_part (opens [] (fit own marked view))
mute_next own marked view (WaitingTurn ∷ parts) = mute_part (opens (WaitingTurn ∷ parts) (fit own marked view))
mute_next own marked view (DownTurn ∷ parts) = mute_part (opens (DownTurn ∷ parts) (fit own marked view))
mute_next own marked view (EndingTurn stretch ∷ parts) = mute_part (opens (EndingTurn stretch ∷ parts) (fit own marked view))
mute_next own marked view (StretchTurn stretch ∷ parts) = mute_on stretch (calm_on own marked view stretch)

mute_continues : (stretch : List Member) (o : Option Member) → mute_part (continues stretch o) ≡ mute_on (mutes stretch) o
mute_continues stretch (Some next) = refl
mute_continues stretch None = refl

-- the count ends nothing
calm : (v : View) (two : Bool) (last : Member) (h : Hearing) → (two && is_damaged h) ≡ false → goes_on_with v two last h ≡ goes_on_with v false last h
calm v two last (Pair n r equal) e = refl
calm v true last Damaged e = absurd (let bad : ⊥ = cc in bad)
calm v false last Damaged e = refl
calm v true last Lost e = refl
calm v false last Lost e = refl

calm_is : (own : Tributary) (marked : Bool) (view : Option View) (stretch : List Member) (parts : List Part) → is_third own view (StretchTurn stretch ∷ parts) ≡ false
    → goes_on own marked view stretch ≡ calm_on own marked view stretch
calm_is own true view stretch parts e = refl
calm_is own false None stretch parts e = refl
calm_is own false (Some v) [] parts e = refl
calm_is own false (Some v) (last ∷ before) parts e = calm v (two_damaged (last ∷ before)) last (hears_message (Some last.cm) (length own.slots) v.message) e

-- what goes on is the same after the turns without what was heard
mute_goes : (v : View) (last : Member) (h : Hearing) (stretch : List Member) → mute_on stretch (goes_on_with v false last h) ≡ mute_on stretch (goes_on_with v false (mute last) h)
mute_goes v last (Pair n r equal) stretch = refl
mute_goes v last Damaged stretch = refl
mute_goes v last Lost stretch = refl

mute_calm : (own : Tributary) (marked : Bool) (view : Option View) (stretch : List Member)
    → mute_on (mutes stretch) (calm_on own marked view stretch) ≡ mute_on (mutes stretch) (calm_on own marked view (mutes stretch))
mute_calm own true view stretch = refl
mute_calm own false None stretch = refl
mute_calm own false (Some v) [] = refl
mute_calm own false (Some v) (last ∷ before) = mute_goes v last (hears_message (Some last.cm) (length own.slots) v.message) (mutes (last ∷ before))

-- a turn that is in no stretch
mute_opens : (parts : List Part) (o : Option Member) → mute_part (opens parts o) ≡ mute_part (opens (mute_parts parts) o)
mute_opens parts (Some first) = refl
mute_opens parts None =
    ap (λ n. mute_part (cond {A = Part} (nat_lt n 3 && not (list_any is_of_stretch parts)) WaitingTurn DownTurn)) (sym (mute_length parts))
    ∙ ap (λ t. mute_part (cond {A = Part} (nat_lt (length (mute_parts parts)) 3 && not t) WaitingTurn DownTurn)) (sym (mute_any parts))

mute_next_is : (own : Tributary) (marked : Bool) (view : Option View) (parts : List Part) → is_third own view parts ≡ false
    → mute_part (next_part own marked view parts) ≡ mute_next own marked view (mute_parts parts)
mute_next_is own marked view [] e = refl
mute_next_is own marked view (WaitingTurn ∷ parts) e = mute_opens (WaitingTurn ∷ parts) (fit own marked view)
mute_next_is own marked view (DownTurn ∷ parts) e = mute_opens (DownTurn ∷ parts) (fit own marked view)
mute_next_is own marked view (EndingTurn stretch ∷ parts) e = mute_opens (EndingTurn stretch ∷ parts) (fit own marked view)
mute_next_is own marked view (StretchTurn stretch ∷ parts) e =
    ap (λ o. mute_part (continues stretch o)) (calm_is own marked view stretch parts e)
    ∙ mute_continues stretch (calm_on own marked view stretch)
    ∙ mute_calm own marked view stretch

-- ---- two lists that differ in a message

came_next : (k : ℕ) (view : Option View) (past : List (Option View)) → msi_read k (view ∷ past) ≡ msi_read k past ++ msi_of k view
unfolding msi_read
came_next k view past = refl

came_same : (k : ℕ) (past later : List (Option View)) (view : View) (said : List ℕ)
    → msi_read k (later ++ Some view ∷ past) ≡ msi_read k (later ++ Some (record view { message = said }) ∷ past)
came_same k past [] view said = came_next k (Some view) past ∙ sym (came_next k (Some (record view { message = said })) past)
came_same k past (v ∷ later) view said =
    came_next k v (later ++ Some view ∷ past)
    ∙ ap (λ bytes. bytes ++ msi_of k v) (came_same k past later view said)
    ∙ sym (came_next k v (later ++ Some (record view { message = said }) ∷ past))

any_same : (f g : ℕ → Bool) (xs : List ℕ) → ((k : ℕ) → f k ≡ g k) → list_any f xs ≡ list_any g xs
any_same f g [] h = refl
any_same f g (x ∷ xs) h = let a : f x ≡ g x = h x in let b : list_any f xs ≡ list_any g xs = any_same f g xs h in cc

marked_same : (own : Tributary) (past later : List (Option View)) (view : View) (said : List ℕ)
    → any_marked own (later ++ Some view ∷ past) ≡ any_marked own (later ++ Some (record view { message = said }) ∷ past)
marked_same own past later view said = any_same _ _ own.slots (λ k. ap (is_marked own.port) (came_same k past later view said))

-- the turn itself: the pair of the turn before stays
mute_turn : (own : Tributary) (marked : Bool) (view : View) (said : List ℕ) (cm cnd : ℕ) (equal : Bool) (parts : List Part)
    → pair_had parts ≡ Some (cm, cnd)
    → hears_message (Some cm) (length own.slots) view.message ≡ Damaged
    → hears_message (Some cm) (length own.slots) said ≡ Pair cm cnd equal
    → is_third own (Some view) parts ≡ false
    → mute_part (next_part own marked (Some view) parts) ≡ mute_part (next_part own marked (Some (record view { message = said })) parts)
mute_turn own marked view said cm cnd equal [] had damaged repeats third = absurd (let bad : ⊥ = cc in bad)
mute_turn own marked view said cm cnd equal (WaitingTurn ∷ parts) had damaged repeats third = absurd (let bad : ⊥ = cc in bad)
mute_turn own marked view said cm cnd equal (DownTurn ∷ parts) had damaged repeats third = absurd (let bad : ⊥ = cc in bad)
mute_turn own marked view said cm cnd equal (EndingTurn stretch ∷ parts) had damaged repeats third = absurd (let bad : ⊥ = cc in bad)
mute_turn own marked view said cm cnd equal (StretchTurn [] ∷ parts) had damaged repeats third = absurd (let bad : ⊥ = cc in bad)
mute_turn own true view said cm cnd equal (StretchTurn (last ∷ before) ∷ parts) had damaged repeats third = refl
mute_turn own false view said cm cnd equal (StretchTurn (last ∷ before) ∷ parts) had damaged repeats third =
    let c : last.cm ≡ cm = ap (λ o. cm_in_pair o) had in
    let d : last.cnd ≡ cnd = ap (λ o. cnd_in_pair o) had in
    let one : hears_message (Some last.cm) (length own.slots) view.message ≡ Damaged = ap (λ n. hears_message (Some n) (length own.slots) view.message) c ∙ damaged in
    let other : hears_message (Some last.cm) (length own.slots) said ≡ Pair cm cnd equal = ap (λ n. hears_message (Some n) (length own.slots) said) c ∙ repeats in
    ap (λ o. mute_part (continues (last ∷ before) o)) (calm_is own false (Some view) (last ∷ before) parts third)
    ∙ ap (λ h. mute_part (continues (last ∷ before) (goes_on_with view false last h))) one
    ∙ ap (λ n. StretchTurn (record { heard = Damaged; cm = n; cnd = last.cnd; groups = view.groups } ∷ mutes (last ∷ before))) c
    ∙ ap (λ r. StretchTurn (record { heard = Damaged; cm = cm; cnd = r; groups = view.groups } ∷ mutes (last ∷ before))) d
    ∙ ap (λ h. mute_part (continues (last ∷ before) (goes_on_with (record view { message = said }) (two_damaged (last ∷ before)) last h))) (sym other)
  where
    cm_in_pair : Option (ℕ × ℕ) → ℕ
    cm_in_pair (Some p) = p.0
    cm_in_pair None = 0

    cnd_in_pair : Option (ℕ × ℕ) → ℕ
    cnd_in_pair (Some p) = p.1
    cnd_in_pair None = 0

-- what the law speaks of
record Differ (own : Tributary) (past : List (Option View)) (view : View) (said : List ℕ) (cm cnd : ℕ) (equal : Bool) : Type 0 where
  had : pair_had (course own past) ≡ Some (cm, cnd)
  damaged : hears_message (Some cm) (length own.slots) view.message ≡ Damaged
  repeats : hears_message (Some cm) (length own.slots) said ≡ Pair cm cnd equal

mute_course_next : (own : Tributary) (past : List (Option View)) (view : Option View)
    → mute_parts (course own (view ∷ past)) ≡ mute_part (next_part own (any_marked own (view ∷ past)) view (course own past)) ∷ mute_parts (course own past)
mute_course_next own past view = ap mute_parts (course_next own past view)

-- without what was heard, both courses are one
mute_same : (own : Tributary) (past later : List (Option View)) (view : View) (said : List ℕ) (cm cnd : ℕ) (equal : Bool)
    → Differ own past view said cm cnd equal
    → NeverThree own (later ++ Some view ∷ past) → NeverThree own (later ++ Some (record view { message = said }) ∷ past)
    → mute_parts (course own (later ++ Some view ∷ past)) ≡ mute_parts (course own (later ++ Some (record view { message = said }) ∷ past))
mute_same own past [] view said cm cnd equal differ one other =
    mute_course_next own past (Some view)
    ∙ ap (λ part. part ∷ mute_parts (course own past))
    (mute_turn own (any_marked own (Some view ∷ past)) view said cm cnd equal (course own past) differ.had differ.damaged differ.repeats one.0
    ∙ ap (λ t. mute_part (next_part own t (Some (record view { message = said })) (course own past))) (marked_same own past [] view said))
    ∙ sym (mute_course_next own past (Some (record view { message = said })))
mute_same own past (v ∷ later) view said cm cnd equal differ one other =
    let before = mute_same own past later view said cm cnd equal differ one.1 other.1 in
    let first = later ++ Some view ∷ past in
    let second = later ++ Some (record view { message = said }) ∷ past in
    mute_course_next own first v
    ∙ ap (λ part. part ∷ mute_parts (course own first))
    (mute_next_is own (any_marked own (v ∷ first)) v (course own first) one.0
    ∙ ap (λ t. mute_next own t v (mute_parts (course own first))) (marked_same own past (v ∷ later) view said)
    ∙ ap (mute_next own (any_marked own (v ∷ second)) v) before
    ∙ sym (mute_next_is own (any_marked own (v ∷ second)) v (course own second) other.0))
    ∙ ap (λ parts. mute_part (next_part own (any_marked own (v ∷ second)) v (course own second)) ∷ parts) before
    ∙ sym (mute_course_next own second v)

-- ---- emissions and states

-- what the last turn of a course emits
abbrev emits_last : (m : ℕ) → (ais : ℕ → ℕ) → List Part → List ℕ
emits_last m ais [] = []
emits_last m ais (part ∷ parts) = emits m ais parts part

mute_emits_last : (m : ℕ) (ais : ℕ → ℕ) (parts : List Part) → emits_last m ais (mute_parts parts) ≡ emits_last m ais parts
mute_emits_last m ais [] = refl
mute_emits_last m ais (part ∷ parts) = mute_emits m ais parts part

emission_is : (own : Tributary) (ais : ℕ → ℕ) (past : List (Option View)) (view : Option View) → emission own ais past view ≡ emits_last (length own.slots) ais (course own (view ∷ past))
emission_is own ais past view = ap (emits_last (length own.slots) ais) (sym (course_next own past view))

-- turns with one course but for what was heard emit and stand alike
alike_emission : (own : Tributary) (ais : ℕ → ℕ) (past others : List (Option View)) (view other : Option View)
    → mute_parts (course own (view ∷ past)) ≡ mute_parts (course own (other ∷ others)) → emission own ais past view ≡ emission own ais others other
alike_emission own ais past others view other e =
    emission_is own ais past view
    ∙ sym (mute_emits_last (length own.slots) ais (course own (view ∷ past)))
    ∙ ap (emits_last (length own.slots) ais) e
    ∙ mute_emits_last (length own.slots) ais (course own (other ∷ others))
    ∙ sym (emission_is own ais others other)

alike_state : (own : Tributary) (past others : List (Option View)) → mute_parts (course own past) ≡ mute_parts (course own others) → state_after own past ≡ state_after own others
alike_state own past others e = sym (mute_state (course own past)) ∙ ap state_of e ∙ mute_state (course own others)

-- all turns
all_alike : (own : Tributary) (ais : ℕ → ℕ) (past later : List (Option View)) (view : View) (said : List ℕ) (cm cnd : ℕ) (equal : Bool)
    → Differ own past view said cm cnd equal
    → NeverThree own (later ++ Some view ∷ past) → NeverThree own (later ++ Some (record view { message = said }) ∷ past)
    → (emissions own ais (later ++ Some view ∷ past) ≡ emissions own ais (later ++ Some (record view { message = said }) ∷ past))
    × (states own (later ++ Some view ∷ past) ≡ states own (later ++ Some (record view { message = said }) ∷ past))
all_alike own ais past [] view said cm cnd equal differ one other =
    let same = mute_same own past [] view said cm cnd equal differ one other in
    let a = alike_emission own ais past past (Some view) (Some (record view { message = said })) same in
    let b = alike_state own (Some view ∷ past) (Some (record view { message = said }) ∷ past) same in
    (ap (λ x. x ∷ emissions own ais past) a, ap (λ x. x ∷ states own past) b)
all_alike own ais past (v ∷ later) view said cm cnd equal differ one other =
    let same = mute_same own past (v ∷ later) view said cm cnd equal differ one other in
    let before = all_alike own ais past later view said cm cnd equal differ one.1 other.1 in
    let first = later ++ Some view ∷ past in
    let second = later ++ Some (record view { message = said }) ∷ past in
    let a = alike_emission own ais first second v v same in
    let b = alike_state own (v ∷ first) (v ∷ second) same in (
      ap (λ x. x ∷ emissions own ais first) a ∙ ap (λ xs. emission own ais second v ∷ xs) before.0,
      ap (λ x. x ∷ states own first) b ∙ ap (λ xs. state_after own (v ∷ second) ∷ xs) before.1,
    )

-- One damaged message is as the pair of the turn before, said again.
pub as_if_repeated : IsAsIfRepeated
as_if_repeated own ais past later view said cm cnd equal had damaged repeats one other =
    all_alike own ais past later view said cm cnd equal (record { had = had; damaged = damaged; repeats = repeats }) one other
