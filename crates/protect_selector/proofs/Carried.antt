-- What the working line carries goes on.
use Rattle.std.proofs.Common.{◌≡◌, ◌⊎◌, inl, inr, ◌<◌, ◌≤◌, ◌+◌, ◌-◌, ◌*◌, ◌/◌, ℕ, zero, suc, true, List, [], ◌∷◌, ◌++◌, None, length, take, drop, min, refl, ap, sym, subst, ◌∙◌, arith, append-nil}
use Rattle.std.specs.List.{concat}
use Rattle.std.proofs.lemmas.Bool.{cases_lt}
use Rattle.std.proofs.lemmas.List.{map-append, take-take}
use Rattle.std.proofs.lemmas.List.Elements.{All-take}
use Rattle.std.proofs.lemmas.List.Folds.{concat-append}
use Rattle.maintenance_signals.specs.Stream.{signal_byte}
use Rattle.maintenance_signals.specs.declared.signal.Signal.TheVariants.{Ais}
use Rattle.tributary_model.specs.Carriage.{Arrives}
use Rattle.tributary_model.specs.Carries.{sent, cm_in, CarriesTurn, Carries, IsSteady, past_of}
use Rattle.tributary_model.specs.Damage.{emissions}
use Rattle.tributary_model.specs.Emission.{emission}
use Rattle.tributary_model.specs.Laws.{IsTributary}
use Rattle.tributary_model.specs.Passing.{joined_back, lengths_back}
use Rattle.tributary_model.specs.Places.{Tributary}
use Rattle.tributary_model.specs.Puts.{lengths_of}
use Rattle.tributary_model.specs.Stretches.{state_after}
use Rattle.tributary_model.specs.declared.turns.SinkState.TheVariants.{Up}
use Rattle.tributary_model.proofs.Intact.{up_while_carried}
use Rattle.tributary_model.proofs.Passing.{joins, as_many, all_by_fronts}
use Rattle.tributary_model.proofs.Totals.{sent_front, sent_up}
use Rattle.device_model.specs.Agreements.{AgreeOnTributary}
use Rattle.device_model.specs.LineViews.{view_at, views_until, emitted_at}
use Rattle.device_model.proofs.LineViews.{whole_at, same_views, same_emitted}
use Rattle.tributary_line.specs.TributaryFile.{IsTributaryFile}
use Rattle.tributary_line.proofs.FileTurns.{carries_its_turns}
use Rattle.protect_selector.specs.declared.side.Choice.{Choice}
use Rattle.protect_selector.specs.declared.side.Side.{Side}
use Rattle.protect_selector.specs.declared.side.Side.TheVariants.{Working, Protection}
use Rattle.protect_selector.specs.Selected.{BothTurn, Selection, is_up, choice_after, choice_in, selection, selection_after}
use Rattle.protect_selector.specs.OfLines.{both_turn, turns_before, choice_at, bytes_of, due_at, due_before, switch_line, switch_text, switch_text_at}
use Rattle.protect_selector.specs.Carried.{StaysWhileCarried, CarriesTwoLater, IsApart}
use Rattle.protect_selector.proofs.Turns.{selection_next, selection_start}
use Rattle.protect_selector.proofs.ProtectEnds.{given_many}

-- ---- no switch

abbrev still : Choice
still = record { side = Working; skip = 0; cause = None }

-- where the working sink is Up, and nothing is to be skipped
record IsStill (before : Selection) : Type 0 where
  side : before.side ≡ Working
  to_skip : before.to_skip ≡ 0

stays_by : (m n to_skip due : ℕ) (now : BothTurn) (past : List BothTurn) → to_skip ≡ 0 → is_up now.working.state ≡ true
    → choice_after m n (record { side = Working; to_skip = to_skip; due = due }) now past ≡ still
stays_by m n to_skip due now past none up = rw (up, none) (by_min (min 0 now.working.bytes) (omega arith))
  where
    by_min : (k : ℕ) → k ≡ 0 → ◌≡◌ {A = Choice} (record { side = Working; skip = k; cause = None }) still
    by_min k e = rw e refl

stays : (m n : ℕ) (before : Selection) (now : BothTurn) (past : List BothTurn) → IsStill before → is_up now.working.state ≡ true → choice_after m n before now past ≡ still
stays m n before now past is up =
    subst (λ side. choice_after m n (record { side = side; to_skip = before.to_skip; due = before.due }) now past ≡ still) (sym is.side)
    (stays_by m n before.to_skip before.due now past is.to_skip up)

still_after : (m n : ℕ) (before : Selection) (now : BothTurn) (past : List BothTurn) → IsStill before → is_up now.working.state ≡ true → IsStill (selection_after m n before now past)
still_after m n before now past is up =
    let none = is.to_skip in
    subst (λ side. is_up now.working.state ≡ true → IsStill (selection_after m n (record { side = side; to_skip = before.to_skip; due = before.due }) now past)) (sym is.side)
    (λ up. rw up (record { side = refl; to_skip = omega arith })) up

past_views : (own : Tributary) (w : List ℕ) (n : ℕ) → past_of (view_at own w) 0 n ≡ views_until own w n
unfolding views_until
past_views own w zero = refl
past_views own w (suc n) =
    ap (λ past. view_at own w (0 + n) ∷ past) (past_views own w n) ∙ ap (λ k. view_at own w k ∷ views_until own w n) (let e : 0 + n ≡ n = omega arith in e)

up_in : (own : Tributary) (bytes numbers w : List ℕ) (u t : ℕ) → Arrives own bytes numbers (view_at own w) 0 0 0 u → t ≤ u → is_up (state_after own (views_until own w (suc t))) ≡ true
up_in own bytes numbers w u t arrives low =
    let law : state_after own (past_of (view_at own w) 0 (t + 1 - 0)) ≡ Up = up_while_carried own bytes numbers (view_at own w) 0 u arrives t (omega arith) low in
    let same : views_until own w (suc t) ≡ past_of (view_at own w) 0 (t + 1 - 0) = sym (past_views own w (suc t)) ∙ ap (past_of (view_at own w) 0) (let e : suc t ≡ t + 1 - 0 = omega arith in e) in
    ap (λ past. is_up (state_after own past)) same ∙ ap is_up law

still_at : (own : Tributary) (n : ℕ) (bytes numbers w p : List ℕ) (u t : ℕ) → Arrives own bytes numbers (view_at own w) 0 0 0 u → t ≤ u + 1 → IsStill (selection (length own.slots) n (turns_before own w p t))
unfolding turns_before
still_at own n bytes numbers w p u zero arrives low = rw (selection_start (length own.slots) n) (record { side = refl; to_skip = refl })
still_at own n bytes numbers w p u (suc t) arrives low =
    rw (selection_next (length own.slots) n (both_turn own w p t) (turns_before own w p t))
    (still_after (length own.slots) n (selection (length own.slots) n (turns_before own w p t)) (both_turn own w p t) (turns_before own w p t)
    (still_at own n bytes numbers w p u t arrives (omega arith)) (up_in own bytes numbers w u t arrives (omega arith)))

pub stays_while_carried : StaysWhileCarried
unfolding choice_at due_at
stays_while_carried own n bytes numbers w p u arrives t low =
    let m = length own.slots in
    let past = turns_before own w p t in
    let same : choice_at own n w p t ≡ still = stays m n (selection m n past) (both_turn own w p t) past (still_at own n bytes numbers w p u t arrives (omega arith)) (up_in own bytes numbers w u t arrives low) in
    record {
      choice = same;
      due = ap (λ (c : Choice). drop c.skip (emitted_at own (bytes_of c.side w p) t)) same;
    }

-- ---- what goes on

emission_of : (own : Tributary) (w : List ℕ) (t : ℕ) → emission own (signal_byte Ais) (past_of (view_at own w) 0 t) (view_at own w (0 + t)) ≡ emitted_at own w t
unfolding emitted_at
emission_of own w t =
    ap (λ past. emission own (signal_byte Ais) past (view_at own w (0 + t))) (past_views own w t)
    ∙ ap (λ k. emission own (signal_byte Ais) (views_until own w t) (view_at own w k)) (let e : 0 + t ≡ t = omega arith in e)

-- the emissions of the working sink go on, one by one
record GoOn (own : Tributary) (n : ℕ) (w p : List ℕ) (t : ℕ) : Type 0 where
  bytes : concat (due_before own n w p t) ≡ joined_back (emissions own (signal_byte Ais) (past_of (view_at own w) 0 t))
  counts : lengths_of (due_before own n w p t) ≡ lengths_back (emissions own (signal_byte Ais) (past_of (view_at own w) 0 t))

go_on : (own : Tributary) (n : ℕ) (bytes numbers w p : List ℕ) (u t : ℕ) → Arrives own bytes numbers (view_at own w) 0 0 0 u → t ≤ u + 1 → GoOn own n w p t
unfolding due_before
go_on own n bytes numbers w p u zero arrives low = record { bytes = refl; counts = refl }
go_on own n bytes numbers w p u (suc t) arrives low =
    let before = go_on own n bytes numbers w p u t arrives (omega arith) in
    let now : due_at own n w p t ≡ emission own (signal_byte Ais) (past_of (view_at own w) 0 t) (view_at own w (0 + t)) =
    (stays_while_carried own n bytes numbers w p u arrives t (omega arith)).due ∙ sym (emission_of own w t) in
    record {
      bytes = concat-append (due_before own n w p t) (due_at own n w p t ∷ [])
          ∙ ap (λ xs. xs ++ concat (due_at own n w p t ∷ [])) before.bytes
          ∙ ap (λ xs. joined_back (emissions own (signal_byte Ais) (past_of (view_at own w) 0 t)) ++ xs) (append-nil (due_at own n w p t) ∙ now);
      counts = map-append length (due_before own n w p t) (due_at own n w p t ∷ [])
          ∙ ap (λ xs. xs ++ length (due_at own n w p t) ∷ []) before.counts
          ∙ ap (λ xs. lengths_back (emissions own (signal_byte Ais) (past_of (view_at own w) 0 t)) ++ length xs ∷ []) now;
    }

-- ---- two turns later

sent_later : (p : List ℕ) (i : ℕ) → sent (0 ∷ 0 ∷ p) i ≡ sent p (i - 2)
sent_later p zero = refl
sent_later p (suc zero) = refl
sent_later p (suc (suc i)) = ap (sent p) (let e : i ≡ suc (suc i) - 2 = omega arith in e)

steady_front : (m k : ℕ) (p : List ℕ) → IsSteady m p → IsSteady m (take k p)
steady_front m zero p h = tt
steady_front m (suc k) [] h = tt
steady_front m (suc k) (n ∷ p) (inl h) = inl (h.0, steady_front m k p h.1)
steady_front m (suc k) (n ∷ p) (inr h) = inr (All-take (λ x. m ≤ x) (suc k) (n ∷ p) h)

steady_later : (m k n : ℕ) (p : List ℕ) → k ≤ n → IsSteady m (take n p) → IsSteady m (take k (0 ∷ 0 ∷ p))
steady_later m zero n p l h = tt
steady_later m (suc zero) n p l h = inl (refl, tt)
steady_later m (suc (suc k)) n p l h = inl (refl, inl (refl, subst (IsSteady m) (take-take k n p (omega arith)) (steady_front m k (take n p) h)))

-- the numbers two turns later can be said where the numbers can
fits_later : (m : ℕ) (p : List ℕ) (n : ℕ) → ((i : ℕ) → i + 2 ≡ n → cm_in m p i ≤ 15232) → cm_in m (0 ∷ 0 ∷ p) n ≤ 15232
fits_later m p n fits =
    let now = sent_later p n in
    let next = sent_later p (n + 1) in
    subst (λ x. x / m - sent (0 ∷ 0 ∷ p) n / m ≤ 15232) (sym next) (subst (λ x. sent p (n + 1 - 2) / m - x / m ≤ 15232) (sym now) (go (cases_lt n 2)))
  where
    go : (n < 2) ⊎ (2 ≤ n) → sent p (n + 1 - 2) / m - sent p (n - 2) / m ≤ 15232
    go (inl few) =
        let same : sent p (n + 1 - 2) / m ≡ sent p (n - 2) / m = ap (λ i. sent p i / m) (let e : n + 1 - 2 ≡ n - 2 = omega arith in e) in
        omega arith
    go (inr many) = subst (λ i. sent p i / m - sent p (n - 2) / m ≤ 15232) (let e : n - 2 + 1 ≡ n + 1 - 2 = omega arith in e) (fits (n - 2) (omega arith))

-- those of a front are the same
number_front : (m : ℕ) (q : List ℕ) (n i : ℕ) → i < n → cm_in m (take n q) i ≡ cm_in m q i
number_front m q n i l = ap (λ x. x / m - sent (take n q) i / m) (sent_front q n (i + 1) (omega arith)) ∙ ap (λ x. sent q (i + 1) / m - x / m) (sent_front q n i (omega arith))

pub carries_two_later : CarriesTwoLater
carries_two_later own n b bytes numbers w p frames u sends size port arrives file =
    let m = length own.slots in
    let q = 0 ∷ 0 ∷ numbers in
    let ais = signal_byte Ais in
    let turns = due_before own n w p (suc u) in
    let on = go_on own n bytes numbers w p u (suc u) arrives (omega arith) in
    let joined : concat turns ≡ take (sent numbers (suc u - 2)) bytes = on.bytes ∙ joins own ais bytes numbers (view_at own w) 0 u (suc u) arrives (omega arith) in
    let counts : lengths_of turns ≡ take (suc u) q = on.counts ∙ as_many own ais bytes numbers (view_at own w) 0 u (suc u) arrives (omega arith) in
    let all = given_many own n w p (suc u) in
    let some = arrives.slots in
    let many = arrives.carries.numbers in
    let enough = arrives.carries.enough in
    let fits : (i : ℕ) → i ≤ u → cm_in m q i ≤ 15232
    = λ i low. fits_later m numbers i (λ j e. subst (λ x. cm_in m numbers x ≤ 15232) (let f : j - 0 ≡ j = omega arith in f) (arrives.carries.fits j (omega arith) (omega arith))) in
    let next : suc u ≡ u + 1 = omega arith in
    let fed : Carries own (concat turns) (lengths_of turns) (view_at own (concat frames)) 0 0 u =
    carries_its_turns b own turns frames u sends size port (subst (λ k. IsTributaryFile b own turns (8 * k) frames) next file) (omega arith)
    (λ i low. subst (λ xs. cm_in m xs i ≤ 15232) (sym counts) (subst (λ x. x ≤ 15232) (sym (number_front m q (suc u) i (omega arith))) (fits i low))) in
    record {
      slots = some;
      order = omega arith;
      whole = λ t low high. whole_at own (concat frames) t sends.tributary;
      carries = record {
        order = omega arith;
        numbers = omega arith;
        enough = (let a = sent_later numbers (u + 1 - 0) in let b = sent_up numbers (u + 1 - 0 - 2) (u + 1 - 0) (omega arith) in omega arith);
        fits = λ t low high. fits (t - 0) (omega arith);
        each = λ t low high.
            let seen = fed.each t low high in
            let front : CarriesTurn own (take (sent numbers (suc u - 2)) bytes) (take (suc u) q) (t - 0) seen.0 =
            subst (λ xs. CarriesTurn own xs (take (suc u) q) (t - 0) seen.0) joined (subst (λ xs. CarriesTurn own (concat turns) xs (t - 0) seen.0) counts seen.1.1) in
            let low_enough : sent q (t - 0) ≤ sent numbers (suc u - 2) = (let a = sent_later numbers (t - 0) in let b = sent_up numbers (t - 0 - 2) (suc u - 2) (omega arith) in omega arith) in
            (seen.0, (seen.1.0, all_by_fronts own bytes q (sent numbers (suc u - 2)) (suc u) (t - 0) seen.0 some low_enough (omega arith) front));
      };
      steady = steady_later m (u + 1 - 0) (u + 1 - 0) numbers (omega arith) arrives.steady;
    }

-- ---- nothing else

same_turn : (own : Tributary) (w w' p p' : List ℕ) (t : ℕ) → IsTributary own → AgreeOnTributary own w w' → AgreeOnTributary own p p' → both_turn own w p t ≡ both_turn own w' p' t
same_turn own w w' p p' t trib one two =
    rw (same_views own w w' (suc t) trib one, same_emitted own w w' t trib one, same_views own p p' (suc t) trib two, same_emitted own p p' t trib two) refl

same_turns : (own : Tributary) (w w' p p' : List ℕ) (t : ℕ) → IsTributary own → AgreeOnTributary own w w' → AgreeOnTributary own p p' → turns_before own w p t ≡ turns_before own w' p' t
unfolding turns_before
same_turns own w w' p p' zero trib one two = refl
same_turns own w w' p p' (suc t) trib one two =
    ap (λ now. now ∷ turns_before own w p t) (same_turn own w w' p p' t trib one two) ∙ ap (λ past. both_turn own w' p' t ∷ past) (same_turns own w w' p p' t trib one two)

same_choice : (own : Tributary) (n : ℕ) (w w' p p' : List ℕ) (t : ℕ) → IsTributary own → AgreeOnTributary own w w' → AgreeOnTributary own p p' → choice_at own n w p t ≡ choice_at own n w' p' t
unfolding choice_at
same_choice own n w w' p p' t trib one two =
    ap (λ now. choice_in (length own.slots) n now (turns_before own w p t)) (same_turn own w w' p p' t trib one two)
    ∙ ap (λ past. choice_in (length own.slots) n (both_turn own w' p' t) past) (same_turns own w w' p p' t trib one two)

same_side : (own : Tributary) (side : Side) (w w' p p' : List ℕ) (t : ℕ) → IsTributary own → AgreeOnTributary own w w' → AgreeOnTributary own p p' → emitted_at own (bytes_of side w p) t ≡ emitted_at own (bytes_of side w' p') t
same_side own Working w w' p p' t trib one two = same_emitted own w w' t trib one
same_side own Protection w w' p p' t trib one two = same_emitted own p p' t trib two

same_on : (own : Tributary) (n : ℕ) (w w' p p' : List ℕ) (t : ℕ) → IsTributary own → AgreeOnTributary own w w' → AgreeOnTributary own p p' → due_at own n w p t ≡ due_at own n w' p' t
unfolding due_at
same_on own n w w' p p' t trib one two =
    ap (λ (c : Choice). drop c.skip (emitted_at own (bytes_of c.side w p) t)) (same_choice own n w w' p p' t trib one two)
    ∙ ap (drop (choice_at own n w' p' t).skip) (same_side own (choice_at own n w' p' t).side w w' p p' t trib one two)

pub is_apart : IsApart
unfolding due_before switch_text
is_apart own n w w' p p' zero trib one two = (refl, refl)
is_apart own n w w' p p' (suc t) trib one two =
    let before = is_apart own n w w' p p' t trib one two in (
      ap (λ xs. xs ++ due_at own n w p t ∷ []) before.0 ∙ ap (λ x. due_before own n w' p' t ++ x ∷ []) (same_on own n w w' p p' t trib one two),
      ap (λ text. text ++ switch_text_at own n w p t) before.1
          ∙ ap (λ (c : Choice). switch_text own n w' p' t ++ switch_line t c.side c.cause) (same_choice own n w w' p p' t trib one two),
    )
