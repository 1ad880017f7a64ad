-- A sink after a turn more.
use Rattle.std.proofs.Common.{◌≡◌, ◌⊎◌, inl, inr, ℕ, suc, ◌*◌, ◌/◌, ◌-◌, ◌<◌, ◌≤◌, get_or, List, [], ◌∷◌, ◌++◌, Bool, true, false, cond, Option, Some, None, length, refl, ap, ◌∙◌, sym, subst, arith, append-nil}
use Rattle.std.specs.Prelude.{slice_get, All, IsTrue}
use Rattle.std.proofs.lemmas.List.{get_or_default}
use Rattle.std.specs.List.{list_any, flat_map}
use Rattle.otn_base.specs.LineSlots.{slots_of}
use Rattle.otn_base.specs.SlotList.{IsSlotList}
use Rattle.msi_table.specs.Marks.{Watch, is_marked}
use Rattle.tributary_model.specs.declared.turns.Hearing.{Hearing}
use Rattle.tributary_model.specs.declared.turns.Standing.{Standing}
use Rattle.tributary_model.specs.declared.turns.Standing.TheVariants.{Waiting, Down, Up}
use Rattle.tributary_model.specs.Places.{Tributary, tributary_of, Taken, View, greatest, frame_groups, message_in, msi_in, view_of, IsWholeTurn, AreWholeTurns}
use Rattle.tributary_model.specs.Messages.{hears_message}
use Rattle.tributary_model.specs.Stretches.{groups_of, bytes_of, msi_read, any_marked}
use Rattle.tributary_model.specs.Emission.{data_bytes, emission}
use Rattle.tributary_model.specs.Machine.{Machine, former_of, cm_of, heard_in, after_standing, after_heard, gives_standing, gives_heard, machine_after}
use Rattle.tributary_model.specs.Laws.{IsTributary}
use Rattle.tributary_model.proofs.Law.{machine_next, machine_is_emission}
use Rattle.tributary_model.proofs.OnLine.{evenly}
use Rattle.tributary_model.proofs.Views.{whole_view}
use Rattle.trib_sink.specs.Following.{Following, IsAt}
use Rattle.trib_sink.specs.Steps.Following.{IsBetween, listener_after}
use Rattle.trib_sink.specs.Watching.{Watched}
use Rattle.trib_sink.specs.Sink.{Sink, IsSink, StandsAfter, ended_view}
use Rattle.trib_sink.proofs.Stands.{some_greatest, bytes_start}
use Rattle.trib_sink.proofs.Bytes.{same_taken}

-- ---- the machine

-- what a sink is after a turn more
abbrev pub turned : Sink → Following → List Watch → Sink
turned s f watches = record s { following = f; watches = watches; taken = 0; msi = [] }

-- with nothing heard it does not matter what was extracted
none_after : (m : ℕ) (x y : List ℕ) (s : Machine) → after_heard m None x s ≡ after_heard m None y s
none_after m x y s = go s.standing
  where
    go : (st : Standing) → after_standing m None x s st ≡ after_standing m None y s st
    go (Waiting n) = refl
    go Down = refl
    go (Up said) = refl

none_gives : (m : ℕ) (ais : ℕ → ℕ) (x y : List ℕ) (s : Machine) → gives_heard m ais None x s ≡ gives_heard m ais None y s
none_gives m ais x y s = go s.standing
  where
    go : (st : Standing) → gives_standing m ais None x s st ≡ gives_standing m ais None y s st
    go (Waiting n) = refl
    go Down = refl
    go (Up said) = refl

same_after : (m : ℕ) (heard : Option Hearing) (x y : List ℕ) (s : Machine) → (x ≡ y) ⊎ (heard ≡ None) → after_heard m heard x s ≡ after_heard m heard y s
same_after m heard x y s (inl e) = ap (λ f. after_heard m heard f s) e
same_after m heard x y s (inr e) = ap (λ h. after_heard m h x s) e ∙ none_after m x y s ∙ ap (λ h. after_heard m h y s) (sym e)

same_gives : (m : ℕ) (ais : ℕ → ℕ) (heard : Option Hearing) (x y : List ℕ) (s : Machine) → (x ≡ y) ⊎ (heard ≡ None) → gives_heard m ais heard x s ≡ gives_heard m ais heard y s
same_gives m ais heard x y s (inl e) = ap (λ f. gives_heard m ais heard f s) e
same_gives m ais heard x y s (inr e) = ap (λ h. gives_heard m ais h x s) e ∙ none_gives m ais x y s ∙ ap (λ h. gives_heard m ais h y s) (sym e)

-- what was heard and extracted in a turn is that of a view
pub record IsTurnOf (own : Tributary) (past : List (Option View)) (view : Option View) (st : Standing) (heard : Option Hearing) (fresh : List ℕ) : Type 0 where
  pub whole : IsWholeTurn (length own.slots) view
  pub heard_is : heard ≡ heard_in (former_of st) (length own.slots) (any_marked own (view ∷ past)) view
  pub fresh_is : (fresh ≡ data_bytes (cm_of st) (groups_of view)) ⊎ (heard ≡ None)

machine_turn : (own : Tributary) (past : List (Option View)) (view : Option View) (st : Standing) (heard : Option Hearing) (fresh : List ℕ) → IsTurnOf own past view st heard fresh
    → (machine_after own past).standing ≡ st → after_heard (length own.slots) heard fresh (machine_after own past) ≡ machine_after own (view ∷ past)
machine_turn own past view st heard fresh t e =
    let m = length own.slots in
    let s = machine_after own past in
    let marked = any_marked own (view ∷ past) in
    same_after m heard fresh (data_bytes (cm_of st) (groups_of view)) s t.fresh_is
    ∙ ap (λ h. after_heard m h (data_bytes (cm_of st) (groups_of view)) s) t.heard_is
    ∙ ap (λ x. after_heard m (heard_in (former_of x) m marked view) (data_bytes (cm_of x) (groups_of view)) s) (sym e)
    ∙ sym (machine_next own past view)

machine_gives : (own : Tributary) (ais : ℕ → ℕ) (past : List (Option View)) (view : Option View) (st : Standing) (heard : Option Hearing) (fresh : List ℕ) → IsTurnOf own past view st heard fresh
    → (machine_after own past).standing ≡ st → 0 < length own.slots → AreWholeTurns (length own.slots) past
    → gives_heard (length own.slots) ais heard fresh (machine_after own past) ≡ emission own ais past view
machine_gives own ais past view st heard fresh t e some whole =
    let m = length own.slots in
    let s = machine_after own past in
    let marked = any_marked own (view ∷ past) in
    same_gives m ais heard fresh (data_bytes (cm_of st) (groups_of view)) s t.fresh_is
    ∙ ap (λ h. gives_heard m ais h (data_bytes (cm_of st) (groups_of view)) s) t.heard_is
    ∙ ap (λ x. gives_heard m ais (heard_in (former_of x) m marked view) (data_bytes (cm_of x) (groups_of view)) s) (sym e)
    ∙ machine_is_emission own ais past view some (t.whole, whole)

-- ---- the sink

pub at_turned : (own : Tributary) (past : List (Option View)) (frames : List Taken) (s : Sink) (g : Following) (heard : Option Hearing) → StandsAfter own past frames s
    → g ≡ record s.following { listener = listener_after s.following heard } → IsAt (machine_after own past) g
at_turned own past frames s g heard h is =
    let P : Following → Type 0 = IsAt (machine_after own past) in
    subst P (sym is) (record { standing = h.at.standing; pending = h.at.pending; stream = h.at.stream })

count_of : (own : Tributary) (past : List (Option View)) (frames : List Taken) (s : Sink) (g : Following) (heard : Option Hearing) → IsSink s → StandsAfter own past frames s
    → g ≡ record s.following { listener = listener_after s.following heard } → g.extraction.slots ≡ length own.slots
count_of own past frames s g heard i h is =
    ap (λ (x : Following). x.extraction.slots) is ∙ i.count ∙ sym (ap (λ (o : Tributary). length o.slots) h.own_is)

pub stands_turned : (own : Tributary) (past : List (Option View)) (frames : List Taken) (s : Sink) (view : Option View) (f g : Following) (watches : List Watch) (heard : Option Hearing)
    → IsSink s → StandsAfter own past frames s → g ≡ record s.following { listener = listener_after s.following heard }
    → IsTurnOf own past view s.following.standing heard s.following.extraction.fresh
    → ((x : Machine) → IsAt x g → IsAt (after_heard g.extraction.slots heard g.extraction.fresh x) f) → IsBetween g f
    → Watched own.port (λ k. msi_read k (view ∷ past)) watches → StandsAfter own (view ∷ past) [] (turned s f watches)
stands_turned own past frames s view f g watches heard i h is turn at between watched =
    let m = machine_after own past in
    let slots = count_of own past frames s g heard i h is in
    let fresh : g.extraction.fresh ≡ s.following.extraction.fresh = ap (λ (x : Following). x.extraction.fresh) is in
    let next : after_heard g.extraction.slots heard g.extraction.fresh m ≡ machine_after own (view ∷ past) =
    ap (λ n. after_heard n heard g.extraction.fresh m) slots ∙ ap (λ y. after_heard (length own.slots) heard y m) fresh
    ∙ machine_turn own past view s.following.standing heard s.following.extraction.fresh turn (sym h.at.standing) in
    record {
      own_is = h.own_is;
      slots = h.slots;
      whole = (turn.whole, h.whole);
      at = subst (λ x. IsAt x f) next (at m (at_turned own past frames s g heard h is));
      watched = watched;
      taken = refl;
      fresh = between.fresh ∙ sym (bytes_start (cm_of f.standing));
      cm = between.cm;
      message = λ none. absurd (let some = some_greatest own.line_slots own.slots h.slots in let bad : ⊥ = omega arith in bad);
      msi = refl;
    }

pub gives_turned : (own : Tributary) (ais : ℕ → ℕ) (past : List (Option View)) (frames : List Taken) (s : Sink) (view : Option View) (g : Following) (heard : Option Hearing)
    → IsSink s → StandsAfter own past frames s → g ≡ record s.following { listener = listener_after s.following heard }
    → IsTurnOf own past view s.following.standing heard s.following.extraction.fresh
    → gives_heard g.extraction.slots ais heard g.extraction.fresh (machine_after own past) ≡ emission own ais past view
gives_turned own ais past frames s view g heard i h is turn =
    let m = machine_after own past in
    let slots = count_of own past frames s g heard i h is in
    let fresh : g.extraction.fresh ≡ s.following.extraction.fresh = ap (λ (x : Following). x.extraction.fresh) is in
    let some : 0 < length own.slots = h.slots.taken in
    ap (λ n. gives_heard n ais heard g.extraction.fresh m) slots ∙ ap (λ y. gives_heard (length own.slots) ais heard y m) fresh
    ∙ machine_gives own ais past view s.following.standing heard s.following.extraction.fresh turn (sym h.at.standing) some h.whole

-- ---- a turn without a multiframe

none_heard : (former : Option ℕ) (m : ℕ) (marked : Bool) → None ≡ heard_in former m marked None
none_heard former m true = refl
none_heard former m false = refl

missed_turn : (own : Tributary) (past : List (Option View)) (st : Standing) (fresh : List ℕ) → IsTurnOf own past None st None fresh
missed_turn own past st fresh = record { whole = tt; heard_is = none_heard (former_of st) (length own.slots) (any_marked own (None ∷ past)); fresh_is = inr refl }

came_missed : (k : ℕ) (past : List (Option View)) → msi_read k past ≡ msi_read k (None ∷ past)
unfolding msi_read
came_missed k past = sym (append-nil (msi_read k past))

watched_missed : (port : ℕ) (past : List (Option View)) (watches : List Watch) → Watched port (λ k. msi_read k past) watches → Watched port (λ k. msi_read k (None ∷ past)) watches
watched_missed port past watches h = same_taken port (λ k. msi_read k past) (λ k. msi_read k (None ∷ past)) watches (λ k. came_missed k past) h

-- ---- a turn with a multiframe

view_msi : (own : Tributary) (frames : List Taken) → (view_of own frames).msi ≡ flat_map (msi_in own) frames
unfolding view_of
view_msi own frames = refl

view_message : (own : Tributary) (frames : List Taken) → (view_of own frames).message ≡ message_in (slice_get frames (greatest own.slots - 1))
unfolding view_of
view_message own frames = refl

view_groups : (own : Tributary) (frames : List Taken) → (view_of own frames).groups ≡ flat_map (λ t. frame_groups own t.frame) frames
unfolding view_of
view_groups own frames = refl

came_with : (k : ℕ) (v : View) (past : List (Option View)) → msi_read k past ++ bytes_of k v.msi ≡ msi_read k (Some v ∷ past)
unfolding msi_read
came_with k v past = refl

came_whole : (own : Tributary) (frames : List Taken) (past : List (Option View)) (msi : List (ℕ × ℕ)) → msi ≡ flat_map (msi_in own) frames
    → (k : ℕ) → msi_read k past ++ bytes_of k msi ≡ msi_read k (Some (view_of own frames) ∷ past)
came_whole own frames past msi e k = ap (λ xs. msi_read k past ++ bytes_of k xs) (e ∙ sym (view_msi own frames)) ∙ came_with k (view_of own frames) past

watched_whole : (own : Tributary) (past : List (Option View)) (frames : List Taken) (s : Sink) (watches : List Watch) → StandsAfter own past frames s
    → Watched own.port (λ k. msi_read k past ++ bytes_of k s.msi) watches → Watched own.port (λ k. msi_read k (Some (view_of own frames) ∷ past)) watches
watched_whole own past frames s watches h w = same_taken own.port (λ k. msi_read k past ++ bytes_of k s.msi) (λ k. msi_read k (Some (view_of own frames) ∷ past)) watches (came_whole own frames past s.msi h.msi) w

any_alike : (p q : ℕ → Bool) (xs : List ℕ) → ((k : ℕ) → p k ≡ q k) → list_any p xs ≡ list_any q xs
any_alike p q [] h = refl
any_alike p q (x ∷ xs) h = let a = h x in let b = any_alike p q xs h in cc

-- the watches mark what the definition marks
marked_whole : (own : Tributary) (past : List (Option View)) (frames : List Taken) (msi : List (ℕ × ℕ)) → msi ≡ flat_map (msi_in own) frames
    → list_any (λ k. is_marked own.port (msi_read k past ++ bytes_of k msi)) own.slots ≡ any_marked own (Some (view_of own frames) ∷ past)
marked_whole own past frames msi e =
    any_alike (λ k. is_marked own.port (msi_read k past ++ bytes_of k msi)) (λ k. is_marked own.port (msi_read k (Some (view_of own frames) ∷ past))) own.slots
    (λ k. ap (is_marked own.port) (came_whole own frames past msi e k))

heard_by : (former : Option ℕ) (m : ℕ) (marked : Bool) (v : View) → cond {A = Option Hearing} marked None (Some (hears_message former m v.message)) ≡ heard_in former m marked (Some v)
heard_by former m true v = refl
heard_by former m false v = refl

is_of_line : (own : Tributary) (s : Sink) → own ≡ tributary_of s.slots s.port → IsSlotList own.line_slots own.slots → IsTributary own
is_of_line own s e list =
    let lines : own.line_slots ≡ slots_of s.slots.kind = ap (λ (o : Tributary). o.line_slots) e in
    record { slots = list; even = subst (λ n. n * (3808 / n) ≡ 3808) (sym lines) (evenly s.slots.kind) }

whole_turn : (own : Tributary) (past : List (Option View)) (frames : List Taken) (s : Sink) (heard : Option Hearing) → IsSink s → StandsAfter own past frames s → s.taken ≡ slots_of s.slots.kind
    → heard ≡ cond (list_any (λ k. is_marked own.port (msi_read k past ++ bytes_of k s.msi)) s.slots.list) None (Some (hears_message (former_of s.following.standing) s.following.extraction.slots s.message))
    → IsTurnOf own past (Some (view_of own frames)) s.following.standing heard s.following.extraction.fresh
whole_turn own past frames s heard i h all is =
    let v = view_of own frames in
    let st = s.following.standing in
    let slots : s.slots.list ≡ own.slots = sym (ap (λ (o : Tributary). o.slots) h.own_is) in
    let lines : own.line_slots ≡ slots_of s.slots.kind = ap (λ (o : Tributary). o.line_slots) h.own_is in
    let many : length frames ≡ own.line_slots = sym h.taken ∙ all ∙ sym lines in
    let few : greatest own.slots ≤ own.line_slots = greatest_low own.line_slots own.slots h.slots in
    let message : s.message ≡ v.message = h.message (omega arith) ∙ sym (view_message own frames) in
    let count : s.following.extraction.slots ≡ length own.slots = i.count ∙ ap length slots in
    record {
      whole = whole_view own frames (is_of_line own s h.own_is h.slots) many;
      heard_is =
          is
          ∙ ap (λ xs. cond {A = Option Hearing} (list_any (λ k. is_marked own.port (msi_read k past ++ bytes_of k s.msi)) xs) None (Some (hears_message (former_of st) s.following.extraction.slots s.message))) slots
          ∙ ap (λ b. cond {A = Option Hearing} b None (Some (hears_message (former_of st) s.following.extraction.slots s.message))) (marked_whole own past frames s.msi h.msi)
          ∙ ap (λ n. cond {A = Option Hearing} (any_marked own (Some v ∷ past)) None (Some (hears_message (former_of st) n s.message))) count
          ∙ ap (λ xs. cond {A = Option Hearing} (any_marked own (Some v ∷ past)) None (Some (hears_message (former_of st) (length own.slots) xs))) message
          ∙ heard_by (former_of st) (length own.slots) (any_marked own (Some v ∷ past)) v;
      fresh_is = inl (h.fresh ∙ ap (data_bytes (cm_of st)) (sym (view_groups own frames)));
    }
  where
    greatest_all : (xs : List ℕ) (n : ℕ) → All (λ k. k ≤ n) xs → greatest xs ≤ n
    greatest_all [] n a = omega arith
    greatest_all (x ∷ xs) n a = let first : x ≤ n = a 0 x (omega arith) in let rest = greatest_all xs n (λ k d l. a (suc k) d (omega arith)) in omega arith

    greatest_low : (line : ℕ) (slots : List ℕ) → IsSlotList line slots → greatest slots ≤ line
    greatest_low line slots list = greatest_all slots line (λ k d l. let high : get_or slots k 0 ≤ line = list.high k l in let same : get_or slots k d ≡ get_or slots k 0 = get_or_default slots k d 0 l in omega arith)

-- the same where the MSI bytes were handed on as another list that is equal
whole_turn_of : (own : Tributary) (past : List (Option View)) (frames : List Taken) (s : Sink) (heard : Option Hearing) (msi : List (ℕ × ℕ)) → msi ≡ s.msi → IsSink s → StandsAfter own past frames s → s.taken ≡ slots_of s.slots.kind
    → heard ≡ cond (list_any (λ k. is_marked own.port (msi_read k past ++ bytes_of k msi)) s.slots.list) None (Some (hears_message (former_of s.following.standing) s.following.extraction.slots s.message))
    → IsTurnOf own past (Some (view_of own frames)) s.following.standing heard s.following.extraction.fresh
whole_turn_of own past frames s heard msi e i h all is =
    whole_turn own past frames s heard i h all
    (is ∙ ap (λ xs. cond {A = Option Hearing} (list_any (λ k. is_marked own.port (msi_read k past ++ bytes_of k xs)) s.slots.list) None (Some (hears_message (former_of s.following.standing) s.following.extraction.slots s.message))) e)

watched_whole_of : (own : Tributary) (past : List (Option View)) (frames : List Taken) (s : Sink) (watches : List Watch) (msi : List (ℕ × ℕ)) → msi ≡ s.msi → StandsAfter own past frames s
    → Watched own.port (λ k. msi_read k past ++ bytes_of k msi) watches → Watched own.port (λ k. msi_read k (Some (view_of own frames) ∷ past)) watches
watched_whole_of own past frames s watches msi e h w =
    watched_whole own past frames s watches h (same_taken own.port (λ k. msi_read k past ++ bytes_of k msi) (λ k. msi_read k past ++ bytes_of k s.msi) watches (λ k. ap (λ xs. msi_read k past ++ bytes_of k xs) e) w)

-- ---- a turn with a multiframe or without one

pub ended_turn : (own : Tributary) (past : List (Option View)) (frames : List Taken) (s : Sink) (whole : Bool) (heard : Option Hearing) (msi : List (ℕ × ℕ)) → msi ≡ s.msi → IsSink s → StandsAfter own past frames s
    → (IsTrue whole → s.taken ≡ slots_of s.slots.kind) → (whole ≡ false → heard ≡ None)
    → (whole ≡ true → heard ≡ cond (list_any (λ k. is_marked own.port (msi_read k past ++ bytes_of k msi)) s.slots.list) None (Some (hears_message (former_of s.following.standing) s.following.extraction.slots s.message)))
    → IsTurnOf own past (ended_view own whole frames) s.following.standing heard s.following.extraction.fresh
ended_turn own past frames s true heard msi e i h all none some = whole_turn_of own past frames s heard msi e i h (all refl) (some refl)
ended_turn own past frames s false heard msi e i h all none some =
    subst (λ o. IsTurnOf own past None s.following.standing o s.following.extraction.fresh) (sym (none refl)) (missed_turn own past s.following.standing s.following.extraction.fresh)

pub ended_watched : (own : Tributary) (past : List (Option View)) (frames : List Taken) (s : Sink) (whole : Bool) (watches : List Watch) (msi : List (ℕ × ℕ)) → msi ≡ s.msi → StandsAfter own past frames s
    → (whole ≡ false → watches ≡ s.watches) → (whole ≡ true → Watched own.port (λ k. msi_read k past ++ bytes_of k msi) watches)
    → Watched own.port (λ k. msi_read k (ended_view own whole frames ∷ past)) watches
ended_watched own past frames s true watches msi e h none some = watched_whole_of own past frames s watches msi e h (some refl)
ended_watched own past frames s false watches msi e h none some = subst (Watched own.port (λ k. msi_read k (None ∷ past))) (sym (none refl)) (watched_missed own.port past s.watches h.watched)
