-- A sink before its first turn, and with one frame more.
use Rattle.std.proofs.Common.{◌≡◌, ◌≢◌, ℕ, zero, suc, ◌+◌, ◌*◌, ◌-◌, ◌<◌, ◌≤◌, List, [], ◌∷◌, ◌++◌, Bool, true, false, cond, Option, Some, length, get_or, refl, ap, ◌∙◌, sym, subst, arith, append-nil, length-append}
use Rattle.std.specs.Prelude.{slice_get, ◌==◌, replicate}
use Rattle.std.specs.List.{flat_map}
use Rattle.std.proofs.lemmas.Bool.{eq-eqb}
use Rattle.std.proofs.lemmas.Bool.Decides.{nat_tests}
use Rattle.std.proofs.lemmas.List.{get_or-replicate}
use Rattle.std.proofs.lemmas.List.Concat.{flat_map-append}
use Rattle.otn_base.specs.LineSlots.{LineSlots, slots_of}
use Rattle.otn_base.specs.SlotList.{IsSlotList}
use Rattle.msi_table.specs.Marks.{Watch, HasTaken}
use Rattle.odtu_columns.specs.Message.{message_of}
use Rattle.tributary_model.specs.Places.{Tributary, tributary_of, Taken, View, greatest, message_in, msi_at, msi_in}
use Rattle.tributary_model.specs.Stretches.{msi_read, state_after}
use Rattle.tributary_model.specs.Emission.{data_bytes}
use Rattle.tributary_model.specs.Machine.{start, cm_of, machine_after, state_of_standing}
use Rattle.tributary_model.proofs.Law.{state_is}
use Rattle.trib_sink.specs.Following.{Following, IsAt}
use Rattle.trib_sink.specs.Watching.{Watched, AreOfSlots}
use Rattle.trib_sink.specs.Rows.{row_cycles}
use Rattle.trib_sink.specs.Steps.Rows.{with_frame, after_frame}
use Rattle.trib_sink.specs.Sink.{Sink, IsSink, StandsAfter}
use Rattle.trib_sink.proofs.LineRows.{frame_asked}
use Rattle.trib_sink.proofs.Frames.{frame_taken}

pub some_greatest : (line : ℕ) (slots : List ℕ) → IsSlotList line slots → 1 ≤ greatest slots
some_greatest line [] h = absurd (let t = h.taken in let bad : ⊥ = omega arith in bad)
some_greatest line (k ∷ slots) h = let low : 1 ≤ k = h.low 0 (omega arith) in omega arith

-- watches that took nothing
pub none_taken : (port : ℕ) (w : Watch) → HasTaken port [] w → Watched port (λ k. []) (replicate 32 w)
none_taken port w h = record { each = λ k d low high. subst (HasTaken port []) (sym (get_or-replicate 32 (k - 1) w d (omega arith))) h }

machine_start : (own : Tributary) → machine_after own [] ≡ start
unfolding machine_after
machine_start own = refl

came_start : (k : ℕ) → [] ≡ msi_read k []
unfolding msi_read
came_start k = refl

pub bytes_start : (c : ℕ) → data_bytes c [] ≡ []
unfolding data_bytes
bytes_start c = refl

pub watched_start : (port : ℕ) (watches : List Watch) → Watched port (λ k. []) watches → Watched port (λ k. msi_read k []) watches
watched_start port watches h = record { each = λ k d low high. subst (λ xs. HasTaken port xs (get_or watches (k - 1) d)) (came_start k) (h.each k d low high) }

-- a sink before its first turn
pub stands_start : (slots : LineSlots) (message : List ℕ) (port : ℕ) (following : Following) (watches : List Watch) → IsSlotList (slots_of slots.kind) slots.list → IsAt start following
    → following.extraction.fresh ≡ [] → following.extraction.cm ≡ cm_of following.standing → Watched port (λ k. []) watches
    → StandsAfter (tributary_of slots port) [] [] (record { slots = slots; port = port; following = following; watches = watches; taken = 0; message = message; msi = [] })
stands_start slots message port following watches list at fresh number watched = record {
  own_is = refl;
  slots = list;
  whole = tt;
  at = subst (λ m. IsAt m following) (sym (machine_start (tributary_of slots port))) at;
  watched = watched_start port watches watched;
  taken = refl;
  fresh = fresh ∙ sym (bytes_start (cm_of following.standing));
  cm = number;
  message = λ none. absurd (let some = some_greatest (slots_of slots.kind) slots.list list in let bad : ⊥ = omega arith in bad);
  msi = refl;
}

-- how it stands is how the machine stands
pub state_now : (own : Tributary) (past : List (Option View)) (frames : List Taken) (s : Sink) → StandsAfter own past frames s → state_of_standing s.following.standing ≡ state_after own past
state_now own past frames s h =
    let some : 0 < length own.slots = h.slots.taken in
    ap state_of_standing h.at.standing ∙ state_is own past some h.whole

-- ---- one frame more

get_before : {X : Type 0} (xs : List X) (y : X) (i : ℕ) → i < length xs → slice_get (xs ++ y ∷ []) i ≡ slice_get xs i
get_before [] y i l = absurd (let bad : ⊥ = omega arith in bad)
get_before (x ∷ xs) y zero l = refl
get_before (x ∷ xs) y (suc i) l = get_before xs y i (omega arith)

get_last : {X : Type 0} (xs : List X) (y : X) → slice_get (xs ++ y ∷ []) (length xs) ≡ Some y
get_last [] y = refl
get_last (x ∷ xs) y = get_last xs y

tested : (a b : ℕ) → (a == b) ≡ true → a ≡ b
tested a b e = grind (arith, nat_tests)

not_tested : (a b : ℕ) → (a == b) ≡ false → a ≢ b
not_tested a b e same = let yes : (a == b) ≡ true = eq-eqb a b same in let bad : ⊥ = cc in bad

-- the message so far
message_next : (line : ℕ) (slots : List ℕ) (frames : List Taken) (t : Taken) (message now : List ℕ) (n : ℕ) → IsSlotList line slots → n ≡ length frames
    → now ≡ cond (n + 1 == greatest slots) (message_of t.frame) message
    → (greatest slots ≤ length frames → message ≡ message_in (slice_get frames (greatest slots - 1)))
    → greatest slots ≤ length (frames ++ t ∷ []) → now ≡ message_in (slice_get (frames ++ t ∷ []) (greatest slots - 1))
message_next line slots frames t message now n list many is former enough = is ∙ go (n + 1 == greatest slots) refl
  where
    long : length (frames ++ t ∷ []) ≡ length frames + 1
    long = length-append frames (t ∷ [])

    go : (b : Bool) → (n + 1 == greatest slots) ≡ b → cond (n + 1 == greatest slots) (message_of t.frame) message ≡ message_in (slice_get (frames ++ t ∷ []) (greatest slots - 1))
    go true e =
        let here : n + 1 ≡ greatest slots = tested (n + 1) (greatest slots) e in
        let place : length frames ≡ greatest slots - 1 = omega arith in
        ap (λ b. cond b (message_of t.frame) message) e
        ∙ ap message_in (sym (get_last frames t))
        ∙ ap (λ i. message_in (slice_get (frames ++ t ∷ []) i)) place
    go false e =
        let other : n + 1 ≢ greatest slots = not_tested (n + 1) (greatest slots) e in
        let some = some_greatest line slots list in
        let size = long in
        let before : greatest slots ≤ length frames = omega arith in
        ap (λ b. cond b (message_of t.frame) message) e
        ∙ former before
        ∙ ap message_in (sym (get_before frames t (greatest slots - 1) (omega arith)))

-- what a sink is after one frame more
abbrev pub with_one : Sink → (frame : List ℕ) → (expected : ℕ) → (message : List ℕ) → (msi : List (ℕ × ℕ)) → Sink
with_one s frame expected message msi = record s {
  following = record s.following { extraction = after_frame s.slots frame s.following.extraction };
  taken = s.taken + 1;
  message = message;
  msi = msi;
}

step_of_line : (past : List (Option View)) (frames : List Taken) (s : Sink) (frame message : List ℕ) (expected n : ℕ) (msi : List (ℕ × ℕ))
    → n ≡ s.taken → s.following.extraction.asked ≡ 4 * row_cycles s.slots.kind * s.taken
    → message ≡ cond (n + 1 == greatest s.slots.list) (message_of frame) s.message → msi ≡ s.msi ++ msi_at s.slots.list expected frame
    → StandsAfter (tributary_of s.slots s.port) past frames s
    → StandsAfter (tributary_of s.slots s.port) past (frames ++ record { frame = frame; expected = expected } ∷ []) (with_one s frame expected message msi)
step_of_line past frames s frame message expected n msi number asked is bytes h =
    let own = tributary_of s.slots s.port in
    let t : Taken = record { frame = frame; expected = expected } in
    let many : s.taken ≡ length frames = h.taken in
    let c = cm_of s.following.standing in
    let place : s.following.extraction.asked ≡ 4 * row_cycles s.slots.kind * length frames = asked ∙ ap (λ k. 4 * row_cycles s.slots.kind * k) many in
    record {
      own_is = refl;
      slots = h.slots;
      whole = h.whole;
      at = record { standing = h.at.standing; pending = h.at.pending; stream = h.at.stream };
      watched = h.watched;
      taken = ap (λ k. k + 1) many ∙ sym (length-append frames (t ∷ []));
      fresh =
          ap (λ k. with_frame s.following.extraction.fresh k s.following.extraction.asked s.slots frame) h.cm
          ∙ ap (λ k. with_frame s.following.extraction.fresh c k s.slots frame) place
          ∙ frame_taken c s.port s.slots s.following.extraction.fresh frames t h.slots h.fresh;
      cm = h.cm;
      message = message_next (slots_of s.slots.kind) s.slots.list frames t s.message message n h.slots (number ∙ many) is h.message;
      msi =
          bytes ∙ ap (λ y. y ++ msi_at s.slots.list expected frame) h.msi
          ∙ ap (λ y. flat_map (msi_in own) frames ++ y) (sym (append-nil (msi_at s.slots.list expected frame)))
          ∙ sym (flat_map-append (msi_in own) frames (t ∷ []));
    }

pub stands_next : (own : Tributary) (past : List (Option View)) (frames : List Taken) (s : Sink) (frame message : List ℕ) (expected n : ℕ) (msi : List (ℕ × ℕ))
    → n ≡ s.taken → s.following.extraction.asked ≡ 4 * row_cycles s.slots.kind * s.taken
    → message ≡ cond (n + 1 == greatest s.slots.list) (message_of frame) s.message → msi ≡ s.msi ++ msi_at s.slots.list expected frame
    → StandsAfter own past frames s → StandsAfter own past (frames ++ record { frame = frame; expected = expected } ∷ []) (with_one s frame expected message msi)
stands_next own past frames s frame message expected n msi number asked is bytes h =
    subst (λ o. StandsAfter o past (frames ++ record { frame = frame; expected = expected } ∷ []) (with_one s frame expected message msi)) (sym h.own_is)
    (step_of_line past frames s frame message expected n msi number asked is bytes (subst (λ o. StandsAfter o past frames s) h.own_is h))

-- what holds of it still
pub is_next : (s : Sink) (frame message : List ℕ) (expected n : ℕ) (msi : List (ℕ × ℕ)) → n ≡ s.taken → n < slots_of s.slots.kind → length msi ≤ length s.msi + 1 → (AreOfSlots s.msi → AreOfSlots msi)
    → IsSink s → IsSink (with_one s frame expected message msi)
is_next s frame message expected n msi number low few slots h = record {
  list = h.list;
  port_low = h.port_low;
  port_high = h.port_high;
  count = h.count;
  taken_high = omega arith;
  asked = frame_asked s.slots.kind s.following.extraction.asked s.taken h.asked;
  keeps = h.keeps;
  msi_few = (let f = h.msi_few in omega arith);
  msi_slots = slots h.msi_slots;
}

-- ---- what the last turn emitted is handed out

-- a sink without what its last turn emitted
abbrev pub emptied : Sink → Sink
emptied s = record s { following = record s.following { extraction = record s.following.extraction { emitted = [] } } }

pub stands_emptied : (own : Tributary) (past : List (Option View)) (frames : List Taken) (s : Sink) → StandsAfter own past frames s → StandsAfter own past frames (emptied s)
stands_emptied own past frames s h = record {
  own_is = h.own_is;
  slots = h.slots;
  whole = h.whole;
  at = record { standing = h.at.standing; pending = h.at.pending; stream = h.at.stream };
  watched = h.watched;
  taken = h.taken;
  fresh = h.fresh;
  cm = h.cm;
  message = h.message;
  msi = h.msi;
}
