-- The pieces of a turn, with the sinks on the line.
use Rattle.std.proofs.Common.{◌≡◌, ◌<◌, ◌+◌, ◌∙◌, ℕ, Bool, true, false, List, [], ◌∷◌, ◌++◌, Option, Some, None, refl, sym, ap, subst, add-one, append-nil, append_assoc}
use Rattle.std.specs.Prelude.{is_some, nat_le, IfSome}
use Rattle.std.specs.List.{flat_map}
use Rattle.otn_base.specs.LineSlots.{slots_of}
use Rattle.port_base.specs.Views.{InView}
use Rattle.line_side.specs.LineForm.{LineForm, size_of}
use Rattle.line_side.specs.LineFile.{frame_at, mfas_of}
use Rattle.line_side.specs.LineStands.{LineView, PieceStands, frames_taken}
use Rattle.line_side.specs.MayBe.{MayBe}
use Rattle.multiframe.specs.LineTurns.{Lock, line_state}
use Rattle.multiframe.specs.TurnPieces.{in_hand}
use Rattle.otn_base.specs.LineSlots.{LineSlots}
use Rattle.tributary_model.specs.Places.{Taken, msi_in}
use Rattle.trib_sink.specs.Sink.{Sink, StandsAfter}
use Rattle.device_model.specs.TurnFrames.{member_of, frames_in}
use Rattle.line_view.specs.ViewText.{all_slots, views_from}
use Rattle.line_view.specs.Steps.Viewing.{HasSeen, IsInStep, ViewStands, ViewMoves, frames_by, taken_by}
use Rattle.line_view.specs.Steps.Watching.{EachWatched, TookFrame, begun, own_of}
use Rattle.line_view.specs.declared.watched.Watched.{Watched}
use Rattle.line_view.proofs.Begun.{has_seen, seen_still}
use Rattle.line_view.proofs.MsiBytes.{msi_more}
use Rattle.line_view.proofs.Steps.{was_there, same_shows}

frames_more : (size : ℕ) (available : List ℕ) (t k : ℕ)
    → frames_in size available t (k + 1) ≡ frames_in size available t k ++ member_of available (in_hand size (mfas_of available) (line_state size (mfas_of available) t) (k + 1))
unfolding frames_in
frames_more size available t k = rw (add-one k) refl

-- a piece with no frame in hand adds none
no_frame : (size : ℕ) (available : List ℕ) (t k : ℕ) → is_some (in_hand size (mfas_of available) (line_state size (mfas_of available) t) (k + 1)) ≡ false
    → frames_in size available t (k + 1) ≡ frames_in size available t k
no_frame size available t k none =
    frames_more size available t k ∙ by_hand (in_hand size (mfas_of available) (line_state size (mfas_of available) t) (k + 1)) none
  where
    by_hand : (hand : Option Lock) → is_some hand ≡ false → frames_in size available t k ++ member_of available hand ≡ frames_in size available t k
    by_hand None e = append-nil (frames_in size available t k)
    by_hand (Some lock) e = absurd (cc)

-- a piece with a frame in hand adds it
one_frame : (size : ℕ) (available frame : List ℕ) (t k expected : ℕ) → is_some (in_hand size (mfas_of available) (line_state size (mfas_of available) t) (k + 1)) ≡ true
    → IfSome (in_hand size (mfas_of available) (line_state size (mfas_of available) t) (k + 1)) (λ member. frame ≡ frame_at available member.frame)
    → IfSome (in_hand size (mfas_of available) (line_state size (mfas_of available) t) (k + 1)) (λ member. expected ≡ member.expected)
    → frames_in size available t k ++ record { frame = frame; expected = expected } ∷ [] ≡ frames_in size available t (k + 1)
one_frame size available frame t k expected some hand number =
    by_hand (in_hand size (mfas_of available) (line_state size (mfas_of available) t) (k + 1)) some hand number ∙ sym (frames_more size available t k)
  where
    of_frame : List ℕ → ℕ → Taken
    of_frame f e = record { frame = f; expected = e }

    by_hand : (member : Option Lock) → is_some member ≡ true → IfSome member (λ m. frame ≡ frame_at available m.frame) → IfSome member (λ m. expected ≡ m.expected)
        → frames_in size available t k ++ of_frame frame expected ∷ [] ≡ frames_in size available t k ++ member_of available member
    by_hand None e h n = absurd (cc)
    by_hand (Some lock) e h n =
        let same : of_frame frame expected ≡ of_frame (frame_at available lock.frame) lock.expected = ap (λ f. of_frame f expected) h ∙ ap (of_frame (frame_at available lock.frame)) n in
        ap (λ x. frames_in size available t k ++ x ∷ []) same

-- after a piece that has no frame in hand no sink has taken more
pub piece_none : (form : LineForm) (first was now : InView) (read : List ℕ) (t : ℕ) (old new : LineView) (watched : List Watched) (msi : List (ℕ × ℕ))
    → new.pieces ≡ old.pieces + 1 → new.has_frame ≡ false → new.kind ≡ old.kind → frames_taken new ≡ frames_taken old
    → ViewStands form first was read t old watched msi → PieceStands form first now read t old new → ViewMoves form first now read t old new watched watched msi
piece_none form first was now read t old new watched msi pieces none kind count h p =
    let same : (available : List ℕ) → MayBe form.scrambled new.reader.ending (read ++ p.further) available → frames_in (size_of form) available t new.pieces ≡ frames_in (size_of form) available t old.pieces
    = λ available may.
    let is = p.stands.is_line available may in
    let hand = subst (λ k. is_some (in_hand (size_of form) (mfas_of available) (line_state (size_of form) (mfas_of available) t) k) ≡ false) pieces (sym is.has_frame ∙ none) in
    ap (frames_in (size_of form) available t) pieces ∙ no_frame (size_of form) available t old.pieces hand in
    record {
      further = p.further;
      stands = record {
        line_is = p.stands;
        step = λ i one at. let s = h.step i one at in record { kind = s.kind ∙ sym kind; taken = s.taken ∙ ap (taken_by (begun one t)) (sym count); port = s.port };
        sinks = λ available may i one at.
            subst (λ xs. StandsAfter (own_of one) (views_from (own_of one) one.first available t) (frames_by (begun one t) xs) one.sink) (sym (same available may)) (h.sinks available (p.earlier available may) i one at);
        msi_is = λ available may. h.msi_is available (p.earlier available may) ∙ ap (flat_map (msi_in (all_slots form))) (sym (same available may));
      };
      earlier = p.earlier;
      shows = refl;
    }

-- a sink is in step after a frame
frame_step : (old new : LineView) (t : ℕ) (frame : Taken) (one two : Watched) (b : Bool) → begun one t ≡ b → TookFrame t frame one two → IsInStep old t one
    → new.kind ≡ old.kind → frames_taken new ≡ frames_taken old + 1 → frames_taken old < slots_of old.kind → IsInStep new t two
frame_step old new t frame one two b on took s kind count few = record {
  kind = ap (λ (x : LineSlots). x.kind) took.same.slots ∙ s.kind ∙ sym kind;
  taken = by_turn b on;
  port = took.same.port ∙ s.port ∙ sym took.same.sink_port;
}
  where
    same_turn : begun two t ≡ begun one t
    same_turn = ap (λ n. nat_le n t) took.same.first

    by_turn : (b : Bool) → begun one t ≡ b → two.sink.taken ≡ taken_by (begun two t) (frames_taken new)
    by_turn true on =
        let had : one.sink.taken ≡ frames_taken old = s.taken ∙ ap (λ b. taken_by b (frames_taken old)) on in
        let room = subst (λ n. n < slots_of one.sink.slots.kind) (sym had) (subst (λ k. frames_taken old < slots_of k) (sym s.kind) few) in
        took.count on room ∙ ap (λ n. n + 1) had ∙ sym count ∙ sym (ap (λ b. taken_by b (frames_taken new)) (same_turn ∙ on))
    by_turn false on =
        ap (λ (x : Sink). x.taken) (took.waits on) ∙ s.taken ∙ ap (λ b. taken_by b (frames_taken old)) on ∙ sym (ap (λ b. taken_by b (frames_taken new)) (same_turn ∙ on))

-- it has seen one frame more, or waits
frame_seen : (form : LineForm) (available : List ℕ) (t k m : ℕ) (line : LineView) (frame : Taken) (one two : Watched) (b : Bool) → begun one t ≡ b → TookFrame t frame one two → IsInStep line t one
    → frames_taken line < slots_of line.kind → frames_in (size_of form) available t k ++ frame ∷ [] ≡ frames_in (size_of form) available t m → HasSeen form available t k one → HasSeen form available t m two
frame_seen form available t k m line frame one two true on took s few frames h =
    let had : one.sink.taken ≡ frames_taken line = s.taken ∙ ap (λ b. taken_by b (frames_taken line)) on in
    let room = subst (λ n. n < slots_of one.sink.slots.kind) (sym had) (subst (λ k. frames_taken line < slots_of k) (sym s.kind) few) in
    let views = views_from (own_of one) one.first available t in
    let before = subst (λ b. StandsAfter (own_of one) views (frames_by b (frames_in (size_of form) available t k)) one.sink) on h in
    has_seen form available t m one two views (frames_in (size_of form) available t k ++ frame ∷ []) took.same refl
    (frames ∙ sym (ap (λ b. frames_by b (frames_in (size_of form) available t m)) on))
    (took.stands on room (own_of one) views (frames_in (size_of form) available t k) before)
frame_seen form available t k m line frame one two false on took s few frames h =
    let none = λ (n : ℕ). ap (λ b. frames_by b (frames_in (size_of form) available t n)) on in
    seen_still form available t t k m one two took.same (took.waits on) refl (none k ∙ sym (none m)) h

-- after a piece that has a frame in hand each sink that has begun has taken this one
pub piece_frame : (form : LineForm) (first was now : InView) (read : List ℕ) (t expected : ℕ) (old new : LineView) (olds news : List Watched) (msi more : List (ℕ × ℕ))
    → new.pieces ≡ old.pieces + 1 → new.has_frame ≡ true → new.kind ≡ old.kind → frames_taken new ≡ frames_taken old + 1 → frames_taken old < slots_of old.kind
    → ViewStands form first was read t old olds msi → (p : PieceStands form first now read t old new)
    → ((available : List ℕ) → MayBe form.scrambled new.reader.ending (read ++ p.further) available
    → IfSome (in_hand (size_of form) (mfas_of available) (line_state (size_of form) (mfas_of available) t) new.pieces) (λ member. expected ≡ member.expected))
    → EachWatched (TookFrame t (record { frame = new.reader.hand; expected = expected })) olds news
    → more ≡ msi ++ msi_in (all_slots form) (record { frame = new.reader.hand; expected = expected })
    → ViewMoves form first now read t old new olds news more
piece_frame form first was now read t expected old new olds news msi more pieces some kind count few h p number takes noted =
    let frame : Taken = record { frame = new.reader.hand; expected = expected } in
    let frames : (available : List ℕ) → MayBe form.scrambled new.reader.ending (read ++ p.further) available
    → frames_in (size_of form) available t old.pieces ++ frame ∷ [] ≡ frames_in (size_of form) available t new.pieces
    = λ available may.
    let is = p.stands.is_line available may in
    let there = subst (λ k. is_some (in_hand (size_of form) (mfas_of available) (line_state (size_of form) (mfas_of available) t) k) ≡ true) pieces (sym is.has_frame ∙ some) in
    let hand = subst (λ k. IfSome (in_hand (size_of form) (mfas_of available) (line_state (size_of form) (mfas_of available) t) k) (λ member. new.reader.hand ≡ frame_at available member.frame)) pieces is.hand in
    let mfas = subst (λ k. IfSome (in_hand (size_of form) (mfas_of available) (line_state (size_of form) (mfas_of available) t) k) (λ member. expected ≡ member.expected)) pieces (number available may) in
    one_frame (size_of form) available new.reader.hand t old.pieces expected there hand mfas ∙ sym (ap (frames_in (size_of form) available t) pieces) in
    record {
      further = p.further;
      stands = record {
        line_is = p.stands;
        step = λ i one at.
            let k = was_there (TookFrame t frame) olds news takes i one at in
            frame_step old new t frame k.0 one (begun k.0 t) refl k.1.1 (h.step i k.0 k.1.0) kind count few;
        sinks = λ available may i one at.
            let k = was_there (TookFrame t frame) olds news takes i one at in
            frame_seen form available t old.pieces new.pieces old frame k.0 one (begun k.0 t) refl k.1.1 (h.step i k.0 k.1.0) few (frames available may) (h.sinks available (p.earlier available may) i k.0 k.1.0);
        msi_is = λ available may.
            noted ∙ ap (λ xs. xs ++ msi_in (all_slots form) frame) (h.msi_is available (p.earlier available may))
            ∙ sym (msi_more (all_slots form) (frames_in (size_of form) available t old.pieces) frame) ∙ ap (flat_map (msi_in (all_slots form))) (frames available may);
      };
      earlier = p.earlier;
      shows = same_shows olds news takes.count (λ i a b at_a at_b. (takes.each i a b at_a at_b).same);
    }

-- nothing went by
pub moves_none : (form : LineForm) (first now : InView) (read : List ℕ) (t : ℕ) (line : LineView) (watched : List Watched) (msi : List (ℕ × ℕ)) → ViewStands form first now read t line watched msi
    → ViewMoves form first now read t line line watched watched msi
moves_none form first now read t line watched msi h =
    let all : read ++ [] ≡ read = append-nil read in
    record {
      further = [];
      stands = subst (λ xs. ViewStands form first now xs t line watched msi) (sym all) h;
      earlier = λ available may. subst (λ xs. MayBe form.scrambled line.reader.ending xs available) all may;
      shows = refl;
    }

-- some pieces and then some more
pub moves_twice : (form : LineForm) (first was now : InView) (read : List ℕ) (t : ℕ) (old mid new : LineView) (olds mids news : List Watched) (msi more : List (ℕ × ℕ))
    → (m : ViewMoves form first was read t old mid olds mids msi)
    → (ViewStands form first was (read ++ m.further) t mid mids msi → ViewMoves form first now (read ++ m.further) t mid new mids news more) → ViewMoves form first now read t old new olds news more
moves_twice form first was now read t old mid new olds mids news msi more m next =
    let n = next m.stands in
    let all : (read ++ m.further) ++ n.further ≡ read ++ (m.further ++ n.further) = append_assoc read m.further n.further in
    record {
      further = m.further ++ n.further;
      stands = subst (λ xs. ViewStands form first now xs t new news more) all n.stands;
      earlier = λ available may. m.earlier available (n.earlier available (subst (λ xs. MayBe form.scrambled new.reader.ending xs available) (sym all) may));
      shows = n.shows ∙ m.shows;
    }
