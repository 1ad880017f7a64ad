-- The pieces of a turn, with a sink on the line.
use Rattle.std.proofs.Common.{◌≡◌, ◌+◌, ◌∙◌, ℕ, true, false, List, [], ◌∷◌, ◌++◌, Option, Some, None, refl, sym, ap, subst, add-one, append-nil}
use Rattle.std.specs.Prelude.{is_some, IfSome}
use Rattle.port_base.specs.Views.{InView}
use Rattle.line_side.specs.LineForm.{plain_otu2}
use Rattle.line_side.specs.LineFile.{frame_at, mfas_of}
use Rattle.line_side.specs.LineStands.{LineView, PieceStands}
use Rattle.line_side.specs.MayBe.{MayBe}
use Rattle.multiframe.specs.LineTurns.{Lock, line_state}
use Rattle.multiframe.specs.TurnPieces.{in_hand}
use Rattle.tributary_model.specs.Places.{Tributary, Taken, View}
use Rattle.trib_sink.specs.Sink.{Sink, StandsAfter}
use Rattle.device_model.specs.LineViews.{views_until}
use Rattle.device_model.specs.TurnFrames.{member_of, frames_in}
use Rattle.tributary_line.specs.TapTurn.{TapView, TapStands}
use Rattle.tributary_line.specs.Steps.TapTurn.{TapMoves}

frames_more : (available : List ℕ) (t k : ℕ)
    → frames_in 8 available t (k + 1) ≡ frames_in 8 available t k ++ member_of available (in_hand 8 (mfas_of available) (line_state 8 (mfas_of available) t) (k + 1))
unfolding frames_in
frames_more available t k = rw (add-one k) refl

-- a piece with no frame in hand adds none
no_frame : (available : List ℕ) (t k : ℕ) → is_some (in_hand 8 (mfas_of available) (line_state 8 (mfas_of available) t) (k + 1)) ≡ false → frames_in 8 available t (k + 1) ≡ frames_in 8 available t k
no_frame available t k none =
    frames_more available t k ∙ by_hand (in_hand 8 (mfas_of available) (line_state 8 (mfas_of available) t) (k + 1)) none
  where
    by_hand : (hand : Option Lock) → is_some hand ≡ false → frames_in 8 available t k ++ member_of available hand ≡ frames_in 8 available t k
    by_hand None e = append-nil (frames_in 8 available t k)
    by_hand (Some lock) e = absurd (cc)

-- a piece with a frame in hand adds it
one_frame : (available frame : List ℕ) (t k expected : ℕ) → is_some (in_hand 8 (mfas_of available) (line_state 8 (mfas_of available) t) (k + 1)) ≡ true
    → IfSome (in_hand 8 (mfas_of available) (line_state 8 (mfas_of available) t) (k + 1)) (λ member. frame ≡ frame_at available member.frame)
    → IfSome (in_hand 8 (mfas_of available) (line_state 8 (mfas_of available) t) (k + 1)) (λ member. expected ≡ member.expected)
    → frames_in 8 available t k ++ record { frame = frame; expected = expected } ∷ [] ≡ frames_in 8 available t (k + 1)
one_frame available frame t k expected some hand number =
    by_hand (in_hand 8 (mfas_of available) (line_state 8 (mfas_of available) t) (k + 1)) some hand number ∙ sym (frames_more available t k)
  where
    of_frame : List ℕ → ℕ → Taken
    of_frame f e = record { frame = f; expected = e }

    by_hand : (member : Option Lock) → is_some member ≡ true → IfSome member (λ m. frame ≡ frame_at available m.frame) → IfSome member (λ m. expected ≡ m.expected)
        → frames_in 8 available t k ++ of_frame frame expected ∷ [] ≡ frames_in 8 available t k ++ member_of available member
    by_hand None e h n = absurd (cc)
    by_hand (Some lock) e h n =
        let same : of_frame frame expected ≡ of_frame (frame_at available lock.frame) lock.expected = ap (λ f. of_frame f expected) h ∙ ap (of_frame (frame_at available lock.frame)) n in
        ap (λ x. frames_in 8 available t k ++ x ∷ []) same

-- after a piece that has no frame in hand the sink has taken no more
pub piece_none : (own : Tributary) (first was now : InView) (read : List ℕ) (t : ℕ) (tap : TapView) (line : LineView)
    → line.pieces ≡ tap.line.pieces + 1 → line.has_frame ≡ false → TapStands own first was read t tap → PieceStands plain_otu2 first now read t tap.line line
    → TapMoves own first now read t tap (record { line = line; sink = tap.sink })
piece_none own first was now read t tap line pieces none h p = record {
  further = p.further;
  stands = record {
    size = h.size;
    line = p.stands;
    sink = λ available may.
        let is = p.stands.is_line available may in
        let hand = subst (λ k. is_some (in_hand 8 (mfas_of available) (line_state 8 (mfas_of available) t) k) ≡ false) pieces (sym is.has_frame ∙ none) in
        let frames = no_frame available t tap.line.pieces hand in
        subst (λ xs. StandsAfter own (views_until own available t) xs tap.sink) (sym (ap (frames_in 8 available t) pieces ∙ frames)) (h.sink available (p.earlier available may));
  };
  earlier = p.earlier;
}

-- after a piece that has a frame in hand the sink has taken this one
pub piece_frame : (own : Tributary) (first was now : InView) (read : List ℕ) (t expected : ℕ) (tap : TapView) (line : LineView) (sink : Sink)
    → line.pieces ≡ tap.line.pieces + 1 → line.has_frame ≡ true
    → TapStands own first was read t tap → (p : PieceStands plain_otu2 first now read t tap.line line)
    → ((available : List ℕ) → MayBe false line.reader.ending (read ++ p.further) available
    → IfSome (in_hand 8 (mfas_of available) (line_state 8 (mfas_of available) t) line.pieces) (λ member. expected ≡ member.expected))
    → ((past : List (Option View)) (frames : List Taken) → StandsAfter own past frames tap.sink
    → StandsAfter own past (frames ++ record { frame = line.reader.hand; expected = expected } ∷ []) sink)
    → TapMoves own first now read t tap (record { line = line; sink = sink })
piece_frame own first was now read t expected tap line sink pieces some h p number takes = record {
  further = p.further;
  stands = record {
    size = h.size;
    line = p.stands;
    sink = λ available may.
        let is = p.stands.is_line available may in
        let there = subst (λ k. is_some (in_hand 8 (mfas_of available) (line_state 8 (mfas_of available) t) k) ≡ true) pieces (sym is.has_frame ∙ some) in
        let hand = subst (λ k. IfSome (in_hand 8 (mfas_of available) (line_state 8 (mfas_of available) t) k) (λ member. line.reader.hand ≡ frame_at available member.frame)) pieces is.hand in
        let mfas = subst (λ k. IfSome (in_hand 8 (mfas_of available) (line_state 8 (mfas_of available) t) k) (λ member. expected ≡ member.expected)) pieces (number available may) in
        let frames = one_frame available line.reader.hand t tap.line.pieces expected there hand mfas ∙ sym (ap (frames_in 8 available t) pieces) in
        subst (λ xs. StandsAfter own (views_until own available t) xs sink) frames (takes (views_until own available t) (frames_in 8 available t tap.line.pieces) (h.sink available (p.earlier available may)));
  };
  earlier = p.earlier;
}
