-- A turn of a sink on a line, from its pieces.
use Rattle.std.proofs.Common.{◌≡◌, ◌+◌, ◌∙◌, ℕ, Bool, true, false, List, [], ◌∷◌, ◌++◌, Option, refl, sym, ap, subst, add-one, append-nil, append_assoc}
use Rattle.std.specs.Prelude.{is_some}
use Rattle.port_base.specs.Views.{InView}
use Rattle.line_side.specs.LineForm.{plain_otu2}
use Rattle.line_side.specs.LineFile.{mfas_of}
use Rattle.line_side.specs.LineStands.{LineView, LineStands}
use Rattle.line_side.specs.MayBe.{MayBe}
use Rattle.multiframe.specs.LineTurns.{LineState, Hunting, Locked, Ended, line_state, multiframe, has_ended}
use Rattle.tributary_model.specs.Places.{Tributary, Taken, View}
use Rattle.trib_sink.specs.Sink.{Sink, StandsAfter, ended_view}
use Rattle.maintenance_signals.specs.Stream.{signal_byte}
use Rattle.maintenance_signals.specs.declared.signal.Signal.TheVariants.{Ais}
use Rattle.tributary_model.specs.Emission.{emission}
use Rattle.device_model.proofs.TurnFrames.{frames_none, turn_frames}
use Rattle.device_model.specs.LineViews.{view_at, views_until, emitted_at}
use Rattle.device_model.specs.TurnFrames.{frames_in}
use Rattle.tributary_line.specs.TapTurn.{TapView, TapStands, TurnMoves}
use Rattle.tributary_line.specs.Steps.TapTurn.{TapMoves}

-- nothing went by
pub moves_none : (own : Tributary) (first now : InView) (read : List ℕ) (t : ℕ) (tap : TapView) → TapStands own first now read t tap → TapMoves own first now read t tap tap
moves_none own first now read t tap h =
    let all : read ++ [] ≡ read = append-nil read in
    record {
      further = [];
      stands = subst (λ xs. TapStands own first now xs t tap) (sym all) h;
      earlier = λ available may. subst (λ xs. MayBe false tap.line.reader.ending xs available) all may;
    }

-- some pieces and then some more
pub moves_twice : (own : Tributary) (first was now : InView) (read : List ℕ) (t : ℕ) (old mid new : TapView) → (m : TapMoves own first was read t old mid)
    → (TapStands own first was (read ++ m.further) t mid → TapMoves own first now (read ++ m.further) t mid new) → TapMoves own first now read t old new
moves_twice own first was now read t old mid new m next =
    let n = next m.stands in
    let all : (read ++ m.further) ++ n.further ≡ read ++ (m.further ++ n.further) = append_assoc read m.further n.further in
    record {
      further = m.further ++ n.further;
      stands = subst (λ xs. TapStands own first now xs t new) all n.stands;
      earlier = λ available may. m.earlier available (n.earlier available (subst (λ xs. MayBe false new.line.reader.ending xs available) (sym all) may));
    }

-- before the first turn
pub tap_begins : (own : Tributary) (tap : TapView) → own.line_slots ≡ 8 → tap.line.pieces ≡ 0 → ((first : InView) → LineStands plain_otu2 first first [] 0 tap.line) → StandsAfter own [] [] tap.sink
    → (first : InView) → TapStands own first first [] 0 tap
unfolding views_until frames_in
tap_begins own tap size between line sink first = record {
  size = size;
  line = line first;
  sink = λ available may. subst (λ k. StandsAfter own [] (frames_in 8 available 0 k) tap.sink) (sym between) sink;
}

-- whether the line has ended
ended_is : (s : LineState) (ended : Bool) → (ended ≡ true → s ≡ Ended) × (s ≡ Ended → ended ≡ true) → ended ≡ has_ended s
ended_is (Hunting i) true h = absurd (let e : Hunting i ≡ Ended = h.0 refl in cc)
ended_is (Hunting i) false h = refl
ended_is (Locked lock) true h = absurd (let e : Locked lock ≡ Ended = h.0 refl in cc)
ended_is (Locked lock) false h = refl
ended_is Ended true h = refl
ended_is Ended false h = absurd (let e : false ≡ true = h.1 refl in cc)

-- one turn more
views_more : (own : Tributary) (available : List ℕ) (t : ℕ) → views_until own available (t + 1) ≡ view_at own available t ∷ views_until own available t
unfolding views_until
views_more own available t = rw (add-one t) refl

-- what it emits
emission_at : (own : Tributary) (available : List ℕ) (t : ℕ) → emission own (signal_byte Ais) (views_until own available t) (view_at own available t) ≡ emitted_at own available t
unfolding emitted_at
emission_at own available t = refl

-- the end of a turn whose pieces are done
pub turn_ends : (own : Tributary) (first now : InView) (read : List ℕ) (t : ℕ) (old mid : TapView) (whole : Bool) (line : LineView) (sink : Sink) (emitted : List ℕ)
    → (m : TapMoves own first now read t old mid) → mid.line.pieces ≡ 8 → line.pieces ≡ 0 → line.reader.ending ≡ mid.line.reader.ending
    → LineStands plain_otu2 first now (read ++ m.further) (t + 1) line
    → ((available : List ℕ) → MayBe false mid.line.reader.ending (read ++ m.further) available → whole ≡ is_some (multiframe 8 (mfas_of available) t))
    → ((available : List ℕ) → MayBe false mid.line.reader.ending (read ++ m.further) available
    → (line.ended ≡ true → line_state 8 (mfas_of available) (t + 1) ≡ Ended) × (line_state 8 (mfas_of available) (t + 1) ≡ Ended → line.ended ≡ true))
    → ((past : List (Option View)) (frames : List Taken) → StandsAfter own past frames mid.sink → StandsAfter own (ended_view own whole frames ∷ past) [] sink)
    → ((past : List (Option View)) (frames : List Taken) → StandsAfter own past frames mid.sink → emitted ≡ emission own (signal_byte Ais) past (ended_view own whole frames))
    → TurnMoves own first now read t old (record { line = line; sink = sink }) emitted
turn_ends own first now read t old mid whole line sink emitted m eight none ending stands multi ends sinks bytes =
    let earlier : (available : List ℕ) → MayBe false line.reader.ending (read ++ m.further) available → MayBe false mid.line.reader.ending (read ++ m.further) available
    = λ available may. subst (λ e. MayBe false e (read ++ m.further) available) ending may in
    let took : (available : List ℕ) → MayBe false mid.line.reader.ending (read ++ m.further) available → StandsAfter own (views_until own available t) (frames_in 8 available t 8) mid.sink
    = λ available may. subst (λ k. StandsAfter own (views_until own available t) (frames_in 8 available t k) mid.sink) eight (m.stands.sink available may) in
    record {
      further = m.further;
      stands = record {
        size = m.stands.size;
        line = stands;
        sink = λ available may.
            let view = turn_frames own 8 available t whole m.stands.size (multi available (earlier available may)) in
            let views = ap (λ v. v ∷ views_until own available t) view ∙ sym (views_more own available t) in
            let frames = sym (ap (frames_in 8 available (t + 1)) none ∙ frames_none 8 available (t + 1)) in
            subst (λ fs. StandsAfter own (views_until own available (t + 1)) fs sink) frames
            (subst (λ vs. StandsAfter own vs [] sink) views (sinks (views_until own available t) (frames_in 8 available t 8) (took available (earlier available may))));
      };
      earlier = λ available may. m.earlier available (earlier available may);
      emits = λ available may.
          let st = took available (earlier available may) in
          let view = turn_frames own 8 available t whole m.stands.size (multi available (earlier available may)) in
          bytes (views_until own available t) (frames_in 8 available t 8) st
          ∙ ap (emission own (signal_byte Ais) (views_until own available t)) view ∙ emission_at own available t;
      ended = λ available may. ended_is (line_state 8 (mfas_of available) (t + 1)) line.ended (ends available (earlier available may));
    }
