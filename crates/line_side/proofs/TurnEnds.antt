-- The end of any turn, of a line of which all bytes are fixed.
use Rattle.std.proofs.Common.{[], ◌≡◌, ◌≤◌, ◌+◌, ◌-◌, ◌/◌, ◌%◌, ◌^◌, min, max, ℕ, suc, Bool, true, false, cond, ltb, leb, List, Option, Some, None, length, take, drop, arith, refl, sym, ap, ◌∙◌, subst}
use Rattle.std.specs.Prelude.{slice_index, IsTrue, IfSome, is_some}
use Rattle.std.proofs.lemmas.Bool.{ltb-true, ltb-false, lt-ltb, le-ltb, leb-true, leb-false}
use Rattle.multiframe.specs.LineTurns.{Lock, LineState, Hunting, Locked, Ended, Outcome, CutShort, Lost, Whole, one_if, least_start, lock_from, lock_of, outcome_of, after_outcome, after_turn, used_in, used_at, wanted_in, wanted_from, wanted, lead_in, lead_in_of, lost_count, lost_at, is_lost, kept_if, after_hunt, line_state, wrong_count, multiframe_at}
use Rattle.multiframe.specs.Alignment.{taken_of, IsAlignmentOf}
use Rattle.line_side.specs.LineFile.{first_frames, frame_at, mfas_of}
use Rattle.line_side.specs.Counted.{HasCounted}
use Rattle.line_side.specs.Reader.{ReaderView, HasRead, count_of, rest_of}
use Rattle.otn_base.specs.Counts.{saturated}
use Rattle.line_side.specs.declared.ending.Ending.TheVariants.{Open}
use Rattle.multiframe.specs.TurnPieces.{ended_in, lead_in_by, AlignedIn}
use Rattle.line_side.specs.LineStands.{LineView}
use Rattle.line_side.specs.Steps.LineMoves.{EndMoves}
use Rattle.line_side.proofs.Beginnings.{same_wanted, same_used}
use Rattle.line_side.proofs.Turns.{LineIs, HuntIs, as_hunt}

wanted_suc : (size : ℕ) (ms : List ℕ) (t : ℕ) → wanted size ms (suc t) ≡ max (wanted size ms t) (wanted_in size ms (line_state size ms t) size)
unfolding wanted
wanted_suc size ms t = refl

lead_in_suc : (size : ℕ) (ms : List ℕ) (t : ℕ) → lead_in size ms (suc t) ≡ lead_in size ms t + lead_in_of size ms (line_state size ms t)
unfolding lead_in
lead_in_suc size ms t = refl

lost_suc : (size : ℕ) (ms : List ℕ) (t : ℕ) → lost_count size ms (suc t) ≡ lost_count size ms t + lost_at size ms (lock_of size ms (line_state size ms t))
unfolding lost_count
lost_suc size ms t = refl

pub line_state_suc : (size : ℕ) (ms : List ℕ) (t : ℕ) → line_state size ms (suc t) ≡ after_turn size ms (line_state size ms t)
unfolding line_state
line_state_suc size ms t = refl

pub line_state_none : (size : ℕ) (ms : List ℕ) → line_state size ms 0 ≡ Hunting 0
unfolding line_state
line_state_none size ms = refl

-- all pieces of a turn are done: u frames are used
record AtEnd (size : ℕ) (available : List ℕ) (n t u : ℕ) (line : LineView) : Type 0 where
  read : HasRead available n u (wanted size (mfas_of available) (suc t)) line.reader
  lead_in : line.lead_in ≡ saturated (lead_in size (mfas_of available) (suc t))

at_end : (size : ℕ) (available : List ℕ) (n t : ℕ) (st : LineState) (p : ℕ) (line : LineView) → size ≡ suc p → line_state size (mfas_of available) t ≡ st → LineIs size available n t st size line
    → AtEnd size available n t (used_in size (mfas_of available) st size) line
at_end size available n t st p line q e h = record {
  read = same_wanted available n _ _ _ line.reader (sym (wanted_suc size (mfas_of available) t ∙ ap (λ s. max (wanted size (mfas_of available) t) (wanted_in size (mfas_of available) s size)) e)) h.read;
  lead_in = h.lead_in ∙ ap (λ k. saturated (lead_in size (mfas_of available) t + lead_in_by size (mfas_of available) st k)) q
      ∙ ap saturated (sym (lead_in_suc size (mfas_of available) t ∙ ap (λ s. lead_in size (mfas_of available) t + lead_in_of size (mfas_of available) s) e));
}

-- the next turn
begin : (size : ℕ) (available : List ℕ) (n t u : ℕ) (st : LineState) (result : Bool) (old new : LineView) → AtEnd size available n t u old → EndMoves size result old new
    → u ≡ used_in size (mfas_of available) st 0 → wanted_in size (mfas_of available) st 0 ≤ wanted size (mfas_of available) (suc t) → AlignedIn size (mfas_of available) st 0 new.alignment
    → new.ended ≡ ended_in size (mfas_of available) st 0 → new.lost ≡ saturated (lost_count size (mfas_of available) (suc t))
    → LineIs size available n (suc t) st 0 new
begin size available n t u st result old new h m used cover alignment ended lost = record {
  read = (let P : ReaderView → Type 0 = λ r. HasRead available n (used_in size (mfas_of available) st 0) (max (wanted size (mfas_of available) (suc t)) (wanted_in size (mfas_of available) st 0)) r in
      subst P (sym m.reader) (same_used available n _ _ _ old.reader used (same_wanted available n _ _ _ old.reader (let e : wanted size (mfas_of available) (suc t) ≡ max (wanted size (mfas_of available) (suc t)) (wanted_in size (mfas_of available) st 0) = omega arith in e) h.read)));
  alignment = alignment;
  ended = ended;
  lead_in = m.lead_in ∙ h.lead_in ∙ ap saturated (let e : lead_in size (mfas_of available) (suc t) ≡ lead_in size (mfas_of available) (suc t) + 0 = omega arith in e);
  lost = lost;
}

lost_more : (size : ℕ) (ms : List ℕ) (t : ℕ) (st : LineState) (lock : Option Lock) → line_state size ms t ≡ st → lock_of size ms st ≡ lock → lost_count size ms (suc t) ≡ lost_count size ms t + lost_at size ms lock
lost_more size ms t st lock e l = lost_suc size ms t ∙ ap (λ s. lost_count size ms t + lost_at size ms (lock_of size ms s)) e ∙ ap (λ l. lost_count size ms t + lost_at size ms l) l

wanted_all : (size : ℕ) (ms : List ℕ) (t : ℕ) (st : LineState) → line_state size ms t ≡ st → wanted_in size ms st size ≤ wanted size ms (suc t)
wanted_all size ms t st e = let x : wanted size ms (suc t) ≡ max (wanted size ms t) (wanted_in size ms st size) = wanted_suc size ms t ∙ ap (λ s. max (wanted size ms t) (wanted_in size ms s size)) e in omega arith

-- what the end of a turn comes to
pub record Ends (size : ℕ) (available : List ℕ) (n t : ℕ) (st : LineState) (result : Bool) (new : LineView) : Type 0 where
  pub line : LineIs size available n (suc t) (after_turn size (mfas_of available) st) 0 new
  pub multiframe : result ≡ is_some (multiframe_at size (mfas_of available) (lock_of size (mfas_of available) st))

false_is : (b : Bool) → (IsTrue b → ⊥) → b ≡ false
false_is true h = absurd (h refl)
false_is false h = refl

-- the same where the turn is locked, by what becomes of it
record EndsBy (size : ℕ) (available : List ℕ) (n t : ℕ) (lock : Lock) (outcome : Outcome) (result : Bool) (new : LineView) : Type 0 where
  line : LineIs size available n (suc t) (after_outcome size lock outcome) 0 new
  multiframe : result ≡ is_some (kept_if outcome lock)

-- what is known of it
record LockedEnd (size : ℕ) (available : List ℕ) (n t : ℕ) (lock : Lock) (outcome : Outcome) (old : LineView) : Type 0 where
  read : AtEnd size available n t (min (length (mfas_of available)) (lock.frame + size)) old
  alignment : old.alignment ≡ Some (taken_of size (mfas_of available) lock)
  ended : old.ended ≡ ltb (length (mfas_of available)) (lock.frame + size)
  lost : old.lost ≡ saturated (lost_count size (mfas_of available) t)
  cover : lock.frame + size ≤ wanted size (mfas_of available) (suc t)
  outcome_is : outcome_of size (mfas_of available) lock ≡ outcome
  more : lost_count size (mfas_of available) (suc t) ≡ lost_count size (mfas_of available) t + one_if (is_lost outcome)

cut_end : (size : ℕ) (available : List ℕ) (n t : ℕ) (lock : Lock) (result : Bool) (old new : LineView) → ltb (length (mfas_of available)) (lock.frame + size) ≡ true → LockedEnd size available n t lock CutShort old → EndMoves size result old new
    → EndsBy size available n t lock CutShort result new
cut_end size available n t lock result old new c h m =
    let past = ltb-true _ _ c in
    let (answer, kept) = m.over (h.ended ∙ c) in
    let more = h.more in
    record {
      line = begin size available n t _ Ended result old new h.read m (let x : min (length (mfas_of available)) (lock.frame + size) ≡ length (mfas_of available) = omega arith in x) (omega arith) tt (m.ended ∙ h.ended ∙ c)
          (kept ∙ h.lost ∙ ap saturated (let e : lost_count size (mfas_of available) t ≡ lost_count size (mfas_of available) (suc t) = omega arith in e));
      multiframe = answer;
    }

lost_end : (size : ℕ) (available : List ℕ) (n t : ℕ) (lock : Lock) (result : Bool) (old new : LineView) → ltb (length (mfas_of available)) (lock.frame + size) ≡ false → LockedEnd size available n t lock Lost old → EndMoves size result old new
    → EndsBy size available n t lock Lost result new
lost_end size available n t lock result old new c h m =
    let still = ltb-false _ _ c in
    let turn = (m.locked (mfas_of available) lock (h.ended ∙ c) h.alignment).0 in
    let kept = (m.locked (mfas_of available) lock (h.ended ∙ c) h.alignment).1 in
    let after : IsAlignmentOf (Hunting (lock.frame + size)) new.alignment = (let P : Outcome → Type 0 = λ o. IsAlignmentOf (after_outcome size lock o) new.alignment in subst P h.outcome_is turn.after) in
    let none : result ≡ false = false_is result (λ t. absurd (let w = turn.multiframe.0 t in let x : Lost ≡ Whole = sym h.outcome_is ∙ w in cc)) in
    let more = h.more in
    let lost = h.lost in
    let counted : new.lost ≡ min (old.lost + 1) (2 ^ 64 - 1) = kept ∙ ap (λ b. cond b old.lost (min (old.lost + 1) (2 ^ 64 - 1))) none in
    record {
      line = begin size available n t _ (Hunting (lock.frame + size)) result old new h.read m (let x : min (length (mfas_of available)) (lock.frame + size) ≡ lock.frame + size = omega arith in x) (omega arith) after (m.ended ∙ h.ended ∙ c)
          (let e : new.lost ≡ min (lost_count size (mfas_of available) (suc t)) (2 ^ 64 - 1) = omega arith in e);
      multiframe = none;
    }

whole_end : (size : ℕ) (available : List ℕ) (n t : ℕ) (lock : Lock) (result : Bool) (old new : LineView) → ltb (length (mfas_of available)) (lock.frame + size) ≡ false → LockedEnd size available n t lock Whole old → EndMoves size result old new
    → EndsBy size available n t lock Whole result new
whole_end size available n t lock result old new c h m =
    let still = ltb-false _ _ c in
    let turn = (m.locked (mfas_of available) lock (h.ended ∙ c) h.alignment).0 in
    let kept = (m.locked (mfas_of available) lock (h.ended ∙ c) h.alignment).1 in
    let next : Lock = record { frame = lock.frame + size; expected = (lock.expected + size) % 256 } in
    let after : IsAlignmentOf (Locked next) new.alignment = (let P : Outcome → Type 0 = λ o. IsAlignmentOf (after_outcome size lock o) new.alignment in subst P h.outcome_is turn.after) in
    let some : result ≡ true = turn.multiframe.1 h.outcome_is in
    let more = h.more in
    let cover = h.cover in
    record {
      line = begin size available n t _ (Locked next) result old new h.read m (let x : min (length (mfas_of available)) (lock.frame + size) ≡ min (length (mfas_of available)) (lock.frame + size + 0) = omega arith in x) (omega arith) after
          (m.ended ∙ h.ended ∙ c ∙ sym (le-ltb (length (mfas_of available)) (lock.frame + size + 0) (omega arith)))
          (kept ∙ ap (λ b. cond b old.lost (min (old.lost + 1) (2 ^ 64 - 1))) some ∙ h.lost ∙ ap saturated (let e : lost_count size (mfas_of available) t ≡ lost_count size (mfas_of available) (suc t) = omega arith in e));
      multiframe = some;
    }

locked_end : (size : ℕ) (available : List ℕ) (n t : ℕ) (lock : Lock) (cut wrong result : Bool) (old new : LineView)
    → ltb (length (mfas_of available)) (lock.frame + size) ≡ cut → ltb (size / 2) (wrong_count lock.expected (take size (drop lock.frame (mfas_of available)))) ≡ wrong
    → LockedEnd size available n t lock (outcome_of size (mfas_of available) lock) old → EndMoves size result old new
    → EndsBy size available n t lock (outcome_of size (mfas_of available) lock) result new
locked_end size available n t lock cut wrong result old new c w h m = by_tests cut wrong c w
  where
    by_tests : (cut wrong : Bool) → ltb (length (mfas_of available)) (lock.frame + size) ≡ cut → ltb (size / 2) (wrong_count lock.expected (take size (drop lock.frame (mfas_of available)))) ≡ wrong
        → EndsBy size available n t lock (outcome_of size (mfas_of available) lock) result new
    by_tests true wrong c w =
        let o : outcome_of size (mfas_of available) lock ≡ CutShort = ap (λ b. cond b CutShort (cond (ltb (size / 2) (wrong_count lock.expected (take size (drop lock.frame (mfas_of available))))) Lost Whole)) c in
        let P : Outcome → Type 0 = λ o. LockedEnd size available n t lock o old in
        let Q : Outcome → Type 0 = λ o. EndsBy size available n t lock o result new in
        subst Q (sym o) (cut_end size available n t lock result old new c (subst P o h) m)
    by_tests false true c w =
        let o : outcome_of size (mfas_of available) lock ≡ Lost = ap (λ b. cond b CutShort (cond (ltb (size / 2) (wrong_count lock.expected (take size (drop lock.frame (mfas_of available))))) Lost Whole)) c ∙ ap (λ b. cond b Lost Whole) w in
        let P : Outcome → Type 0 = λ o. LockedEnd size available n t lock o old in
        let Q : Outcome → Type 0 = λ o. EndsBy size available n t lock o result new in
        subst Q (sym o) (lost_end size available n t lock result old new c (subst P o h) m)
    by_tests false false c w =
        let o : outcome_of size (mfas_of available) lock ≡ Whole = ap (λ b. cond b CutShort (cond (ltb (size / 2) (wrong_count lock.expected (take size (drop lock.frame (mfas_of available))))) Lost Whole)) c ∙ ap (λ b. cond b Lost Whole) w in
        let P : Outcome → Type 0 = λ o. LockedEnd size available n t lock o old in
        let Q : Outcome → Type 0 = λ o. EndsBy size available n t lock o result new in
        subst Q (sym o) (whole_end size available n t lock result old new c (subst P o h) m)

-- the end of a turn that hunted, by the least start among its eight frames
hunt_end : (size : ℕ) (available : List ℕ) (n t i : ℕ) (least : Option ℕ) (p : ℕ) (result : Bool) (old new : LineView) → size ≡ suc p → line_state size (mfas_of available) t ≡ Hunting i
    → least_start size (mfas_of available) i size ≡ least → HuntIs size available n t i least p old → AtEnd size available n t (used_at size (mfas_of available) (lock_from (mfas_of available) i least) i size) old
    → wanted_from size (mfas_of available) i least size ≤ wanted size (mfas_of available) (suc t) → EndMoves size result old new
    → LineIs size available n (suc t) (after_hunt size (mfas_of available) i (lock_from (mfas_of available) i least)) 0 new × (result ≡ is_some (multiframe_at size (mfas_of available) (lock_from (mfas_of available) i least)))
hunt_end size available n t i None p result old new q e l h at cover m = (by_test (leb (i + size) (length (mfas_of available))) refl, none.0)
  where
    none : (result ≡ false) × (new.lost ≡ old.lost) × (new.alignment ≡ None)
    none = m.hunted h.alignment

    counted : new.lost ≡ saturated (lost_count size (mfas_of available) (suc t))
    counted = none.1 ∙ h.lost ∙ ap saturated (let x = lost_more size (mfas_of available) t (Hunting i) None e (ap (lock_from (mfas_of available) i) l) in
        let y : lost_count size (mfas_of available) t ≡ lost_count size (mfas_of available) (suc t) = omega arith in y)

    by_test : (b : Bool) → leb (i + size) (length (mfas_of available)) ≡ b → LineIs size available n (suc t) (cond (leb (i + size) (length (mfas_of available))) (Hunting (i + size)) Ended) 0 new
    by_test true f =
        let some = leb-true _ _ f in
        let Q : LineState → Type 0 = λ s. LineIs size available n (suc t) s 0 new in
        subst Q (sym (ap (λ b. cond b (Hunting (i + size)) Ended) f))
        (begin size available n t _ (Hunting (i + size)) result old new at m (let x : min (length (mfas_of available)) (i + size) ≡ i + size = omega arith in x) (omega arith) none.2
        (m.ended ∙ h.ended ∙ le-ltb (length (mfas_of available)) (i + size) some) counted)
    by_test false f =
        let few = leb-false _ _ f in
        let Q : LineState → Type 0 = λ s. LineIs size available n (suc t) s 0 new in
        subst Q (sym (ap (λ b. cond b (Hunting (i + size)) Ended) f))
        (begin size available n t _ Ended result old new at m (let x : min (length (mfas_of available)) (i + size) ≡ length (mfas_of available) = omega arith in x) (omega arith) tt
        (m.ended ∙ h.ended ∙ lt-ltb (length (mfas_of available)) (i + size) few) counted)
hunt_end size available n t i (Some s) p result old new q e l h at cover m =
    let lock : Lock = record { frame = i + s; expected = slice_index (mfas_of available) (i + s) } in
    let x = locked_end size available n t lock _ _ result old new refl refl (record {
      read = at;
      alignment = (let P : ℕ → Type 0 = λ k. old.alignment ≡ Some (taken_of k (mfas_of available) lock) in subst P (sym q) h.alignment);
      ended = (let P : ℕ → Type 0 = λ k. old.ended ≡ ltb (length (mfas_of available)) (lock.frame + k) in subst P (sym q) h.ended);
      lost = h.lost;
      cover = omega arith;
      outcome_is = refl;
      more = lost_more size (mfas_of available) t (Hunting i) (Some lock) e (ap (lock_from (mfas_of available) i) l);
    }) m in
    (x.line, x.multiframe)

-- the end of any turn
pub turn_end : (size : ℕ) (available : List ℕ) (n t : ℕ) (st : LineState) (p : ℕ) (result : Bool) (old new : LineView) → size ≡ suc p → line_state size (mfas_of available) t ≡ st → LineIs size available n t st size old
    → EndMoves size result old new → Ends size available n t st result new
turn_end size available n t (Hunting i) p result old new q e h m =
    let least = least_start size (mfas_of available) i size in
    let U : ℕ → Type 0 = λ k. AtEnd size available n t (used_in size (mfas_of available) (Hunting i) k) old in
    let V : ℕ → Type 0 = λ k. AtEnd size available n t (used_at size (mfas_of available) (lock_from (mfas_of available) i least) i k) old in
    let at = subst V (sym q) (subst U q (at_end size available n t (Hunting i) p old q e h)) in
    let C : ℕ → Type 0 = λ k. wanted_in size (mfas_of available) (Hunting i) k ≤ wanted size (mfas_of available) (suc t) in
    let D : ℕ → Type 0 = λ k. wanted_from size (mfas_of available) i least k ≤ wanted size (mfas_of available) (suc t) in
    let cover = subst D (sym q) (subst C q (wanted_all size (mfas_of available) t (Hunting i) e)) in
    let L : ℕ → Type 0 = λ k. LineIs size available n t (Hunting i) k old in
    let x = hunt_end size available n t i least p result old new q e refl (as_hunt size available n t i p old (subst L q h)) at cover m in
    record { line = x.0; multiframe = x.1 }
turn_end size available n t (Locked lock) p result old new q e h m =
    let at = at_end size available n t (Locked lock) p old q e h in
    let x = locked_end size available n t lock _ _ result old new refl refl (record {
      read = at;
      alignment = h.alignment;
      ended = h.ended;
      lost = h.lost;
      cover = wanted_all size (mfas_of available) t (Locked lock) e;
      outcome_is = refl;
      more = lost_more size (mfas_of available) t (Locked lock) (Some lock) e refl;
    }) m in
    record { line = x.line; multiframe = x.multiframe }
turn_end size available n t Ended p result old new q e h m =
    let at = at_end size available n t Ended p old q e h in
    let (answer, kept) = m.over h.ended in
    let x = lost_more size (mfas_of available) t Ended None e refl in
    record {
      line = begin size available n t _ Ended result old new at m refl (omega arith) tt (m.ended ∙ h.ended)
          (kept ∙ h.lost ∙ ap saturated (let y : lost_count size (mfas_of available) t ≡ lost_count size (mfas_of available) (suc t) = omega arith in y));
      multiframe = answer;
    }

-- before the first turn nothing was read
pub turn_first : (size : ℕ) (available : List ℕ) (line : LineView) → line.alignment ≡ None → line.reader.ahead ≡ None → line.reader.ending ≡ Open → line.reader.frames ≡ 0 → line.reader.rest ≡ 0 → HasCounted [] line.reader.seen
    → line.ended ≡ false → line.lead_in ≡ 0 → line.lost ≡ 0 → LineIs size available 0 0 (Hunting 0) 0 line
unfolding wanted lead_in lost_count first_frames
turn_first size available line alignment ahead opened frames rest seen ended lead lost =
    let none : count_of line.reader.ahead ≡ 0 = ap count_of ahead in
    record {
      read = record {
        within = omega arith;
        ahead = (let P : Option (List ℕ) → Type 0 = λ a. IfSome a (λ frame. frame ≡ frame_at available 0) in subst P (sym ahead) tt);
        still = λ _. (omega arith, omega arith);
        over = λ closed. absurd (closed opened);
        frames = omega arith;
        rest = rest ∙ sym (ap (λ e. rest_of e available) opened);
        seen = seen;
      };
      alignment = alignment;
      ended = ended;
      lead_in = omega arith;
      lost = omega arith;
    }
