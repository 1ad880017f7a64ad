-- A piece of any turn, of a line of which all bytes are fixed.
use Rattle.std.proofs.Common.{◌≡◌, ◌<◌, ◌≤◌, ◌+◌, ◌-◌, min, max, ℕ, zero, suc, Bool, true, false, List, [], ◌∷◌, ◌++◌, Option, Some, None, length, take, drop, arith, refl, sym, ap, ◌∙◌, subst}
use Rattle.std.specs.Prelude.{slice_index, IfSome, unwrap_or}
use Rattle.std.proofs.lemmas.Bool.{lt-ltb, le-ltb}
use Rattle.multiframe.specs.LineTurns.{Lock, LineState, Hunting, Locked, Ended, one_if, looked_ahead, least_start, lock_from, lock_of, used_in, used_at, wanted_in, wanted_from, wanted, lead_in, lost_count}
use Rattle.multiframe.specs.Alignment.{Alignment}
use Rattle.line_side.specs.LineFile.{frame_at, mfas_of}
use Rattle.line_side.specs.Reader.{HasRead}
use Rattle.otn_base.specs.Counts.{saturated}
use Rattle.multiframe.specs.TurnPieces.{ended_at, ended_in, lead_in_by, aligned_by, AlignedIn}
use Rattle.line_side.specs.LineStands.{LineView}
use Rattle.line_side.specs.Steps.LineMoves.{TookFrame, FoundNone, HuntLocked, HuntFailed}
use Rattle.line_side.proofs.Beginnings.{same_wanted, same_used}
use Rattle.line_side.proofs.Moves.{start_looked}
use Rattle.line_side.proofs.Mfas.{length_mfas}
use Rattle.line_side.proofs.LockedTurns.{InLocked, MemberAt, has_frame_at, take_next, took_next, found_none, ended_before}

-- the line has this state before a turn, and k pieces of the turn are done
pub record LineIs (size : ℕ) (available : List ℕ) (n t : ℕ) (st : LineState) (k : ℕ) (line : LineView) : Type 0 where
  pub read : HasRead available n (used_in size (mfas_of available) st k) (max (wanted size (mfas_of available) t) (wanted_in size (mfas_of available) st k)) line.reader
  pub alignment : AlignedIn size (mfas_of available) st k line.alignment
  pub ended : line.ended ≡ ended_in size (mfas_of available) st k
  pub lead_in : line.lead_in ≡ saturated (lead_in size (mfas_of available) t + lead_in_by size (mfas_of available) st k)
  pub lost : line.lost ≡ saturated (lost_count size (mfas_of available) t)

-- whether the piece after k pieces of the turn came to a frame of its multiframe, and to which
pub record MemberIs (size : ℕ) (available : List ℕ) (st : LineState) (k : ℕ) (result : Bool) (line : LineView) : Type 0 where
  pub has_frame : result ≡ has_frame_at (mfas_of available) (lock_of size (mfas_of available) st) k
  pub hand : result ≡ true → IfSome (lock_of size (mfas_of available) st) (λ lock. line.reader.hand ≡ frame_at available (lock.frame + k))

-- the same where the turn hunts at frame i, k pieces after the first one, by the least start among the frames tried
pub record HuntIs (size : ℕ) (available : List ℕ) (n t i : ℕ) (least : Option ℕ) (k : ℕ) (line : LineView) : Type 0 where
  pub read : HasRead available n (used_at size (mfas_of available) (lock_from (mfas_of available) i least) i (suc k)) (max (wanted size (mfas_of available) t) (wanted_from size (mfas_of available) i least (suc k))) line.reader
  pub alignment : aligned_by (mfas_of available) (lock_from (mfas_of available) i least) (suc k) line.alignment
  pub ended : line.ended ≡ ended_at size (mfas_of available) (lock_from (mfas_of available) i least) i (suc k)
  pub lead_in : line.lead_in ≡ saturated (lead_in size (mfas_of available) t + unwrap_or least (min size (length (mfas_of available) - i)))
  pub lost : line.lost ≡ saturated (lost_count size (mfas_of available) t)

-- the same where the turn hunts at frame i
pub record HuntMember (size : ℕ) (available : List ℕ) (i : ℕ) (least : Option ℕ) (k : ℕ) (result : Bool) (line : LineView) : Type 0 where
  pub has_frame : result ≡ has_frame_at (mfas_of available) (lock_from (mfas_of available) i least) k
  pub hand : result ≡ true → IfSome (lock_from (mfas_of available) i least) (λ lock. line.reader.hand ≡ frame_at available (lock.frame + k))

pub as_hunt : (size : ℕ) (available : List ℕ) (n t i k : ℕ) (line : LineView) → LineIs size available n t (Hunting i) (suc k) line → HuntIs size available n t i (least_start size (mfas_of available) i size) k line
as_hunt size available n t i k line h = record { read = h.read; alignment = h.alignment; ended = h.ended; lead_in = h.lead_in; lost = h.lost }

pub of_hunt : (size : ℕ) (available : List ℕ) (n t i k : ℕ) (line : LineView) → HuntIs size available n t i (least_start size (mfas_of available) i size) k line → LineIs size available n t (Hunting i) (suc k) line
of_hunt size available n t i k line h = record { read = h.read; alignment = h.alignment; ended = h.ended; lead_in = h.lead_in; lost = h.lost }

-- what a piece says of all bytes that may come
pub record Moved (size : ℕ) (available : List ℕ) (n n' : ℕ) (first result : Bool) (old new : LineView) : Type 0 where
  pub over : old.ended ≡ true → (n' ≡ n) × (new ≡ old) × (result ≡ false)
  pub lost : new.lost ≡ old.lost
  pub lead_in : (a : Alignment) → old.alignment ≡ Some a → new.lead_in ≡ old.lead_in
  pub frame : (a : Alignment) → old.ended ≡ false → old.alignment ≡ Some a → result ≡ true → (u w : ℕ) → HasRead available n u w old.reader → TookFrame available n' u (max w (u + 1)) old new
  pub none : (a : Alignment) → old.ended ≡ false → old.alignment ≡ Some a → result ≡ false → (u w : ℕ) → HasRead available n u w old.reader → FoundNone available n' u (max w (u + 1)) old new
  pub locks : old.ended ≡ false → old.alignment ≡ None → first ≡ true → result ≡ true → (i w : ℕ) → HasRead available n i w old.reader → (m : ℕ) × HuntLocked size available n' i w m old new
  pub fails : old.ended ≡ false → old.alignment ≡ None → first ≡ true → result ≡ false → (i w : ℕ) → HasRead available n i w old.reader → HuntFailed size available n' i w old new
  pub waiting : old.ended ≡ false → old.alignment ≡ None → first ≡ false → (n' ≡ n) × (new ≡ old) × (result ≡ false)

-- a piece of a turn that is locked
locked_piece : (size : ℕ) (available : List ℕ) (n n' : ℕ) (first result : Bool) (lock : Lock) (k w w' : ℕ) (old new : LineView) → InLocked available n lock k w old → max w (lock.frame + k + 1) ≡ w' → lock.frame + k ≤ w
    → Moved size available n n' first result old new → InLocked available n' lock (suc k) w' new × MemberAt available lock k result new
locked_piece size available n n' first result lock k w w' old new h more cover m = by_ended old.ended result refl refl
  where
    by_ended : (ended has_frame : Bool) → old.ended ≡ ended → result ≡ has_frame → InLocked available n' lock (suc k) w' new × MemberAt available lock k result new
    by_ended true has_frame e f =
        let (same, line, answer) = m.over e in
        let x = ended_before available n lock k w w' old h e cover (omega arith) in (
          rw (same, line) x.0,
          record {
            has_frame = answer ∙ x.1.has_frame;
            hand = λ t. absurd (cc);
          },
        )
    by_ended false true e f =
        let x = took_next available n n' lock k w w' old new h e more (m.frame _ e h.alignment f _ w h.read) in
        (x.0, record { has_frame = f ∙ x.1.has_frame; hand = λ t. x.1.hand refl })
    by_ended false false e f =
        let x = found_none available n n' lock k w w' old new h e more (m.none _ e h.alignment f _ w h.read) in
        (x.0, record { has_frame = f ∙ x.1.has_frame; hand = λ t. absurd (cc) })

-- a later piece of a turn that hunted
hunt_piece : (size : ℕ) (available : List ℕ) (n n' t i : ℕ) (least : Option ℕ) (k : ℕ) (result : Bool) (old new : LineView) → HuntIs size available n t i least k old → Moved size available n n' false result old new
    → HuntIs size available n' t i least (suc k) new × HuntMember size available i least (suc k) result new
hunt_piece size available n n' t i None k result old new h m = same (by_ended old.ended refl)
  where
    by_ended : (b : Bool) → old.ended ≡ b → (n' ≡ n) × (new ≡ old) × (result ≡ false)
    by_ended true e = m.over e
    by_ended false e = m.waiting e h.alignment refl

    same : (n' ≡ n) × (new ≡ old) × (result ≡ false) → HuntIs size available n' t i None (suc k) new × HuntMember size available i None (suc k) result new
    same (e, line, answer) = (rw (e, line) (record { read = h.read; alignment = h.alignment; ended = h.ended; lead_in = h.lead_in; lost = h.lost }), record { has_frame = answer; hand = λ t. absurd (cc) })
hunt_piece size available n n' t i (Some s) k result old new h m =
    let W = max (wanted size (mfas_of available) t) (wanted_from size (mfas_of available) i (Some s) (suc k)) in
    let W' = max (wanted size (mfas_of available) t) (wanted_from size (mfas_of available) i (Some s) (suc (suc k))) in
    let lock : Lock = record { frame = i + s; expected = slice_index (mfas_of available) (i + s) } in
    let x = locked_piece size available n n' false result lock (suc k) W W' old new (record { read = h.read; alignment = h.alignment; ended = h.ended }) (omega arith) (omega arith) m in (
      record { read = x.0.read; alignment = x.0.alignment; ended = x.0.ended; lead_in = m.lead_in _ h.alignment ∙ h.lead_in; lost = m.lost ∙ h.lost },
      record { has_frame = x.1.has_frame; hand = x.1.hand },
    )

of_member : (size : ℕ) (available : List ℕ) (i k : ℕ) (result : Bool) (line : LineView) → HuntMember size available i (least_start size (mfas_of available) i size) k result line → MemberIs size available (Hunting i) k result line
of_member size available i k result line h = record { has_frame = h.has_frame; hand = h.hand }

-- the first piece of a turn that hunts
first_locks : (size : ℕ) (available : List ℕ) (n n' t i s : ℕ) (result : Bool) (old new : LineView) → LineIs size available n t (Hunting i) 0 old → Moved size available n n' true result old new → result ≡ true
    → HuntLocked size available n' i (max (wanted size (mfas_of available) t) 0) s old new
    → HuntIs size available n' t i (Some s) 0 new × HuntMember size available i (Some s) 0 result new
first_locks size available n n' t i s result old new h m f x =
    let count = length_mfas available in
    let inside : i + s + 1 < length (mfas_of available) = (start_looked size (mfas_of available) (i + s) x.locked.start).0 in
    let here : i + s + 0 ≡ i + s = omega arith in
    let fresh : take 0 (drop (i + s) (mfas_of available)) ++ slice_index (mfas_of available) (i + s + 0) ∷ [] ≡ take 1 (drop (i + s) (mfas_of available)) = take_next (mfas_of available) (i + s) 0 (omega arith) in (
      record {
        read = same_used available n' _ _ _ new.reader (let e : i + s + 1 ≡ min (length (mfas_of available)) (i + s + 1) = omega arith in e)
            (same_wanted available n' _ _ _ new.reader (let e : max (max (wanted size (mfas_of available) t) 0) (i + s + 2) ≡ max (wanted size (mfas_of available) t) (i + s + 2) = omega arith in e) x.locked.read);
        alignment = x.locked.alignment ∙ ap (λ l. Some (record { expected = slice_index (mfas_of available) (i + s); taken = l }))
            (ap (λ u. slice_index (mfas_of available) u ∷ []) (sym here) ∙ fresh);
        ended = x.locked.ended ∙ h.ended ∙ sym (le-ltb (length (mfas_of available)) (i + s + 1) (omega arith));
        lead_in = x.passes_over (lead_in size (mfas_of available) t + 0) h.lead_in ∙ ap saturated (let e : lead_in size (mfas_of available) t + 0 + s ≡ lead_in size (mfas_of available) t + s = omega arith in e);
        lost = m.lost ∙ h.lost;
      },
      record {
        has_frame = f ∙ sym (lt-ltb (i + s + 0) (length (mfas_of available)) (omega arith));
        hand = λ _. x.locked.hand ∙ ap (frame_at available) (sym here);
      },
    )

first_fails : (size : ℕ) (available : List ℕ) (n n' t i : ℕ) (result : Bool) (old new : LineView) → LineIs size available n t (Hunting i) 0 old → Moved size available n n' true result old new → result ≡ false
    → HuntFailed size available n' i (max (wanted size (mfas_of available) t) 0) old new
    → HuntIs size available n' t i None 0 new × HuntMember size available i None 0 result new
first_fails size available n n' t i result old new h m f x = (
  record {
    read = same_wanted available n' _ _ _ new.reader
        (let e : (x : ℕ) → max (max (wanted size (mfas_of available) t) 0) x ≡ max (wanted size (mfas_of available) t) x = λ x. omega arith in e (i + size + one_if (looked_ahead size (mfas_of available) (i + size - 1)))) x.read;
    alignment = x.alignment ∙ h.alignment;
    ended = x.ended;
    lead_in = x.passes_over (lead_in size (mfas_of available) t + 0) h.lead_in
        ∙ ap saturated (let e : lead_in size (mfas_of available) t + 0 + min size (length (mfas_of available) - i) ≡ lead_in size (mfas_of available) t + min size (length (mfas_of available) - i) = omega arith in e);
    lost = m.lost ∙ h.lost;
  },
  record { has_frame = f; hand = λ t. absurd (cc) },
)

first_piece : (size : ℕ) (available : List ℕ) (n n' t i : ℕ) (result : Bool) (old new : LineView) → LineIs size available n t (Hunting i) 0 old → Moved size available n n' true result old new
    → LineIs size available n' t (Hunting i) 1 new × MemberIs size available (Hunting i) 0 result new
first_piece size available n n' t i result old new h m = back (by_result result refl)
  where
    back : HuntIs size available n' t i (least_start size (mfas_of available) i size) 0 new × HuntMember size available i (least_start size (mfas_of available) i size) 0 result new → LineIs size available n' t (Hunting i) 1 new × MemberIs size available (Hunting i) 0 result new
    back (x, y) = (of_hunt size available n' t i 0 new x, of_member size available i 0 result new y)

    by_result : (b : Bool) → result ≡ b → HuntIs size available n' t i (least_start size (mfas_of available) i size) 0 new × HuntMember size available i (least_start size (mfas_of available) i size) 0 result new
    by_result true f =
        let x = m.locks h.ended h.alignment refl f i _ h.read in
        let P : Option ℕ → Type 0 = λ o. HuntIs size available n' t i o 0 new × HuntMember size available i o 0 result new in
        subst P (sym x.1.least) (first_locks size available n n' t i x.0 result old new h m f x.1)
    by_result false f =
        let x = m.fails h.ended h.alignment refl f i _ h.read in
        let P : Option ℕ → Type 0 = λ o. HuntIs size available n' t i o 0 new × HuntMember size available i o 0 result new in
        subst P (sym x.least) (first_fails size available n n' t i result old new h m f x)

-- whether no piece of the turn was done
abbrev pub is_first : ℕ → Bool
is_first zero = true
is_first (suc k) = false

-- a piece of any turn
pub turn_piece : (size : ℕ) (available : List ℕ) (n n' t : ℕ) (st : LineState) (k : ℕ) (result : Bool) (old new : LineView) → LineIs size available n t st k old → Moved size available n n' (is_first k) result old new
    → LineIs size available n' t st (suc k) new × MemberIs size available st k result new
turn_piece size available n n' t (Hunting i) zero result old new h m = first_piece size available n n' t i result old new h m
turn_piece size available n n' t (Hunting i) (suc k) result old new h m =
    let x = hunt_piece size available n n' t i (least_start size (mfas_of available) i size) k result old new (as_hunt size available n t i k old h) m in
    (of_hunt size available n' t i (suc k) new x.0, of_member size available i (suc k) result new x.1)
turn_piece size available n n' t (Locked lock) k result old new h m =
    let w = max (wanted size (mfas_of available) t) (lock.frame + k) in
    let w' = max (wanted size (mfas_of available) t) (lock.frame + suc k) in
    let x = locked_piece size available n n' (is_first k) result lock k w w' old new (record { read = h.read; alignment = h.alignment; ended = h.ended }) (omega arith) (omega arith) m in (
      record {
        read = x.0.read;
        alignment = x.0.alignment;
        ended = x.0.ended;
        lead_in = m.lead_in _ h.alignment ∙ h.lead_in ∙ ap (λ x. saturated (lead_in size (mfas_of available) t + x)) (none_by k);
        lost = m.lost ∙ h.lost;
      },
      record { has_frame = x.1.has_frame; hand = x.1.hand },
    )
  where
    none_by : (k : ℕ) → lead_in_by size (mfas_of available) (Locked lock) k ≡ 0
    none_by zero = refl
    none_by (suc k) = refl
turn_piece size available n n' t Ended k result old new h m =
    let (e, line, answer) = m.over h.ended in (
      rw (e, line) (record {
        read = h.read;
        alignment = tt;
        ended = h.ended;
        lead_in = h.lead_in ∙ ap (λ x. saturated (lead_in size (mfas_of available) t + x)) (none_by k);
        lost = h.lost;
      }),
      record { has_frame = answer; hand = λ t. absurd (cc) },
    )
  where
    none_by : (k : ℕ) → lead_in_by size (mfas_of available) Ended k ≡ 0
    none_by zero = refl
    none_by (suc k) = refl
