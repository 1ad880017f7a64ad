-- A locked turn, over plain views: its next frame is taken, or is not there.
use Rattle.std.proofs.Common.{◌≡◌, ◌<◌, ◌≤◌, ◌+◌, min, max, ℕ, zero, suc, Bool, true, false, ltb, List, [], ◌∷◌, ◌++◌, Option, Some, None, length, take, drop, arith, refl, sym, ap, ◌∙◌, length-drop}
use Rattle.std.specs.Prelude.{slice_index, option_map}
use Rattle.std.proofs.lemmas.Bool.{ltb-true, ltb-false, lt-ltb, le-ltb}
use Rattle.std.proofs.lemmas.List.{get_or-drop}
use Rattle.std.proofs.Math.Seq.{take-suc}
use Rattle.multiframe.specs.LineTurns.{Lock}
use Rattle.multiframe.specs.Alignment.{Alignment, with_frame, taken_of}
use Rattle.line_side.specs.LineFile.{frame_at, mfas_of}
use Rattle.line_side.specs.Reader.{HasRead}
use Rattle.line_side.specs.LineStands.{LineView}
use Rattle.line_side.specs.Steps.LineMoves.{TookFrame, FoundNone}
use Rattle.line_side.proofs.Beginnings.{same_wanted, same_used}
use Rattle.line_side.proofs.Hunting.{raised_wanted}
use Rattle.line_side.proofs.Mfas.{length_mfas}

-- whether the turn is locked, and the frame after k of its frames is whole
abbrev pub has_frame_at : List ℕ → Option Lock → ℕ → Bool
has_frame_at ms None k = false
has_frame_at ms (Some lock) k = ltb (lock.frame + k) (length ms)

-- ---- lists

-- one more frame of a turn
pub take_next : (ms : List ℕ) (f k : ℕ) → f + k < length ms → take k (drop f ms) ++ slice_index ms (f + k) ∷ [] ≡ take (suc k) (drop f ms)
take_next ms f k h =
    let n : k < length (drop f ms) = (let e = length-drop f ms in omega arith) in
    ap (λ x. take k (drop f ms) ++ x ∷ []) (sym (get_or-drop f ms k 0)) ∙ sym (take-suc (drop f ms) k 0 n)

-- no more frame of a turn
take_past : (xs : List ℕ) (k : ℕ) → length xs ≤ k → take k xs ≡ take (suc k) xs
take_past [] zero h = refl
take_past [] (suc k) h = refl
take_past (x ∷ xs) zero h = absurd (omega arith)
take_past (x ∷ xs) (suc k) h = ap (λ l. x ∷ l) (take_past xs k (omega arith))

-- the turn is locked, and k pieces of it are done
pub record InLocked (available : List ℕ) (n : ℕ) (lock : Lock) (k w : ℕ) (line : LineView) : Type 0 where
  pub read : HasRead available n (min (length (mfas_of available)) (lock.frame + k)) w line.reader
  pub alignment : line.alignment ≡ Some (taken_of k (mfas_of available) lock)
  pub ended : line.ended ≡ ltb (length (mfas_of available)) (lock.frame + k)

-- what its last piece came to
pub record MemberAt (available : List ℕ) (lock : Lock) (k : ℕ) (result : Bool) (line : LineView) : Type 0 where
  pub has_frame : result ≡ ltb (lock.frame + k) (length (mfas_of available))
  pub hand : result ≡ true → line.reader.hand ≡ frame_at available (lock.frame + k)

pub took_next : (available : List ℕ) (n n' : ℕ) (lock : Lock) (k w w' : ℕ) (old new : LineView) → InLocked available n lock k w old → old.ended ≡ false → max w (lock.frame + k + 1) ≡ w'
    → TookFrame available n' (min (length (mfas_of available)) (lock.frame + k)) (max w (min (length (mfas_of available)) (lock.frame + k) + 1)) old new
    → InLocked available n' lock (suc k) w' new × MemberAt available lock k true new
took_next available n n' lock k w w' old new h opened more took =
    let size = length_mfas available in
    let still = ltb-false _ _ (sym h.ended ∙ opened) in
    let there = took.there in
    let u : min (length (mfas_of available)) (lock.frame + k) ≡ lock.frame + k = omega arith in
    let inside : lock.frame + k < length (mfas_of available) = omega arith in (
      record {
        read = same_used available n' _ _ _ new.reader (let e : min (length (mfas_of available)) (lock.frame + k) + 1 ≡ min (length (mfas_of available)) (lock.frame + suc k) = omega arith in e)
            (same_wanted available n' _ _ _ new.reader (ap (λ u. max w (u + 1)) u ∙ more) took.read);
        alignment = took.alignment ∙ ap (λ u. option_map (with_frame (slice_index (mfas_of available) u)) old.alignment) u
            ∙ ap (option_map (with_frame (slice_index (mfas_of available) (lock.frame + k)))) h.alignment
            ∙ ap (λ l. Some (record { expected = lock.expected; taken = l })) (take_next (mfas_of available) lock.frame k inside);
        ended = took.ended ∙ opened ∙ sym (le-ltb (length (mfas_of available)) (lock.frame + suc k) (omega arith));
      },
      record {
        has_frame = sym (lt-ltb (lock.frame + k) (length (mfas_of available)) inside);
        hand = λ _. took.hand ∙ ap (frame_at available) u;
      },
    )

-- the frame of the next piece isn't there: nothing more is taken
gone_past : (available : List ℕ) (lock : Lock) (k : ℕ) (alignment : Option Alignment) → length (mfas_of available) ≤ lock.frame + k → alignment ≡ Some (taken_of k (mfas_of available) lock)
    → alignment ≡ Some (taken_of (suc k) (mfas_of available) lock)
gone_past available lock k alignment h e = e ∙ ap (λ l. Some (record { expected = lock.expected; taken = l }))
    (take_past (drop lock.frame (mfas_of available)) k (let n = length-drop lock.frame (mfas_of available) in omega arith))

pub found_none : (available : List ℕ) (n n' : ℕ) (lock : Lock) (k w w' : ℕ) (old new : LineView) → InLocked available n lock k w old → old.ended ≡ false → max w (lock.frame + k + 1) ≡ w'
    → FoundNone available n' (min (length (mfas_of available)) (lock.frame + k)) (max w (min (length (mfas_of available)) (lock.frame + k) + 1)) old new
    → InLocked available n' lock (suc k) w' new × MemberAt available lock k false new
found_none available n n' lock k w w' old new h opened more none =
    let size = length_mfas available in
    let still = ltb-false _ _ (sym h.ended ∙ opened) in
    let end = none.end in
    let u : min (length (mfas_of available)) (lock.frame + k) ≡ lock.frame + k = omega arith in
    let all : length (mfas_of available) ≡ lock.frame + k = omega arith in (
      record {
        read = same_used available n' _ _ _ new.reader (let e : min (length (mfas_of available)) (lock.frame + k) ≡ min (length (mfas_of available)) (lock.frame + suc k) = omega arith in e)
            (same_wanted available n' _ _ _ new.reader (ap (λ u. max w (u + 1)) u ∙ more) none.read);
        alignment = gone_past available lock k new.alignment (omega arith) (none.alignment ∙ h.alignment);
        ended = none.ended ∙ sym (lt-ltb (length (mfas_of available)) (lock.frame + suc k) (omega arith));
      },
      record {
        has_frame = sym (le-ltb (lock.frame + k) (length (mfas_of available)) (omega arith));
        hand = λ t. absurd (cc);
      },
    )

pub ended_before : (available : List ℕ) (n : ℕ) (lock : Lock) (k w w' : ℕ) (line : LineView) → InLocked available n lock k w line → line.ended ≡ true → lock.frame + k ≤ w → w ≤ w'
    → InLocked available n lock (suc k) w' line × MemberAt available lock k false line
ended_before available n lock k w w' line h over cover up =
    let size = length_mfas available in
    let past = ltb-true _ _ (sym h.ended ∙ over) in (
      record {
        read = same_used available n _ _ _ line.reader (let e : min (length (mfas_of available)) (lock.frame + k) ≡ min (length (mfas_of available)) (lock.frame + suc k) = omega arith in e)
            (raised_wanted available n _ w w' line.reader (omega arith) up h.read);
        alignment = gone_past available lock k line.alignment (omega arith) h.alignment;
        ended = over ∙ sym (lt-ltb (length (mfas_of available)) (lock.frame + suc k) (omega arith));
      },
      record {
        has_frame = sym (le-ltb (lock.frame + k) (length (mfas_of available)) (omega arith));
        hand = λ t. absurd (cc);
      },
    )
