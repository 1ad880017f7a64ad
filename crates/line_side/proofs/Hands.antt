-- The frame in hand, by the test and by the definition.
use Rattle.std.proofs.Common.{◌≡◌, ◌+◌, ◌%◌, ℕ, Bool, true, false, cond, ltb, List, Option, Some, None, length, refl, sym, ap, ◌∙◌, subst}
use Rattle.std.specs.Prelude.{IfSome, is_some}
use Rattle.multiframe.specs.LineTurns.{Lock}
use Rattle.line_side.specs.LineFile.{frame_at, mfas_of}
use Rattle.multiframe.specs.TurnPieces.{hand_at}
use Rattle.line_side.proofs.LockedTurns.{has_frame_at}

-- the frame in hand, by the test and by the definition
pub record HandIs (available : List ℕ) (lock : Option Lock) (k : ℕ) (result : Bool) (hand : List ℕ) : Type 0 where
  pub has_frame : result ≡ is_some (hand_at (mfas_of available) lock k)
  pub frame : IfSome (hand_at (mfas_of available) lock k) (λ member. hand ≡ frame_at available member.frame)

hand_by : (available : List ℕ) (lock : Lock) (k : ℕ) (result : Bool) (hand : List ℕ) (test : Bool) → ltb (lock.frame + k) (length (mfas_of available)) ≡ test → result ≡ test
    → (result ≡ true → hand ≡ frame_at available (lock.frame + k)) → HandIs available (Some lock) k result hand
hand_by available lock k result hand test e f h = by_test test e f
  where
    by_test : (test : Bool) → ltb (lock.frame + k) (length (mfas_of available)) ≡ test → result ≡ test → HandIs available (Some lock) k result hand
    by_test true e f =
        let there : hand_at (mfas_of available) (Some lock) k ≡ Some (record { frame = lock.frame + k; expected = (lock.expected + k) % 256 })
        = ap (λ b. cond b (Some (record { frame = lock.frame + k; expected = (lock.expected + k) % 256 })) None) e in
        let P : Option Lock → Type 0 = λ o. IfSome o (λ member. hand ≡ frame_at available member.frame) in
        record { has_frame = f ∙ sym (ap is_some there); frame = subst P (sym there) (h f) }
    by_test false e f =
        let gone : hand_at (mfas_of available) (Some lock) k ≡ None = ap (λ b. cond b (Some (record { frame = lock.frame + k; expected = (lock.expected + k) % 256 })) None) e in
        let P : Option Lock → Type 0 = λ o. IfSome o (λ member. hand ≡ frame_at available member.frame) in
        record { has_frame = f ∙ sym (ap is_some gone); frame = subst P (sym gone) tt }

pub hand_is : (available : List ℕ) (lock : Option Lock) (k : ℕ) (result : Bool) (hand : List ℕ) → result ≡ has_frame_at (mfas_of available) lock k
    → (result ≡ true → IfSome lock (λ lock. hand ≡ frame_at available (lock.frame + k))) → HandIs available lock k result hand
hand_is available None k result hand e h = record { has_frame = e; frame = tt }
hand_is available (Some lock) k result hand e h = hand_by available lock k result hand (ltb (lock.frame + k) (length (mfas_of available))) refl e h
