-- The frames of a multiframe, as they come into the hand.
use Rattle.std.proofs.Common.{◌≡◌, ◌<◌, ◌≤◌, ◌+◌, ◌/◌, ◌%◌, ℕ, suc, Bool, true, false, cond, ltb, List, Option, Some, None, length, take, drop, arith, refl, ap, ◌∙◌}
use Rattle.std.proofs.lemmas.Bool.{ltb-false, lt-ltb}
use Rattle.multiframe.specs.LineTurns.{Lock, CutShort, Lost, Whole, lock_of, kept_if, multiframe, multiframe_at, line_state, wrong_count}
use Rattle.multiframe.specs.TurnPieces.{in_hand, hand_at}

-- where a turn has a multiframe, its frames are whole
whole_frames : (size : ℕ) (ms : List ℕ) (lock : Lock) (member : Lock) (cut wrong : Bool) → ltb (length ms) (lock.frame + size) ≡ cut → kept_if (cond cut CutShort (cond wrong Lost Whole)) lock ≡ Some member
    → (lock ≡ member) × (lock.frame + size ≤ length ms)
whole_frames size ms lock member true wrong e k = absurd (cc)
whole_frames size ms lock member false true e k = absurd (cc)
whole_frames size ms lock member false false e k = (cc, ltb-false _ _ e)

hand_of : (size : ℕ) (ms : List ℕ) (lock : Option Lock) (member : Lock) (k : ℕ) → multiframe_at size ms lock ≡ Some member → k < size
    → hand_at ms lock k ≡ Some (record { frame = member.frame + k; expected = (member.expected + k) % 256 })
hand_of size ms None member k e h = absurd (cc)
hand_of size ms (Some lock) member k e h =
    let w = whole_frames size ms lock member (ltb (length ms) (lock.frame + size)) (ltb (size / 2) (wrong_count lock.expected (take size (drop lock.frame ms)))) refl e in
    let all = w.1 in
    ap (λ b. cond b (Some (record { frame = lock.frame + k; expected = (lock.expected + k) % 256 })) None) (lt-ltb (lock.frame + k) (length ms) (omega arith))
    ∙ ap (λ (l : Lock). Some (record { frame = l.frame + k; expected = (l.expected + k) % 256 })) w.0

-- each of the eight pieces of a turn that has a multiframe has its next frame in hand
pub whole_hand : (size : ℕ) (ms : List ℕ) (t k : ℕ) (member : Lock) → multiframe size ms t ≡ Some member → k < size
    → in_hand size ms (line_state size ms t) (suc k) ≡ Some (record { frame = member.frame + k; expected = (member.expected + k) % 256 })
whole_hand size ms t k member e h = hand_of size ms (lock_of size ms (line_state size ms t)) member k e h
