-- The frames that the pieces of a turn came to are those of its multiframe.
use Rattle.std.proofs.Common.{◌≡◌, ◌≤◌, ◌∙◌, ℕ, zero, suc, Bool, true, List, [], ◌++◌, Option, Some, None, length, map, refl, sym, ap, subst, arith, add-one}
use Rattle.std.specs.Prelude.{is_some, option_map, if◌then◌else◌}
use Rattle.std.specs.List.{range_with_len}
use Rattle.std.proofs.lemmas.List.FromFn.{map-range_with_len_more, length-map-range_with_len}
use Rattle.line_side.specs.LineFile.{mfas_of}
use Rattle.line_side.proofs.Members.{whole_hand}
use Rattle.multiframe.specs.LineTurns.{Lock, line_state, multiframe}
use Rattle.multiframe.specs.TurnPieces.{in_hand}
use Rattle.tributary_model.specs.Places.{Tributary, turn_view}
use Rattle.device_model.specs.LineViews.{member_at, frames_of, view_at}
use Rattle.device_model.specs.TurnFrames.{member_of, frames_in}

-- no piece came to none
pub frames_none : (size : ℕ) (available : List ℕ) (past : ℕ) → frames_in size available past 0 ≡ []
unfolding frames_in
frames_none size available past = refl

-- the pieces of a turn that has a multiframe came to its frames in order
frames_in_hand : (size : ℕ) (available : List ℕ) (past k : ℕ) (lock : Lock) → multiframe size (mfas_of available) past ≡ Some lock → k ≤ size
    → frames_in size available past k ≡ map (member_at available lock) (range_with_len 0 k)
unfolding frames_in
frames_in_hand size available past zero lock e few = refl
frames_in_hand size available past (suc k) lock e few =
    let before = frames_in_hand size available past k lock e (omega arith) in
    let hand = whole_hand size (mfas_of available) past k lock e (omega arith) in
    ap (λ xs. xs ++ member_of available (in_hand size (mfas_of available) (line_state size (mfas_of available) past) (suc k))) before
    ∙ ap (λ member. map (member_at available lock) (range_with_len 0 k) ++ member_of available member) hand
    ∙ sym (map-range_with_len_more (member_at available lock) 0 k k (omega arith))
    ∙ ap (λ n. map (member_at available lock) (range_with_len 0 n)) (add-one k)

-- all of them
all_frames : (size : ℕ) (available : List ℕ) (past : ℕ) (lock : Lock) → multiframe size (mfas_of available) past ≡ Some lock → frames_in size available past size ≡ frames_of size available lock
unfolding frames_of
all_frames size available past lock e = frames_in_hand size available past size lock e (omega arith)

-- so many, where the turn has a multiframe
pub frames_many : (size : ℕ) (available : List ℕ) (past : ℕ) (whole : Bool) → whole ≡ is_some (multiframe size (mfas_of available) past) → whole ≡ true → length (frames_in size available past size) ≡ size
frames_many size available past whole same is = go (multiframe size (mfas_of available) past) refl (sym same ∙ is)
  where
    go : (lock : Option Lock) → multiframe size (mfas_of available) past ≡ lock → is_some lock ≡ true → length (frames_in size available past size) ≡ size
    go None e some = absurd (cc)
    go (Some lock) e some = ap length (frames_in_hand size available past size lock e (omega arith)) ∙ length-map-range_with_len (member_at available lock) 0 size

-- what a turn shows, by the frames that its pieces came to
pub turn_frames : (own : Tributary) (size : ℕ) (available : List ℕ) (past : ℕ) (whole : Bool) → own.line_slots ≡ size → whole ≡ is_some (multiframe size (mfas_of available) past)
    → turn_view own (if whole then Some (frames_in size available past size) else None) ≡ view_at own available past
unfolding view_at
turn_frames own size available past whole slots same =
    ap (λ b. turn_view own (if b then Some (frames_in size available past size) else None)) same
    ∙ subst (λ n. turn_view own (if is_some (multiframe size (mfas_of available) past) then Some (frames_in size available past size) else None) ≡ turn_view own (option_map (frames_of n available) (multiframe n (mfas_of available) past))) (sym slots)
    (by_multiframe (multiframe size (mfas_of available) past) refl)
  where
    by_multiframe : (lock : Option Lock) → multiframe size (mfas_of available) past ≡ lock
        → turn_view own (if is_some lock then Some (frames_in size available past size) else None) ≡ turn_view own (option_map (frames_of size available) lock)
    by_multiframe None e = refl
    by_multiframe (Some lock) e = ap (λ frames. turn_view own (Some frames)) (all_frames size available past lock e)
