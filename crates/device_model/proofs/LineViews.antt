-- What a line shows of a tributary is fixed by the tributary's own places, and is whole.
use Rattle.std.proofs.Common.{rules, ◌≡◌, ◌<◌, ◌≤◌, ◌+◌, ◌%◌, ◌∙◌, ℕ, zero, suc, List, ◌∷◌, Option, Some, None, length, map, refl, ap, subst, arith, add-one}
use Rattle.std.specs.Prelude.{option_map}
use Rattle.std.specs.List.{range_with_len}
use Rattle.std.proofs.lemmas.List.FromFn.{length-map-range_with_len}
use Rattle.line_side.specs.LineFile.{frame_at, mfas_of}
use Rattle.maintenance_signals.specs.Stream.{signal_byte}
use Rattle.maintenance_signals.specs.declared.signal.Signal.TheVariants.{Ais}
use Rattle.multiframe.specs.LineTurns.{Lock, multiframe}
use Rattle.tributary_model.specs.Emission.{emission}
use Rattle.tributary_model.specs.Laws.{IsTributary, AllSameOwnPlaces}
use Rattle.tributary_model.specs.Places.{Tributary, IsOwn, IsWholeTurn, byte_at, turn_view, view_of}
use Rattle.tributary_model.proofs.Views.{fixed_by_own_places, whole_view}
use Rattle.device_model.specs.Agreements.{AgreeOnTributary}
use Rattle.device_model.specs.LineViews.{member_at, frames_of, view_at, views_until, emitted_at}

-- what the agreement says of the MFAS bytes, and of an own place
agreed_mfas : (own : Tributary) (one other : List ℕ) → AgreeOnTributary own one other → mfas_of one ≡ mfas_of other
agreed_mfas own one other agree = search rules

agreed_byte : (own : Tributary) (one other : List ℕ) (t : ℕ) (lock : Lock) (n row column : ℕ) → AgreeOnTributary own one other → multiframe own.line_slots (mfas_of one) t ≡ Some lock → n < own.line_slots
    → IsOwn own n ((lock.expected + n) % 256) row column → byte_at (frame_at one (lock.frame + n)) row column ≡ byte_at (frame_at other (lock.frame + n)) row column
agreed_byte own one other t lock n row column agree e inside has = search rules

-- the frames of a multiframe agree at the own places, from frame n on
same_frames : (own : Tributary) (one other : List ℕ) (t : ℕ) (lock : Lock) (n k : ℕ) → AgreeOnTributary own one other → multiframe own.line_slots (mfas_of one) t ≡ Some lock → n + k ≤ own.line_slots
    → AllSameOwnPlaces own n (map (member_at one lock) (range_with_len n k)) (map (member_at other lock) (range_with_len n k))
same_frames own one other t lock n zero agree e few = tt
same_frames own one other t lock n (suc k) agree e few =
    let rest = same_frames own one other t lock (n + 1) k agree e (omega arith) in (
      record { expected = refl; bytes = λ row column has. agreed_byte own one other t lock n row column agree e (omega arith) has },
      subst (λ i. AllSameOwnPlaces own i (map (member_at one lock) (range_with_len (n + 1) k)) (map (member_at other lock) (range_with_len (n + 1) k))) (add-one n) rest,
    )

-- so their view is the same
same_view_of : (own : Tributary) (one other : List ℕ) (t : ℕ) (lock : Lock) → IsTributary own → AgreeOnTributary own one other → multiframe own.line_slots (mfas_of one) t ≡ Some lock
    → view_of own (frames_of own.line_slots one lock) ≡ view_of own (frames_of own.line_slots other lock)
unfolding frames_of
same_view_of own one other t lock is agree e =
    fixed_by_own_places own (map (member_at one lock) (range_with_len 0 own.line_slots)) (map (member_at other lock) (range_with_len 0 own.line_slots)) is
    (same_frames own one other t lock 0 own.line_slots agree e (omega arith))

-- a turn shows the same of both lines
pub same_view : (own : Tributary) (one other : List ℕ) (t : ℕ) → IsTributary own → AgreeOnTributary own one other → view_at own one t ≡ view_at own other t
unfolding view_at
same_view own one other t is agree =
    by_multiframe (multiframe own.line_slots (mfas_of one) t) refl ∙ ap (λ ms. turn_view own (option_map (frames_of own.line_slots other) (multiframe own.line_slots ms t))) (agreed_mfas own one other agree)
  where
    by_multiframe : (lock : Option Lock) → multiframe own.line_slots (mfas_of one) t ≡ lock → turn_view own (option_map (frames_of own.line_slots one) lock) ≡ turn_view own (option_map (frames_of own.line_slots other) lock)
    by_multiframe None e = refl
    by_multiframe (Some lock) e = ap Some (same_view_of own one other t lock is agree e)

-- so do all turns before
pub same_views : (own : Tributary) (one other : List ℕ) (t : ℕ) → IsTributary own → AgreeOnTributary own one other → views_until own one t ≡ views_until own other t
unfolding views_until
same_views own one other zero is agree = refl
same_views own one other (suc t) is agree =
    ap (λ view. view ∷ views_until own one t) (same_view own one other t is agree) ∙ ap (λ past. view_at own other t ∷ past) (same_views own one other t is agree)

-- and the sink emits the same in it
pub same_emitted : (own : Tributary) (one other : List ℕ) (t : ℕ) → IsTributary own → AgreeOnTributary own one other → emitted_at own one t ≡ emitted_at own other t
unfolding emitted_at
same_emitted own one other t is agree =
    ap (λ past. emission own (signal_byte Ais) past (view_at own one t)) (same_views own one other t is agree)
    ∙ ap (λ view. emission own (signal_byte Ais) (views_until own other t) view) (same_view own one other t is agree)

-- ---- whole turns

frames_many : (size : ℕ) (available : List ℕ) (lock : Lock) → length (frames_of size available lock) ≡ size
unfolding frames_of
frames_many size available lock = length-map-range_with_len (member_at available lock) 0 size

pub whole_at : (own : Tributary) (available : List ℕ) (t : ℕ) → IsTributary own → IsWholeTurn (length own.slots) (view_at own available t)
unfolding view_at
whole_at own available t is = go (multiframe own.line_slots (mfas_of available) t)
  where
    go : (o : Option Lock) → IsWholeTurn (length own.slots) (turn_view own (option_map (frames_of own.line_slots available) o))
    go None = tt
    go (Some lock) = whole_view own (frames_of own.line_slots available lock) is (frames_many own.line_slots available lock)
