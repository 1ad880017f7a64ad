-- The MSI bytes of a view, each with its slot.
use Rattle.std.proofs.Common.{◌≡◌, ◌<◌, ◌≤◌, ◌+◌, ◌*◌, ◌⊎◌, inl, inr, ℕ, Bool, true, false, All, List, []}
use Rattle.std.proofs.Common.{◌∷◌, Option, Some, None, length, drop, get_or, refl, sym, subst, arith}
use Rattle.std.specs.Prelude.{◌==◌, if◌then◌else◌, option_map}
use Rattle.std.specs.List.{flat_map, range_with_len}
use Rattle.std.proofs.lemmas.Bool.{cases_lt}
use Rattle.std.proofs.lemmas.List.{get_or_past}
use Rattle.std.proofs.lemmas.List.Elements.{All-nil, All-cons, All-head, All-tail, All-append, All-take, All-drop, All-map, All-weaker}
use Rattle.multiframe.specs.LineTurns.{Lock, multiframe}
use Rattle.line_side.specs.LineFile.{frame_at, mfas_of}
use Rattle.line_side.specs.LineForm.{LineForm, size_of}
use Rattle.tributary_model.specs.Places.{Tributary, Taken, byte_at, msi_at, msi_in, turn_view, view_of}
use Rattle.tributary_model.proofs.OnLine.{few_of_kind}
use Rattle.device_model.specs.LineViews.{frames_of, member_at, view_at}
use Rattle.line_view.specs.ViewText.{all_slots, msi_at_turn, msi_shown}
use Rattle.view_events.specs.ViewLines.{IsViewLine}
use Rattle.event_laws.specs.Laws.{IsByte}
use Rattle.event_laws.specs.ViewOf.{msi_of}
use Rattle.event_laws.proofs.Counts.{range_below}

-- ---- bytes of a line

get_in : (xs : List ℕ) (i : ℕ) → All IsByte xs → IsByte (get_or xs i 0)
get_in xs i h = go (cases_lt i (length xs))
  where
    go : (i < length xs) ⊎ (length xs ≤ i) → IsByte (get_or xs i 0)
    go (inl inside) = h i 0 inside
    go (inr past) = let e = get_or_past xs i 0 past in omega (arith, e)

-- a byte of a frame is a byte
pub frame_byte : (available : List ℕ) (f row column : ℕ) → All IsByte available → IsByte (byte_at (frame_at available f) row column)
unfolding frame_at
frame_byte available f row column h =
    get_in (frame_at available f) _ (All-take IsByte 16320 (drop (16320 * f) available) (All-drop IsByte (16320 * f) available h))

-- ---- in frames

-- a byte, and a slot of a line
abbrev pub IsMsi : ℕ × ℕ → Type 0
IsMsi pair = IsViewLine (msi_of pair)

msi_here : (slots : List ℕ) (expected : ℕ) (frame : List ℕ) → All (λ k. k < 33) slots → IsByte (byte_at frame 4 15) → All IsMsi (msi_at slots expected frame)
msi_here [] expected frame few byte = All-nil IsMsi
msi_here (k ∷ slots) expected frame few byte =
    All-append IsMsi (if expected == 1 + k then (k, byte_at frame 4 15) ∷ [] else []) (msi_at slots expected frame) (go (expected == 1 + k))
    (msi_here slots expected frame (All-tail (λ j. j < 33) k slots few) byte)
  where
    go : (b : Bool) → All IsMsi (if b then (k, byte_at frame 4 15) ∷ [] else [])
    go true = All-cons IsMsi (k, byte_at frame 4 15) [] (All-head (λ j. j < 33) k slots few, byte) (All-nil IsMsi)
    go false = All-nil IsMsi

abbrev HasByte : Taken → Type 0
HasByte t = IsByte (byte_at t.frame 4 15)

msi_all : (own : Tributary) (frames : List Taken) → All (λ k. k < 33) own.slots → All HasByte frames → All IsMsi (flat_map (msi_in own) frames)
msi_all own [] few bytes = All-nil IsMsi
msi_all own (t ∷ frames) few bytes =
    All-append IsMsi (msi_in own t) (flat_map (msi_in own) frames) (msi_here own.slots t.expected t.frame few (All-head HasByte t frames bytes))
    (msi_all own frames few (All-tail HasByte t frames bytes))

frames_have : (size : ℕ) (available : List ℕ) (lock : Lock) → All IsByte available → All HasByte (frames_of size available lock)
unfolding frames_of
frames_have size available lock h =
    All-map HasByte (member_at available lock) (range_with_len 0 size)
    (λ k d lt. frame_byte available (lock.frame + get_or (range_with_len 0 size) k d) 4 15 h)

view_msi : (own : Tributary) (frames : List Taken) → (view_of own frames).msi ≡ flat_map (msi_in own) frames
unfolding view_of
view_msi own frames = refl

msi_of_view : (own : Tributary) (frames : List Taken) → All (λ k. k < 33) own.slots → All HasByte frames → All IsMsi (view_of own frames).msi
msi_of_view own frames few bytes = subst (All IsMsi) (sym (view_msi own frames)) (msi_all own frames few bytes)

slots_few : (form : LineForm) → All (λ k. k < 33) (range_with_len 1 (size_of form))
slots_few form =
    let few = few_of_kind form.kind in
    All-weaker (λ k. k < 1 + size_of form) (λ k. k < 33) (λ k h. omega (arith, h, few)) (range_with_len 1 (size_of form)) (range_below 1 (size_of form))

-- the MSI bytes of a turn are bytes, of slots of the line
pub msi_in_turn : (form : LineForm) (available : List ℕ) (t : ℕ) → All IsByte available → All IsMsi (msi_at_turn form available t)
unfolding msi_at_turn view_at
msi_in_turn form available t h = go (multiframe (size_of form) (mfas_of available) t)
  where
    go : (o : Option Lock) → All IsMsi (msi_shown (turn_view (all_slots form) (option_map (frames_of (size_of form) available) o)))
    go None = All-nil IsMsi
    go (Some lock) = msi_of_view (all_slots form) (frames_of (size_of form) available lock) (slots_few form) (frames_have (size_of form) available lock h)
