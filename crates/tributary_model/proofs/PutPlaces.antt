-- The groups of frames that have what a source puts.
use Rattle.std.proofs.Common.{◌≡◌, ℕ, zero, suc, ◌+◌, ◌*◌, ◌/◌, ◌-◌, ◌<◌, ◌≤◌, List, [], ◌∷◌, ◌++◌, length, cond, refl, ap, ◌∙◌, sym, subst, arith, get_or, append-nil}
use Rattle.std.specs.Prelude.{map}
use Rattle.std.specs.List.{flat_map, range_with_len, Contains}
use Rattle.std.specs.List.Sorted.{IsStrictlyIncreasing}
use Rattle.std.proofs.lemmas.Bool.{eq-eqb, ne_eqb}
use Rattle.std.proofs.lemmas.List.{length-map, get_or-map, ext_get_or, map-append}
use Rattle.std.proofs.Math.Nat.{mul-add-div, div-eq_of_lt}
use Rattle.odtu_columns.specs.Columns.{slot_of}
use Rattle.odtu_columns.specs.Groups.{group_at}
use Rattle.odtu_columns.proofs.Cycles.{range-append}
use Rattle.tributary_model.specs.Places.{Tributary, Taken, byte_at, row_groups, frame_groups}
use Rattle.tributary_model.specs.Laws.{IsTributary}
use Rattle.tributary_model.specs.Puts.{group_put, place_among, group_at_place, IsPut}
use Rattle.tributary_model.proofs.Views.{map_alike, of_slots, own_column, last_column, slot_low, slot_high}

-- ---- the place of a slot

-- each of some numbers is less than any later one
abbrev pub Rises : List ℕ → Type 0
Rises xs = (i j : ℕ) → i < j → j < length xs → get_or xs i 0 < get_or xs j 0

rises_by : (xs : List ℕ) (i k : ℕ) → IsStrictlyIncreasing xs → i + k + 1 < length xs → get_or xs i 0 < get_or xs (i + k + 1) 0
rises_by xs i zero h l = subst (λ n. get_or xs i 0 < get_or xs (n + 1) 0) (let e : i ≡ i + 0 = omega arith in e) (h i (omega arith))
rises_by xs i (suc k) h l =
    let before = rises_by xs i k h (omega arith) in
    let next : get_or xs (i + k + 1) 0 < get_or xs (i + k + 1 + 1) 0 = h (i + k + 1) (omega arith) in
    subst (λ n. get_or xs i 0 < get_or xs n 0) (let e : i + k + 1 + 1 ≡ i + suc k + 1 = omega arith in e) (omega arith)

pub rises : (xs : List ℕ) → IsStrictlyIncreasing xs → Rises xs
rises xs h i j less inside = subst (λ n. get_or xs i 0 < get_or xs n 0) (let e : i + (j - i - 1) + 1 ≡ j = omega arith in e) (rises_by xs i (j - i - 1) h (omega arith))

place_rising : (xs : List ℕ) (i : ℕ) → Rises xs → i < length xs → place_among xs (get_or xs i 0) ≡ i
place_rising [] i h l = absurd (omega arith)
place_rising (x ∷ xs) zero h l = ap (λ t. cond t 0 (suc (place_among xs x))) (eq-eqb x x refl)
place_rising (x ∷ xs) (suc i) h l =
    let less : x < get_or xs i 0 = h 0 (suc i) (omega arith) (omega arith) in
    ap (λ t. cond t 0 (suc (place_among xs (get_or xs i 0)))) (ne_eqb x (get_or xs i 0) (omega arith))
    ∙ ap (λ n. suc n) (place_rising xs i (λ a b p q. h (suc a) (suc b) (omega arith) (omega arith)) (omega arith))

pub place_of_slot : (xs : List ℕ) (i : ℕ) → IsStrictlyIncreasing xs → i < length xs → place_among xs (get_or xs i 0) ≡ i
place_of_slot xs i h l = place_rising xs i (rises xs h) l

-- a group has a byte for each of the slots, in order
group_by_slots : (slots g : List ℕ) → IsStrictlyIncreasing slots → length g ≡ length slots → map (λ k. get_or g (place_among slots k) 0) slots ≡ g
group_by_slots slots g h e =
    ext_get_or 0 (map (λ k. get_or g (place_among slots k) 0) slots) g (length-map slots (λ k. get_or g (place_among slots k) 0) ∙ sym e) (λ i l.
    let inside : i < length slots = (let long = length-map slots (λ k. get_or g (place_among slots k) 0) in omega arith) in
    get_or-map (λ k. get_or g (place_among slots k) 0) slots i 0 0 inside
    ∙ ap (λ n. get_or g n 0) (place_of_slot slots i h inside))

-- ---- the group of a place

-- the cycle of a slot's column
pub column_cycle : (s x k : ℕ) → 1 ≤ k → k ≤ s → (16 + s * x + k - 17) / s ≡ x
column_cycle s x k low high =
    let places : 16 + s * x + k - 17 ≡ s * x + (k - 1) = omega arith in
    let some : 0 < s = omega arith in
    let round : (s * x + (k - 1)) / s ≡ x + (k - 1) / s = mul-add-div some x (k - 1) in
    let small : (k - 1) / s ≡ 0 = div-eq_of_lt (let h : k - 1 < s = omega arith in h) in
    ap (λ n. n / s) places ∙ omega arith

pub group_place : (s n row x k : ℕ) → 1 ≤ k → k ≤ s → group_at_place s n row (16 + s * x + k) ≡ 3808 / s * (4 * n + (row - 1)) + x + 1
group_place s n row x k low high = ap (λ c. 3808 / s * (4 * n + (row - 1)) + c + 1) (column_cycle s x k low high)

-- ---- the groups of a row

-- what stands in the groups, one by one
abbrev Groups : (own : Tributary) → (turns : List (List ℕ)) → (t : ℕ) → ℕ → List ℕ
Groups own turns t = group_put (length own.slots) turns t

-- a byte of the group
slot_byte : (own : Tributary) (turns : List (List ℕ)) (t n row x k : ℕ) (frame : List ℕ) → IsTributary own → IsPut own turns t n frame → 1 ≤ row → row ≤ 4 → x < 3808 / own.line_slots → Contains own.slots k
    → byte_at frame row (16 + own.line_slots * x + k) ≡ get_or (group_put (length own.slots) turns t (3808 / own.line_slots * (4 * n + (row - 1)) + x + 1)) (place_among own.slots k) 0
slot_byte own turns t n row x k frame tr put first last less has =
    let s = own.line_slots in
    let low = slot_low s own.slots k tr.slots has in
    let high = slot_high s own.slots k tr.slots has in
    let slot : slot_of s (16 + s * x + k) ≡ k = own_column s x k low high in
    put.payload row (16 + s * x + k) (record {
      rows = (first, last);
      columns = (omega arith, last_column s x k tr.even less high);
      slot = subst (Contains own.slots) (sym slot) has;
    })
    ∙ ap (λ j. get_or (group_put (length own.slots) turns t j) (place_among own.slots (slot_of s (16 + s * x + k))) 0) (group_place s n row x k low high)
    ∙ ap (λ i. get_or (group_put (length own.slots) turns t (3808 / s * (4 * n + (row - 1)) + x + 1)) (place_among own.slots i) 0) slot

cycle_group : (own : Tributary) (turns : List (List ℕ)) (t n row x : ℕ) (frame : List ℕ) → IsTributary own → IsPut own turns t n frame → 1 ≤ row → row ≤ 4 → x < 3808 / own.line_slots
    → length (group_put (length own.slots) turns t (3808 / own.line_slots * (4 * n + (row - 1)) + x + 1)) ≡ length own.slots
    → group_at own.line_slots own.slots row x frame ≡ group_put (length own.slots) turns t (3808 / own.line_slots * (4 * n + (row - 1)) + x + 1)
cycle_group own turns t n row x frame tr put first last less long =
    let s = own.line_slots in
    let g = group_put (length own.slots) turns t (3808 / s * (4 * n + (row - 1)) + x + 1) in
    map_alike (λ k. byte_at frame row (16 + s * x + k)) (λ k. get_or g (place_among own.slots k) 0) own.slots
    (of_slots (λ k. byte_at frame row (16 + s * x + k) ≡ get_or g (place_among own.slots k) 0) own.slots (λ k has. slot_byte own turns t n row x k frame tr put first last less has))
    ∙ group_by_slots own.slots g tr.slots.rising long

-- two lists made alike from different numbers on
range_shift : {Y : Type 0} (f g : ℕ → Y) (a b n : ℕ) → ((i : ℕ) → i < n → f (a + i) ≡ g (b + i)) → map f (range_with_len a n) ≡ map g (range_with_len b n)
range_shift f g a b zero h = refl
range_shift f g a b (suc n) h =
    let first : f a ≡ g b = ap f (let e : a ≡ a + 0 = omega arith in e) ∙ h 0 (omega arith) ∙ ap g (let e : b + 0 ≡ b = omega arith in e) in
    let rest : map f (range_with_len (a + 1) n) ≡ map g (range_with_len (b + 1) n) =
    range_shift f g (a + 1) (b + 1) n (λ i l.
    ap f (let e : a + 1 + i ≡ a + (i + 1) = omega arith in e) ∙ h (i + 1) (omega arith) ∙ ap g (let e : b + (i + 1) ≡ b + 1 + i = omega arith in e)) in
    cc

-- each group has a byte for each slot
abbrev pub AllLong : (m : ℕ) → (ℕ → List ℕ) → (last : ℕ) → Type 0
AllLong m g last = (j : ℕ) → 1 ≤ j → j ≤ last → length (g j) ≡ m

row_put : (own : Tributary) (turns : List (List ℕ)) (t n row last : ℕ) (frame : List ℕ) → IsTributary own → IsPut own turns t n frame → 1 ≤ row → row ≤ 4
    → AllLong (length own.slots) (Groups own turns t) last → 3808 / own.line_slots * (4 * n + (row - 1)) + 3808 / own.line_slots ≤ last
    → row_groups own frame row ≡ map (Groups own turns t) (range_with_len (3808 / own.line_slots * (4 * n + (row - 1)) + 1) (3808 / own.line_slots))
unfolding row_groups
row_put own turns t n row last frame tr put first end long room =
    let cycles = 3808 / own.line_slots in
    let base = cycles * (4 * n + (row - 1)) in
    range_shift (λ x. group_at own.line_slots own.slots row x frame) (Groups own turns t) 0 (base + 1) cycles (λ i l.
    ap (λ x. group_at own.line_slots own.slots row x frame) (let e : 0 + i ≡ i = omega arith in e)
    ∙ cycle_group own turns t n row i frame tr put first end l (long (base + i + 1) (omega arith) (omega arith))
    ∙ ap (Groups own turns t) (let e : base + i + 1 ≡ base + 1 + i = omega arith in e))

-- ---- the groups of a frame, and of frames

more_groups : {Y : Type 0} (g : ℕ → Y) (a b m n : ℕ) → b ≡ a + m → map g (range_with_len a m) ++ map g (range_with_len b n) ≡ map g (range_with_len a (m + n))
more_groups g a b m n e =
    ap (λ b. map g (range_with_len a m) ++ map g (range_with_len b n)) e
    ∙ sym (map-append g (range_with_len a m) (range_with_len (a + m) n))
    ∙ ap (map g) (sym (range-append a m n))

frame_put : (own : Tributary) (turns : List (List ℕ)) (t n last : ℕ) (frame : List ℕ) → IsTributary own → IsPut own turns t n frame
    → AllLong (length own.slots) (Groups own turns t) last → 3808 / own.line_slots * (4 * n + 4) ≤ last
    → frame_groups own frame ≡ map (Groups own turns t) (range_with_len (3808 / own.line_slots * (4 * n) + 1) (3808 / own.line_slots * 4))
unfolding frame_groups
frame_put own turns t n last frame tr put long room =
    let c = 3808 / own.line_slots in
    let g = Groups own turns t in
    let rows : (row : ℕ) → 1 ≤ row → row ≤ 4 → row_groups own frame row ≡ map g (range_with_len (c * (4 * n + (row - 1)) + 1) c) =
    λ row first end. row_put own turns t n row last frame tr put first end long (within c n row last first end room) in
    let a = rows 1 (omega arith) (omega arith) in
    let b = rows 2 (omega arith) (omega arith) in
    let d = rows 3 (omega arith) (omega arith) in
    let f = rows 4 (omega arith) (omega arith) in
    ap (λ y. row_groups own frame 1 ++ (row_groups own frame 2 ++ (row_groups own frame 3 ++ y))) (append-nil (row_groups own frame 4) ∙ f)
    ∙ ap (λ y. row_groups own frame 1 ++ (row_groups own frame 2 ++ (y ++ map g (range_with_len (c * (4 * n + (4 - 1)) + 1) c)))) d
    ∙ ap (λ y. row_groups own frame 1 ++ (row_groups own frame 2 ++ y)) (more_groups g (c * (4 * n + (3 - 1)) + 1) (c * (4 * n + (4 - 1)) + 1) c c (omega arith))
    ∙ ap (λ y. row_groups own frame 1 ++ (y ++ map g (range_with_len (c * (4 * n + (3 - 1)) + 1) (c + c)))) b
    ∙ ap (λ y. row_groups own frame 1 ++ y) (more_groups g (c * (4 * n + (2 - 1)) + 1) (c * (4 * n + (3 - 1)) + 1) c (c + c) (omega arith))
    ∙ ap (λ y. y ++ map g (range_with_len (c * (4 * n + (2 - 1)) + 1) (c + (c + c)))) a
    ∙ more_groups g (c * (4 * n + (1 - 1)) + 1) (c * (4 * n + (2 - 1)) + 1) c (c + (c + c)) (omega arith)
    ∙ ap (λ k. map g (range_with_len k (c + (c + (c + c))))) (let e : c * (4 * n + (1 - 1)) + 1 ≡ c * (4 * n) + 1 = omega arith in e)
    ∙ ap (λ k. map g (range_with_len (c * (4 * n) + 1) k)) (let e : c + (c + (c + c)) ≡ c * 4 = omega arith in e)
  where
    within : (c n row last : ℕ) → 1 ≤ row → row ≤ 4 → c * (4 * n + 4) ≤ last → c * (4 * n + (row - 1)) + c ≤ last
    within c n row last first end room =
        let split : 4 * n + 4 ≡ 4 * n + (row - 1) + 1 + (4 - row) = omega arith in
        let all : c * (4 * n + 4) ≡ c * (4 * n + (row - 1) + 1 + (4 - row)) = ap (λ k. c * k) split in
        omega arith

pub frames_put : (own : Tributary) (turns : List (List ℕ)) (t n last : ℕ) (frames : List Taken) → IsTributary own
    → ((i : ℕ) → i < length frames → (d : Taken) → IsPut own turns t (n + i) (get_or frames i d).frame)
    → AllLong (length own.slots) (Groups own turns t) last → 3808 / own.line_slots * (4 * (n + length frames)) ≤ last
    → flat_map (λ f. frame_groups own f.frame) frames ≡ map (Groups own turns t) (range_with_len (3808 / own.line_slots * (4 * n) + 1) (3808 / own.line_slots * (4 * length frames)))
frames_put own turns t n last [] tr put long room =
    let c = 3808 / own.line_slots in
    ap (λ k. map (Groups own turns t) (range_with_len (c * (4 * n) + 1) k)) (let e : 0 ≡ c * (4 * 0) = omega arith in e)
frames_put own turns t n last (f ∷ frames) tr put long room =
    let c = 3808 / own.line_slots in
    let g = Groups own turns t in
    let first : IsPut own turns t n f.frame = subst (λ k. IsPut own turns t k f.frame) (let e : n + 0 ≡ n = omega arith in e) (put 0 (omega arith) f) in
    let wide : c * (4 * (n + suc (length frames))) ≡ c * (4 * n + 4) + c * (4 * length frames) = omega arith in
    let here = frame_put own turns t n last f.frame tr first long (omega arith) in
    let rest = frames_put own turns t (n + 1) last frames tr
    (λ i l d. subst (λ k. IsPut own turns t k (get_or frames i d).frame) (let e : n + suc i ≡ n + 1 + i = omega arith in e) (put (suc i) (omega arith) d))
    long (let e : c * (4 * (n + 1 + length frames)) ≡ c * (4 * (n + suc (length frames))) = ap (λ k. c * (4 * k)) (let e : n + 1 + length frames ≡ n + suc (length frames) = omega arith in e) in omega arith) in
    ap (λ y. y ++ flat_map (λ f. frame_groups own f.frame) frames) here
    ∙ ap (λ y. map g (range_with_len (c * (4 * n) + 1) (c * 4)) ++ y) rest
    ∙ more_groups g (c * (4 * n) + 1) (c * (4 * (n + 1)) + 1) (c * 4) (c * (4 * length frames)) (omega arith)
    ∙ ap (λ k. map g (range_with_len (c * (4 * n) + 1) k)) (let e : c * 4 + c * (4 * length frames) ≡ c * (4 * suc (length frames)) = omega arith in e)
