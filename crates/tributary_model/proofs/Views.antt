-- The view of a multiframe is fixed by its own places, and whole.
use Rattle.std.proofs.Common.{◌≡◌, inl, inr, ℕ, zero, suc, ◌+◌, ◌*◌, ◌/◌, ◌%◌, ◌-◌, ◌<◌, ◌≤◌, List, [], ◌∷◌, length, Bool, true, false, cond, refl, ap, ◌∙◌, sym, subst, arith, get_or, length-append}
use Rattle.std.specs.Prelude.{All, slice_get, ◌==◌, map}
use Rattle.std.specs.List.{flat_map, range_with_len, Contains}
use Rattle.std.proofs.lemmas.Bool.Decides.{nat_tests}
use Rattle.std.proofs.lemmas.List.{get_or_default, length-map}
use Rattle.std.proofs.lemmas.List.Elements.{All-contains_itself, All-append, All-cons, All-nil}
use Rattle.std.proofs.lemmas.List.FromFn.{length-map-range_with_len}
use Rattle.std.proofs.Math.Nat.{mul-add-mod_self_left, mod-eq_of_lt, mul-le-mul_left}
use Rattle.otn_base.specs.SlotList.{IsSlotList}
use Rattle.odtu_columns.specs.Groups.{group_at}
use Rattle.tributary_model.specs.Places.{Tributary, byte_at, Taken, greatest, IsOwn, row_groups, frame_groups, message_in, msi_in, view_of, IsWhole}
use Rattle.tributary_model.specs.Laws.{IsTributary, SameOwnPlaces, AllSameOwnPlaces}
use Rattle.tributary_model.proofs.Sizes.{All_first, All_rest}

-- ---- lists made alike

pub map_alike : {X Y : Type 0} (f g : X → Y) (xs : List X) → All (λ x. f x ≡ g x) xs → map f xs ≡ map g xs
map_alike f g [] h = refl
map_alike f g (x ∷ xs) h = let a : f x ≡ g x = All_first (λ x. f x ≡ g x) x xs h in let b = map_alike f g xs (All_rest (λ x. f x ≡ g x) x xs h) in cc

pub range_alike : {Y : Type 0} (f g : ℕ → Y) (a n : ℕ) → ((x : ℕ) → a ≤ x → x < a + n → f x ≡ g x) → map f (range_with_len a n) ≡ map g (range_with_len a n)
range_alike f g a zero h = refl
range_alike f g a (suc n) h =
    let first : f a ≡ g a = h a (omega arith) (omega arith) in
    let rest : map f (range_with_len (a + 1) n) ≡ map g (range_with_len (a + 1) n) = range_alike f g (a + 1) n (λ x l r. h x (omega arith) (omega arith)) in
    cc

-- ---- slots

-- what holds of each slot that the list contains holds of all
pub of_slots : (P : ℕ → Type 0) (slots : List ℕ) → ((k : ℕ) → Contains slots k → P k) → All P slots
of_slots P slots h = λ i d l. h (get_or slots i d) (All-contains_itself slots i d l)

pub slot_low : (n : ℕ) (slots : List ℕ) (k : ℕ) → IsSlotList n slots → Contains slots k → 1 ≤ k
slot_low n slots k h c =
    let low : 1 ≤ get_or slots c.0 0 = h.low c.0 c.1 in
    let same : get_or slots c.0 k ≡ get_or slots c.0 0 = get_or_default slots c.0 k 0 c.1 in
    let is : get_or slots c.0 k ≡ k = c.2 in
    omega arith

pub slot_high : (n : ℕ) (slots : List ℕ) (k : ℕ) → IsSlotList n slots → Contains slots k → k ≤ n
slot_high n slots k h c =
    let high : get_or slots c.0 0 ≤ n = h.high c.0 c.1 in
    let same : get_or slots c.0 k ≡ get_or slots c.0 0 = get_or_default slots c.0 k 0 c.1 in
    let is : get_or slots c.0 k ≡ k = c.2 in
    omega arith

-- ---- own places

-- a slot's column in a cycle is one of its own
pub own_column : (s x k : ℕ) → 1 ≤ k → k ≤ s → (16 + s * x + k - 17) % s + 1 ≡ k
own_column s x k low high =
    let places : 16 + s * x + k - 17 ≡ s * x + (k - 1) = omega arith in
    let round : (s * x + (k - 1)) % s ≡ (k - 1) % s = mul-add-mod_self_left s x (k - 1) in
    let small : (k - 1) % s ≡ k - 1 = mod-eq_of_lt (let h : k - 1 < s = omega arith in h) in
    ap (λ n. n % s + 1) places ∙ omega arith

-- and within the payload
pub last_column : (s x k : ℕ) → s * (3808 / s) ≡ 3808 → x < 3808 / s → k ≤ s → 16 + s * x + k ≤ 3824
last_column s x k even less high =
    let most : s * (x + 1) ≤ s * (3808 / s) = mul-le-mul_left s (let h : x + 1 ≤ 3808 / s = omega arith in h) in
    omega arith

payload_place : (own : Tributary) (n expected row x k : ℕ) → IsTributary own → 1 ≤ row → row ≤ 4 → x < 3808 / own.line_slots → Contains own.slots k
    → IsOwn own n expected row (16 + own.line_slots * x + k)
payload_place own n expected row x k t first last less has =
    let low = slot_low own.line_slots own.slots k t.slots has in
    let high = slot_high own.line_slots own.slots k t.slots has in
    inl (record {
      rows = (first, last);
      columns = (omega arith, last_column own.line_slots x k t.even less high);
      slot = subst (Contains own.slots) (sym (own_column own.line_slots x k low high)) has;
    })

-- the groups of a row, and of a frame
same_row : (own : Tributary) (n row : ℕ) (one other : Taken) → IsTributary own → SameOwnPlaces own n one other → 1 ≤ row → row ≤ 4
    → row_groups own one.frame row ≡ row_groups own other.frame row
unfolding row_groups
same_row own n row one other t same first last =
    range_alike (λ x. group_at own.line_slots own.slots row x one.frame) (λ x. group_at own.line_slots own.slots row x other.frame) 0 (3808 / own.line_slots)
    (λ x l r. map_alike (λ k. byte_at one.frame row (16 + own.line_slots * x + k)) (λ k. byte_at other.frame row (16 + own.line_slots * x + k)) own.slots
    (of_slots (λ k. byte_at one.frame row (16 + own.line_slots * x + k) ≡ byte_at other.frame row (16 + own.line_slots * x + k)) own.slots
    (λ k has. same.bytes row (16 + own.line_slots * x + k) (payload_place own n one.expected row x k t first last (omega arith) has))))

same_frame : (own : Tributary) (n : ℕ) (one other : Taken) → IsTributary own → SameOwnPlaces own n one other → frame_groups own one.frame ≡ frame_groups own other.frame
unfolding frame_groups
same_frame own n one other t same =
    let a = same_row own n 1 one other t same (omega arith) (omega arith) in
    let b = same_row own n 2 one other t same (omega arith) (omega arith) in
    let c = same_row own n 3 one other t same (omega arith) (omega arith) in
    let d = same_row own n 4 one other t same (omega arith) (omega arith) in
    cc

same_groups : (own : Tributary) (n : ℕ) (frames others : List Taken) → IsTributary own → AllSameOwnPlaces own n frames others
    → flat_map (λ t. frame_groups own t.frame) frames ≡ flat_map (λ t. frame_groups own t.frame) others
same_groups own n [] [] t same = refl
same_groups own n [] (other ∷ others) t same = absurd same
same_groups own n (one ∷ frames) [] t same = absurd same
same_groups own n (one ∷ frames) (other ∷ others) t same =
    let a = same_frame own n one other t same.0 in
    let b = same_groups own (suc n) frames others t same.1 in
    cc

pub tested : (a b : ℕ) → (a == b) ≡ true → a ≡ b
tested a b e = grind (arith, nat_tests)

-- the MSI bytes
same_msi_at : (own : Tributary) (n : ℕ) (one other : Taken) (k : ℕ) → SameOwnPlaces own n one other → Contains own.slots k
    → cond {A = List (ℕ × ℕ)} (one.expected == 1 + k) ((k, byte_at one.frame 4 15) ∷ []) [] ≡ cond (other.expected == 1 + k) ((k, byte_at other.frame 4 15) ∷ []) []
same_msi_at own n one other k same has = go (one.expected == 1 + k) refl
  where
    go : (t : Bool) → (one.expected == 1 + k) ≡ t → cond {A = List (ℕ × ℕ)} (one.expected == 1 + k) ((k, byte_at one.frame 4 15) ∷ []) [] ≡ cond (other.expected == 1 + k) ((k, byte_at other.frame 4 15) ∷ []) []
    go true e =
        let is : one.expected ≡ 1 + k = tested one.expected (1 + k) e in
        let byte : byte_at one.frame 4 15 ≡ byte_at other.frame 4 15 = same.bytes 4 15 (inr (inr (record { place = (refl, refl); slot = (k, (has, is)) }))) in
        ap (λ b. cond {A = List (ℕ × ℕ)} (one.expected == 1 + k) ((k, b) ∷ []) []) byte ∙ ap (λ e. cond {A = List (ℕ × ℕ)} (e == 1 + k) ((k, byte_at other.frame 4 15) ∷ []) []) same.expected
    go false e =
        ap (λ t. cond {A = List (ℕ × ℕ)} t ((k, byte_at one.frame 4 15) ∷ []) []) e
        ∙ sym (ap (λ t. cond {A = List (ℕ × ℕ)} t ((k, byte_at other.frame 4 15) ∷ []) []) (ap (λ e. e == 1 + k) (sym same.expected) ∙ e))

flat_alike : {X Y : Type 0} (f g : X → List Y) (xs : List X) → All (λ x. f x ≡ g x) xs → flat_map f xs ≡ flat_map g xs
flat_alike f g [] h = refl
flat_alike f g (x ∷ xs) h = let a : f x ≡ g x = All_first (λ x. f x ≡ g x) x xs h in let b = flat_alike f g xs (All_rest (λ x. f x ≡ g x) x xs h) in cc

same_msi : (own : Tributary) (n : ℕ) (frames others : List Taken) → AllSameOwnPlaces own n frames others → flat_map (msi_in own) frames ≡ flat_map (msi_in own) others
same_msi own n [] [] same = refl
same_msi own n [] (other ∷ others) same = absurd same
same_msi own n (one ∷ frames) [] same = absurd same
same_msi own n (one ∷ frames) (other ∷ others) same =
    let a : msi_in own one ≡ msi_in own other = flat_alike _ _ own.slots (of_slots (λ k. cond {A = List (ℕ × ℕ)} (one.expected == 1 + k) ((k, byte_at one.frame 4 15) ∷ []) [] ≡ cond (other.expected == 1 + k) ((k, byte_at other.frame 4 15) ∷ []) []) own.slots (λ k has. same_msi_at own n one other k same.0 has)) in
    let b = same_msi own (suc n) frames others same.1 in
    cc

-- the message
message_place : (own : Tributary) (n expected row column : ℕ) → n + 1 ≡ greatest own.slots → 1 ≤ row → row ≤ 3 → 15 ≤ column → column ≤ 16 → IsOwn own n expected row column
message_place own n expected row column e a b c d = inr (inl (record { frame = e; rows = (a, b); columns = (c, d) }))

same_message_at : (own : Tributary) (n i : ℕ) (frames others : List Taken) → n + i + 1 ≡ greatest own.slots → AllSameOwnPlaces own n frames others
    → message_in (slice_get frames i) ≡ message_in (slice_get others i)
same_message_at own n i [] [] e same = refl
same_message_at own n i [] (other ∷ others) e same = absurd same
same_message_at own n i (one ∷ frames) [] e same = absurd same
same_message_at own n zero (one ∷ frames) (other ∷ others) e same =
    let at : (row column : ℕ) → 1 ≤ row → row ≤ 3 → 15 ≤ column → column ≤ 16 → byte_at one.frame row column ≡ byte_at other.frame row column =
    λ row column a b c d. same.0.bytes row column (message_place own n one.expected row column (omega arith) a b c d) in
    let a = at 1 16 (omega arith) (omega arith) (omega arith) (omega arith) in
    let b = at 2 16 (omega arith) (omega arith) (omega arith) (omega arith) in
    let c = at 3 16 (omega arith) (omega arith) (omega arith) (omega arith) in
    let d = at 1 15 (omega arith) (omega arith) (omega arith) (omega arith) in
    let f = at 2 15 (omega arith) (omega arith) (omega arith) (omega arith) in
    let g = at 3 15 (omega arith) (omega arith) (omega arith) (omega arith) in
    cc
same_message_at own n (suc i) (one ∷ frames) (other ∷ others) e same = same_message_at own (suc n) i frames others (omega arith) same.1

pub some_greatest : (n : ℕ) (slots : List ℕ) → IsSlotList n slots → 1 ≤ greatest slots
some_greatest n [] h = absurd (let t = h.taken in let bad : ⊥ = omega arith in bad)
some_greatest n (k ∷ slots) h = let low : 1 ≤ k = h.low 0 (omega arith) in omega arith

pub fixed_by_own_places : (own : Tributary) (frames others : List Taken) → IsTributary own → AllSameOwnPlaces own 0 frames others → view_of own frames ≡ view_of own others
unfolding view_of
fixed_by_own_places own frames others t same =
    let some = some_greatest own.line_slots own.slots t.slots in
    let a = same_groups own 0 frames others t same in
    let b = same_message_at own 0 (greatest own.slots - 1) frames others (omega arith) same in
    let c = same_msi own 0 frames others same in
    cc

-- ---- a whole view

abbrev IsGroup : ℕ → List ℕ → Type 0
IsGroup m g = length g ≡ m

map_length : {X Y : Type 0} (f : X → Y) (xs : List X) → length (map f xs) ≡ length xs
map_length f xs = length-map xs f

range_all : {Y : Type 0} (P : Y → Type 0) (f : ℕ → Y) (a n : ℕ) → ((x : ℕ) → P (f x)) → All P (map f (range_with_len a n))
range_all P f a zero h = λ i d l. absurd (let bad : ⊥ = omega arith in bad)
range_all P f a (suc n) h = All-cons P (f a) (map f (range_with_len (a + 1) n)) (h a) (range_all P f (a + 1) n h)

row_each : (own : Tributary) (frame : List ℕ) (row : ℕ) → All (IsGroup (length own.slots)) (row_groups own frame row)
unfolding row_groups
row_each own frame row = range_all (IsGroup (length own.slots)) (λ x. group_at own.line_slots own.slots row x frame) 0 (3808 / own.line_slots) (λ x. map_length _ own.slots)

row_many : (own : Tributary) (frame : List ℕ) (row : ℕ) → length (row_groups own frame row) ≡ 3808 / own.line_slots
unfolding row_groups
row_many own frame row = length-map-range_with_len (λ x. group_at own.line_slots own.slots row x frame) 0 (3808 / own.line_slots)

frame_each : (own : Tributary) (frame : List ℕ) → All (IsGroup (length own.slots)) (frame_groups own frame)
unfolding frame_groups
frame_each own frame =
    let P = IsGroup (length own.slots) in
    let r = row_each own frame in
    All-append P (row_groups own frame 1) _ (r 1) (All-append P (row_groups own frame 2) _ (r 2) (All-append P (row_groups own frame 3) _ (r 3) (All-append P (row_groups own frame 4) [] (r 4) (All-nil P))))

frame_many : (own : Tributary) (frame : List ℕ) → length (frame_groups own frame) ≡ 4 * (3808 / own.line_slots)
unfolding frame_groups
frame_many own frame =
    let a = row_many own frame 1 in
    let b = row_many own frame 2 in
    let c = row_many own frame 3 in
    let d = row_many own frame 4 in
    simp length-append (omega arith)

groups_each : (own : Tributary) (frames : List Taken) → All (IsGroup (length own.slots)) (flat_map (λ t. frame_groups own t.frame) frames)
groups_each own [] = All-nil (IsGroup (length own.slots))
groups_each own (one ∷ frames) = All-append (IsGroup (length own.slots)) (frame_groups own one.frame) _ (frame_each own one.frame) (groups_each own frames)

groups_many : (own : Tributary) (frames : List Taken) → length (flat_map (λ t. frame_groups own t.frame) frames) ≡ length frames * (4 * (3808 / own.line_slots))
groups_many own [] = let e : 0 ≡ 0 * (4 * (3808 / own.line_slots)) = omega arith in e
groups_many own (one ∷ frames) =
    let here = frame_many own one.frame in
    let rest = groups_many own frames in
    let both = length-append (frame_groups own one.frame) (flat_map (λ t. frame_groups own t.frame) frames) in
    let n = length frames in
    let k = 4 * (3808 / own.line_slots) in
    let split : suc n * k ≡ k + n * k = omega arith in
    omega arith

pub whole_view : (own : Tributary) (frames : List Taken) → IsTributary own → length frames ≡ own.line_slots → IsWhole (length own.slots) (view_of own frames)
unfolding view_of
whole_view own frames t e =
    let even = t.even in
    let many = groups_many own frames in
    let times : length frames * (4 * (3808 / own.line_slots)) ≡ 4 * (own.line_slots * (3808 / own.line_slots)) = ap (λ n. n * (4 * (3808 / own.line_slots))) e ∙ omega arith in
    let all : 4 * (own.line_slots * (3808 / own.line_slots)) ≡ 4 * 3808 = ap (λ n. 4 * n) even in
    record { many = many ∙ times ∙ all; each = groups_each own frames }
