-- The data groups of a frame where each is one byte, and all stand together.
use Rattle.std.proofs.Common.{◌≡◌, ℕ, zero, suc, ◌+◌, ◌-◌, ◌*◌, ◌<◌, ◌≤◌, List, [], ◌∷◌, ◌++◌, cond, length, get_or, take, drop, refl, ap, sym, ◌∙◌, arith, append-nil, append_assoc}
use Rattle.std.specs.Prelude.{slice_set}
use Rattle.std.specs.List.{range_with_len, flat_map}
use Rattle.std.proofs.lemmas.List.{get_or-take, get_or-drop, length-drop, length-take-le}
use Rattle.std.proofs.lemmas.List.Concat.{flat_map-append}
use Rattle.frame_geometry.specs.Places.{payload_row_of}
use Rattle.gmp_rule.specs.DataRule.{is_data_at}
use Rattle.odtu_columns.specs.Payload.{payload_group, run_groups}
use Rattle.odtu_columns.proofs.Cycles.{range-append}
use Rattle.odtu_columns.proofs.RunGroups.{run_groups-none, run_is}
use Rattle.otn_base.specs.LineSlots.{LineSlots, slots_of}
use Rattle.trib_sink.specs.Rows.{row_cycles}
use Rattle.trib_sink.specs.Steps.Rows.{row_data, own_data, frame_row_data, with_frame}

-- a byte behind the first ones
pub one_behind : (into : List ℕ) (at byte : ℕ) → at + 1 ≤ length into → take (at + 1) (slice_set into at byte) ≡ take at into ++ byte ∷ []
one_behind [] at byte room = absurd (omega arith)
one_behind (x ∷ into) zero byte room = refl
one_behind (x ∷ into) (suc at) byte room =
    ap (λ n. take n (x ∷ slice_set into at byte)) (let e : suc at + 1 ≡ suc (at + 1) = omega arith in e)
    ∙ ap (λ ys. x ∷ ys) (one_behind into at byte (omega arith))

-- none of the bytes
pub no_run : (own front : List ℕ) (first count : ℕ) → count ≡ 0 → front ≡ front ++ run_groups 1 own (1 ∷ []) first count
no_run own front first count e = sym (ap (λ n. front ++ run_groups 1 own (1 ∷ []) first n) e ∙ ap (λ ys. front ++ ys) (run_groups-none 1 own (1 ∷ []) first) ∙ append-nil front)

-- some of the bytes, as the groups of a run of cycles
pub own_run : (own new : List ℕ) (first count : ℕ) → first + count ≤ length own → new ≡ take (first + count - first) (drop first own) → new ≡ run_groups 1 own (1 ∷ []) first count
own_run own new first count room is = run_is 1 own (1 ∷ []) new first count size (λ j p lj lp. each j p lj (let e : p ≡ 0 = omega arith in e))
  where
    many : first + count - first ≡ count
    many = omega arith

    short : new ≡ take count (drop first own)
    short = is ∙ ap (λ n. take n (drop first own)) many

    size : length new ≡ 1 * count
    size = ap length short ∙ length-take-le count (drop first own) (omega (arith, length-drop first own)) ∙ (let e : count ≡ 1 * count = omega arith in e)

    each : (j p : ℕ) → j < count → p ≡ 0 → get_or new (1 * j + p) 0 ≡ get_or own (1 * (first + j) + get_or (1 ∷ []) p 0 - 1) 0
    each j p lj e =
        ap (λ n. get_or new n 0) (let f : 1 * j + p ≡ j = omega arith in f)
        ∙ ap (λ xs. get_or xs j 0) short
        ∙ get_or-take count (drop first own) j 0 lj
        ∙ get_or-drop first own j 0
        ∙ ap (λ n. get_or own n 0) (let f : first + j ≡ 1 * (first + j) + 1 - 1 = omega arith in f)
        ∙ sym (ap (λ n. get_or own (1 * (first + j) + get_or (1 ∷ []) n 0 - 1) 0) e)

-- what two ranges give that give the same number by number
shifted : (f g : ℕ → List ℕ) (a b n : ℕ) → ((x : ℕ) → x < n → f (a + x) ≡ g (b + x)) → flat_map f (range_with_len a n) ≡ flat_map g (range_with_len b n)
shifted f g a b zero h = refl
shifted f g a b (suc n) h =
    let first : f a ≡ g b = ap f (let e : a ≡ a + 0 = omega arith in e) ∙ h 0 (omega arith) ∙ ap g (let e : b + 0 ≡ b = omega arith in e) in
    ap (λ ys. ys ++ flat_map f (range_with_len (a + 1) n)) first
    ∙ ap (λ ys. g b ++ ys) (shifted f g (a + 1) (b + 1) n (λ x l.
    ap f (let e : a + 1 + x ≡ a + (x + 1) = omega arith in e) ∙ h (x + 1) (omega arith) ∙ ap g (let e : b + (x + 1) ≡ b + 1 + x = omega arith in e)))

-- the data groups of a row, which stand from a byte on
own_row : (c before : ℕ) (slots : LineSlots) (frame own : List ℕ) (row a : ℕ)
    → ((x : ℕ) → x < row_cycles slots.kind → get_or own (a + x) 0 ∷ [] ≡ payload_group (slots_of slots.kind) (payload_row_of 4080 row frame) slots.list x)
    → flat_map (λ x. cond (is_data_at c (before + x + 1)) (payload_group 1 own (1 ∷ []) x) []) (range_with_len a (row_cycles slots.kind)) ≡ frame_row_data c (before + a) slots frame row
unfolding row_data
own_row c before slots frame own row a groups =
    let group : ℕ → List ℕ = payload_group (slots_of slots.kind) (payload_row_of 4080 row frame) slots.list in
    shifted (λ x. cond (is_data_at c (before + x + 1)) (payload_group 1 own (1 ∷ []) x) []) (λ x. cond (is_data_at c (before + a + x + 1)) (group x) []) a 0 (row_cycles slots.kind) (λ x l.
    ap (λ n. cond (is_data_at c n) (get_or own (1 * (a + x) + 1 - 1) 0 ∷ []) []) (let e : before + (a + x) + 1 ≡ before + a + (0 + x) + 1 = omega arith in e)
    ∙ ap (λ n. cond (is_data_at c (before + a + (0 + x) + 1)) (get_or own n 0 ∷ []) []) (let e : 1 * (a + x) + 1 - 1 ≡ a + x = omega arith in e)
    ∙ ap (λ ys. cond (is_data_at c (before + a + (0 + x) + 1)) ys []) (groups x l)
    ∙ ap (λ n. cond (is_data_at c (before + a + (0 + x) + 1)) (group n) []) (let e : x ≡ 0 + x = omega arith in e))

-- those of a frame are those of its four rows
pub own_frame : (c before : ℕ) (slots : LineSlots) (frame fresh own : List ℕ) → length own ≡ 4 * row_cycles slots.kind
    → ((row x : ℕ) → 1 ≤ row → row ≤ 4 → x < row_cycles slots.kind → get_or own (row_cycles slots.kind * (row - 1) + x) 0 ∷ [] ≡ payload_group (slots_of slots.kind) (payload_row_of 4080 row frame) slots.list x)
    → fresh ++ own_data c before own ≡ with_frame fresh c before slots frame
unfolding row_data
own_frame c before slots frame fresh own size groups =
    let n = row_cycles slots.kind in
    let f : ℕ → List ℕ = λ x. cond (is_data_at c (before + x + 1)) (payload_group 1 own (1 ∷ []) x) [] in
    let r : ℕ → ℕ → List ℕ = λ b row. frame_row_data c b slots frame row in
    let a2 : 0 + n ≡ n = omega arith in
    let one : flat_map f (range_with_len 0 n) ≡ r (before + 0) 1 = own_row c before slots frame own 1 0 (λ x l.
    ap (λ i. get_or own i 0 ∷ []) (let e : 0 + x ≡ n * 0 + x = omega arith in e) ∙ groups 1 x (omega arith) (omega arith) l) in
    let two : flat_map f (range_with_len n n) ≡ r (before + n) 2 = own_row c before slots frame own 2 n (λ x l.
    ap (λ i. get_or own i 0 ∷ []) (let e : n + x ≡ n * 1 + x = omega arith in e) ∙ groups 2 x (omega arith) (omega arith) l) in
    let three : flat_map f (range_with_len (n + n) n) ≡ r (before + (n + n)) 3 = own_row c before slots frame own 3 (n + n) (λ x l.
    ap (λ i. get_or own i 0 ∷ []) (let e : n + n + x ≡ n * 2 + x = omega arith in e) ∙ groups 3 x (omega arith) (omega arith) l) in
    let four : flat_map f (range_with_len (n + n + n) n) ≡ r (before + (n + n + n)) 4 = own_row c before slots frame own 4 (n + n + n) (λ x l.
    ap (λ i. get_or own i 0 ∷ []) (let e : n + n + n + x ≡ n * 3 + x = omega arith in e) ∙ groups 4 x (omega arith) (omega arith) l) in
    let parts : flat_map f (range_with_len 0 (length own)) ≡ flat_map f (range_with_len 0 n) ++ (flat_map f (range_with_len n n) ++ (flat_map f (range_with_len (n + n) n) ++ flat_map f (range_with_len (n + n + n) n))) =
    ap (λ k. flat_map f (range_with_len 0 k)) (size ∙ (let e : 4 * n ≡ n + (n + (n + n)) = omega arith in e))
    ∙ halves f 0 n (n + (n + n))
    ∙ ap (λ a. flat_map f (range_with_len 0 n) ++ flat_map f (range_with_len a (n + (n + n)))) a2
    ∙ ap (λ ys. flat_map f (range_with_len 0 n) ++ ys) (halves f n n (n + n))
    ∙ ap (λ ys. flat_map f (range_with_len 0 n) ++ (flat_map f (range_with_len n n) ++ ys)) (halves f (n + n) n n) in
    ap (λ ys. fresh ++ ys) parts
    ∙ ap (λ ys. fresh ++ (ys ++ (flat_map f (range_with_len n n) ++ (flat_map f (range_with_len (n + n) n) ++ flat_map f (range_with_len (n + n + n) n))))) (one ∙ ap (λ b. r b 1) (let e : before + 0 ≡ before = omega arith in e))
    ∙ ap (λ ys. fresh ++ (r before 1 ++ (ys ++ (flat_map f (range_with_len (n + n) n) ++ flat_map f (range_with_len (n + n + n) n))))) two
    ∙ ap (λ ys. fresh ++ (r before 1 ++ (r (before + n) 2 ++ (ys ++ flat_map f (range_with_len (n + n + n) n))))) (three ∙ ap (λ b. r b 3) (let e : before + (n + n) ≡ before + n + n = omega arith in e))
    ∙ ap (λ ys. fresh ++ (r before 1 ++ (r (before + n) 2 ++ (r (before + n + n) 3 ++ ys)))) (four ∙ ap (λ b. r b 4) (let e : before + (n + n + n) ≡ before + n + n + n = omega arith in e))
    ∙ sym (four_together fresh (r before 1) (r (before + n) 2) (r (before + n + n) 3) (r (before + n + n + n) 4))
  where
    four_together : (a b c d e : List ℕ) → (((a ++ b) ++ c) ++ d) ++ e ≡ a ++ (b ++ (c ++ (d ++ e)))
    four_together a b c d e = simp append_assoc

    halves : (f : ℕ → List ℕ) (a m n : ℕ) → flat_map f (range_with_len a (m + n)) ≡ flat_map f (range_with_len a m) ++ flat_map f (range_with_len (a + m) n)
    halves f a m n = ap (flat_map f) (range-append a m n) ∙ flat_map-append f (range_with_len a m) (range_with_len (a + m) n)
