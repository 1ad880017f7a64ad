-- The data groups of a frame, behind those of the frames before it.
use Rattle.std.proofs.Common.{◌≡◌, ℕ, zero, suc, ◌+◌, ◌*◌, ◌<◌, List, [], ◌∷◌, ◌++◌, cond, length, refl, ap, ◌∙◌, sym, arith, append-nil, append_assoc, length-append}
use Rattle.std.specs.Prelude.{map}
use Rattle.std.specs.List.{range_with_len, flat_map, enumerate_from}
use Rattle.std.proofs.lemmas.List.Concat.{flat_map-append}
use Rattle.std.proofs.lemmas.List.FromFn.{length-map-range_with_len}
use Rattle.gmp_rule.specs.DataRule.{is_data_at}
use Rattle.otn_base.specs.LineSlots.{LineSlots, slots_of}
use Rattle.otn_base.specs.SlotList.{IsSlotList}
use Rattle.frame_geometry.specs.Places.{payload_row_of}
use Rattle.odtu_columns.specs.Groups.{group_at}
use Rattle.odtu_columns.specs.Payload.{payload_group}
use Rattle.odtu_columns.proofs.GroupRows.{each_slot, payload_group-frame}
use Rattle.tributary_model.specs.Places.{Tributary, tributary_of, Taken, row_groups, frame_groups}
use Rattle.tributary_model.specs.Emission.{data_bytes}
use Rattle.tributary_model.proofs.OnLine.{number_of_kind}
use Rattle.trib_sink.specs.Rows.{row_cycles}
use Rattle.trib_sink.specs.Steps.Rows.{row_data, data_from, frame_row_data, with_frame}
use Rattle.trib_sink.proofs.LineRows.{frames_asked}

piece : (c : ℕ) → ℕ × List ℕ → List ℕ
piece c p = cond (is_data_at c (p.0)) p.1 []

enumerate-append : (c j : ℕ) (g h : List (List ℕ))
    → flat_map (λ p. cond (is_data_at c (p.0)) p.1 []) (enumerate_from j (g ++ h))
    ≡ flat_map (λ p. cond (is_data_at c (p.0)) p.1 []) (enumerate_from j g) ++ flat_map (λ p. cond (is_data_at c (p.0)) p.1 []) (enumerate_from (j + length g) h)
enumerate-append c j [] h = ap (λ i. flat_map (λ p. cond (is_data_at c (p.0)) p.1 []) (enumerate_from i h)) (let e : j ≡ j + 0 = omega arith in e)
enumerate-append c j (x ∷ g) h =
    let rest = enumerate-append c (j + 1) g h in
    ap (λ y. cond (is_data_at c j) x [] ++ y) rest
    ∙ sym (append_assoc (cond (is_data_at c j) x []) (flat_map (λ p. cond (is_data_at c (p.0)) p.1 []) (enumerate_from (j + 1) g)) (flat_map (λ p. cond (is_data_at c (p.0)) p.1 []) (enumerate_from (j + 1 + length g) h)))
    ∙ ap (λ i. (cond (is_data_at c j) x [] ++ flat_map (λ p. cond (is_data_at c (p.0)) p.1 []) (enumerate_from (j + 1) g)) ++ flat_map (λ p. cond (is_data_at c (p.0)) p.1 []) (enumerate_from i h))
    (let e : j + 1 + length g ≡ j + suc (length g) = omega arith in e)

data_from-append : (c before : ℕ) (g h : List (List ℕ)) → data_from c before (g ++ h) ≡ data_from c before g ++ data_from c (before + length g) h
unfolding data_from
data_from-append c before g h =
    enumerate-append c (before + 1) g h
    ∙ ap (λ i. flat_map (λ p. cond (is_data_at c (p.0)) p.1 []) (enumerate_from (before + 1) g) ++ flat_map (λ p. cond (is_data_at c (p.0)) p.1 []) (enumerate_from i h))
    (let e : before + 1 + length g ≡ before + length g + 1 = omega arith in e)

data_bytes-append : (c : ℕ) (g h : List (List ℕ)) → data_bytes c (g ++ h) ≡ data_bytes c g ++ data_from c (length g) h
unfolding data_bytes data_from
data_bytes-append c g h =
    enumerate-append c 1 g h
    ∙ ap (λ i. flat_map (λ p. cond (is_data_at c (p.0)) p.1 []) (enumerate_from 1 g) ++ flat_map (λ p. cond (is_data_at c (p.0)) p.1 []) (enumerate_from i h)) (let e : 1 + length g ≡ length g + 1 = omega arith in e)

-- ---- a row

by_place : (c before : ℕ) (f : ℕ → List ℕ) (j a n : ℕ) → j ≡ before + a + 1
    → flat_map (λ p. cond (is_data_at c (p.0)) p.1 []) (enumerate_from j (map f (range_with_len a n))) ≡ flat_map (λ x. cond (is_data_at c (before + x + 1)) (f x) []) (range_with_len a n)
by_place c before f j a zero e = refl
by_place c before f j a (suc n) e =
    ap (λ i. cond (is_data_at c i) (f a) [] ++ flat_map (λ p. cond (is_data_at c (p.0)) p.1 []) (enumerate_from (j + 1) (map f (range_with_len (a + 1) n)))) e
    ∙ ap (λ y. cond (is_data_at c (before + a + 1)) (f a) [] ++ y) (by_place c before f (j + 1) (a + 1) n (omega arith))

pieces_alike : (f g : ℕ → List ℕ) (a n : ℕ) → ((x : ℕ) → x < a + n → f x ≡ g x) → flat_map f (range_with_len a n) ≡ flat_map g (range_with_len a n)
pieces_alike f g a zero h = refl
pieces_alike f g a (suc n) h =
    ap (λ y. y ++ flat_map f (range_with_len (a + 1) n)) (h a (omega arith))
    ∙ ap (λ y. g a ++ y) (pieces_alike f g (a + 1) n (λ x l. h x (omega arith)))

row_is : (c before row port : ℕ) (slots : LineSlots) (frame : List ℕ) → IsSlotList (slots_of slots.kind) slots.list
    → frame_row_data c before slots frame row ≡ data_from c before (row_groups (tributary_of slots port) frame row)
unfolding row_data data_from row_groups
row_is c before row port slots frame list =
    let line = slots_of slots.kind in
    let n = row_cycles slots.kind in
    pieces_alike (λ x. cond (is_data_at c (before + x + 1)) (payload_group line (payload_row_of 4080 row frame) slots.list x) []) (λ x. cond (is_data_at c (before + x + 1)) (group_at line slots.list row x frame) []) 0 n
    (λ x l. ap (λ y. cond (is_data_at c (before + x + 1)) y []) (payload_group-frame line row x frame slots.list (number_of_kind slots.kind) (omega arith) (each_slot line slots.list list)))
    ∙ sym (by_place c before (λ x. group_at line slots.list row x frame) (before + 1) 0 n (omega arith))

row_many : (slots : LineSlots) (frame : List ℕ) (port row : ℕ) → length (row_groups (tributary_of slots port) frame row) ≡ row_cycles slots.kind
unfolding row_groups
row_many slots frame port row = length-map-range_with_len (λ x. group_at (slots_of slots.kind) slots.list row x frame) 0 (row_cycles slots.kind)

-- ---- a frame

frame_rows : (own : Tributary) (frame : List ℕ) → frame_groups own frame ≡ row_groups own frame 1 ++ (row_groups own frame 2 ++ (row_groups own frame 3 ++ row_groups own frame 4))
unfolding frame_groups
frame_rows own frame = ap (λ y. row_groups own frame 1 ++ (row_groups own frame 2 ++ (row_groups own frame 3 ++ y))) (append-nil (row_groups own frame 4))

pub frame_many : (slots : LineSlots) (frame : List ℕ) (port : ℕ) → length (frame_groups (tributary_of slots port) frame) ≡ 4 * row_cycles slots.kind
frame_many slots frame port =
    let own = tributary_of slots port in
    let a = row_many slots frame port 1 in
    let b = row_many slots frame port 2 in
    let c = row_many slots frame port 3 in
    let d = row_many slots frame port 4 in
    ap length (frame_rows own frame) ∙ simp length-append (omega arith)

frame_is : (c before port : ℕ) (slots : LineSlots) (frame fresh : List ℕ) → IsSlotList (slots_of slots.kind) slots.list
    → with_frame fresh c before slots frame ≡ fresh ++ data_from c before (frame_groups (tributary_of slots port) frame)
frame_is c before port slots frame fresh list =
    let own = tributary_of slots port in
    let n = row_cycles slots.kind in
    let r : ℕ → List (List ℕ) = row_groups own frame in
    let many : (row : ℕ) → length (r row) ≡ n = row_many slots frame port in
    let d : ℕ → ℕ → List ℕ = λ b row. data_from c b (r row) in
    let x : ℕ → ℕ → List ℕ = λ b row. frame_row_data c b slots frame row in
    let rows : data_from c before (frame_groups own frame) ≡ d before 1 ++ (d (before + n) 2 ++ (d (before + n + n) 3 ++ d (before + n + n + n) 4)) =
    ap (data_from c before) (frame_rows own frame)
    ∙ data_from-append c before (r 1) (r 2 ++ (r 3 ++ r 4))
    ∙ ap (λ k. d before 1 ++ data_from c (before + k) (r 2 ++ (r 3 ++ r 4))) (many 1)
    ∙ ap (λ y. d before 1 ++ y) (data_from-append c (before + n) (r 2) (r 3 ++ r 4))
    ∙ ap (λ k. d before 1 ++ (d (before + n) 2 ++ data_from c (before + n + k) (r 3 ++ r 4))) (many 2)
    ∙ ap (λ y. d before 1 ++ (d (before + n) 2 ++ y)) (data_from-append c (before + n + n) (r 3) (r 4))
    ∙ ap (λ k. d before 1 ++ (d (before + n) 2 ++ (d (before + n + n) 3 ++ data_from c (before + n + n + k) (r 4)))) (many 3) in
    ap (λ y. fresh ++ y ++ x (before + n) 2 ++ x (before + n + n) 3 ++ x (before + n + n + n) 4) (row_is c before 1 port slots frame list)
    ∙ ap (λ y. fresh ++ d before 1 ++ y ++ x (before + n + n) 3 ++ x (before + n + n + n) 4) (row_is c (before + n) 2 port slots frame list)
    ∙ ap (λ y. fresh ++ d before 1 ++ d (before + n) 2 ++ y ++ x (before + n + n + n) 4) (row_is c (before + n + n) 3 port slots frame list)
    ∙ ap (λ y. fresh ++ d before 1 ++ d (before + n) 2 ++ d (before + n + n) 3 ++ y) (row_is c (before + n + n + n) 4 port slots frame list)
    ∙ four_together fresh (d before 1) (d (before + n) 2) (d (before + n + n) 3) (d (before + n + n + n) 4)
    ∙ ap (λ y. fresh ++ y) (sym rows)
  where
    four_together : (a b c d e : List ℕ) → (((a ++ b) ++ c) ++ d) ++ e ≡ a ++ (b ++ (c ++ (d ++ e)))
    four_together a b c d e = simp append_assoc

-- ---- the frames of a turn

pub groups_many : (slots : LineSlots) (port : ℕ) (frames : List Taken) → length (flat_map (λ t. frame_groups (tributary_of slots port) t.frame) frames) ≡ 4 * row_cycles slots.kind * length frames
groups_many slots port [] = omega arith
groups_many slots port (t ∷ frames) =
    let groups : Taken → List (List ℕ) = λ t. frame_groups (tributary_of slots port) t.frame in
    length-append (groups t) (flat_map groups frames)
    ∙ frames_asked slots.kind (length (groups t)) (length (flat_map groups frames)) (length frames) (frame_many slots t.frame port) (groups_many slots port frames)

-- one frame more
pub frame_taken : (c port : ℕ) (slots : LineSlots) (fresh : List ℕ) (frames : List Taken) (t : Taken) → IsSlotList (slots_of slots.kind) slots.list
    → fresh ≡ data_bytes c (flat_map (λ t. frame_groups (tributary_of slots port) t.frame) frames)
    → with_frame fresh c (4 * row_cycles slots.kind * length frames) slots t.frame ≡ data_bytes c (flat_map (λ t. frame_groups (tributary_of slots port) t.frame) (frames ++ t ∷ []))
frame_taken c port slots fresh frames t list e =
    let groups : Taken → List (List ℕ) = λ t. frame_groups (tributary_of slots port) t.frame in
    let before = 4 * row_cycles slots.kind * length frames in
    frame_is c before port slots t.frame fresh list
    ∙ ap (λ y. y ++ data_from c before (groups t)) e
    ∙ ap (λ n. data_bytes c (flat_map groups frames) ++ data_from c n (groups t)) (sym (groups_many slots port frames))
    ∙ sym (data_bytes-append c (flat_map groups frames) (groups t))
    ∙ ap (data_bytes c) (ap (λ y. flat_map groups frames ++ y) (sym (append-nil (groups t))) ∙ sym (flat_map-append groups frames (t ∷ [])))
