-- Bytes of several slots into a row, cycle by cycle.
use Rattle.std.proofs.Common.{◌≡◌, ◌≢◌, ℕ, ◌+◌, ◌-◌, ◌*◌, ◌/◌, ◌%◌, ◌<◌, ◌≤◌, ◌⊎◌, inl, inr, ◌||◌, cond, ltb, List, length, get_or, refl, ap, subst, sym, ◌∙◌, arith, w8, get_or-set_same, get_or-set_other, length-set}
use Rattle.std.proofs.Math.ListN.{set}
use Rattle.std.proofs.Math.Nat.{mul-add-mod_self_left, mod-eq_of_lt}
use Rattle.std.proofs.lemmas.Bool.Decides.{nat_tests}
use Rattle.std.proofs.lemmas.Simd.{Each1-from_get_or, SwzOk-from_Each1, get_or-swz_l_below, get_or-chunk, get_or-put_chunk_below, get_or-put_chunk_at, get_or-put_chunk_above}
use Rattle.std.specs.Simd.Lanes.{chunk, put_chunk}
use lib.Dec.{T}
use mir.Val.{zeroes}
use borrow.Rule.Simd.Moves.{SwzOk, swz_l}
use Rattle.otn_base.specs.SlotList.{IsSlotList}
use Rattle.lane_kernels.specs.Steps.Spread.{SpreadLanes}
use Rattle.lane_kernels.proofs.Rising.{higher}
use Rattle.lane_kernels.proofs.Puts.{lower, no_higher}

order : (i j : ℕ) → (i ≤ j) ⊎ (j < i)
order i j = grind arith

pub slot_range : (line : ℕ) (slots : List ℕ) → IsSlotList line slots → (p : ℕ) → p < length slots → (1 ≤ get_or slots p 0) × (get_or slots p 0 ≤ line)
slot_range line slots list p h = (list.low p h, list.high p h)

-- one slot more of a cycle
pub slot_here : (line : ℕ) (slots bytes row : List ℕ) (at from p : ℕ) → IsSlotList line slots → at + line ≤ length row → p < length slots
    → ((q : ℕ) → q < p → get_or row (at + (get_or slots q 0 - 1)) 0 ≡ get_or bytes (from + q) 0)
    → (q : ℕ) → q < p + 1 → get_or (set row (at + (get_or slots p 0 - 1)) (get_or bytes (from + p) 0)) (at + (get_or slots q 0 - 1)) 0 ≡ get_or bytes (from + q) 0
slot_here line slots bytes row at from p list room lp before q lq = go (order p q)
  where
    go : (p ≤ q) ⊎ (q < p) → get_or (set row (at + (get_or slots p 0 - 1)) (get_or bytes (from + p) 0)) (at + (get_or slots q 0 - 1)) 0 ≡ get_or bytes (from + q) 0
    go (inl l) =
        let e : q ≡ p = omega arith in
        let r = slot_range line slots list p lp in
        ap (λ n. get_or (set row (at + (get_or slots p 0 - 1)) (get_or bytes (from + p) 0)) (at + (get_or slots n 0 - 1)) 0) e
        ∙ get_or-set_same row (at + (get_or slots p 0 - 1)) (get_or bytes (from + p) 0) 0 (omega arith)
        ∙ ap (λ n. get_or bytes (from + n) 0) (sym e)
    go (inr l) =
        let a = higher line slots list q p l lp in
        let b = slot_range line slots list q (omega arith) in
        get_or-set_other row (at + (get_or slots p 0 - 1)) (at + (get_or slots q 0 - 1)) (get_or bytes (from + p) 0) 0 (λ e. omega arith)
        ∙ before q l

pub slot_others : (slots old row : List ℕ) (at p byte : ℕ)
    → ((n : ℕ) → ((q : ℕ) → q < p → n ≢ at + (get_or slots q 0 - 1)) → get_or row n 0 ≡ get_or old n 0)
    → (n : ℕ) → ((q : ℕ) → q < p + 1 → n ≢ at + (get_or slots q 0 - 1)) → get_or (set row (at + (get_or slots p 0 - 1)) byte) n 0 ≡ get_or old n 0
slot_others slots old row at p byte before n none =
    get_or-set_other row (at + (get_or slots p 0 - 1)) n byte 0 (none p (omega arith)) ∙ before n (λ q l. none q (omega arith))

-- one cycle more
pub cycle_front : (line : ℕ) (slots old row new : List ℕ) (from cycle : ℕ) → from ≤ cycle
    → ((n : ℕ) → n < line * from → get_or row n 0 ≡ get_or old n 0)
    → ((n : ℕ) → ((q : ℕ) → q < length slots → n ≢ line * cycle + (get_or slots q 0 - 1)) → get_or new n 0 ≡ get_or row n 0)
    → (n : ℕ) → n < line * from → get_or new n 0 ≡ get_or old n 0
cycle_front line slots old row new from cycle low before others n l =
    let s = no_higher line from cycle low in
    others n (λ q lq e. omega arith) ∙ before n l

pub cycle_here : (line : ℕ) (slots bytes row new : List ℕ) (from cycle : ℕ) → IsSlotList line slots
    → ((j p : ℕ) → from ≤ j → j < cycle → p < length slots → get_or row (line * j + (get_or slots p 0 - 1)) 0 ≡ get_or bytes (length slots * j + p) 0)
    → ((p : ℕ) → p < length slots → get_or new (line * cycle + (get_or slots p 0 - 1)) 0 ≡ get_or bytes (length slots * cycle + p) 0)
    → ((n : ℕ) → ((q : ℕ) → q < length slots → n ≢ line * cycle + (get_or slots q 0 - 1)) → get_or new n 0 ≡ get_or row n 0)
    → (j p : ℕ) → from ≤ j → j < cycle + 1 → p < length slots → get_or new (line * j + (get_or slots p 0 - 1)) 0 ≡ get_or bytes (length slots * j + p) 0
cycle_here line slots bytes row new from cycle list before here others j p low lj lp = go (order cycle j)
  where
    go : (cycle ≤ j) ⊎ (j < cycle) → get_or new (line * j + (get_or slots p 0 - 1)) 0 ≡ get_or bytes (length slots * j + p) 0
    go (inl l) =
        let e : j ≡ cycle = omega arith in
        ap (λ i. get_or new (line * i + (get_or slots p 0 - 1)) 0) e ∙ here p lp ∙ ap (λ i. get_or bytes (length slots * i + p) 0) (sym e)
    go (inr l) =
        let s = lower line j cycle l in
        let r = slot_range line slots list p lp in
        others (line * j + (get_or slots p 0 - 1)) (λ q lq e. omega arith) ∙ before j p low l lp

column_of : (line cycle r : ℕ) → r < line → (line * cycle + r) % line ≡ r
column_of line cycle r h = mul-add-mod_self_left line cycle r ∙ mod-eq_of_lt h

pub cycle_others : (line : ℕ) (slots old row new : List ℕ) (cycle : ℕ) → IsSlotList line slots
    → ((x : ℕ) → ((p : ℕ) → p < length slots → x % line + 1 ≢ get_or slots p 0) → get_or row x 0 ≡ get_or old x 0)
    → ((n : ℕ) → ((q : ℕ) → q < length slots → n ≢ line * cycle + (get_or slots q 0 - 1)) → get_or new n 0 ≡ get_or row n 0)
    → (x : ℕ) → ((p : ℕ) → p < length slots → x % line + 1 ≢ get_or slots p 0) → get_or new x 0 ≡ get_or old x 0
cycle_others line slots old row new cycle list before others x none =
    others x (λ q lq e.
    let r = slot_range line slots list q lq in
    let c : x % line ≡ get_or slots q 0 - 1 = ap (λ n. n % line) e ∙ column_of line cycle (get_or slots q 0 - 1) (omega arith) in
    none q lq (let f : x % line + 1 ≡ get_or slots q 0 = omega arith in f)) ∙ before x none

-- sixteen columns
lane_fits : (j : ℕ) → (j < 16) ⊎ (j ≡ 128) → T (zeroes 16 w8 j || ltb j 16)
lane_fits j (inl h) = grind (arith, nat_tests)
lane_fits j (inr e) = subst (λ j. T (zeroes 16 w8 j || ltb j 16)) (sym e) tt

pub lanes_spread : (lanes : List ℕ) → length lanes ≡ 16 → ((i : ℕ) → (get_or lanes i 0 < 16) ⊎ (get_or lanes i 0 ≡ 128)) → SwzOk w8 16 16 0 lanes
lanes_spread lanes long low =
    SwzOk-from_Each1 w8 16 1 16 0 lanes refl (omega arith) (Each1-from_get_or (λ j. T (zeroes 16 w8 j || ltb j 16)) lanes 0 (λ i l. lane_fits (get_or lanes i 0) (low i)))

low_lane : (a x y : ℕ) → a < 16 → cond (ltb a 128) x y ≡ x
low_lane a x y h = grind (arith, nat_tests)

high_lane : (a x y : ℕ) → a ≡ 128 → cond (ltb a 128) x y ≡ y
high_lane a x y h = grind (arith, nat_tests)

pub pair_put : (bytes row lanes merged : List ℕ) (from at : ℕ) → at + 16 ≤ length row → length lanes ≡ 16 → length merged ≡ 16
    → ((i : ℕ) → i < 16 → get_or merged i 0 ≡ cond (ltb (get_or lanes i 0) 128) (get_or (swz_l w8 16 (chunk from 16 bytes) 0 lanes) i 0) (get_or (chunk at 16 row) i 0))
    → (i : ℕ) → i < 16 → get_or lanes i 0 < 16 → get_or (put_chunk at row merged) (at + i) 0 ≡ get_or bytes (from + get_or lanes i 0) 0
pair_put bytes row lanes merged from at room long many each i h low =
    get_or-put_chunk_at at row merged i 0 (omega arith) (omega arith)
    ∙ each i h
    ∙ low_lane (get_or lanes i 0) (get_or (swz_l w8 16 (chunk from 16 bytes) 0 lanes) i 0) (get_or (chunk at 16 row) i 0) low
    ∙ get_or-swz_l_below w8 16 (chunk from 16 bytes) 0 lanes i (omega arith) low
    ∙ ap (λ n. get_or (chunk from 16 bytes) n 0) (let e : 16 * ((0 + i) / 16) + get_or lanes i 0 ≡ get_or lanes i 0 = omega arith in e)
    ∙ get_or-chunk from 16 bytes (get_or lanes i 0) 0 low

pub pair_kept : (bytes row lanes merged : List ℕ) (from at : ℕ) → at + 16 ≤ length row → length merged ≡ 16
    → ((i : ℕ) → i < 16 → get_or merged i 0 ≡ cond (ltb (get_or lanes i 0) 128) (get_or (swz_l w8 16 (chunk from 16 bytes) 0 lanes) i 0) (get_or (chunk at 16 row) i 0))
    → (i : ℕ) → i < 16 → get_or lanes i 0 ≡ 128 → get_or (put_chunk at row merged) (at + i) 0 ≡ get_or row (at + i) 0
pair_kept bytes row lanes merged from at room many each i h high =
    get_or-put_chunk_at at row merged i 0 (omega arith) (omega arith)
    ∙ each i h
    ∙ high_lane (get_or lanes i 0) (get_or (swz_l w8 16 (chunk from 16 bytes) 0 lanes) i 0) (get_or (chunk at 16 row) i 0) high
    ∙ get_or-chunk at 16 row i 0 h

pub pair_outside : (row merged : List ℕ) (at : ℕ) → length merged ≡ 16 → (n : ℕ) → (n < at) ⊎ (at + 16 ≤ n) → get_or (put_chunk at row merged) n 0 ≡ get_or row n 0
pair_outside row merged at many n (inl h) = get_or-put_chunk_below at row merged n 0 h
pair_outside row merged at many n (inr h) = get_or-put_chunk_above at row merged n 0 (omega arith)

-- two cycles more
pub pair_spread : (slots bytes row new lanes : List ℕ) (pair : ℕ) → IsSlotList 8 slots → length slots ≤ 8 → SpreadLanes slots lanes
    → ((j p : ℕ) → j < 2 * pair → p < length slots → get_or row (8 * j + (get_or slots p 0 - 1)) 0 ≡ get_or bytes (length slots * j + p) 0)
    → ((i : ℕ) → i < 16 → get_or lanes i 0 < 16 → get_or new (16 * pair + i) 0 ≡ get_or bytes (2 * length slots * pair + get_or lanes i 0) 0)
    → ((n : ℕ) → (n < 16 * pair) ⊎ (16 * pair + 16 ≤ n) → get_or new n 0 ≡ get_or row n 0)
    → (j p : ℕ) → j < 2 * (pair + 1) → p < length slots → get_or new (8 * j + (get_or slots p 0 - 1)) 0 ≡ get_or bytes (length slots * j + p) 0
pair_spread slots bytes row new lanes pair list few spread before here outside j p lj lp = go (order (2 * pair) j)
  where
    second_cycle : (2 * pair + 1 ≤ j) ⊎ (j < 2 * pair + 1) → 2 * pair ≤ j → get_or new (8 * j + (get_or slots p 0 - 1)) 0 ≡ get_or bytes (length slots * j + p) 0
    second_cycle (inl l) low =
        let r = slot_range 8 slots list p lp in
        let e : j ≡ 2 * pair + 1 = omega arith in
        let f : length slots * j ≡ length slots * (2 * pair + 1) = ap (λ k. length slots * k) e in
        let lane = spread.second p lp in
        ap (λ n. get_or new n 0) (let q : 8 * j + (get_or slots p 0 - 1) ≡ 16 * pair + (get_or slots p 0 - 1 + 8) = omega arith in q)
        ∙ here (get_or slots p 0 - 1 + 8) (omega arith) (omega arith)
        ∙ ap (λ n. get_or bytes (2 * length slots * pair + n) 0) lane
        ∙ ap (λ n. get_or bytes n 0) (let q : 2 * length slots * pair + (length slots + p) ≡ length slots * j + p = omega arith in q)
    second_cycle (inr l) low =
        let r = slot_range 8 slots list p lp in
        let e : j ≡ 2 * pair = omega arith in
        let f : length slots * j ≡ length slots * (2 * pair) = ap (λ k. length slots * k) e in
        let lane = spread.first p lp in
        ap (λ n. get_or new n 0) (let q : 8 * j + (get_or slots p 0 - 1) ≡ 16 * pair + (get_or slots p 0 - 1) = omega arith in q)
        ∙ here (get_or slots p 0 - 1) (omega arith) (omega arith)
        ∙ ap (λ n. get_or bytes (2 * length slots * pair + n) 0) lane
        ∙ ap (λ n. get_or bytes n 0) (let q : 2 * length slots * pair + p ≡ length slots * j + p = omega arith in q)

    go : (2 * pair ≤ j) ⊎ (j < 2 * pair) → get_or new (8 * j + (get_or slots p 0 - 1)) 0 ≡ get_or bytes (length slots * j + p) 0
    go (inl l) = second_cycle (order (2 * pair + 1) j) l
    go (inr l) =
        let r = slot_range 8 slots list p lp in
        outside (8 * j + (get_or slots p 0 - 1)) (inl (omega arith)) ∙ before j p l lp

pub pair_others : (slots old row new lanes : List ℕ) (pair : ℕ) → SpreadLanes slots lanes
    → ((x : ℕ) → ((p : ℕ) → p < length slots → x % 8 + 1 ≢ get_or slots p 0) → get_or row x 0 ≡ get_or old x 0)
    → ((i : ℕ) → i < 16 → get_or lanes i 0 ≡ 128 → get_or new (16 * pair + i) 0 ≡ get_or row (16 * pair + i) 0)
    → ((n : ℕ) → (n < 16 * pair) ⊎ (16 * pair + 16 ≤ n) → get_or new n 0 ≡ get_or row n 0)
    → (x : ℕ) → ((p : ℕ) → p < length slots → x % 8 + 1 ≢ get_or slots p 0) → get_or new x 0 ≡ get_or old x 0
pair_others slots old row new lanes pair spread before kept outside x none = go (order (16 * pair) x) ∙ before x none
  where
    inside : (16 * pair + 16 ≤ x) ⊎ (x < 16 * pair + 16) → 16 * pair ≤ x → get_or new x 0 ≡ get_or row x 0
    inside (inl l) low = outside x (inr l)
    inside (inr l) low =
        let e : 16 * pair + (x - 16 * pair) ≡ x = omega arith in
        let lane = spread.others (x - 16 * pair) (omega arith) (λ p lp f. none p lp (let c : x % 8 + 1 ≡ (x - 16 * pair) % 8 + 1 = omega arith in c ∙ f)) in
        ap (λ n. get_or new n 0) (sym e) ∙ kept (x - 16 * pair) (omega arith) lane ∙ ap (λ n. get_or row n 0) e

    go : (16 * pair ≤ x) ⊎ (x < 16 * pair) → get_or new x 0 ≡ get_or row x 0
    go (inl l) = inside (order (16 * pair + 16) x) l
    go (inr l) = outside x (inl l)

-- the lanes of one slot more
pub lane_low : (xs : List ℕ) (i v : ℕ) → i < length xs → v < 16 → ((n : ℕ) → (get_or xs n 0 < 16) ⊎ (get_or xs n 0 ≡ 128))
    → (n : ℕ) → (get_or (set xs i v) n 0 < 16) ⊎ (get_or (set xs i v) n 0 ≡ 128)
lane_low xs i v inside low before n = go (order i n) (order n i)
  where
    go : (i ≤ n) ⊎ (n < i) → (n ≤ i) ⊎ (i < n) → (get_or (set xs i v) n 0 < 16) ⊎ (get_or (set xs i v) n 0 ≡ 128)
    go (inl a) (inl b) =
        let e : i ≡ n = omega arith in
        let s : get_or (set xs i v) n 0 ≡ v = ap (λ k. get_or (set xs i v) k 0) (sym e) ∙ get_or-set_same xs i v 0 inside in
        inl (omega arith)
    go (inl a) (inr b) = let s = get_or-set_other xs i n v 0 (λ e. omega arith) in subst (λ w. (w < 16) ⊎ (w ≡ 128)) (sym s) (before n)
    go (inr a) b = let s = get_or-set_other xs i n v 0 (λ e. omega arith) in subst (λ w. (w < 16) ⊎ (w ≡ 128)) (sym s) (before n)

pub lanes_low : (xs : List ℕ) (i k v w : ℕ) → i < length xs → k < length xs → v < 16 → w < 16 → ((n : ℕ) → (get_or xs n 0 < 16) ⊎ (get_or xs n 0 ≡ 128))
    → (n : ℕ) → (get_or (set (set xs i v) k w) n 0 < 16) ⊎ (get_or (set (set xs i v) k w) n 0 ≡ 128)
lanes_low xs i k v w li lk lv lw before n = lane_low (set xs i v) k w (omega (arith, length-set xs i v)) lw (lane_low xs i v li lv before) n

-- a read behind two writes
pub read_second : (xs : List ℕ) (i k v w n : ℕ) → k < length xs → n ≡ k → get_or (set (set xs i v) k w) n 0 ≡ w
read_second xs i k v w n lk e = ap (λ m. get_or (set (set xs i v) k w) m 0) e ∙ get_or-set_same (set xs i v) k w 0 (omega (arith, length-set xs i v))

pub read_first : (xs : List ℕ) (i k v w n : ℕ) → i < length xs → n ≡ i → n ≢ k → get_or (set (set xs i v) k w) n 0 ≡ v
read_first xs i k v w n li e other = get_or-set_other (set xs i v) k n w 0 other ∙ ap (λ m. get_or (set xs i v) m 0) e ∙ get_or-set_same xs i v 0 li

pub read_other : (xs : List ℕ) (i k v w n : ℕ) → n ≢ i → n ≢ k → get_or (set (set xs i v) k w) n 0 ≡ get_or xs n 0
read_other xs i k v w n a b = get_or-set_other (set xs i v) k n w 0 b ∙ get_or-set_other xs i n v 0 a

pub lanes_first : (slots lanes : List ℕ) (p : ℕ) → IsSlotList 8 slots → length lanes ≡ 16 → p < length slots
    → ((q : ℕ) → q < p → get_or lanes (get_or slots q 0 - 1) 0 ≡ q)
    → (q : ℕ) → q < p + 1 → get_or (set (set lanes (get_or slots p 0 - 1) p) (get_or slots p 0 + 7) (length slots + p)) (get_or slots q 0 - 1) 0 ≡ q
lanes_first slots lanes p list long lp before q lq = go (order p q)
  where
    go : (p ≤ q) ⊎ (q < p) → get_or (set (set lanes (get_or slots p 0 - 1) p) (get_or slots p 0 + 7) (length slots + p)) (get_or slots q 0 - 1) 0 ≡ q
    go (inl l) =
        let e : q ≡ p = omega arith in
        let r = slot_range 8 slots list p lp in
        let f : get_or slots q 0 ≡ get_or slots p 0 = ap (λ n. get_or slots n 0) e in
        read_first lanes (get_or slots p 0 - 1) (get_or slots p 0 + 7) p (length slots + p) (get_or slots q 0 - 1) (omega arith) (omega arith) (λ e. omega arith) ∙ sym e
    go (inr l) =
        let a = higher 8 slots list q p l lp in
        let r = slot_range 8 slots list q (omega arith) in
        read_other lanes (get_or slots p 0 - 1) (get_or slots p 0 + 7) p (length slots + p) (get_or slots q 0 - 1) (λ e. omega arith) (λ e. omega arith) ∙ before q l

pub lanes_second : (slots lanes : List ℕ) (p : ℕ) → IsSlotList 8 slots → length lanes ≡ 16 → p < length slots
    → ((q : ℕ) → q < p → get_or lanes (get_or slots q 0 - 1 + 8) 0 ≡ length slots + q)
    → (q : ℕ) → q < p + 1 → get_or (set (set lanes (get_or slots p 0 - 1) p) (get_or slots p 0 + 7) (length slots + p)) (get_or slots q 0 - 1 + 8) 0 ≡ length slots + q
lanes_second slots lanes p list long lp before q lq = go (order p q)
  where
    go : (p ≤ q) ⊎ (q < p) → get_or (set (set lanes (get_or slots p 0 - 1) p) (get_or slots p 0 + 7) (length slots + p)) (get_or slots q 0 - 1 + 8) 0 ≡ length slots + q
    go (inl l) =
        let e : q ≡ p = omega arith in
        let r = slot_range 8 slots list p lp in
        let f : get_or slots q 0 ≡ get_or slots p 0 = ap (λ n. get_or slots n 0) e in
        read_second lanes (get_or slots p 0 - 1) (get_or slots p 0 + 7) p (length slots + p) (get_or slots q 0 - 1 + 8) (omega arith) (omega arith) ∙ ap (λ n. length slots + n) (sym e)
    go (inr l) =
        let a = higher 8 slots list q p l lp in
        let r = slot_range 8 slots list q (omega arith) in
        let s = slot_range 8 slots list p lp in
        read_other lanes (get_or slots p 0 - 1) (get_or slots p 0 + 7) p (length slots + p) (get_or slots q 0 - 1 + 8) (λ e. omega arith) (λ e. omega arith) ∙ before q l

pub lanes_others : (slots lanes : List ℕ) (p : ℕ) → IsSlotList 8 slots → p < length slots
    → ((i : ℕ) → i < 16 → ((q : ℕ) → q < p → i % 8 + 1 ≢ get_or slots q 0) → get_or lanes i 0 ≡ 128)
    → (i : ℕ) → i < 16 → ((q : ℕ) → q < p + 1 → i % 8 + 1 ≢ get_or slots q 0) → get_or (set (set lanes (get_or slots p 0 - 1) p) (get_or slots p 0 + 7) (length slots + p)) i 0 ≡ 128
lanes_others slots lanes p list lp before i li none =
    let r = slot_range 8 slots list p lp in
    let not_p = none p (omega arith) in
    read_other lanes (get_or slots p 0 - 1) (get_or slots p 0 + 7) p (length slots + p) i (λ e. not_p (omega arith)) (λ e. not_p (omega arith))
    ∙ before i li (λ q l. none q (omega arith))

-- the lanes of one slot more of half a cycle
pub half_each : (slots lanes : List ℕ) (before p : ℕ) → length lanes ≡ 16 → p < length slots
    → ((q : ℕ) → q < length slots → before + 1 ≤ get_or slots q 0) → ((q : ℕ) → q < length slots → get_or slots q 0 ≤ before + 16)
    → ((q r : ℕ) → q < r → r < length slots → get_or slots q 0 < get_or slots r 0)
    → ((q : ℕ) → q < p → get_or lanes (get_or slots q 0 - 1 - before) 0 ≡ q)
    → (q : ℕ) → q < p + 1 → get_or (set lanes (get_or slots p 0 - 1 - before) p) (get_or slots q 0 - 1 - before) 0 ≡ q
half_each slots lanes before p long lp low high rising done q lq = go (order p q)
  where
    go : (p ≤ q) ⊎ (q < p) → get_or (set lanes (get_or slots p 0 - 1 - before) p) (get_or slots q 0 - 1 - before) 0 ≡ q
    go (inl l) =
        let e : q ≡ p = omega arith in
        let a = low p lp in
        let b = high p lp in
        ap (λ n. get_or (set lanes (get_or slots p 0 - 1 - before) p) (get_or slots n 0 - 1 - before) 0) e
        ∙ get_or-set_same lanes (get_or slots p 0 - 1 - before) p 0 (omega arith) ∙ sym e
    go (inr l) =
        let a = low p lp in
        let b = low q (omega arith) in
        let c = rising q p l lp in
        get_or-set_other lanes (get_or slots p 0 - 1 - before) (get_or slots q 0 - 1 - before) p 0 (λ e. omega arith) ∙ done q l

pub half_others : (slots lanes : List ℕ) (before p : ℕ) → p < length slots → ((q : ℕ) → q < length slots → before + 1 ≤ get_or slots q 0)
    → ((i : ℕ) → i < 16 → ((q : ℕ) → q < p → before + i + 1 ≢ get_or slots q 0) → get_or lanes i 0 ≡ 128)
    → (i : ℕ) → i < 16 → ((q : ℕ) → q < p + 1 → before + i + 1 ≢ get_or slots q 0) → get_or (set lanes (get_or slots p 0 - 1 - before) p) i 0 ≡ 128
half_others slots lanes before p lp low done i li none =
    let a = low p lp in
    let not_p = none p (omega arith) in
    get_or-set_other lanes (get_or slots p 0 - 1 - before) i p 0 (λ e. not_p (omega arith)) ∙ done i li (λ q l. none q (omega arith))

-- one cycle more of 32 columns, half by half
pub halves_spread : (slots bytes row mid new first second : List ℕ) (cycle low : ℕ) → IsSlotList 32 slots → low ≤ 16 → length slots - low ≤ 16
    → ((p : ℕ) → p < low → get_or slots p 0 ≤ 16)
    → ((p : ℕ) → low ≤ p → p < length slots → 17 ≤ get_or slots p 0)
    → ((p : ℕ) → p < low → get_or first (get_or slots p 0 - 1) 0 ≡ p)
    → ((p : ℕ) → low + p < length slots → get_or second (get_or slots (low + p) 0 - 1 - 16) 0 ≡ p)
    → ((j p : ℕ) → j < cycle → p < length slots → get_or row (32 * j + (get_or slots p 0 - 1)) 0 ≡ get_or bytes (length slots * j + p) 0)
    → ((i : ℕ) → i < 16 → get_or first i 0 < 16 → get_or mid (32 * cycle + i) 0 ≡ get_or bytes (length slots * cycle + get_or first i 0) 0)
    → ((n : ℕ) → (n < 32 * cycle) ⊎ (32 * cycle + 16 ≤ n) → get_or mid n 0 ≡ get_or row n 0)
    → ((i : ℕ) → i < 16 → get_or second i 0 < 16 → get_or new (32 * cycle + 16 + i) 0 ≡ get_or bytes (length slots * cycle + low + get_or second i 0) 0)
    → ((n : ℕ) → (n < 32 * cycle + 16) ⊎ (32 * cycle + 16 + 16 ≤ n) → get_or new n 0 ≡ get_or mid n 0)
    → (j p : ℕ) → j < cycle + 1 → p < length slots → get_or new (32 * j + (get_or slots p 0 - 1)) 0 ≡ get_or bytes (length slots * j + p) 0
halves_spread slots bytes row mid new first second cycle low list few many lows highs firsts seconds before here_first outside_first here_second outside_second j p lj lp = go (order cycle j)
  where
    in_cycle : (low ≤ p) ⊎ (p < low) → get_or new (32 * cycle + (get_or slots p 0 - 1)) 0 ≡ get_or bytes (length slots * cycle + p) 0
    in_cycle (inl l) =
        let e : low + (p - low) ≡ p = omega arith in
        let h = highs p l lp in
        let r = slot_range 32 slots list p lp in
        let lane : get_or second (get_or slots p 0 - 1 - 16) 0 ≡ p - low = ap (λ n. get_or second (get_or slots n 0 - 1 - 16) 0) (sym e) ∙ seconds (p - low) (omega arith) in
        ap (λ n. get_or new n 0) (let q : 32 * cycle + (get_or slots p 0 - 1) ≡ 32 * cycle + 16 + (get_or slots p 0 - 1 - 16) = omega arith in q)
        ∙ here_second (get_or slots p 0 - 1 - 16) (omega arith) (omega arith)
        ∙ ap (λ n. get_or bytes (length slots * cycle + low + n) 0) lane
        ∙ ap (λ n. get_or bytes n 0) (let q : length slots * cycle + low + (p - low) ≡ length slots * cycle + p = omega arith in q)
    in_cycle (inr l) =
        let h = lows p l in
        let r = slot_range 32 slots list p lp in
        let lane = firsts p l in
        outside_second (32 * cycle + (get_or slots p 0 - 1)) (inl (omega arith))
        ∙ here_first (get_or slots p 0 - 1) (omega arith) (omega arith)
        ∙ ap (λ n. get_or bytes (length slots * cycle + n) 0) lane

    go : (cycle ≤ j) ⊎ (j < cycle) → get_or new (32 * j + (get_or slots p 0 - 1)) 0 ≡ get_or bytes (length slots * j + p) 0
    go (inl l) =
        let e : j ≡ cycle = omega arith in
        ap (λ i. get_or new (32 * i + (get_or slots p 0 - 1)) 0) e ∙ in_cycle (order low p) ∙ ap (λ i. get_or bytes (length slots * i + p) 0) (sym e)
    go (inr l) =
        let r = slot_range 32 slots list p lp in
        outside_second (32 * j + (get_or slots p 0 - 1)) (inl (omega arith)) ∙ outside_first (32 * j + (get_or slots p 0 - 1)) (inl (omega arith)) ∙ before j p l lp

pub halves_others : (slots old row mid new first second : List ℕ) (cycle low : ℕ) → low ≤ length slots
    → ((i : ℕ) → i < 16 → ((p : ℕ) → p < low → i + 1 ≢ get_or slots p 0) → get_or first i 0 ≡ 128)
    → ((i : ℕ) → i < 16 → ((p : ℕ) → low + p < length slots → 16 + i + 1 ≢ get_or slots (low + p) 0) → get_or second i 0 ≡ 128)
    → ((x : ℕ) → ((p : ℕ) → p < length slots → x % 32 + 1 ≢ get_or slots p 0) → get_or row x 0 ≡ get_or old x 0)
    → ((i : ℕ) → i < 16 → get_or first i 0 ≡ 128 → get_or mid (32 * cycle + i) 0 ≡ get_or row (32 * cycle + i) 0)
    → ((n : ℕ) → (n < 32 * cycle) ⊎ (32 * cycle + 16 ≤ n) → get_or mid n 0 ≡ get_or row n 0)
    → ((i : ℕ) → i < 16 → get_or second i 0 ≡ 128 → get_or new (32 * cycle + 16 + i) 0 ≡ get_or mid (32 * cycle + 16 + i) 0)
    → ((n : ℕ) → (n < 32 * cycle + 16) ⊎ (32 * cycle + 16 + 16 ≤ n) → get_or new n 0 ≡ get_or mid n 0)
    → (x : ℕ) → ((p : ℕ) → p < length slots → x % 32 + 1 ≢ get_or slots p 0) → get_or new x 0 ≡ get_or old x 0
halves_others slots old row mid new first second cycle low at_most firsts seconds before kept_first outside_first kept_second outside_second x none =
    second_half (order (32 * cycle + 16) x) (order (32 * cycle + 32) x) ∙ first_half (order (32 * cycle) x) (order (32 * cycle + 16) x) ∙ before x none
  where
    first_half : (32 * cycle ≤ x) ⊎ (x < 32 * cycle) → (32 * cycle + 16 ≤ x) ⊎ (x < 32 * cycle + 16) → get_or mid x 0 ≡ get_or row x 0
    first_half (inr l) b = outside_first x (inl l)
    first_half (inl l) (inl h) = outside_first x (inr h)
    first_half (inl l) (inr h) =
        let e : 32 * cycle + (x - 32 * cycle) ≡ x = omega arith in
        let lane = firsts (x - 32 * cycle) (omega arith) (λ p lp f. none p (omega arith) (let c : x % 32 + 1 ≡ x - 32 * cycle + 1 = omega arith in c ∙ f)) in
        ap (λ n. get_or mid n 0) (sym e) ∙ kept_first (x - 32 * cycle) (omega arith) lane ∙ ap (λ n. get_or row n 0) e

    second_half : (32 * cycle + 16 ≤ x) ⊎ (x < 32 * cycle + 16) → (32 * cycle + 32 ≤ x) ⊎ (x < 32 * cycle + 32) → get_or new x 0 ≡ get_or mid x 0
    second_half (inr l) b = outside_second x (inl l)
    second_half (inl l) (inl h) = outside_second x (inr (omega arith))
    second_half (inl l) (inr h) =
        let i = x - (32 * cycle + 16) in
        let e : 32 * cycle + 16 + (x - (32 * cycle + 16)) ≡ x = omega arith in
        let lane = seconds (x - (32 * cycle + 16)) (omega arith) (λ p lp f. none (low + p) lp (let c : x % 32 + 1 ≡ 16 + (x - (32 * cycle + 16)) + 1 = omega arith in c ∙ f)) in
        ap (λ n. get_or new n 0) (sym e) ∙ kept_second (x - (32 * cycle + 16)) (omega arith) lane ∙ ap (λ n. get_or mid n 0) e
