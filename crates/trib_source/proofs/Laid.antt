-- Groups laid out, one by one or by runs of data groups.
use Rattle.std.proofs.Common.{◌≡◌, ◌⊎◌, inl, inr, ℕ, ◌+◌, ◌*◌, ◌-◌, ◌%◌, ◌<◌, ◌≤◌, List, cond, ap, ◌∙◌, sym, subst, arith, get_or}
use Rattle.std.proofs.lemmas.Bool.{lt-ltb}
use Rattle.std.proofs.Math.Nat.{mul-le-mul_left}
use Rattle.gmp_rule.specs.DataRule.{IsData, is_data_at, data_count}
use Rattle.trib_source.specs.Steps.Rows.{data_bytes, byte_laid}
use Rattle.trib_source.proofs.Counts.{data_run, counts_grow}

-- the bytes of the data groups, as they grow
pub bytes_grow : (m c a x : ℕ) → m * data_count c a ≤ m * data_count c (a + x)
bytes_grow m c a x = mul-le-mul_left m (counts_grow c a x)

-- So many groups were laid out, with the data in front of a byte of it.
pub record LaidTo (m c a : ℕ) (fresh : List ℕ) (x from : ℕ) (into : List ℕ) : Type 0 where
  pub from_is : from ≡ data_bytes m c a x
  pub bytes : (y i : ℕ) → y < x → i < m → get_or into (m * y + i) 0 ≡ byte_laid m c a fresh y i

pub laid_none : (m c a : ℕ) (fresh into : List ℕ) → LaidTo m c a fresh 0 0 into
laid_none m c a fresh into = record {
  from_is = (let e : a + 0 ≡ a = omega arith in let f : m * data_count c (a + 0) ≡ m * data_count c a = ap (λ k. m * data_count c k) e in omega arith);
  bytes = λ y i l h. absurd (let bad : ⊥ = omega arith in bad);
}

inside : (m y x i : ℕ) → y < x → i < m → m * y + i < m * x
inside m y x i l h = let wide : m * (y + 1) ≤ m * x = mul-le-mul_left m (let e : y + 1 ≤ x = omega arith in e) in omega arith

-- room for one group more
pub group_room : (m x cycles : ℕ) → x < cycles → m * x + m ≤ m * cycles
group_room m x cycles l = let wide : m * (x + 1) ≤ m * cycles = mul-le-mul_left m (let e : x + 1 ≤ cycles = omega arith in e) in omega arith

-- and for a run
pub run_room : (m x run cycles : ℕ) → x + run ≤ cycles → m * x + m * run ≤ m * cycles
run_room m x run cycles l = let wide : m * (x + run) ≤ m * cycles = mul-le-mul_left m l in omega arith

-- ---- one group more

-- what laying out one group does
pub record LaidNext (m c a : ℕ) (fresh : List ℕ) (from at next : ℕ) (old new : List ℕ) : Type 0 where
  pub from_is : next + m * data_count c a ≡ from + m * data_count c (a + 1)
  pub bytes : (i : ℕ) → i < m → get_or new (at + i) 0 ≡ cond (is_data_at c (a + 1)) (get_or fresh (from + i) 0) 0
  pub front : (n : ℕ) → n < at → get_or new n 0 ≡ get_or old n 0
  pub behind : (n : ℕ) → at + m ≤ n → get_or new n 0 ≡ get_or old n 0

-- and so it does where the bytes were cleared before
pub laid_over : (m c a : ℕ) (fresh : List ℕ) (from at next : ℕ) (old mid new : List ℕ) → next + m * data_count c a ≡ from + m * data_count c (a + 1)
    → ((i : ℕ) → i < m → get_or new (at + i) 0 ≡ cond (is_data_at c (a + 1)) (get_or fresh (from + i) 0) (get_or mid (at + i) 0)) → ((i : ℕ) → i < m → get_or mid (at + i) 0 ≡ 0)
    → ((n : ℕ) → n < at → get_or new n 0 ≡ get_or old n 0) → ((n : ℕ) → at + m ≤ n → get_or new n 0 ≡ get_or old n 0) → LaidNext m c a fresh from at next old new
laid_over m c a fresh from at next old mid new is bytes clear front behind = record {
  from_is = is;
  bytes = λ i h. bytes i h ∙ ap (λ k. cond (is_data_at c (a + 1)) (get_or fresh (from + i) 0) k) (clear i h);
  front = front;
  behind = behind;
}

below_or : (y x : ℕ) → y < x + 1 → (y < x) ⊎ (y ≡ x)
below_or y x h = grind arith

pub next_enough : (m c a cycles x from long : ℕ) → long ≡ data_bytes m c a cycles → x < cycles → from ≡ data_bytes m c a x → from + m * data_count c (a + x + 1) ≤ long + m * data_count c (a + x)
next_enough m c a cycles x from long size l from_is =
    let one = bytes_grow m c a x in
    let two : m * data_count c (a + x + 1) ≤ m * data_count c (a + cycles) =
    subst (λ k. m * data_count c (a + x + 1) ≤ m * data_count c k) (let e : a + x + 1 + (cycles - (x + 1)) ≡ a + cycles = omega arith in e) (bytes_grow m c (a + x + 1) (cycles - (x + 1))) in
    let three = bytes_grow m c (a + x) 1 in
    omega arith

pub laid_next : (m c a x from next : ℕ) (fresh old new : List ℕ) → LaidTo m c a fresh x from old → LaidNext m c (a + x) fresh from (m * x) next old new → LaidTo m c a fresh (x + 1) next new
laid_next m c a x from next fresh old new to more = record {
  from_is =
      (let one = bytes_grow m c a x in
      let two = bytes_grow m c (a + x) 1 in
      let from_was = to.from_is in
      let from_now = more.from_is in
      let same : m * data_count c (a + (x + 1)) ≡ m * data_count c (a + x + 1) = ap (λ k. m * data_count c k) (let e : a + (x + 1) ≡ a + x + 1 = omega arith in e) in
      omega arith);
  bytes = λ y i l h. go y i h (below_or y x l);
}
  where
    go : (y i : ℕ) → i < m → (y < x) ⊎ (y ≡ x) → get_or new (m * y + i) 0 ≡ byte_laid m c a fresh y i
    go y i h (inl l) = more.front (m * y + i) (inside m y x i l h) ∙ to.bytes y i l h
    go y i h (inr e) =
        ap (λ k. get_or new (m * k + i) 0) e
        ∙ more.bytes i h
        ∙ ap (λ k. cond (is_data_at c (a + x + 1)) (get_or fresh (k + i) 0) 0) to.from_is
        ∙ ap (λ k. byte_laid m c a fresh k i) (sym e)

-- ---- a run of data groups more

-- what laying out a run does
pub record LaidRun (m c a : ℕ) (fresh : List ℕ) (from at run : ℕ) (old new : List ℕ) : Type 0 where
  pub each : (i : ℕ) → i < run → IsData c (a + i + 1)
  pub bytes : (i : ℕ) → i < m * run → get_or new (at + i) 0 ≡ get_or fresh (from + i) 0
  pub front : (n : ℕ) → n < at → get_or new n 0 ≡ get_or old n 0
  pub behind : (n : ℕ) → at + m * run ≤ n → get_or new n 0 ≡ get_or old n 0

run_count : (c a x run : ℕ) → ((i : ℕ) → i < run → IsData c (a + x + i + 1)) → data_count c (a + (x + run)) ≡ data_count c (a + x) + run
run_count c a x run each = ap (data_count c) (let e : a + (x + run) ≡ a + x + run = omega arith in e) ∙ data_run c (a + x) run each

run_bytes : (m c a x run : ℕ) → ((i : ℕ) → i < run → IsData c (a + x + i + 1)) → data_bytes m c a (x + run) ≡ data_bytes m c a x + m * run
run_bytes m c a x run each =
    let one = bytes_grow m c a x in
    let more : m * data_count c (a + (x + run)) ≡ m * data_count c (a + x) + m * run = ap (λ k. m * k) (run_count c a x run each) ∙ omega arith in
    omega arith

pub run_enough : (m c a cycles x run from long : ℕ) → long ≡ data_bytes m c a cycles → x + run ≤ cycles → from ≡ data_bytes m c a x → ((i : ℕ) → i < run → IsData c (a + x + i + 1)) → from + m * run ≤ long
run_enough m c a cycles x run from long size l from_is each =
    let here = run_bytes m c a x run each in
    let most : m * data_count c (a + (x + run)) ≤ m * data_count c (a + cycles) =
    subst (λ k. m * data_count c (a + (x + run)) ≤ m * data_count c k) (let e : a + (x + run) + (cycles - (x + run)) ≡ a + cycles = omega arith in e) (bytes_grow m c (a + (x + run)) (cycles - (x + run))) in
    omega arith

run_or : (y x run : ℕ) → y < x + run → (y < x) ⊎ ((x ≤ y) × (y - x < run))
run_or y x run h = grind arith

pub laid_run : (m c a x run from : ℕ) (fresh old new : List ℕ) → LaidTo m c a fresh x from old → LaidRun m c (a + x) fresh from (m * x) run old new → LaidTo m c a fresh (x + run) (from + m * run) new
laid_run m c a x run from fresh old new to more = record {
  from_is = (let is = to.from_is in let here = run_bytes m c a x run more.each in omega arith);
  bytes = λ y i l h. go y i h (run_or y x run l);
}
  where
    go : (y i : ℕ) → i < m → (y < x) ⊎ ((x ≤ y) × (y - x < run)) → get_or new (m * y + i) 0 ≡ byte_laid m c a fresh y i
    go y i h (inl l) = more.front (m * y + i) (inside m y x i l h) ∙ to.bytes y i l h
    go y i h (inr later) =
        let z = y - x in
        let low = later.0 in
        let data_here : IsData c (a + y + 1) = subst (IsData c) (let e : a + x + z + 1 ≡ a + y + 1 = omega arith in e) (more.each z later.1) in
        let here : data_bytes m c a y ≡ from + m * z =
        ap (data_bytes m c a) (let e : y ≡ x + z = omega arith in e)
        ∙ run_bytes m c a x z (λ k l. more.each k (let less = later.1 in omega arith))
        ∙ ap (λ k. k + m * z) (sym to.from_is) in
        let place : m * y ≡ m * x + m * z = ap (λ k. m * k) (let e : y ≡ x + z = omega arith in e) ∙ omega arith in
        ap (λ k. get_or new k 0) (let e : m * y + i ≡ m * x + (m * z + i) = omega arith in e)
        ∙ more.bytes (m * z + i) (inside m z run i later.1 h)
        ∙ ap (λ k. get_or fresh k 0) (let e : from + (m * z + i) ≡ data_bytes m c a y + i = omega arith in e)
        ∙ ap (λ t. cond t (get_or fresh (data_bytes m c a y + i) 0) 0) (sym (lt-ltb (((a + y + 1) * c) % 15232) c data_here))
