-- Hex digits in vectors of sixteen bytes.
use Rattle.std.proofs.Common.{◌≡◌, ◌≢◌, ℕ, zero, suc, ◌+◌, ◌-◌, ◌*◌, ◌/◌, ◌%◌, ◌^◌, ◌<◌, ◌≤◌, ◌⊎◌, ◌==◌, inl, inr, Bool, true, false, cond, eqb, ltb, nat_lt, List, [], ◌∷◌, map, length, get_or, replicate, bit_and, bit_or, refl, sym, ap, ◌∙◌, arith, w8, Fits, ltb-true, ltb-false, eqb-true}
use Rattle.std.proofs.lemmas.Bool.{cases_lt, cases_eq, agree_below_at, eqb-false}
use Rattle.std.proofs.lemmas.Bool.Decides.{nat_tests}
use Rattle.std.proofs.lemmas.List.{ext_get_or, get_or-map, length-map}
use Rattle.std.proofs.lemmas.Nat.{and_le_r, le_or_l, le_or_r, or_lt}
use Rattle.std.proofs.lemmas.Simd.{Each1-from_get_or, get_or-put_chunk_at, Each1-all, Each1-zip2, Each2-splat, swz_l, SwzOk, SwzOk-from_below, length-zip2, length-swz_l, get_or-swz_l_below, length-chunk, get_or-chunk, zip2_splat, tops_compared, zip2_of_maps, get_or_wider, get_or_narrower, get_or-zip2, get_or-replicate, below_from_Fits, splat_is_map, zip2-map, zip2_splat_left, mask_l-mod}
use lib.Lanes.{zip2, sel_l, mask_l, top, Each1, chunk, put_chunk, number_l, digits_l}
use Rattle.packet_text.specs.Steps.DigitMarks.{sixteen, bytes_from, byte_of, pair_lane, byte_less, smaller, worth, numeral_worth, letter_worth, AllSmall, HasLarge, IsPair, HasRefused}
use Rattle.packet_text.proofs.DigitWorth.{pair_read, pair_refused}

pub get_sixteen : (f : ℕ → ℕ) (i : ℕ) → i < 16 → get_or (sixteen f) i 0 ≡ f i
get_sixteen f zero h = refl
get_sixteen f (suc zero) h = refl
get_sixteen f (suc (suc zero)) h = refl
get_sixteen f (suc (suc (suc zero))) h = refl
get_sixteen f (suc (suc (suc (suc zero)))) h = refl
get_sixteen f (suc (suc (suc (suc (suc zero))))) h = refl
get_sixteen f (suc (suc (suc (suc (suc (suc zero)))))) h = refl
get_sixteen f (suc (suc (suc (suc (suc (suc (suc zero))))))) h = refl
get_sixteen f (suc (suc (suc (suc (suc (suc (suc (suc zero)))))))) h = refl
get_sixteen f (suc (suc (suc (suc (suc (suc (suc (suc (suc zero))))))))) h = refl
get_sixteen f (suc (suc (suc (suc (suc (suc (suc (suc (suc (suc zero)))))))))) h = refl
get_sixteen f (suc (suc (suc (suc (suc (suc (suc (suc (suc (suc (suc zero))))))))))) h = refl
get_sixteen f (suc (suc (suc (suc (suc (suc (suc (suc (suc (suc (suc (suc zero)))))))))))) h = refl
get_sixteen f (suc (suc (suc (suc (suc (suc (suc (suc (suc (suc (suc (suc (suc zero))))))))))))) h = refl
get_sixteen f (suc (suc (suc (suc (suc (suc (suc (suc (suc (suc (suc (suc (suc (suc zero)))))))))))))) h = refl
get_sixteen f (suc (suc (suc (suc (suc (suc (suc (suc (suc (suc (suc (suc (suc (suc (suc zero))))))))))))))) h = refl
get_sixteen f (suc (suc (suc (suc (suc (suc (suc (suc (suc (suc (suc (suc (suc (suc (suc (suc i)))))))))))))))) h = absurd (omega arith)

pub sixteen_loaded : (row : List ℕ) (at : ℕ) → at + 16 ≤ length row → chunk at 16 row ≡ sixteen (bytes_from row at)
unfolding bytes_from
sixteen_loaded row at h =
    let long : length (chunk at 16 row) ≡ 16 = length-chunk at 16 row h in
    ext_get_or 0 (chunk at 16 row) (sixteen (bytes_from row at)) long (λ i l.
    let below : i < 16 = omega arith in
    get_or-chunk at 16 row i 0 below ∙ sym (get_sixteen (bytes_from row at) i below))

-- ---- a row by the low four bits

pub low_ok : (v : List ℕ) → length v ≡ 16 → SwzOk w8 16 16 0 (zip2 bit_and v (replicate 16 15))
low_ok v long =
    let small = Each1-all (λ a. bit_and a 15 < 16) (λ a. omega (arith, and_le_r a 15)) v in
    SwzOk-from_below w8 16 1 16 0 (zip2 bit_and v (replicate 16 15)) refl (omega (arith, length-zip2 bit_and v (replicate 16 15) long))
    (Each1-zip2 bit_and (λ j. j < 16) v (replicate 16 15) (Each2-splat (λ a b. bit_and a b < 16) v 16 15 small))

pub looked_up : (row v : List ℕ) → length v ≡ 16 → swz_l w8 16 row 0 (zip2 bit_and v (replicate 16 15)) ≡ map (λ x. get_or row (bit_and x 15) 0) v
looked_up row v size =
    let js = zip2 bit_and v (replicate 16 15) in
    let g = λ (x : ℕ). bit_and x 15 in
    let e : js ≡ map g v = zip2_splat bit_and v 16 15 size in
    let long : length js ≡ 16 = ap length e ∙ length-map v g ∙ size in
    ext_get_or 0 _ _ (length-swz_l w8 16 row 0 js ∙ long ∙ sym (length-map v (λ x. get_or row (g x) 0) ∙ size)) (λ i h.
    let lt : i < 16 = omega (arith, length-swz_l w8 16 row 0 js) in
    let within : i < length v = omega (arith, size) in
    let is : get_or js i 0 ≡ g (get_or v i 0) = ap (λ l. get_or l i 0) e ∙ get_or-map g v i 0 0 within in
    let below : get_or js i 0 < 16 = omega (arith, is, and_le_r (get_or v i 0) 15) in
    let at : 16 * ((0 + i) / 16) + get_or js i 0 ≡ g (get_or v i 0) = omega arith in
    get_or-swz_l_below w8 16 row 0 js i (omega arith) below
    ∙ ap (λ k. get_or row k 0) at ∙ sym (get_or-map (λ x. get_or row (g x) 0) v i 0 0 within))

-- ---- what bytes are worth

map_same : (f g : ℕ → ℕ) (v : List ℕ) → Each1 (Fits w8) v → ((x : ℕ) → x < 256 → f x ≡ g x) → map f v ≡ map g v
map_same f g [] fits h = refl
map_same f g (x ∷ v) fits h = λ k. h x fits.0.fits k ∷ map_same f g v fits.1 h k

sel_map : (p : ℕ → Bool) (f g : ℕ → ℕ) (v : List ℕ) → sel_l (map p v) (map f v) (map g v) ≡ map (λ x. cond (p x) (f x) (g x)) v
sel_map p f g [] = refl
sel_map p f g (x ∷ v) = ap (λ l. cond (p x) (f x) (g x) ∷ l) (sel_map p f g v)

-- lanes that are chosen by which of two is less
chosen : (v a b c d : List ℕ) (f g h k : ℕ → ℕ) → a ≡ map f v → b ≡ map g v → c ≡ map h v → d ≡ map k v
    → sel_l (map (top 7) (zip2 (λ x y. cond (ltb x y) 255 0) a b)) c d ≡ map (λ x. cond (ltb (f x) (g x)) (h x) (k x)) v
chosen v a b c d f g h k ea eb ec ed =
    rw (ea, eb, ec, ed, tops_compared w8 ltb (map f v) (map g v), zip2-map ltb f g v) (sel_map (λ x. ltb (f x) (g x)) h k v)

-- by the steps of `numerals`
pub numerals_are : (v : List ℕ) → length v ≡ 16
    → zip2 byte_less (zip2 byte_less (sel_l (map (top 7) (zip2 (λ x y. cond (ltb x y) 255 0) (zip2 (λ a b. (a + b) % 256) v (replicate 16 198)) (replicate 16 6)))
    (replicate 16 6) (zip2 (λ a b. (a + b) % 256) v (replicate 16 198))) (replicate 16 6)) (replicate 16 240) ≡ map numeral_worth v
numerals_are v long =
    let added = zip2_splat (λ a b. (a + b) % 256) v 16 198 long in
    let six = splat_is_map v 16 6 long in
    let over = chosen v _ _ _ _ _ _ _ _ added six six added in
    zip2_of_maps byte_less _ _ v (zip2_of_maps byte_less _ _ v over six) (splat_is_map v 16 240 long)

-- by the steps of `letters`
pub letters_are : (v : List ℕ) → length v ≡ 16
    → zip2 (λ a b. (a + b) % 256) (zip2 bit_and (zip2 byte_less v (replicate 16 65)) (replicate 16 223)) (replicate 16 10) ≡ map letter_worth v
letters_are v long =
    let from_a = zip2_splat byte_less v 16 65 long in
    let either_case = zip2_of_maps bit_and _ _ v from_a (splat_is_map v 16 223 long) in
    zip2_of_maps (λ a b. (a + b) % 256) _ _ v either_case (splat_is_map v 16 10 long)

worth_same : (x : ℕ) → x < 256 → smaller (numeral_worth x) (letter_worth x) ≡ worth x
unfolding worth
worth_same x h = (let t : nat_lt x 256 ≡ true = grind (arith, nat_tests) in rw t refl)

pub worths : (v a b : List ℕ) → Each1 (Fits w8) v → a ≡ map numeral_worth v → b ≡ map letter_worth v
    → sel_l (map (top 7) (zip2 (λ x y. cond (ltb x y) 255 0) a b)) a b ≡ map worth v
worths v a b fits ea eb =
    chosen v a b a b numeral_worth letter_worth numeral_worth letter_worth ea eb ea eb
    ∙ map_same (λ x. smaller (numeral_worth x) (letter_worth x)) worth v fits worth_same

-- ---- pairs of values

chunk_pair : (f : ℕ → ℕ) (j : ℕ) → j < 8 → chunk (2 * j) 2 (sixteen f) ≡ f (2 * j) ∷ f (2 * j + 1) ∷ []
chunk_pair f zero h = refl
chunk_pair f (suc zero) h = refl
chunk_pair f (suc (suc zero)) h = refl
chunk_pair f (suc (suc (suc zero))) h = refl
chunk_pair f (suc (suc (suc (suc zero)))) h = refl
chunk_pair f (suc (suc (suc (suc (suc zero))))) h = refl
chunk_pair f (suc (suc (suc (suc (suc (suc zero)))))) h = refl
chunk_pair f (suc (suc (suc (suc (suc (suc (suc zero))))))) h = refl
chunk_pair f (suc (suc (suc (suc (suc (suc (suc (suc j)))))))) h = absurd (omega arith)

number_pair : (a b : ℕ) → number_l 256 (a ∷ b ∷ []) ≡ a + 256 * b
number_pair a b = omega arith

-- the values of pairs, multiplied, and of these the upper half
abbrev multiplied : List ℕ → List ℕ
multiplied values = zip2 (λ a b. a * b % 65536) (digits_l 65536 8 (number_l 256 values)) (replicate 8 4097)

abbrev halved : List ℕ → List ℕ
halved values = zip2 (λ a b. a / 2 ^ b) (multiplied values) (replicate 8 8)

halved_at : (values : List ℕ) (f : ℕ → ℕ) (j : ℕ) → Each1 (Fits w8) values → values ≡ sixteen f → j < 8 → get_or (halved values) j 0 ≡ (f (2 * j) + 256 * f (2 * j + 1)) * 4097 % 65536 / 256
halved_at values f j fits is h =
    let words = digits_l 65536 8 (number_l 256 values) in
    let word : get_or words j 0 ≡ f (2 * j) + 256 * f (2 * j + 1) =
    get_or_wider 256 2 65536 8 values j refl (below_from_Fits w8 values fits) h
    ∙ ap (λ v. number_l 256 (chunk (2 * j) 2 v)) is
    ∙ ap (number_l 256) (chunk_pair f j h)
    ∙ number_pair (f (2 * j)) (f (2 * j + 1)) in
    get_or-zip2 (λ a b. a / 2 ^ b) (multiplied values) (replicate 8 8) j 0 0 0 h h
    ∙ ap (λ n. get_or (multiplied values) j 0 / 2 ^ n) (get_or-replicate {A = ℕ} 8 j 8 0 h)
    ∙ ap (λ n. n / 256) (get_or-zip2 (λ a b. a * b % 65536) words (replicate 8 4097) j 0 0 0 h h
    ∙ ap (λ n. n * get_or (replicate 8 4097) j 0 % 65536) word
    ∙ ap (λ n. (f (2 * j) + 256 * f (2 * j + 1)) * n % 65536) (get_or-replicate 8 j 4097 0 h))

pub pairs_halved : (values : List ℕ) (f : ℕ → ℕ) → Each1 (Fits w8) values → values ≡ sixteen f
    → digits_l 256 16 (number_l 65536 (halved values)) ≡ sixteen (λ i. pair_lane (f (2 * (i / 2))) (f (2 * (i / 2) + 1)) (i % 2))
pairs_halved values f fits is = ext_get_or 0 _ _ refl at_lane
  where
    lane : ℕ → ℕ
    lane i = pair_lane (f (2 * (i / 2))) (f (2 * (i / 2) + 1)) (i % 2)

    fit : Each1 (λ x. x < 65536) (halved values)
    fit = Each1-from_get_or (λ x. x < 65536) (halved values) 0 (λ i l. (let e = halved_at values f i fits is l in omega (arith, e)))

    at_lane : (i : ℕ) → i < 16 → get_or (digits_l 256 16 (number_l 65536 (halved values))) i 0 ≡ get_or (sixteen lane) i 0
    at_lane i h =
        let j = i / 2 in
        let odd = i % 2 in
        let place : 2 * j + odd ≡ i = omega arith in
        let below : j < 8 = omega (arith, h) in
        ap (λ n. get_or (digits_l 256 16 (number_l 65536 (halved values))) n 0) (sym place)
        ∙ get_or_narrower 65536 2 256 16 (halved values) j odd refl fit (omega arith) (omega (arith, place, h))
        ∙ ap (λ n. n / 256 ^ odd % 256) (halved_at values f j fits is below)
        ∙ sym (get_sixteen lane i h)

joined_lane : (high low : ℕ) → high < 16 → low < 16 → pair_lane high low 0 ≡ byte_of high low
joined_lane v w f g =
    let at : pair_lane ((16 * v + w) / 16) ((16 * v + w) % 16) 0 ≡ byte_of ((16 * v + w) / 16) ((16 * v + w) % 16) =
    eqb-true _ _ (agree_below_at (λ n. pair_lane (n / 16) (n % 16) 0 == byte_of (n / 16) (n % 16)) (λ n. true) 256 (16 * v + w) refl (omega (arith, f, g))) in
    let high : (16 * v + w) / 16 ≡ v = omega (arith, g) in
    let low : (16 * v + w) % 16 ≡ w = omega (arith, g) in
    rw (high, low) at at

pub pairs_joined : (f : ℕ → ℕ) → ((i : ℕ) → i < 32 → f i < 16)
    → sixteen (λ i. pair_lane (f (2 * i)) (f (2 * i + 1)) 0) ≡ sixteen (λ i. byte_of (f (2 * i)) (f (2 * i + 1)))
pairs_joined f small =
    ext_get_or 0 (sixteen (λ i. pair_lane (f (2 * i)) (f (2 * i + 1)) 0)) (sixteen (λ i. byte_of (f (2 * i)) (f (2 * i + 1)))) refl (λ i l.
    let below : i < 16 = l in
    get_sixteen (λ i. pair_lane (f (2 * i)) (f (2 * i + 1)) 0) i below
    ∙ joined_lane (f (2 * i)) (f (2 * i + 1)) (small (2 * i) (omega (arith, below))) (small (2 * i + 1) (omega (arith, below)))
    ∙ sym (get_sixteen (λ i. byte_of (f (2 * i)) (f (2 * i + 1))) i below))

-- ---- a block

same_lanes : (f g : ℕ → ℕ) → ((i : ℕ) → f i ≡ g i) → sixteen f ≡ sixteen g
same_lanes f g h = λ k. sixteen (λ i. h i k)

-- what the digits from a place on are worth
abbrev pub worths_at : List ℕ → ℕ → ℕ → ℕ
worths_at digits at i = worth (bytes_from digits at i)

pub first_worths : (digits loaded v : List ℕ) (at : ℕ) → loaded ≡ sixteen (bytes_from digits at) → v ≡ map worth loaded → v ≡ sixteen (worths_at digits at)
first_worths digits loaded v at e h = h ∙ ap (map worth) e

pub second_worths : (digits loaded v : List ℕ) (at : ℕ) → loaded ≡ sixteen (bytes_from digits (at + 16)) → v ≡ map worth loaded → v ≡ sixteen (λ i. worths_at digits at (16 + i))
unfolding bytes_from
second_worths digits loaded v at e h =
    h ∙ ap (map worth) e ∙ same_lanes _ _ (λ i. ap (λ n. worth (get_or digits n 0)) (let s : at + 16 + i ≡ at + (16 + i) = omega arith in s))

-- the bytes of a block's pairs
pub block_here : (digits bytes joined : List ℕ) (at : ℕ) → at + 16 ≤ length bytes
    → joined ≡ sixteen (λ i. byte_of (worths_at digits (2 * at) (2 * i)) (worths_at digits (2 * at) (2 * i + 1)))
    → ((i : ℕ) → i < 32 → worths_at digits (2 * at) i < 16)
    → (i : ℕ) → at ≤ i → i < at + 16 → IsPair (get_or digits (2 * i) 0) (get_or digits (2 * i + 1) 0) (get_or (put_chunk at bytes joined) i 0)
unfolding bytes_from
block_here digits bytes joined at room is digit i from to =
    let j = i - at in
    let below : j < 16 = omega (arith, from, to) in
    let long : length joined ≡ 16 = ap length is in
    let place : i ≡ at + j = omega (arith, from) in
    let high : 2 * at + 2 * j ≡ 2 * i = omega (arith, from) in
    let low : 2 * at + (2 * j + 1) ≡ 2 * i + 1 = omega (arith, from) in
    let stored : get_or (put_chunk at bytes joined) i 0 ≡ byte_of (worth (get_or digits (2 * at + 2 * j) 0)) (worth (get_or digits (2 * at + (2 * j + 1)) 0)) =
    ap (λ n. get_or (put_chunk at bytes joined) n 0) place
    ∙ get_or-put_chunk_at at bytes joined j 0 (omega (arith, long, below)) (omega (arith, long, room))
    ∙ ap (λ v. get_or v j 0) is
    ∙ get_sixteen (λ i. byte_of (worths_at digits (2 * at) (2 * i)) (worths_at digits (2 * at) (2 * i + 1))) j below in
    let h : worth (get_or digits (2 * at + 2 * j) 0) < 16 = digit (2 * j) (omega (arith, below)) in
    let l : worth (get_or digits (2 * at + (2 * j + 1)) 0) < 16 = digit (2 * j + 1) (omega (arith, below)) in
    rw (stored, ← low, ← high) (pair_read _ _ h l)

-- a pair of a block that is refused
block_none : (digits : List ℕ) (at lane : ℕ) → lane < 32 → 16 ≤ worths_at digits (2 * at) lane → HasRefused digits (at + 16)
unfolding bytes_from
block_none digits at lane below large = record { pair = at + lane / 2; below = omega (arith, below); refused = pair_refused _ _ (by_half (cases_eq (lane % 2) 0)) }
  where
    by_half : (lane % 2 ≡ 0) ⊎ (lane % 2 ≢ 0) → (16 ≤ worth (get_or digits (2 * (at + lane / 2)) 0)) ⊎ (16 ≤ worth (get_or digits (2 * (at + lane / 2) + 1) 0))
    by_half (inl even) = inl (let e : 2 * (at + lane / 2) ≡ 2 * at + lane = omega (arith, even) in rw e large)
    by_half (inr odd) = inr (let e : 2 * (at + lane / 2) + 1 ≡ 2 * at + lane = omega (arith, odd) in rw e large)

-- ---- what was seen

-- what was seen, with the values of a block
abbrev pub with_block : (seen first second : List ℕ) → List ℕ
with_block seen first second = zip2 bit_or (zip2 bit_or seen first) second

lane_with : (seen first second : List ℕ) (f : ℕ → ℕ) (i : ℕ) → length seen ≡ 16 → first ≡ sixteen f → second ≡ sixteen (λ i. f (16 + i)) → i < 16
    → get_or (with_block seen first second) i 0 ≡ bit_or (bit_or (get_or seen i 0) (f i)) (f (16 + i))
lane_with seen first second f i long ef es h =
    let one : length first ≡ 16 = ap length ef in
    let two : length second ≡ 16 = ap length es in
    let both : length (zip2 bit_or seen first) ≡ 16 = length-zip2 bit_or seen first (long ∙ sym one) ∙ long in
    get_or-zip2 bit_or (zip2 bit_or seen first) second i 0 0 0 (omega (arith, both, h)) (omega (arith, two, h))
    ∙ ap (λ n. bit_or n (get_or second i 0)) (get_or-zip2 bit_or seen first i 0 0 0 (omega (arith, long, h)) (omega (arith, one, h)))
    ∙ ap (λ v. bit_or (bit_or (get_or seen i 0) (get_or v i 0)) (get_or second i 0)) ef
    ∙ ap (λ v. bit_or (bit_or (get_or seen i 0) (get_or (sixteen f) i 0)) (get_or v i 0)) es
    ∙ ap (λ n. bit_or (bit_or (get_or seen i 0) n) (get_or (sixteen (λ i. f (16 + i))) i 0)) (get_sixteen f i h)
    ∙ ap (λ n. bit_or (bit_or (get_or seen i 0) (f i)) n) (get_sixteen (λ i. f (16 + i)) i h)

pub seen_small : (seen first second : List ℕ) (f : ℕ → ℕ) → length seen ≡ 16 → first ≡ sixteen f → second ≡ sixteen (λ i. f (16 + i))
    → AllSmall (with_block seen first second) → AllSmall seen
seen_small seen first second f long ef es all = record {
  at = λ i h.
      let is = lane_with seen first second f i long ef es h in
      let a = all.at i h in
      omega (arith, is, a, le_or_l (get_or seen i 0) (f i), le_or_l (bit_or (get_or seen i 0) (f i)) (f (16 + i)));
}

pub values_small : (seen first second : List ℕ) (f : ℕ → ℕ) → length seen ≡ 16 → first ≡ sixteen f → second ≡ sixteen (λ i. f (16 + i))
    → AllSmall (with_block seen first second) → (i : ℕ) → i < 32 → f i < 16
values_small seen first second f long ef es all i h = elim (cases_lt i 16) [
  | inl l ↦ (
      let is = lane_with seen first second f i long ef es l in
      let a = all.at i l in
      omega (arith, is, a, le_or_r (get_or seen i 0) (f i), le_or_l (bit_or (get_or seen i 0) (f i)) (f (16 + i))))
  | inr k ↦ (
      let j = i - 16 in
      let below : j < 16 = omega (arith, h, k) in
      let at : 16 + j ≡ i = omega (arith, k) in
      let is = lane_with seen first second f j long ef es below in
      let a = all.at j below in
      let b : f (16 + j) < 16 = omega (arith, is, a, le_or_r (bit_or (get_or seen j 0) (f j)) (f (16 + j))) in
      rw at at b)
]

pub seen_large : (digits seen first second : List ℕ) (at : ℕ) → length seen ≡ 16 → first ≡ sixteen (worths_at digits (2 * at)) → second ≡ sixteen (λ i. worths_at digits (2 * at) (16 + i))
    → HasLarge (with_block seen first second) → HasLarge seen ⊎ HasRefused digits (at + 16)
seen_large digits seen first second at long ef es has = elim (cases_lt (get_or seen lane 0) 16) [
  | inl a ↦ elim (cases_lt (f lane) 16) [
    | inl b ↦ elim (cases_lt (f (16 + lane)) 16) [
      | inl c ↦ absurd (
          let is = lane_with seen first second f lane long ef es has.below in
          let l = has.large in
          omega (arith, is, l, or_lt 4 (bit_or (get_or seen lane 0) (f lane)) (f (16 + lane)) (or_lt 4 (get_or seen lane 0) (f lane) a b) c))
      | inr c ↦ inr (block_none digits at (16 + lane) (let l = has.below in omega (arith, l)) c)
    ]
    | inr b ↦ inr (block_none digits at lane (let l = has.below in omega (arith, l)) b)
  ]
  | inr a ↦ inl (record { lane = lane; below = has.below; large = a })
]
  where
    lane : ℕ
    lane = has.lane

    f : ℕ → ℕ
    f = worths_at digits (2 * at)

-- ---- whether all are small

none_pass : (p : ℕ → Bool) (xs : List ℕ) → mask_l (map p xs) ≡ 0 → (i : ℕ) → i < length xs → p (get_or xs i 0) ≡ false
none_pass p [] e i h = absurd (omega arith)
none_pass p (x ∷ xs) e zero h = go (p x) e
  where
    go : (t : Bool) → cond t 1 0 + 2 * mask_l (map p xs) ≡ 0 → t ≡ false
    go true q = absurd (omega (arith, q))
    go false q = refl
none_pass p (x ∷ xs) e (suc i) h = none_pass p xs (omega (arith, e)) i (omega (arith, h))

some_pass : (p : ℕ → Bool) (xs : List ℕ) → mask_l (map p xs) ≢ 0 → (i : ℕ) × (i < length xs) × (p (get_or xs i 0) ≡ true)
some_pass p [] e = absurd (e refl)
some_pass p (x ∷ xs) e = go (p x) refl (some_pass p xs)
  where
    go : (t : Bool) → p x ≡ t → (mask_l (map p xs) ≢ 0 → (i : ℕ) × (i < length xs) × (p (get_or xs i 0) ≡ true)) → (i : ℕ) × (i < length (x ∷ xs)) × (p (get_or (x ∷ xs) i 0) ≡ true)
    go true q later = (0, omega arith, q)
    go false q later = let r = later (λ z. e (rw (q, z) refl)) in (suc r.0, (let l = r.1 in omega (arith, l)), r.2)

over_lanes : (v : List ℕ) → length v ≡ 16 → mask_l (map (top 7) (zip2 (λ a b. cond (ltb a b) 255 0) (replicate 16 15) v)) % 2 ^ 64 ≡ mask_l (map (λ x. ltb 15 x) v)
over_lanes v long =
    ap (λ ms. mask_l ms % 2 ^ 64) (tops_compared w8 ltb (replicate 16 15) v ∙ zip2_splat_left ltb 15 16 v long)
    ∙ mask_l-mod (map (λ x. ltb 15 x) v) 64 (omega (arith, length-map v (λ x. ltb 15 x), long))

pub none_over : (v : List ℕ) → length v ≡ 16 → eqb (mask_l (map (top 7) (zip2 (λ a b. cond (ltb a b) 255 0) (replicate 16 15) v)) % 2 ^ 64) 0 ≡ true → AllSmall v
none_over v long e = record {
  at = λ i h.
      let passed = none_pass (λ x. ltb 15 x) v (sym (over_lanes v long) ∙ eqb-true _ _ e) i (omega (arith, long, h)) in
      omega (arith, ltb-false _ _ passed);
}

pub one_over : (v : List ℕ) → length v ≡ 16 → eqb (mask_l (map (top 7) (zip2 (λ a b. cond (ltb a b) 255 0) (replicate 16 15) v)) % 2 ^ 64) 0 ≡ false → HasLarge v
one_over v long e =
    let r = some_pass (λ x. ltb 15 x) v (λ z. eqb-false _ _ e (over_lanes v long ∙ z)) in
    record { lane = r.0; below = (let b = r.1 in omega (arith, b, long)); large = (let l = ltb-true _ _ r.2 in omega (arith, l)) }
