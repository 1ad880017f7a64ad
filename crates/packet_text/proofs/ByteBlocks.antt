-- Bytes whose digits are written block by block.
use Rattle.std.proofs.Common.{◌≡◌, ℕ, zero, suc, ◌+◌, ◌-◌, ◌*◌, ◌/◌, ◌%◌, ◌^◌, ◌<◌, ◌≤◌, List, [], ◌∷◌, ◌++◌, map, length, length-drop, take, drop, get_or, replicate, bit_and, refl, sym, ap, ◌∙◌, arith, w8, Fits}
use Rattle.std.proofs.lemmas.List.{append_assoc, ext_get_or, get_or-map, length-map, length-take-le, take-append-le, take-append-drop, take_all, take-take}
use Rattle.std.proofs.lemmas.Nat.{and_mask}
use Rattle.std.proofs.lemmas.Simd.{Each1-weaker, Each1-zip2, Each2-splat, swz_l, SwzOk, SwzOk-from_below, length-zip2, length-swz_l, get_or-swz_l_below, zip2_splat, below_from_Fits, take_more_put_chunk, length-put_chunk, chunk-drop}
use lib.Lanes.{zip2, Each1, put_chunk}
use Rattle.hex.specs.Hex.{encode_lower, encode_with, lower_digits}
use Rattle.packet_text.specs.Steps.DigitMarks.{sixteen, in_turn, bytes_from, Put}
use Rattle.packet_text.proofs.DigitLanes.{sixteen_loaded}

pub each_digit : (digits : List ℕ) → digits ≡ encode_lower (0x01 ∷ 0x23 ∷ 0x45 ∷ 0x67 ∷ 0x89 ∷ 0xab ∷ 0xcd ∷ 0xef ∷ []) → digits ≡ lower_digits
unfolding encode_with
each_digit digits h = h

-- ---- a row by the high four bits

abbrev down : ℕ → ℕ → ℕ
down a b = a / 2 ^ b

pub high_ok : (v : List ℕ) → length v ≡ 16 → Each1 (Fits w8) v → SwzOk w8 16 16 0 (zip2 down v (replicate 16 4))
high_ok v long fits =
    let small = Each1-weaker (λ a. a < 256) (λ a. a / 16 < 16) (λ a h. omega arith) v (below_from_Fits w8 v fits) in
    SwzOk-from_below w8 16 1 16 0 (zip2 down v (replicate 16 4)) refl (omega (arith, length-zip2 down v (replicate 16 4) long))
    (Each1-zip2 down (λ j. j < 16) v (replicate 16 4) (Each2-splat (λ a b. down a b < 16) v 16 4 small))

lane_fits : (v : List ℕ) (i : ℕ) → Each1 (Fits w8) v → get_or v i 0 < 256
lane_fits [] i h = omega arith
lane_fits (x ∷ xs) zero h = h.0.fits
lane_fits (x ∷ xs) (suc i) h = lane_fits xs i h.1

pub looked_up_high : (row v : List ℕ) → length v ≡ 16 → Each1 (Fits w8) v → swz_l w8 16 row 0 (zip2 down v (replicate 16 4)) ≡ map (λ x. get_or row (x / 16) 0) v
looked_up_high row v size fits =
    let js = zip2 down v (replicate 16 4) in
    let g = λ (x : ℕ). x / 16 in
    let e : js ≡ map g v = zip2_splat down v 16 4 size in
    let long : length js ≡ 16 = ap length e ∙ length-map v g ∙ size in
    ext_get_or 0 _ _ (length-swz_l w8 16 row 0 js ∙ long ∙ sym (length-map v (λ x. get_or row (g x) 0) ∙ size)) (λ i h.
    let lt : i < 16 = omega (arith, length-swz_l w8 16 row 0 js) in
    let within : i < length v = omega (arith, size) in
    let is : get_or js i 0 ≡ g (get_or v i 0) = ap (λ l. get_or l i 0) e ∙ get_or-map g v i 0 0 within in
    let below : get_or js i 0 < 16 = omega (arith, is, lane_fits v i fits) in
    let at : 16 * ((0 + i) / 16) + get_or js i 0 ≡ g (get_or v i 0) = omega arith in
    get_or-swz_l_below w8 16 row 0 js i (omega arith) below
    ∙ ap (λ k. get_or row k 0) at ∙ sym (get_or-map (λ x. get_or row (g x) 0) v i 0 0 within))

-- ---- a block

-- the digits of a byte
abbrev pub high : ℕ → ℕ
high byte = get_or lower_digits (byte / 16) 0

abbrev pub low : ℕ → ℕ
low byte = get_or lower_digits (byte % 16) 0

map_same : (f g : ℕ → ℕ) (v : List ℕ) → ((x : ℕ) → f x ≡ g x) → map f v ≡ map g v
map_same f g [] h = refl
map_same f g (x ∷ v) h = λ k. h x k ∷ map_same f g v h k

pub high_digits : (bytes loaded table v : List ℕ) (at : ℕ) → loaded ≡ sixteen (bytes_from bytes at) → table ≡ lower_digits
    → v ≡ map (λ x. get_or table (x / 16) 0) loaded → v ≡ sixteen (λ i. high (bytes_from bytes at i))
high_digits bytes loaded table v at e t h = rw (e, t) at h

pub low_digits : (bytes loaded table v : List ℕ) (at : ℕ) → loaded ≡ sixteen (bytes_from bytes at) → table ≡ lower_digits
    → v ≡ map (λ x. get_or table (bit_and x 15) 0) loaded → v ≡ sixteen (λ i. low (bytes_from bytes at i))
low_digits bytes loaded table v at e t h =
    let g : v ≡ map (λ x. get_or lower_digits (bit_and x 15) 0) (sixteen (bytes_from bytes at)) = rw (e, t) at h in
    g ∙ map_same (λ x. get_or lower_digits (bit_and x 15) 0) low (sixteen (bytes_from bytes at)) (λ x. ap (λ n. get_or lower_digits n 0) (and_mask x 4))

sixteen_digits : (f : ℕ → ℕ) → encode_lower (sixteen f) ≡ in_turn (λ i. high (f i)) (λ i. low (f i)) ++ in_turn (λ i. high (f (8 + i))) (λ i. low (f (8 + i)))
unfolding encode_with
sixteen_digits f = refl

pub block_put : (bytes old first later : List ℕ) (at : ℕ) → at + 16 ≤ length bytes → 2 * at + 32 ≤ length old
    → first ≡ in_turn (λ i. high (bytes_from bytes at i)) (λ i. low (bytes_from bytes at i))
    → later ≡ in_turn (λ i. high (bytes_from bytes at (8 + i))) (λ i. low (bytes_from bytes at (8 + i)))
    → take (2 * at + 32) (put_chunk (2 * at + 16) (put_chunk (2 * at) old first) later) ≡ take (2 * at) old ++ encode_lower (take 16 (drop at bytes))
block_put bytes old first later at inside room ef el =
    let long : length first ≡ 16 = ap length ef in
    let also : length later ≡ 16 = ap length el in
    let same = length-put_chunk (2 * at) old first in
    let digits : first ++ later ≡ encode_lower (take 16 (drop at bytes)) =
    (λ k. ef k ++ el k) ∙ sym (sixteen_digits (bytes_from bytes at)) ∙ ap encode_lower (sym (sixteen_loaded bytes at inside)) in
    take_more_put_chunk (2 * at + 16) (put_chunk (2 * at) old first) later (2 * at + 32) (omega (arith, also)) (omega (arith, same, room))
    ∙ ap (λ l. l ++ later) (take_more_put_chunk (2 * at) old first (2 * at + 16) (omega (arith, long)) (omega (arith, room)))
    ∙ append_assoc (take (2 * at) old) first later ∙ ap (λ l. take (2 * at) old ++ l) digits

-- ---- block by block

both_encoded : (t xs ys : List ℕ) → encode_with t (xs ++ ys) ≡ encode_with t xs ++ encode_with t ys
unfolding encode_with
both_encoded t [] ys = refl
both_encoded t (x ∷ xs) ys = ap (λ l. get_or t (x / 16) 0 ∷ get_or t (x % 16) 0 ∷ l) (both_encoded t xs ys)

pub none_put : (packet digits : List ℕ) → Put packet digits 0
none_put packet digits = record { front = refl }

pub more_put : (packet old new : List ℕ) (block : ℕ) → take (2 * (16 * block) + 32) new ≡ take (2 * (16 * block)) old ++ encode_lower (take 16 (drop (16 * block) packet))
    → Put packet old (16 * block) → Put packet new (16 * (block + 1))
more_put packet old new block h p = record { front = rw (count, place) whole }
  where
    at : ℕ
    at = 16 * block

    count : 2 * (16 * (block + 1)) ≡ 2 * at + 32
    count = omega arith

    place : 16 * (block + 1) ≡ at + 16
    place = omega arith

    whole : take (2 * at + 32) new ++ encode_lower (drop (at + 16) packet) ≡ encode_lower packet
    whole =
        ap (λ l. l ++ encode_lower (drop (at + 16) packet)) h
        ∙ append_assoc (take (2 * at) old) (encode_lower (take 16 (drop at packet))) (encode_lower (drop (at + 16) packet))
        ∙ ap (λ l. take (2 * at) old ++ l) (sym (both_encoded lower_digits (take 16 (drop at packet)) (drop (at + 16) packet)) ∙ ap encode_lower (sym (chunk-drop at 16 packet)))
        ∙ p.front

-- ---- the last block, which may overlap the one before it

length_encoded : (t xs : List ℕ) → length (encode_with t xs) ≡ 2 * length xs
unfolding encode_with
length_encoded t [] = refl
length_encoded t (x ∷ xs) = let h = length_encoded t xs in omega arith

-- fewer bytes have their digits too
pub fewer_put : (packet digits : List ℕ) (few count : ℕ) → few ≤ count → count ≤ length packet → 2 * count ≤ length digits → Put packet digits count → Put packet digits few
fewer_put packet digits few count less within room put = record { front = ap (λ l. l ++ encode_lower (drop few packet)) front ∙ sym (both_encoded lower_digits (take few packet) (drop few packet)) ∙ ap encode_lower (take-append-drop few packet) }
  where
    short : 2 * few ≤ length (take (2 * count) digits)
    short = let e = length-take-le (2 * count) digits room in omega arith

    half : 2 * few ≤ length (encode_lower (take few packet))
    half = let e = length_encoded lower_digits (take few packet) in let l = length-take-le few packet (omega arith) in omega arith

    whole : length (encode_lower (take few packet)) ≡ 2 * few
    whole = let e = length_encoded lower_digits (take few packet) in let l = length-take-le few packet (omega arith) in omega arith

    front : take (2 * few) digits ≡ encode_lower (take few packet)
    front =
        sym (take-take (2 * few) (2 * count) digits (omega arith))
        ∙ sym (take-append-le (2 * few) (take (2 * count) digits) (encode_lower (drop count packet)) short)
        ∙ ap (take (2 * few)) (put.front ∙ ap encode_lower (sym (take-append-drop few packet)) ∙ both_encoded lower_digits (take few packet) (drop few packet))
        ∙ take-append-le (2 * few) (encode_lower (take few packet)) (encode_lower (drop few packet)) half
        ∙ take_all (2 * few) (encode_lower (take few packet)) (omega (arith, whole))

pub end_put : (packet old new : List ℕ) (done : ℕ) → 16 ≤ length packet → length packet < done + 16 → done ≤ length packet → length old ≡ 2 * length packet → length new ≡ length old
    → take (2 * (length packet - 16) + 32) new ≡ take (2 * (length packet - 16)) old ++ encode_lower (take 16 (drop (length packet - 16) packet))
    → Put packet old done → new ≡ encode_lower packet
end_put packet old new done long few within room same here put =
    let at = length packet - 16 in
    let all : take (2 * at + 32) new ≡ new = take_all (2 * at + 32) new (omega arith) in
    let rest : take 16 (drop at packet) ≡ drop at packet = take_all 16 (drop at packet) (let e = length-drop at packet in omega arith) in
    sym all ∙ here ∙ ap (λ l. take (2 * at) old ++ encode_lower l) rest
    ∙ (fewer_put packet old at done (omega arith) within (omega arith) put).front
