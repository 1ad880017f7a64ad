-- Bytes through the mask of a line.
use Rattle.std.proofs.Common.{◌≡◌, ◌+◌, ◌*◌, ◌%◌, ℕ, zero, suc, Bool, true, false, List, [], ◌∷◌, ◌++◌, length, take, drop, arith, refl, sym, ap, ◌∙◌}
use Rattle.std.specs.Prelude.{bit_xor}
use Rattle.std.proofs.Math.Nat.{mul-add-mod_self_left}
use Rattle.std.proofs.Common.{◌<◌, get_or}
use Rattle.std.proofs.lemmas.List.{ext_get_or}
use Rattle.std.proofs.lemmas.List.FromFn.{length-map-range_with_len, get_or-map-range_with_len}
use Rattle.std.specs.Prelude.{if◌then◌else◌}
use Rattle.otu_overhead.specs.Mask.{mask, mask_byte}
use Rattle.line_side.specs.LineForm.{masked_from, through_mask}
use Rattle.line_side.specs.LineFile.{frame_at}

length_masked : (place : ℕ) (xs : List ℕ) → length (masked_from place xs) ≡ length xs
unfolding masked_from
length_masked place [] = refl
length_masked place (x ∷ xs) = ap suc (length_masked (place + 1) xs)

pub length_through : (scrambled : Bool) (xs : List ℕ) → length (through_mask scrambled xs) ≡ length xs
length_through true xs = length_masked 0 xs
length_through false xs = refl

drop_masked : (place n : ℕ) (xs : List ℕ) → drop n (masked_from place xs) ≡ masked_from (place + n) (drop n xs)
unfolding masked_from
drop_masked place zero xs = ap (λ p. masked_from p xs) (let e : place ≡ place + 0 = omega arith in e)
drop_masked place (suc n) [] = refl
drop_masked place (suc n) (x ∷ xs) = drop_masked (place + 1) n xs ∙ ap (λ p. masked_from p (drop n xs)) (let e : place + 1 + n ≡ place + suc n = omega arith in e)

take_masked : (place n : ℕ) (xs : List ℕ) → take n (masked_from place xs) ≡ masked_from place (take n xs)
unfolding masked_from
take_masked place zero xs = refl
take_masked place (suc n) [] = refl
take_masked place (suc n) (x ∷ xs) = ap (λ l. bit_xor x (mask_byte (place % 16320)) ∷ l) (take_masked (place + 1) n xs)

masked_append : (place : ℕ) (xs ys : List ℕ) → masked_from place (xs ++ ys) ≡ masked_from place xs ++ masked_from (place + length xs) ys
unfolding masked_from
masked_append place [] ys = ap (λ p. masked_from p ys) (let e : place ≡ place + 0 = omega arith in e)
masked_append place (x ∷ xs) ys = ap (λ l. bit_xor x (mask_byte (place % 16320)) ∷ l) (masked_append (place + 1) xs ys
    ∙ ap (λ p. masked_from (place + 1) xs ++ masked_from p ys) (let e : place + 1 + length xs ≡ place + suc (length xs) = omega arith in e))

-- the mask begins anew with each frame
masked_anew : (f place : ℕ) (xs : List ℕ) → masked_from (16320 * f + place) xs ≡ masked_from place xs
unfolding masked_from
masked_anew f place [] = refl
masked_anew f place (x ∷ xs) =
    ap (λ p. bit_xor x (mask_byte p) ∷ masked_from (16320 * f + place + 1) xs) (mul-add-mod_self_left 16320 f place)
    ∙ ap (λ l. bit_xor x (mask_byte (place % 16320)) ∷ l)
    (ap (λ p. masked_from p xs) (let e : 16320 * f + place + 1 ≡ 16320 * f + (place + 1) = omega arith in e) ∙ masked_anew f (place + 1) xs)

masked_frames : (f : ℕ) (xs : List ℕ) → masked_from (16320 * f) xs ≡ masked_from 0 xs
masked_frames f xs = ap (λ p. masked_from p xs) (let e : 16320 * f ≡ 16320 * f + 0 = omega arith in e) ∙ masked_anew f 0 xs

-- a frame of the line is the file's frame through the mask
pub frame_through : (scrambled : Bool) (bytes : List ℕ) (f : ℕ) → frame_at (through_mask scrambled bytes) f ≡ through_mask scrambled (frame_at bytes f)
unfolding frame_at
frame_through false bytes f = refl
frame_through true bytes f =
    ap (take 16320) (drop_masked 0 (16320 * f) bytes)
    ∙ take_masked (0 + 16320 * f) 16320 (drop (16320 * f) bytes)
    ∙ ap (λ p. masked_from p (take 16320 (drop (16320 * f) bytes))) (let e : 0 + 16320 * f ≡ 16320 * f = omega arith in e)
    ∙ masked_frames f (take 16320 (drop (16320 * f) bytes))

-- whole frames, and what stands behind them
pub through_append : (scrambled : Bool) (xs ys : List ℕ) (f : ℕ) → length xs ≡ 16320 * f → through_mask scrambled (xs ++ ys) ≡ through_mask scrambled xs ++ through_mask scrambled ys
through_append false xs ys f e = refl
through_append true xs ys f e = masked_append 0 xs ys
    ∙ ap (λ p. masked_from 0 xs ++ masked_from p ys) (let z : 0 + length xs ≡ 16320 * f = omega arith in z)
    ∙ ap (λ l. masked_from 0 xs ++ l) (masked_frames f ys)

-- a byte through the mask
pub index_masked : (place i : ℕ) (xs : List ℕ) → i < length xs → get_or (masked_from place xs) i 0 ≡ bit_xor (get_or xs i 0) (mask_byte ((place + i) % 16320))
unfolding masked_from
index_masked place i [] h = absurd (omega arith)
index_masked place zero (x ∷ xs) h = ap (λ p. bit_xor x (mask_byte (p % 16320))) (let e : place ≡ place + 0 = omega arith in e)
index_masked place (suc i) (x ∷ xs) h = index_masked (place + 1) i xs (omega arith)
    ∙ ap (λ p. bit_xor (get_or xs i 0) (mask_byte (p % 16320))) (let e : place + 1 + i ≡ place + suc i = omega arith in e)

pub length_mask : (scrambled : Bool) → length (mask scrambled) ≡ 16320
unfolding mask
length_mask scrambled = length-map-range_with_len (λ place. if scrambled then mask_byte place else 0) 0 16320

pub index_mask : (i : ℕ) → i < 16320 → get_or (mask true) i 0 ≡ mask_byte i
unfolding mask
index_mask i h = get_or-map-range_with_len (λ place. if true then mask_byte place else 0) 0 16320 i i 0 h (omega arith)

-- a frame with the mask's bytes, by exclusive or
pub masked_by : (frame new m : List ℕ) → m ≡ mask true → length frame ≡ 16320 → length new ≡ length frame → ((i : ℕ) → i < length frame → get_or new i 0 ≡ bit_xor (get_or frame i 0) (get_or m i 0))
    → new ≡ through_mask true frame
masked_by frame new m same size kept each = ext_get_or 0 new (masked_from 0 frame) (kept ∙ sym (length_masked 0 frame)) (λ i h.
    let inside : i < length frame = omega arith in
    let place : (0 + i) % 16320 ≡ i = omega arith in
    each i inside
    ∙ ap (λ m. bit_xor (get_or frame i 0) (get_or m i 0)) same
    ∙ ap (bit_xor (get_or frame i 0)) (index_mask i (omega arith))
    ∙ ap (λ p. bit_xor (get_or frame i 0) (mask_byte p)) (sym place)
    ∙ sym (index_masked 0 i frame inside))
