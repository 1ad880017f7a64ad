-- Exclusive or, by lanes.
use Rattle.std.proofs.Common.{◌≡◌, ℕ, ◌+◌, ◌*◌, ◌-◌, ◌/◌, ◌≤◌, List, [], ◌∷◌, length, take, drop, refl, ap, ◌∙◌, sym, arith, take-add}
use Rattle.std.specs.Prelude.{bit_xor, fold}
use Rattle.std.specs.Int.Bits.{xor_zero_l, xor_zero_r, xor_assoc}
use Rattle.std.proofs.lemmas.Nat.{xor_comm}
use Rattle.std.proofs.lemmas.List.Sums.{fold-append}
use Rattle.std.proofs.lemmas.List.{take-append-drop, length-drop}
use Rattle.std.proofs.Math.Seq.{take-length}
use lib.Lanes.{zip2, fold_l, chunk}
use Rattle.std.proofs.lemmas.Simd.{length-chunk, length-zip2}

-- the exclusive or that a fold begins with can be put in front
fold_from : (a : ℕ) (xs : List ℕ) → fold bit_xor a xs ≡ bit_xor a (fold bit_xor 0 xs)
fold_from a [] = sym (xor_zero_r a)
fold_from a (x ∷ xs) =
    fold_from (bit_xor a x) xs ∙ xor_assoc a x (fold bit_xor 0 xs)
    ∙ ap (bit_xor a) (sym (ap (λ b. fold bit_xor b xs) (xor_zero_l x) ∙ fold_from x xs))

lanes_fold : (a : ℕ) (xs : List ℕ) → fold_l bit_xor a xs ≡ fold bit_xor a xs
lanes_fold a [] = refl
lanes_fold a (x ∷ xs) = lanes_fold (bit_xor a x) xs

swap : (a b c d : ℕ) → bit_xor (bit_xor a b) (bit_xor c d) ≡ bit_xor (bit_xor a c) (bit_xor b d)
swap a b c d =
    xor_assoc a b (bit_xor c d)
    ∙ ap (bit_xor a) (sym (xor_assoc b c d) ∙ ap (λ x. bit_xor x d) (xor_comm b c) ∙ xor_assoc c b d)
    ∙ sym (xor_assoc a c (bit_xor b d))

-- two vectors, lane by lane
zip_fold : (xs ys : List ℕ) → length xs ≡ length ys → fold bit_xor 0 (zip2 bit_xor xs ys) ≡ bit_xor (fold bit_xor 0 xs) (fold bit_xor 0 ys)
zip_fold [] [] e = refl
zip_fold [] (y ∷ ys) e = absurd (omega arith)
zip_fold (x ∷ xs) [] e = absurd (omega arith)
zip_fold (x ∷ xs) (y ∷ ys) e =
    first (bit_xor x y) (zip2 bit_xor xs ys) ∙ ap (bit_xor (bit_xor x y)) (zip_fold xs ys (omega arith)) ∙ swap x y (fold bit_xor 0 xs) (fold bit_xor 0 ys)
    ∙ ap (λ b. bit_xor b (bit_xor y (fold bit_xor 0 ys))) (sym (first x xs)) ∙ ap (bit_xor (fold bit_xor 0 (x ∷ xs))) (sym (first y ys))
  where
    first : (x : ℕ) (xs : List ℕ) → fold bit_xor 0 (x ∷ xs) ≡ bit_xor x (fold bit_xor 0 xs)
    first x xs = ap (λ b. fold bit_xor b xs) (xor_zero_l x) ∙ fold_from x xs

-- a block more
pub block_more : (bytes lanes : List ℕ) (block : ℕ) → length lanes ≡ 64 → 64 * block + 64 ≤ length bytes → fold_l bit_xor 0 lanes ≡ fold bit_xor 0 (take (64 * block) bytes)
    → fold_l bit_xor 0 (zip2 bit_xor lanes (chunk (64 * block) 64 bytes)) ≡ fold bit_xor 0 (take (64 * (block + 1)) bytes)
block_more bytes lanes block n h e =
    let next : 64 * (block + 1) ≡ 64 * block + 64 = omega arith in
    let m = 64 * block in
    lanes_fold 0 (zip2 bit_xor lanes (chunk m 64 bytes))
    ∙ zip_fold lanes (chunk m 64 bytes) (n ∙ sym (length-chunk m 64 bytes h))
    ∙ ap (λ b. bit_xor b (fold bit_xor 0 (chunk m 64 bytes))) (sym (lanes_fold 0 lanes) ∙ e)
    ∙ sym (fold_from (fold bit_xor 0 (take m bytes)) (chunk m 64 bytes))
    ∙ sym (fold-append bit_xor 0 (take m bytes) (chunk m 64 bytes))
    ∙ ap (fold bit_xor 0) (sym (take-add m 64 bytes)) ∙ ap (λ i. fold bit_xor 0 (take i bytes)) (sym next)

pub block_length : (bytes lanes : List ℕ) (block : ℕ) → length lanes ≡ 64 → 64 * block + 64 ≤ length bytes → length (zip2 bit_xor lanes (chunk (64 * block) 64 bytes)) ≡ 64
block_length bytes lanes block n h = length-zip2 bit_xor lanes (chunk (64 * block) 64 bytes) (n ∙ sym (length-chunk (64 * block) 64 bytes h)) ∙ n

-- the blocks, and the rest
pub whole : (bytes : List ℕ) (m : ℕ) → fold bit_xor (fold bit_xor 0 (take m bytes)) (drop m bytes) ≡ fold bit_xor 0 bytes
whole bytes m = sym (fold-append bit_xor 0 (take m bytes) (drop m bytes)) ∙ ap (fold bit_xor 0) (take-append-drop m bytes)

-- all of a list that is left
rest_of : (xs : List ℕ) (m : ℕ) → take (length xs - m) (drop m xs) ≡ drop m xs
rest_of xs m = ap (λ n. take n (drop m xs)) (sym (length-drop m xs)) ∙ take-length (drop m xs)

pub finish : (bytes lanes : List ℕ) (block r : ℕ) → block ≡ length bytes / 64 → fold_l bit_xor 0 lanes ≡ fold bit_xor 0 (take (64 * block) bytes)
    → r ≡ fold bit_xor (fold_l bit_xor 0 lanes) (take (length bytes - 64 * (length bytes / 64)) (drop (64 * (length bytes / 64)) bytes)) → r ≡ fold bit_xor 0 bytes
finish bytes lanes block r e so_far h =
    let m = 64 * (length bytes / 64) in
    h ∙ ap (λ a. fold bit_xor a (take (length bytes - m) (drop m bytes))) (so_far ∙ ap (λ b. fold bit_xor 0 (take (64 * b) bytes)) e)
    ∙ ap (fold bit_xor (fold bit_xor 0 (take m bytes))) (rest_of bytes m) ∙ whole bytes m
