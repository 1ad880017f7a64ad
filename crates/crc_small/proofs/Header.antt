-- Two wrong bits of a header never make a right one.
use Rattle.std.proofs.Common.{◌≡◌, ℕ, ◌+◌, ◌*◌, ◌/◌, ◌%◌, ◌^◌, ◌<◌, [], ◌∷◌, true, false, refl, ap, ◌∙◌, sym, subst, arith, inl, inr, IsTrue, ◌↔◌, nat_eq}
use Rattle.std.specs.Prelude.{bit_xor, bit_and, ◌==◌}
use Rattle.std.specs.Int.Bits.{xor_self, xor_zero_l, xor_assoc}
use Rattle.std.proofs.lemmas.Nat.{xor_comm, xor_lt, xor_shr, xor_mod, xor_block, and_mask, pow_pos, one_shl, div-mul-add, mod-mul-add}
use Rattle.std.proofs.lemmas.Bool.{agree_below_at, eqb-true, eq-eqb, false≢true}
use Rattle.crc_small.specs.LongDivision.{crc16_of}
use Rattle.crc_small.specs.Header.{IsRightHeader, IsWithinOneBit}
use Rattle.crc_small.specs.Steps.Shifted.{after_byte}
use Rattle.crc_small.proofs.Changes.{same_front}
use Rattle.crc_small.proofs.Linear.{zeros, zeros-xor, zeros-lt, xor_swap}
use Rattle.crc_small.proofs.Register.{generator_16, shifted_16, crc16-two}

-- the check of two bytes
check_two : ℕ → ℕ → ℕ
check_two x y = zeros 16 0x11021 8 (bit_xor (zeros 16 0x11021 8 (x * 2 ^ 8)) (y * 2 ^ 8))

-- the check of a header's first two bytes, and its last two: 0 where the header is right
syndrome : ℕ → ℕ
syndrome h = bit_xor (check_two (h / 2 ^ 24) (h / 2 ^ 16 % 2 ^ 8)) (h % 2 ^ 16)

-- two single bits leave nothing only where they are the same
two_show : (k : ℕ) → k < 1024 → (syndrome (bit_xor (2 ^ (k / 32)) (2 ^ (k % 32))) == 0) ≡ (k / 32 == k % 32)
unfolding syndrome check_two zeros
two_show k h = agree_below_at (λ k. syndrome (bit_xor (2 ^ (k / 32)) (2 ^ (k % 32))) == 0) (λ k. k / 32 == k % 32) 1024 k refl h

one_shows : (i : ℕ) → i < 32 → (syndrome (2 ^ i) == 0) ≡ false
unfolding syndrome check_two zeros
one_shows i h = agree_below_at (λ i. syndrome (2 ^ i) == 0) (λ i. false) 32 i refl h

check_two_is : (x y : ℕ) → x < 2 ^ 8 → y < 2 ^ 8 → check_two x y ≡ crc16_of (x ∷ y ∷ [])
unfolding check_two
check_two_is x y hx hy =
    let first : zeros 16 0x11021 8 (x * 2 ^ 8) ≡ after_byte 15 0x11021 0 x = shifted_16 0 x (omega arith) hx in
    let small : zeros 16 0x11021 8 (x * 2 ^ 8) < 2 ^ 16 = zeros-lt 16 0x11021 8 (x * 2 ^ 8) generator_16.leads (omega arith) in
    shifted_16 (zeros 16 0x11021 8 (x * 2 ^ 8)) y small hy
    ∙ ap (λ c. after_byte 15 0x11021 c y) first
    ∙ crc16-two x y

right_leaves : (h : ℕ) → IsRightHeader h → syndrome h ≡ 0
unfolding syndrome
right_leaves h right =
    ap (λ c. bit_xor c (h % 2 ^ 16)) (check_two_is (h / 2 ^ 24) (h / 2 ^ 16 % 2 ^ 8) (omega arith) (omega arith) ∙ right.1)
    ∙ xor_self (h % 2 ^ 16)

xor-shl : (k a b : ℕ) → bit_xor a b * 2 ^ k ≡ bit_xor (a * 2 ^ k) (b * 2 ^ k)
xor-shl k a b =
    let ea : a * 2 ^ k + 0 ≡ a * 2 ^ k = omega arith in
    let eb : b * 2 ^ k + 0 ≡ b * 2 ^ k = omega arith in
    let e : bit_xor a b * 2 ^ k ≡ bit_xor a b * 2 ^ k + bit_xor 0 0 = omega arith in
    e ∙ sym (xor_block k a b 0 0 (pow_pos k) (pow_pos k)) ∙ ap (λ y. bit_xor y (b * 2 ^ k + 0)) ea ∙ ap (bit_xor (a * 2 ^ k)) eb

check_two-xor : (x y u v : ℕ) → x < 2 ^ 8 → y < 2 ^ 8 → u < 2 ^ 8 → v < 2 ^ 8 → check_two (bit_xor x u) (bit_xor y v) ≡ bit_xor (check_two x y) (check_two u v)
unfolding check_two
check_two-xor x y u v hx hy hu hv =
    let z = zeros 16 0x11021 8 in
    let small : (b : ℕ) → b < 2 ^ 8 → b * 2 ^ 8 < 2 ^ 16 = λ b h. omega arith in
    let down : (b : ℕ) → b < 2 ^ 8 → z (b * 2 ^ 8) < 2 ^ 16 = λ b h. zeros-lt 16 0x11021 8 (b * 2 ^ 8) generator_16.leads (small b h) in
    let first : z (bit_xor x u * 2 ^ 8) ≡ bit_xor (z (x * 2 ^ 8)) (z (u * 2 ^ 8)) =
    ap z (xor-shl 8 x u) ∙ zeros-xor 16 0x11021 8 (x * 2 ^ 8) (u * 2 ^ 8) generator_16.leads (small x hx) (small u hu) in
    ap (λ c. z (bit_xor c (bit_xor y v * 2 ^ 8))) first
    ∙ ap (λ c. z (bit_xor (bit_xor (z (x * 2 ^ 8)) (z (u * 2 ^ 8))) c)) (xor-shl 8 y v)
    ∙ ap z (xor_swap (z (x * 2 ^ 8)) (z (u * 2 ^ 8)) (y * 2 ^ 8) (v * 2 ^ 8))
    ∙ zeros-xor 16 0x11021 8 (bit_xor (z (x * 2 ^ 8)) (y * 2 ^ 8)) (bit_xor (z (u * 2 ^ 8)) (v * 2 ^ 8)) generator_16.leads
    (xor_lt 16 (z (x * 2 ^ 8)) (y * 2 ^ 8) (down x hx) (small y hy)) (xor_lt 16 (z (u * 2 ^ 8)) (v * 2 ^ 8) (down u hu) (small v hv))

syndrome-xor : (a b : ℕ) → a < 2 ^ 32 → b < 2 ^ 32 → syndrome (bit_xor a b) ≡ bit_xor (syndrome a) (syndrome b)
unfolding syndrome
syndrome-xor a b ha hb =
    let a1 = a / 2 ^ 24 in
    let a2 = a / 2 ^ 16 % 2 ^ 8 in
    let b1 = b / 2 ^ 24 in
    let b2 = b / 2 ^ 16 % 2 ^ 8 in
    let second : bit_xor a b / 2 ^ 16 % 2 ^ 8 ≡ bit_xor a2 b2 = ap (λ y. y % 2 ^ 8) (xor_shr a b 16) ∙ xor_mod (a / 2 ^ 16) (b / 2 ^ 16) 8 in
    ap (λ y. bit_xor (check_two y (bit_xor a b / 2 ^ 16 % 2 ^ 8)) (bit_xor a b % 2 ^ 16)) (xor_shr a b 24)
    ∙ ap (λ y. bit_xor (check_two (bit_xor a1 b1) y) (bit_xor a b % 2 ^ 16)) second
    ∙ ap (λ y. bit_xor y (bit_xor a b % 2 ^ 16)) (check_two-xor a1 a2 b1 b2 (omega arith) (omega arith) (omega arith) (omega arith))
    ∙ ap (bit_xor (bit_xor (check_two a1 a2) (check_two b1 b2))) (xor_mod a b 16)
    ∙ xor_swap (check_two a1 a2) (check_two b1 b2) (a % 2 ^ 16) (b % 2 ^ 16)

both_leave : (a b : ℕ) → IsRightHeader a → IsRightHeader b → syndrome (bit_xor a b) ≡ 0
both_leave a b ra rb =
    syndrome-xor a b ra.0 rb.0 ∙ ap (λ y. bit_xor y (syndrome b)) (right_leaves a ra) ∙ ap (bit_xor 0) (right_leaves b rb)

never_one : (a b i : ℕ) → IsRightHeader a → IsRightHeader b → i < 32 → bit_xor a b ≡ 2 ^ i → ⊥
never_one a b i ra rb hi e =
    let none : syndrome (2 ^ i) ≡ 0 = ap syndrome (sym e) ∙ both_leave a b ra rb in
    false≢true (sym (one_shows i hi) ∙ eq-eqb (syndrome (2 ^ i)) 0 none)

same_place : (a b i j : ℕ) → IsRightHeader a → IsRightHeader b → i < 32 → j < 32 → bit_xor a b ≡ bit_xor (2 ^ i) (2 ^ j) → i ≡ j
same_place a b i j ra rb hi hj e =
    let k = i * 32 + j in
    let ki : k / 32 ≡ i = div-mul-add i 32 j hj in
    let kj : k % 32 ≡ j = mod-mul-add i 32 j hj in
    let none : syndrome (bit_xor (2 ^ (k / 32)) (2 ^ (k % 32))) ≡ 0 =
    ap (λ y. syndrome (bit_xor (2 ^ y) (2 ^ (k % 32)))) ki ∙ ap (λ y. syndrome (bit_xor (2 ^ i) (2 ^ y))) kj ∙ ap syndrome (sym e) ∙ both_leave a b ra rb in
    let test : (k / 32 == k % 32) ≡ true = sym (two_show k (omega arith)) ∙ eq-eqb (syndrome (bit_xor (2 ^ (k / 32)) (2 ^ (k % 32)))) 0 none in
    sym ki ∙ eqb-true (k / 32) (k % 32) test ∙ kj

-- At most one right header lies within one bit of a number.
pub at_most_one : (h a b : ℕ) → IsRightHeader a → IsRightHeader b → IsWithinOneBit h a → IsWithinOneBit h b → a ≡ b
at_most_one h a b ra rb (inl e) (inl f) = sym e ∙ f
at_most_one h a b ra rb (inl e) (inr (j, hj, f)) = absurd (never_one a b j ra rb hj (ap (λ y. bit_xor y b) (sym e) ∙ f))
at_most_one h a b ra rb (inr (i, hi, e)) (inl f) = absurd (never_one a b i ra rb hi (xor_comm a b ∙ ap (λ y. bit_xor y a) (sym f) ∙ e))
at_most_one h a b ra rb (inr (i, hi, e)) (inr (j, hj, f)) =
    let apart : bit_xor a b ≡ bit_xor (2 ^ i) (2 ^ j) =
    sym (ap (λ y. bit_xor y (bit_xor a b)) (xor_self h)) ∙ sym (xor_swap h a h b) ∙ ap (λ y. bit_xor y (bit_xor h b)) e ∙ ap (bit_xor (2 ^ i)) f in
    let same : i ≡ j = same_place a b i j ra rb hi hj apart in
    same_front h a b (e ∙ ap (λ y. 2 ^ y) same ∙ sym f)

-- the test of the code
pub right_iff : (h check : ℕ) → h < 2 ^ 32 → check ≡ after_byte 15 0x11021 (after_byte 15 0x11021 0 (h / 2 ^ 24)) (bit_and (h / 2 ^ 16) 255)
    → IsTrue (nat_eq check (bit_and h 65535)) ↔ IsRightHeader h
right_iff h check hh e =
    let check_is : check ≡ crc16_of (h / 2 ^ 24 ∷ h / 2 ^ 16 % 2 ^ 8 ∷ []) =
    e ∙ ap (after_byte 15 0x11021 (after_byte 15 0x11021 0 (h / 2 ^ 24))) (and_mask (h / 2 ^ 16) 8) ∙ crc16-two (h / 2 ^ 24) (h / 2 ^ 16 % 2 ^ 8) in
    let low : bit_and h 65535 ≡ h % 2 ^ 16 = and_mask h 16 in
    (λ t. (hh, sym check_is ∙ eqb-true check (bit_and h 65535) t ∙ low), λ right. eq-eqb check (bit_and h 65535) (check_is ∙ right.1 ∙ sym low))

back : (h y : ℕ) → bit_xor h (bit_xor h y) ≡ y
back h y = sym (xor_assoc h h y) ∙ ap (λ z. bit_xor z y) (xor_self h) ∙ xor_zero_l y

-- a header with the bit of a place turned
pub turned : (h i : ℕ) → i < 32 → bit_xor h ((1 * 2 ^ i) % 2 ^ 32) ≡ bit_xor h (2 ^ i)
turned h i hi = ap (bit_xor h) (one_shl i 32 hi)

pub near_turned : (h i : ℕ) → i < 32 → IsWithinOneBit h (bit_xor h ((1 * 2 ^ i) % 2 ^ 32))
near_turned h i hi = inr (i, hi, ap (bit_xor h) (turned h i hi) ∙ back h (2 ^ i))

-- where neither the header nor one with a bit turned is right, none is
pub none_near : (h right : ℕ) → ¬ IsRightHeader h → ((k : ℕ) → k < 32 → ¬ IsRightHeader (bit_xor h (2 ^ k)))
    → IsRightHeader right → ¬ IsWithinOneBit h right
none_near h right itself others is (inl e) = itself (subst (λ x. IsRightHeader x) (sym e) is)
none_near h right itself others is (inr (i, hi, e)) =
    others i hi (subst (λ x. IsRightHeader x) (sym (back h right) ∙ ap (bit_xor h) e) is)
