-- A pattern of letters turns the bits of a number as the exclusive or with its mask does.
use Rattle.std.proofs.Common.{◌≡◌, ℕ, zero, suc, ◌+◌, ◌*◌, ◌/◌, ◌%◌, ◌^◌, ◌-◌, ◌<◌, List, [], ◌∷◌, length, Bool, true, false, refl, ap, ◌∙◌, sym, arith}
use Rattle.std.specs.Prelude.{bit_xor, ◌==◌, if◌then◌else◌}
use Rattle.std.specs.Int.Bits.{xor_zero_r}
use Rattle.std.proofs.lemmas.Nat.{xor_lt, xor_block, mod_below, pow_pos, mod-pow-add}
use Rattle.std.proofs.Math.Nat.{mod-eq_of_lt, pow-succ'}
use Rattle.crc_small.specs.LongDivision.{low_bits}
use Rattle.jc_codec.specs.Message.{turned, inverted_at, number_of, same, one_more, one_less, two_more, two_less}

-- the bits that a pattern inverts
mask_of : List ℕ → ℕ
mask_of [] = 0
mask_of (letter ∷ letters) = (if letter == 73 then 1 else 0) * 2 ^ length letters + mask_of letters

mask-lt : (letters : List ℕ) → mask_of letters < 2 ^ length letters
unfolding mask_of
mask-lt [] = omega arith
mask-lt (letter ∷ letters) = by_letter (letter == 73) (mask_of letters) (length letters) (mask-lt letters)
  where
    by_letter : (t : Bool) (m k : ℕ) → m < 2 ^ k → (if t then 1 else 0) * 2 ^ k + m < 2 ^ suc k
    by_letter true m k h = let twice : 2 ^ suc k ≡ 2 * 2 ^ k = pow-succ' 2 k in omega arith
    by_letter false m k h = let twice : 2 ^ suc k ≡ 2 * 2 ^ k = pow-succ' 2 k in omega arith

length-inverted : (letters : List ℕ) (x : ℕ) → length (inverted_at letters (low_bits (length letters) x)) ≡ length letters
unfolding inverted_at low_bits
length-inverted [] x = refl
length-inverted (letter ∷ letters) x = ap suc (length-inverted letters x)

letter_is : (t : Bool) (b : ℕ) → b < 2 → (if t then 1 - b else b) ≡ bit_xor b (if t then 1 else 0)
letter_is true zero h = refl
letter_is true (suc zero) h = refl
letter_is true (suc (suc b)) h = absurd (omega arith)
letter_is false b h = sym (xor_zero_r b)

inverted_is : (letters : List ℕ) (x : ℕ) → number_of (inverted_at letters (low_bits (length letters) x)) ≡ bit_xor (x % 2 ^ length letters) (mask_of letters)
unfolding number_of inverted_at low_bits mask_of
inverted_is [] x = let none : x % 1 ≡ 0 = omega arith in ap (λ y. bit_xor y 0) (sym none)
inverted_is (letter ∷ letters) x =
    let k = length letters in
    let b = x / 2 ^ k % 2 in
    let m : ℕ = (if letter == 73 then 1 else 0) in
    let first : (if letter == 73 then 1 - b else b) ≡ bit_xor b m = letter_is (letter == 73) b (omega arith) in
    let one_more : suc k ≡ 1 + k = omega arith in
    let split : x % 2 ^ suc k ≡ b * 2 ^ k + x % 2 ^ k = ap (λ i. x % 2 ^ i) one_more ∙ mod-pow-add x 1 k in
    ap (λ n. (if letter == 73 then 1 - b else b) * 2 ^ n + number_of (inverted_at letters (low_bits k x))) (length-inverted letters x)
    ∙ ap (λ y. y * 2 ^ k + number_of (inverted_at letters (low_bits k x))) first
    ∙ ap (λ y. bit_xor b m * 2 ^ k + y) (inverted_is letters x)
    ∙ sym (xor_block k b m (x % 2 ^ k) (mask_of letters) (mod_below x (2 ^ k) (pow_pos k)) (mask-lt letters))
    ∙ ap (λ y. bit_xor y (m * 2 ^ k + mask_of letters)) (sym split)

pub turned_same : (x : ℕ) → x < 16384 → turned same x ≡ x
unfolding turned same mask_of
turned_same x h = inverted_is same x ∙ xor_zero_r (x % 2 ^ 14) ∙ mod-eq_of_lt h

pub turned_one_more : (x : ℕ) → x < 16384 → turned one_more x ≡ bit_xor x 0x2AAA
unfolding turned one_more mask_of
turned_one_more x h = inverted_is one_more x ∙ ap (λ y. bit_xor y 0x2AAA) (mod-eq_of_lt h)

pub turned_one_less : (x : ℕ) → x < 16384 → turned one_less x ≡ bit_xor x 0x1555
unfolding turned one_less mask_of
turned_one_less x h = inverted_is one_less x ∙ ap (λ y. bit_xor y 0x1555) (mod-eq_of_lt h)

pub turned_two_more : (x : ℕ) → x < 16384 → turned two_more x ≡ bit_xor x 0x1999
unfolding turned two_more mask_of
turned_two_more x h = inverted_is two_more x ∙ ap (λ y. bit_xor y 0x1999) (mod-eq_of_lt h)

pub turned_two_less : (x : ℕ) → x < 16384 → turned two_less x ≡ bit_xor x 0x2666
unfolding turned two_less mask_of
turned_two_less x h = inverted_is two_less x ∙ ap (λ y. bit_xor y 0x2666) (mod-eq_of_lt h)

pub xor_of_14 : (a b : ℕ) → a < 16384 → b < 16384 → bit_xor a b < 16384
xor_of_14 a b h k = xor_lt 14 a b h k

-- the patterns of the table, as masks
pub ruleset patterns = (xor_of_14, turned_same, turned_one_more, turned_one_less, turned_two_more, turned_two_less)
