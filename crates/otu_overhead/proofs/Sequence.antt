-- The bits of the scrambler's sequence, and sixteen of them in a register.
use Rattle.std.proofs.Common.{◌≡◌, ℕ, zero, suc, ◌+◌, ◌-◌, ◌*◌, ◌/◌, ◌%◌, ◌^◌, ◌<◌, ◌≤◌, get_or, inl, inr, refl, ap, sym, ◌∙◌, arith, add-zero}
use Rattle.std.proofs.lemmas.List.{get_or-replicate}
use Rattle.std.proofs.lemmas.Bool.Decides.{leb_tells}
use Rattle.std.proofs.Math.Nat.{mul-add-div_right, div-eq_of_lt, mod-eq_of_lt, pow-suc, mul_assoc, mul-add-mod_self_right}
use Rattle.otu_overhead.specs.Mask.{bit_after, sequence_back, sequence_bit, bits_from}

-- a bit stays where it stands, behind all that follow
back_is : (k n m i j : ℕ) → m ≡ k + n → j ≡ k + i → get_or (sequence_back m) j 0 ≡ get_or (sequence_back n) i 0
unfolding sequence_back
back_is zero n m i j e f =
    let here : m ≡ n = omega (arith, e) in
    let at : j ≡ i = omega (arith, f) in
    ap (λ x. get_or (sequence_back x) j 0) here ∙ ap (λ x. get_or (sequence_back n) x 0) at
back_is (suc k) n m i j e f =
    let here : m ≡ suc (k + n) = omega (arith, e) in
    let at : j ≡ suc (k + i) = omega (arith, f) in
    ap (λ x. get_or (sequence_back x) j 0) here ∙ ap (λ x. get_or (sequence_back (suc (k + n))) x 0) at ∙ back_is k n (k + n) i (k + i) refl refl

-- the sequence begins with sixteen ones
pub first_ones : (i : ℕ) → i < 16 → sequence_bit i ≡ 1
unfolding sequence_back
first_ones i h = back_is i 0 i (15 - i) 15 (omega arith) (omega (arith, h)) ∙ get_or-replicate 16 (15 - i) 1 0 (omega (arith, h))

newest : (n : ℕ) → get_or (sequence_back (suc n)) 0 0 ≡ bit_after (sequence_back n)
unfolding sequence_back
newest n = refl

-- each further bit is the sum of those that are 1, 3, 12 and 16 before it
pub next_bit : (i : ℕ) → sequence_bit (i + 16) ≡ (sequence_bit (i + 15) + sequence_bit (i + 13) + sequence_bit (i + 4) + sequence_bit i) % 2
next_bit i =
    let here : sequence_bit (i + 16) ≡ bit_after (sequence_back i) = back_is 15 (suc i) (i + 16) 0 15 (omega arith) (omega arith) ∙ newest i in
    let a : sequence_bit (i + 15) ≡ get_or (sequence_back i) 0 0 = back_is 15 i (i + 15) 0 15 (omega arith) (omega arith) in
    let b : sequence_bit (i + 13) ≡ get_or (sequence_back i) 2 0 = back_is 13 i (i + 13) 2 15 (omega arith) (omega arith) in
    let c : sequence_bit (i + 4) ≡ get_or (sequence_back i) 11 0 = back_is 4 i (i + 4) 11 15 (omega arith) (omega arith) in
    here ∙ ap (λ n. (n + get_or (sequence_back i) 2 0 + get_or (sequence_back i) 11 0 + sequence_bit i) % 2) (sym a)
    ∙ ap (λ n. (sequence_bit (i + 15) + n + get_or (sequence_back i) 11 0 + sequence_bit i) % 2) (sym b)
    ∙ ap (λ n. (sequence_bit (i + 15) + sequence_bit (i + 13) + n + sequence_bit i) % 2) (sym c)

pub one_bit : (i : ℕ) → sequence_bit i < 2
one_bit i = elim (leb_tells 16 i) [
  | inr first ↦ omega (arith, first_ones i first.1)
  | inl later ↦
      let back : i ≡ (i - 16) + 16 = omega (arith, later.1) in
      let is : sequence_bit i ≡ sequence_bit ((i - 16) + 16) = ap (λ n. sequence_bit n) back in
      omega (arith, is, next_bit (i - 16))
]

-- one bit more
bits_more : (i n : ℕ) → bits_from i (suc n) ≡ bits_from i n * 2 + sequence_bit (i + n)
unfolding bits_from
bits_more i n = refl

bits_none : (i : ℕ) → bits_from i zero ≡ 0
unfolding bits_from
bits_none i = refl

pub bits_below : (i n : ℕ) → bits_from i n < 2 ^ n
bits_below i zero = omega (arith, bits_none i)
bits_below i (suc n) = omega (arith, bits_more i n, bits_below i n, one_bit (i + n), pow-suc 2 n)

doubled : (a p : ℕ) → a * (p * 2) ≡ a * p * 2
doubled a p = sym (mul_assoc a p 2)

-- bits, and those that follow them
pub bits_split : (i m n : ℕ) → bits_from i (m + n) ≡ bits_from i m * 2 ^ n + bits_from (i + m) n
bits_split i m zero =
    let none : bits_from i (m + 0) ≡ bits_from i m = ap (bits_from i) (add-zero m) in
    let one : bits_from i m * 2 ^ 0 ≡ bits_from i m = omega arith in
    omega (arith, none, one, bits_none (i + m))
bits_split i m (suc n) =
    let next : bits_from i (m + suc n) ≡ bits_from i (suc (m + n)) = ap (bits_from i) (let e : m + suc n ≡ suc (m + n) = omega arith in e) in
    let wide : bits_from i m * 2 ^ suc n ≡ bits_from i m * 2 ^ n * 2 = ap (λ p. bits_from i m * p) (pow-suc 2 n) ∙ doubled (bits_from i m) (2 ^ n) in
    let same : sequence_bit (i + (m + n)) ≡ sequence_bit (i + m + n) = ap (λ k. sequence_bit k) (let e : i + (m + n) ≡ i + m + n = omega arith in e) in
    omega (arith, next, wide, same, bits_more i (m + n), bits_more (i + m) n, bits_split i m n)

quotient : (a p b : ℕ) → b < p → (a * p + b) / p ≡ a
quotient a p b h =
    let some : 0 < p = omega (arith, h) in
    mul-add-div_right some a b ∙ ap (λ n. a + n) (div-eq_of_lt h) ∙ add-zero a

-- the bit before the last k
pub bit_is : (i m k : ℕ) → bits_from i (suc m + k) / 2 ^ k % 2 ≡ sequence_bit (i + m)
bit_is i m k =
    ap (λ n. n / 2 ^ k % 2) (bits_split i (suc m) k)
    ∙ ap (λ n. n % 2) (quotient (bits_from i (suc m)) (2 ^ k) (bits_from (i + suc m) k) (bits_below (i + suc m) k) ∙ bits_more i m)
    ∙ mul-add-mod_self_right (bits_from i m) 2 (sequence_bit (i + m)) ∙ mod-eq_of_lt (one_bit (i + m))

-- the first eight of sixteen
pub high_byte : (i : ℕ) → bits_from i 16 / 256 ≡ bits_from i 8
high_byte i = ap (λ n. n / 256) (bits_split i 8 8) ∙ quotient (bits_from i 8) 256 (bits_from (i + 8) 8) (bits_below (i + 8) 8)

-- all but the first
low_bits : (i : ℕ) → bits_from i 16 % 32768 ≡ bits_from (i + 1) 15
low_bits i =
    ap (λ n. n % 32768) (bits_split i 1 15) ∙ mul-add-mod_self_right (bits_from i 1) 32768 (bits_from (i + 1) 15)
    ∙ mod-eq_of_lt (bits_below (i + 1) 15)

-- sixteen bits, from the next one on
pub one_on : (i register a b c d : ℕ) → register ≡ bits_from i 16 → a ≡ register / 2 ^ 0 % 2 → b ≡ register / 2 ^ 2 % 2 → c ≡ register / 2 ^ 11 % 2 → d ≡ register / 2 ^ 15 % 2
    → register % 32768 * 2 + (a + b + c + d) % 2 ≡ bits_from (i + 1) 16
one_on i register a b c d is ea eb ec ed =
    let low : register % 32768 ≡ bits_from (i + 1) 15 = ap (λ n. n % 32768) is ∙ low_bits i in
    let pa : a ≡ sequence_bit (i + 15) = ea ∙ ap (λ n. n / 2 ^ 0 % 2) is ∙ bit_is i 15 0 in
    let pb : b ≡ sequence_bit (i + 13) = eb ∙ ap (λ n. n / 2 ^ 2 % 2) is ∙ bit_is i 13 2 in
    let pc : c ≡ sequence_bit (i + 4) = ec ∙ ap (λ n. n / 2 ^ 11 % 2) is ∙ bit_is i 4 11 in
    let pd : d ≡ sequence_bit i = ed ∙ ap (λ n. n / 2 ^ 15 % 2) is ∙ bit_is i 0 15 ∙ ap (λ n. sequence_bit n) (add-zero i) in
    let sum : (a + b + c + d) % 2 ≡ sequence_bit (i + 16) =
    ap (λ n. (n + b + c + d) % 2) pa ∙ ap (λ n. (sequence_bit (i + 15) + n + c + d) % 2) pb
    ∙ ap (λ n. (sequence_bit (i + 15) + sequence_bit (i + 13) + n + d) % 2) pc
    ∙ ap (λ n. (sequence_bit (i + 15) + sequence_bit (i + 13) + sequence_bit (i + 4) + n) % 2) pd ∙ sym (next_bit i) in
    let at : sequence_bit (i + 1 + 15) ≡ sequence_bit (i + 16) = ap (λ n. sequence_bit n) (let e : i + 1 + 15 ≡ i + 16 = omega arith in e) in
    omega (arith, low, sum, at, bits_more (i + 1) 15)

all_ones : (n : ℕ) → n ≤ 16 → bits_from 0 n + 1 ≡ 2 ^ n
all_ones zero h = omega (arith, bits_none 0)
all_ones (suc n) h =
    let here : sequence_bit (0 + n) ≡ sequence_bit n = ap (λ k. sequence_bit k) (let e : 0 + n ≡ n = omega arith in e) in
    omega (arith, here, bits_more 0 n, all_ones n (omega (arith, h)), first_ones n (omega (arith, h)), pow-suc 2 n)

-- the register at the beginning
pub begins : 0xFFFF ≡ bits_from 0 16
begins = let e : bits_from 0 16 + 1 ≡ 65536 = all_ones 16 (omega arith) in omega (arith, e)
