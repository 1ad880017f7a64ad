-- Long division over bits adds up bit by bit, so a register that takes in its bits at the top holds the check.
use Rattle.std.proofs.Common.{◌≡◌, ℕ, zero, suc, ◌+◌, ◌*◌, ◌/◌, ◌^◌, ◌<◌, ◌⊎◌, inl, inr, List, [], ◌∷◌, ◌++◌, refl, ap, ◌∙◌, sym, arith}
use Rattle.std.specs.Prelude.{bit_xor, fold, replicate}
use Rattle.std.specs.Int.Bits.{xor_self, xor_zero_l, xor_zero_r, xor_assoc}
use Rattle.std.proofs.lemmas.Nat.{xor_comm, xor_shr, xor_block, pow_pos, div_below}
use Rattle.std.proofs.lemmas.List.{append-nil}
use Rattle.std.proofs.lemmas.List.Sums.{fold-append, fold_push}
use Rattle.std.proofs.Math.Nat.{lt-div-mul-add, div-eq_of_lt, zero-mul, one-mul, pow-succ'}
use Rattle.std.proofs.lemmas.List.{append_assoc}
use Rattle.std.specs.Prelude.{All}
use Rattle.std.proofs.lemmas.List.Elements.{All-push}
use Rattle.crc_small.specs.Steps.Shifted.{take_in}
use Rattle.crc_small.specs.LongDivision.{bring_down, remainder_from, check_of}

-- (a + b) + (c + d) is (a + c) + (b + d)
pub xor_swap : (a b c d : ℕ) → bit_xor (bit_xor a b) (bit_xor c d) ≡ bit_xor (bit_xor a c) (bit_xor b d)
xor_swap a b c d =
    xor_assoc a b (bit_xor c d)
    ∙ ap (bit_xor a) (sym (xor_assoc b c d) ∙ ap (λ x. bit_xor x d) (xor_comm b c) ∙ xor_assoc c b d)
    ∙ sym (xor_assoc a c (bit_xor b d))

zero_or_one : (q : ℕ) → q < 2 → (q ≡ 0) ⊎ (q ≡ 1)
zero_or_one zero h = inl refl
zero_or_one (suc zero) h = inr refl
zero_or_one (suc (suc q)) h = absurd (omega arith)

-- a digit of the quotient, times the generator
times_digit : (g p q : ℕ) → p < 2 → q < 2 → bit_xor p q * g ≡ bit_xor (p * g) (q * g)
times_digit g zero q hp hq = rw (xor_zero_l q) (let e : 0 * g ≡ 0 = omega arith in rw e (sym (xor_zero_l (q * g))))
times_digit g (suc zero) zero hp hq = let e : 0 * g ≡ 0 = omega arith in rw e (sym (xor_zero_r (1 * g)))
times_digit g (suc zero) (suc zero) hp hq = let e : 0 * g ≡ 0 = omega arith in e ∙ sym (xor_self (1 * g))
times_digit g (suc zero) (suc (suc q)) hp hq = absurd (omega arith)
times_digit g (suc (suc p)) q hp hq = absurd (omega arith)

double_xor : (r t b c : ℕ) → b < 2 → c < 2 → 2 * bit_xor r t + bit_xor b c ≡ bit_xor (2 * r + b) (2 * t + c)
double_xor r t b c hb hc =
    let block : bit_xor (r * 2 + b) (t * 2 + c) ≡ bit_xor r t * 2 + bit_xor b c = xor_block 1 r t b c hb hc in
    let e : r * 2 + b ≡ 2 * r + b = omega arith in
    let f : t * 2 + c ≡ 2 * t + c = omega arith in
    let back : 2 * bit_xor r t + bit_xor b c ≡ bit_xor r t * 2 + bit_xor b c = omega arith in
    back ∙ sym block ∙ ap (λ x. bit_xor x (t * 2 + c)) e ∙ ap (bit_xor (2 * r + b)) f

digit_below : (n r b : ℕ) → r < 2 ^ n → b < 2 → (2 * r + b) / 2 ^ n < 2
digit_below n r b hr hb = div_below (2 * r + b) (2 ^ n) 2 (pow_pos n) (omega arith)

-- a step of the sum is the sum of the steps
pub bring_down-xor : (n g r t b c : ℕ) → r < 2 ^ n → t < 2 ^ n → b < 2 → c < 2
    → bring_down n g (bit_xor r t) (bit_xor b c) ≡ bit_xor (bring_down n g r b) (bring_down n g t c)
bring_down-xor n g r t b c hr ht hb hc =
    let s = 2 * r + b in
    let u = 2 * t + c in
    let sum_is : 2 * bit_xor r t + bit_xor b c ≡ bit_xor s u = double_xor r t b c hb hc in
    let digit : bit_xor s u / 2 ^ n * g ≡ bit_xor (s / 2 ^ n * g) (u / 2 ^ n * g) =
    ap (λ x. x * g) (xor_shr s u n) ∙ times_digit g (s / 2 ^ n) (u / 2 ^ n) (digit_below n r b hr hb) (digit_below n t c ht hc) in
    ap (λ x. bit_xor x (x / 2 ^ n * g)) sum_is
    ∙ ap (bit_xor (bit_xor s u)) digit
    ∙ xor_swap s u (s / 2 ^ n * g) (u / 2 ^ n * g)

-- a number without a high part is below the power
below_from_shr : (a n : ℕ) → a / 2 ^ n ≡ 0 → a < 2 ^ n
below_from_shr a n h =
    let top : a < a / 2 ^ n * 2 ^ n + 2 ^ n = lt-div-mul-add (pow_pos n) in
    let none : a / 2 ^ n * 2 ^ n ≡ 0 = ap (λ q. q * 2 ^ n) h ∙ zero-mul (2 ^ n) in
    omega arith

digit_gone : (n g s q : ℕ) → g / 2 ^ n ≡ 1 → q < 2 → q ≡ s / 2 ^ n → bit_xor s (q * g) / 2 ^ n ≡ 0
digit_gone n g s zero lead hq e =
    let none : 0 * g ≡ 0 = omega arith in
    xor_shr s (0 * g) n ∙ ap (λ x. bit_xor x (0 * g / 2 ^ n)) (sym e) ∙ xor_zero_l (0 * g / 2 ^ n) ∙ ap (λ x. x / 2 ^ n) none ∙ div-eq_of_lt (pow_pos n)
digit_gone n g s (suc zero) lead hq e =
    let one : 1 * g ≡ g = omega arith in
    xor_shr s (1 * g) n ∙ ap (λ x. bit_xor x (1 * g / 2 ^ n)) (sym e) ∙ ap (λ x. bit_xor 1 (x / 2 ^ n)) one ∙ ap (bit_xor 1) lead
digit_gone n g s (suc (suc q)) lead hq e = absurd (omega arith)

-- a step leaves a number below the generator's leading bit
pub bring_down-lt : (n g r b : ℕ) → g / 2 ^ n ≡ 1 → r < 2 ^ n → b < 2 → bring_down n g r b < 2 ^ n
bring_down-lt n g r b lead hr hb = let s = 2 * r + b in
    below_from_shr (bit_xor s (s / 2 ^ n * g)) n (digit_gone n g s (s / 2 ^ n) lead (digit_below n r b hr hb) refl)

-- k zeros brought down
unfoldable pub zeros : (n g k : ℕ) → ℕ → ℕ
zeros n g zero r = r
zeros n g (suc k) r = zeros n g k (bring_down n g r 0)

pub zeros_is : (n g k r : ℕ) → remainder_from n g r (replicate k 0) ≡ zeros n g k r
unfolding zeros remainder_from
zeros_is n g zero r = refl
zeros_is n g (suc k) r = zeros_is n g k (bring_down n g r 0)

pub zeros-lt : (n g k r : ℕ) → g / 2 ^ n ≡ 1 → r < 2 ^ n → zeros n g k r < 2 ^ n
unfolding zeros
zeros-lt n g zero r lead hr = hr
zeros-lt n g (suc k) r lead hr = zeros-lt n g k (bring_down n g r 0) lead (bring_down-lt n g r 0 lead hr (omega arith))

pub zeros-xor : (n g k r t : ℕ) → g / 2 ^ n ≡ 1 → r < 2 ^ n → t < 2 ^ n → zeros n g k (bit_xor r t) ≡ bit_xor (zeros n g k r) (zeros n g k t)
unfolding zeros
zeros-xor n g zero r t lead hr ht = refl
zeros-xor n g (suc k) r t lead hr ht =
    ap (zeros n g k) (bring_down-xor n g r t 0 0 hr ht (omega arith) (omega arith))
    ∙ zeros-xor n g k (bring_down n g r 0) (bring_down n g t 0) lead (bring_down-lt n g r 0 lead hr (omega arith)) (bring_down-lt n g t 0 lead ht (omega arith))

pub zeros_late : (n g k r : ℕ) → zeros n g k (bring_down n g r 0) ≡ bring_down n g (zeros n g k r) 0
unfolding zeros
zeros_late n g zero r = refl
zeros_late n g (suc k) r = zeros_late n g k (bring_down n g r 0)

-- below the leading bit nothing is taken off
pub bring_down_small : (n g s : ℕ) → s < 2 ^ n → bit_xor s (s / 2 ^ n * g) ≡ s
bring_down_small n g s h =
    ap (λ q. bit_xor s (q * g)) (div-eq_of_lt h) ∙ ap (bit_xor s) (zero-mul g) ∙ xor_zero_r s

-- a step with a bit is a step without it, and the bit
bring_down-bit : (m g r b : ℕ) → r < 2 ^ suc m → b < 2 → bring_down (suc m) g r b ≡ bit_xor (bring_down (suc m) g r 0) b
bring_down-bit m g r b hr hb =
    let room : 0 < 2 ^ m = pow_pos m in
    let twice : 2 ^ suc m ≡ 2 * 2 ^ m = pow-succ' 2 m in
    let low : 2 * 0 + b < 2 ^ suc m = omega arith in
    let alone : bring_down (suc m) g 0 b ≡ 2 * 0 + b = bring_down_small (suc m) g (2 * 0 + b) low in
    let same : 2 * 0 + b ≡ b = omega arith in
    ap (λ x. bring_down (suc m) g x b) (sym (xor_zero_r r))
    ∙ ap (bring_down (suc m) g (bit_xor r 0)) (sym (xor_zero_l b))
    ∙ bring_down-xor (suc m) g r 0 0 b hr (pow_pos (suc m)) (omega arith) hb
    ∙ ap (bit_xor (bring_down (suc m) g r 0)) (alone ∙ same)

-- what a one does when it goes out at the top, it does after all zeros
pub record Generator (m g : ℕ) : Type 0 where
  pub leads : g / 2 ^ suc m ≡ 1
  pub turns : zeros (suc m) g (suc m) 1 ≡ bring_down (suc m) g (2 ^ m) 0

pub zeros_zero : (n g k : ℕ) → zeros n g k 0 ≡ 0
unfolding zeros
zeros_zero n g zero = refl
zeros_zero n g (suc k) = ap (zeros n g k) (bring_down_small n g 0 (pow_pos n)) ∙ zeros_zero n g k

zeros_bit : (m g b : ℕ) → Generator m g → b < 2 → zeros (suc m) g (suc m) b ≡ bring_down (suc m) g (b * 2 ^ m) 0
zeros_bit m g zero gen hb = zeros_zero (suc m) g (suc m) ∙ sym (ap (λ x. bring_down (suc m) g x 0) (zero-mul (2 ^ m)) ∙ bring_down_small (suc m) g 0 (pow_pos (suc m)))
zeros_bit m g (suc zero) gen hb = gen.turns ∙ sym (ap (λ x. bring_down (suc m) g x 0) (one-mul (2 ^ m)))
zeros_bit m g (suc (suc b)) gen hb = absurd (omega arith)

pub bit_at_top : (m b : ℕ) → b < 2 → b * 2 ^ m < 2 ^ suc m
bit_at_top m zero hb = rw zero-mul (pow_pos (suc m))
bit_at_top m (suc zero) hb = rw one-mul (let e : 2 ^ suc m ≡ 2 * 2 ^ m = pow-succ' 2 m in let p : 0 < 2 ^ m = pow_pos m in omega arith)
bit_at_top m (suc (suc b)) hb = absurd (omega arith)

pub first_bit : (b : ℕ) (bits : List ℕ) → All (λ b. b < 2) (b ∷ bits) → b < 2
first_bit b bits h = h 0 0 (omega arith)

pub other_bits : (b : ℕ) (bits : List ℕ) → All (λ b. b < 2) (b ∷ bits) → All (λ b. b < 2) bits
other_bits b bits h = λ k d l. h (suc k) d (omega arith)

remainder-lt : (m g r : ℕ) (bits : List ℕ) → Generator m g → r < 2 ^ suc m → All (λ b. b < 2) bits → remainder_from (suc m) g r bits < 2 ^ suc m
unfolding remainder_from
remainder-lt m g r [] gen hr h = hr
remainder-lt m g r (b ∷ bits) gen hr h = remainder-lt m g (bring_down (suc m) g r b) bits gen (bring_down-lt (suc m) g r b gen.leads hr (first_bit b bits h)) (other_bits b bits h)

check_is : (n g : ℕ) (bits : List ℕ) → check_of n g bits ≡ zeros n g n (remainder_from n g 0 bits)
unfolding check_of remainder_from
check_is n g bits = fold-append (bring_down n g) 0 bits (replicate n 0) ∙ zeros_is n g n (remainder_from n g 0 bits)

remainder-push : (n g : ℕ) (bits : List ℕ) (b : ℕ) → remainder_from n g 0 (bits ++ b ∷ []) ≡ bring_down n g (remainder_from n g 0 bits) b
unfolding remainder_from
remainder-push n g bits b = fold_push (bring_down n g) 0 bits b

-- the register takes in one bit more
pub check-push : (m g : ℕ) (bits : List ℕ) (b : ℕ) → Generator m g → All (λ b. b < 2) bits → b < 2
    → check_of (suc m) g (bits ++ b ∷ []) ≡ take_in m g (check_of (suc m) g bits) b
unfolding take_in
check-push m g bits b gen all hb =
    let n = suc m in
    let r = remainder_from n g 0 bits in
    let hr : r < 2 ^ n = remainder-lt m g 0 bits gen (pow_pos n) all in
    let low : b < 2 ^ n = (let room : 0 < 2 ^ m = pow_pos m in let twice : 2 ^ suc m ≡ 2 * 2 ^ m = pow-succ' 2 m in omega arith) in
    check_is n g (bits ++ b ∷ [])
    ∙ ap (zeros n g n) (remainder-push n g bits b ∙ bring_down-bit m g r b hr hb)
    ∙ zeros-xor n g n (bring_down n g r 0) b gen.leads (bring_down-lt n g r 0 gen.leads hr (omega arith)) low
    ∙ ap (λ x. bit_xor x (zeros n g n b)) (zeros_late n g n r)
    ∙ ap (bit_xor (bring_down n g (zeros n g n r) 0)) (zeros_bit m g b gen hb)
    ∙ sym (bring_down-xor n g (zeros n g n r) (b * 2 ^ m) 0 0 (zeros-lt n g n r gen.leads hr) (bit_at_top m b hb) (omega arith) (omega arith))
    ∙ ap (λ c. bring_down n g (bit_xor c (b * 2 ^ m)) 0) (sym (check_is n g bits))

-- several bits, one after another
pub check-append : (m g : ℕ) (xs ys : List ℕ) → Generator m g → All (λ b. b < 2) xs → All (λ b. b < 2) ys
    → check_of (suc m) g (xs ++ ys) ≡ fold (take_in m g) (check_of (suc m) g xs) ys
check-append m g xs [] gen hx hy = ap (check_of (suc m) g) (append-nil xs)
check-append m g xs (y ∷ ys) gen hx hy =
    ap (check_of (suc m) g) (sym (append_assoc xs (y ∷ []) ys))
    ∙ check-append m g (xs ++ y ∷ []) ys gen (All-push (λ (b : ℕ). b < 2) xs y hx (first_bit y ys hy)) (other_bits y ys hy)
    ∙ ap (λ c. fold (take_in m g) c ys) (check-push m g xs y gen hx (first_bit y ys hy))

-- the check of no bits is 0
pub check-nil : (m g : ℕ) → check_of (suc m) g [] ≡ 0
unfolding check_of remainder_from
check-nil m g = zeros_is (suc m) g (suc m) 0 ∙ zeros_zero (suc m) g (suc m)
