-- A register that is shifted byte by byte holds the check of the bits so far.
use Rattle.std.proofs.Common.{◌≡◌, ℕ, zero, suc, ◌+◌, ◌*◌, ◌/◌, ◌%◌, ◌^◌, ◌<◌, ◌≤◌, List, [], ◌∷◌, ◌++◌, length, get_or, take, refl, ap, ◌∙◌, sym, subst, arith}
use Rattle.std.specs.Prelude.{bit_xor, fold, flat_map, All}
use Rattle.std.specs.Int.Bits.{xor_zero_l, xor_zero_r, xor_assoc}
use Rattle.std.proofs.lemmas.Nat.{xor_lt, xor_block, pow_pos, pow-add, mod_below, shr_split, mod-pow-add, shl_below}
use Rattle.std.proofs.lemmas.List.{take_more, append-nil}
use Rattle.std.proofs.lemmas.List.Concat.{flat_map-append}
use Rattle.std.proofs.Math.Nat.{zero-mul, pow-succ', mod-eq_of_lt, zero-add, div-eq_of_lt-le}
use Rattle.std.proofs.lemmas.List.Elements.{All-append}
use Rattle.std.proofs.lemmas.List.Sums.{fold-append}
use Rattle.crc_small.specs.Steps.Shifted.{take_in, after_byte, after_five}
use Rattle.crc_small.specs.LongDivision.{bring_down, check_of, low_bits, bits_of, crc5_of, crc8_of, crc16_of}
use Rattle.crc_small.proofs.Linear.{Generator, zeros, zeros_late, bring_down-xor, bring_down-lt, bring_down_small, check-append, check-nil, bit_at_top}

-- one shift more
pub zeros_next : (n g k r : ℕ) → zeros n g (k + 1) r ≡ bring_down n g (zeros n g k r) 0
unfolding zeros
zeros_next n g k r = let e : k + 1 ≡ suc k = omega arith in ap (λ k. zeros n g k r) e ∙ zeros_late n g k r

-- a shift whose top bit goes out
pub shift_over : (n low r : ℕ) → low < 2 ^ n → r < 2 ^ n → 2 ^ n ≤ 2 * r → bring_down n (2 ^ n + low) r 0 ≡ bit_xor ((r * 2) % 2 ^ n) low
shift_over n low r hl hr h =
    let s = 2 * r + 0 in
    let digit : s / 2 ^ n ≡ 1 = div-eq_of_lt-le {k = 1} (2 ^ n) (omega arith) (omega arith) in
    let rest : s % 2 ^ n < 2 ^ n = mod_below s (2 ^ n) (pow_pos n) in
    let split : s / 2 ^ n * 2 ^ n + s % 2 ^ n ≡ s = shr_split s n in
    let whole : s ≡ 1 * 2 ^ n + s % 2 ^ n = sym split ∙ ap (λ q. q * 2 ^ n + s % 2 ^ n) digit in
    let gen : s / 2 ^ n * (2 ^ n + low) ≡ 1 * 2 ^ n + low = ap (λ q. q * (2 ^ n + low)) digit ∙ omega arith in
    let same : s ≡ r * 2 = omega arith in
    ap (λ x. bit_xor x (s / 2 ^ n * (2 ^ n + low))) whole
    ∙ ap (bit_xor (1 * 2 ^ n + s % 2 ^ n)) gen
    ∙ xor_block n 1 1 (s % 2 ^ n) low rest hl
    ∙ ap (λ x. x + bit_xor (s % 2 ^ n) low) (zero-mul (2 ^ n))
    ∙ zero-add (bit_xor (s % 2 ^ n) low)
    ∙ ap (λ x. bit_xor (x % 2 ^ n) low) same

-- a shift whose top bit stays
pub shift_under : (n g r : ℕ) → 2 * r < 2 ^ n → bring_down n g r 0 ≡ 2 * r
shift_under n g r h = let same : 2 * r + 0 ≡ 2 * r = omega arith in
    bring_down_small n g (2 * r + 0) (omega arith) ∙ same

pub low_bits-bits : (k x : ℕ) → All (λ b. b < 2) (low_bits k x)
unfolding low_bits
low_bits-bits zero x = λ k d l. absurd (omega arith)
low_bits-bits (suc k) x = All-append (λ (b : ℕ). b < 2) (x / 2 ^ k % 2 ∷ []) (low_bits k x) (λ i d l. one_bit (x / 2 ^ k % 2) i d (omega arith) l) (low_bits-bits k x)
  where
    one_bit : (b i d : ℕ) → b < 2 → i < 1 → get_or (b ∷ []) i d < 2
    one_bit b zero d h l = h
    one_bit b (suc i) d h l = absurd (omega arith)

-- a number put above another one
pub above : (m q t : ℕ) → t < 2 ^ m → bit_xor (q * 2 ^ m) t ≡ q * 2 ^ m + t
above m q t h =
    let plus : q * 2 ^ m ≡ q * 2 ^ m + 0 = omega arith in
    let none : t ≡ 0 * 2 ^ m + t = (let z : 0 * 2 ^ m ≡ 0 = zero-mul (2 ^ m) in omega arith) in
    ap (λ x. bit_xor x t) plus ∙ ap (bit_xor (q * 2 ^ m + 0)) none
    ∙ xor_block m q 0 0 t (pow_pos m) h
    ∙ ap (λ x. x * 2 ^ m + bit_xor 0 t) (xor_zero_r q) ∙ ap (λ x. q * 2 ^ m + x) (xor_zero_l t)

-- the k low bits of x, put in at the top and shifted through
pub fed : (m g k j c x : ℕ) → Generator m g → k + j ≡ suc m → c < 2 ^ suc m
    → zeros (suc m) g k (bit_xor c (x % 2 ^ k * 2 ^ j)) ≡ fold (take_in m g) c (low_bits k x)
unfolding zeros low_bits take_in
fed m g zero j c x gen e hc =
    let none : x % 2 ^ 0 ≡ 0 = omega arith in
    ap (λ y. bit_xor c (y * 2 ^ j)) none ∙ ap (bit_xor c) (zero-mul (2 ^ j)) ∙ xor_zero_r c
fed m g (suc k) j c x gen e hc =
    let n = suc m in
    let q = x / 2 ^ k % 2 in
    let r = x % 2 ^ k in
    let km : k + j ≡ m = omega arith in
    let suc_is : suc k ≡ 1 + k = omega arith in
    let split : x % 2 ^ suc k ≡ q * 2 ^ k + r = ap (λ i. x % 2 ^ i) suc_is ∙ mod-pow-add x 1 k in
    let power : 2 ^ k * 2 ^ j ≡ 2 ^ m = sym (pow-add 2 k j) ∙ ap (λ i. 2 ^ i) km in
    let out : (q * 2 ^ k + r) * 2 ^ j ≡ q * (2 ^ k * 2 ^ j) + r * 2 ^ j = omega arith in
    let low : r * 2 ^ j < 2 ^ m = subst (λ i. r * 2 ^ j < 2 ^ i) km (shl_below r k j (mod_below x (2 ^ k) (pow_pos k))) in
    let placed : x % 2 ^ suc k * 2 ^ j ≡ bit_xor (q * 2 ^ m) (r * 2 ^ j) =
    ap (λ y. y * 2 ^ j) split ∙ out ∙ ap (λ y. q * y + r * 2 ^ j) power ∙ sym (above m q (r * 2 ^ j) low) in
    let twice : 2 ^ n ≡ 2 * 2 ^ m = pow-succ' 2 m in
    let bit : q < 2 = omega arith in
    let top : q * 2 ^ m < 2 ^ n = bit_at_top m q bit in
    let whole : bit_xor c (x % 2 ^ suc k * 2 ^ j) ≡ bit_xor (bit_xor c (q * 2 ^ m)) (r * 2 ^ j) =
    ap (bit_xor c) placed ∙ sym (xor_assoc c (q * 2 ^ m) (r * 2 ^ j)) in
    let under : bring_down n g (r * 2 ^ j) 0 ≡ r * 2 ^ suc j =
    shift_under n g (r * 2 ^ j) (omega arith) ∙ (let p : 2 ^ suc j ≡ 2 * 2 ^ j = pow-succ' 2 j in let b : r * 2 ^ suc j ≡ r * (2 * 2 ^ j) = ap (λ y. r * y) p in let c : r * (2 * 2 ^ j) ≡ 2 * (r * 2 ^ j) = omega arith in sym (b ∙ c)) in
    let hc' : bit_xor c (q * 2 ^ m) < 2 ^ n = xor_lt n c (q * 2 ^ m) hc top in
    let step : bring_down n g (bit_xor c (x % 2 ^ suc k * 2 ^ j)) 0 ≡ bit_xor (take_in m g c q) (r * 2 ^ suc j) =
    ap (λ y. bring_down n g y 0) whole
    ∙ bring_down-xor n g (bit_xor c (q * 2 ^ m)) (r * 2 ^ j) 0 0 hc' (omega arith) (omega arith) (omega arith)
    ∙ ap (bit_xor (take_in m g c q)) under in
    ap (zeros n g k) step
    ∙ fed m g k (suc j) (take_in m g c q) x gen (omega arith) (bring_down-lt n g (bit_xor c (q * 2 ^ m)) 0 gen.leads hc' (omega arith))

pub bits_of-bits : (bytes : List ℕ) → All (λ b. b < 2) (bits_of bytes)
unfolding bits_of
bits_of-bits [] = λ k d l. absurd (omega arith)
bits_of-bits (x ∷ xs) = All-append (λ (b : ℕ). b < 2) (low_bits 8 x) (bits_of xs) (low_bits-bits 8 x) (bits_of-bits xs)

pub bits_of-push : (bytes : List ℕ) (x : ℕ) → bits_of (bytes ++ x ∷ []) ≡ bits_of bytes ++ low_bits 8 x
unfolding bits_of
bits_of-push bytes x = flat_map-append (low_bits 8) bytes (x ∷ []) ∙ ap (λ t. flat_map (low_bits 8) bytes ++ t) (append-nil (low_bits 8 x))

-- the check with one byte more
pub check-byte : (m g : ℕ) (bytes : List ℕ) (x : ℕ) → Generator m g
    → check_of (suc m) g (bits_of (bytes ++ x ∷ [])) ≡ fold (take_in m g) (check_of (suc m) g (bits_of bytes)) (low_bits 8 x)
check-byte m g bytes x gen =
    ap (check_of (suc m) g) (bits_of-push bytes x)
    ∙ check-append m g (bits_of bytes) (low_bits 8 x) gen (bits_of-bits bytes) (low_bits-bits 8 x)

pub generator_16 : Generator 15 0x11021
unfolding zeros
generator_16 = record { leads = refl; turns = refl }

pub generator_8 : Generator 7 0x10D
unfolding zeros
generator_8 = record { leads = refl; turns = refl }

pub shifted_16 : (c x : ℕ) → c < 2 ^ 16 → x < 2 ^ 8 → zeros 16 0x11021 8 (bit_xor c (x * 2 ^ 8)) ≡ after_byte 15 0x11021 c x
unfolding after_byte
shifted_16 c x hc hx = ap (λ y. zeros 16 0x11021 8 (bit_xor c (y * 2 ^ 8))) (sym (mod-eq_of_lt hx)) ∙ fed 15 0x11021 8 8 c x generator_16 refl hc

pub crc16-step : (bytes : List ℕ) (i : ℕ) → i < length bytes → crc16_of (take (i + 1) bytes) ≡ after_byte 15 0x11021 (crc16_of (take i bytes)) (get_or bytes i 0)
unfolding after_byte crc16_of
crc16-step bytes i h = ap (λ t. check_of 16 0x11021 (bits_of t)) (take_more bytes i 0 h) ∙ check-byte 15 0x11021 (take i bytes) (get_or bytes i 0) generator_16

pub crc16-none : crc16_of [] ≡ 0
unfolding crc16_of bits_of
crc16-none = check-nil 15 0x11021

pub shifted_8 : (c x : ℕ) → c < 2 ^ 8 → x < 2 ^ 8 → zeros 8 0x10D 8 (bit_xor c x) ≡ after_byte 7 0x10D c x
unfolding after_byte
shifted_8 c x hc hx =
    let same : x ≡ x % 2 ^ 8 * 2 ^ 0 = (let e : x % 2 ^ 8 ≡ x = mod-eq_of_lt hx in omega arith) in
    ap (λ y. zeros 8 0x10D 8 (bit_xor c y)) same ∙ fed 7 0x10D 8 0 c x generator_8 refl hc

crc8-none : check_of 8 0x10D (bits_of []) ≡ 0
unfolding bits_of
crc8-none = check-nil 7 0x10D

pub crc8-two : (x y : ℕ) → after_byte 7 0x10D (after_byte 7 0x10D 0 x) y ≡ crc8_of (x ∷ y ∷ [])
unfolding after_byte crc8_of
crc8-two x y =
    ap (λ c. fold (take_in 7 0x10D) (fold (take_in 7 0x10D) c (low_bits 8 x)) (low_bits 8 y)) (sym crc8-none)
    ∙ sym (check-byte 7 0x10D (x ∷ []) y generator_8 ∙ ap (λ c. fold (take_in 7 0x10D) c (low_bits 8 y)) (check-byte 7 0x10D [] x generator_8))

pub crc16-two : (x y : ℕ) → after_byte 15 0x11021 (after_byte 15 0x11021 0 x) y ≡ crc16_of (x ∷ y ∷ [])
unfolding after_byte crc16_of
crc16-two x y =
    ap (λ c. fold (take_in 15 0x11021) (fold (take_in 15 0x11021) c (low_bits 8 x)) (low_bits 8 y)) (sym crc16-none)
    ∙ sym (check-byte 15 0x11021 (x ∷ []) y generator_16 ∙ ap (λ c. fold (take_in 15 0x11021) c (low_bits 8 y)) (check-byte 15 0x11021 [] x generator_16))

pub generator_5 : Generator 4 0x23
unfolding zeros
generator_5 = record { leads = refl; turns = refl }

pub shifted_5 : (c x : ℕ) → c < 2 ^ 5 → x < 2 ^ 5 → zeros 5 0x23 5 (bit_xor c x) ≡ after_five c x
unfolding after_five
shifted_5 c x hc hx =
    let same : x ≡ x % 2 ^ 5 * 2 ^ 0 = (let e : x % 2 ^ 5 ≡ x = mod-eq_of_lt hx in omega arith) in
    ap (λ y. zeros 5 0x23 5 (bit_xor c y)) same ∙ fed 4 0x23 5 0 c x generator_5 refl hc

-- ten bits are five, and five more
ten_bits : (d : ℕ) → low_bits 10 d ≡ low_bits 5 (d / 32) ++ low_bits 5 (d % 32)
unfolding low_bits
ten_bits d =
    let a : d / 512 % 2 ≡ d / 32 / 16 % 2 = omega arith in
    let b : d / 256 % 2 ≡ d / 32 / 8 % 2 = omega arith in
    let c : d / 128 % 2 ≡ d / 32 / 4 % 2 = omega arith in
    let e : d / 64 % 2 ≡ d / 32 / 2 % 2 = omega arith in
    let f : d / 32 % 2 ≡ d / 32 / 1 % 2 = omega arith in
    let g : d / 16 % 2 ≡ d % 32 / 16 % 2 = omega arith in
    let h : d / 8 % 2 ≡ d % 32 / 8 % 2 = omega arith in
    let i : d / 4 % 2 ≡ d % 32 / 4 % 2 = omega arith in
    let j : d / 2 % 2 ≡ d % 32 / 2 % 2 = omega arith in
    let k : d / 1 % 2 ≡ d % 32 / 1 % 2 = omega arith in
    cc

pub crc5-two : (d : ℕ) → after_five (after_five 0 (d / 32)) (d % 32) ≡ crc5_of d
unfolding after_five crc5_of
crc5-two d =
    let all = low_bits 5 (d / 32) ++ low_bits 5 (d % 32) in
    let bits : All (λ b. b < 2) all = All-append (λ (b : ℕ). b < 2) (low_bits 5 (d / 32)) (low_bits 5 (d % 32)) (low_bits-bits 5 (d / 32)) (low_bits-bits 5 (d % 32)) in
    sym (fold-append (take_in 4 0x23) 0 (low_bits 5 (d / 32)) (low_bits 5 (d % 32)))
    ∙ ap (λ c. fold (take_in 4 0x23) c all) (sym (check-nil 4 0x23))
    ∙ sym (check-append 4 0x23 [] all generator_5 (λ k d l. absurd (omega arith)) bits)
    ∙ ap (check_of 5 0x23) (sym (ten_bits d))
