-- A register that begins with ones inverts the first bits.
use Rattle.std.proofs.Common.{◌≡◌, ℕ, zero, suc, ◌+◌, ◌*◌, ◌/◌, ◌%◌, ◌^◌, ◌-◌, ◌<◌, ◌≤◌, List, [], ◌∷◌, ◌++◌, length, get_or, take, drop, refl, ap, ◌∙◌, sym, arith, length-append, length-drop}
use Rattle.std.specs.Prelude.{bit_xor, fold, replicate, All}
use Rattle.std.specs.Int.Bits.{xor_zero_r, xor_assoc}
use Rattle.std.proofs.lemmas.Nat.{xor_comm, xor_lt}
use Rattle.std.proofs.Math.Seq.{take-length}
use Rattle.std.proofs.lemmas.List.{length-take-le, get_or-take, get_or-drop, take_more}
use Rattle.crc_small.specs.LongDivision.{bring_down, remainder_from, check_of, low_bits, bits_of, inverted, crc32_of}
use Rattle.crc_small.specs.Steps.Shifted.{take_in, after_byte, after_word}
use Rattle.crc_small.proofs.Linear.{Generator, zeros, bring_down-xor, bring_down-lt, check-append, check-nil, first_bit, other_bits, bit_at_top}
use Rattle.crc_small.proofs.Register.{bits_of-bits, bits_of-push, fed}
use Rattle.std.proofs.lemmas.List.Sums.{fold-append}
use Rattle.std.proofs.Math.Nat.{mod-eq_of_lt}
use Rattle.std.proofs.lemmas.List.Elements.{All-append}

-- what is in the register besides goes its own way
take_in-xor : (m g c d b : ℕ) → c < 2 ^ suc m → d < 2 ^ suc m → b < 2 → take_in m g (bit_xor c d) b ≡ bit_xor (take_in m g c b) (bring_down (suc m) g d 0)
unfolding take_in
take_in-xor m g c d b hc hd hb =
    let top : b * 2 ^ m < 2 ^ suc m = bit_at_top m b hb in
    let turn : bit_xor (bit_xor c d) (b * 2 ^ m) ≡ bit_xor (bit_xor c (b * 2 ^ m)) d =
    xor_assoc c d (b * 2 ^ m) ∙ ap (bit_xor c) (xor_comm d (b * 2 ^ m)) ∙ sym (xor_assoc c (b * 2 ^ m) d) in
    ap (λ x. bring_down (suc m) g x 0) turn
    ∙ bring_down-xor (suc m) g (bit_xor c (b * 2 ^ m)) d 0 0 (xor_lt (suc m) c (b * 2 ^ m) hc top) hd (omega arith) (omega arith)

take_in-lt : (m g c b : ℕ) → Generator m g → c < 2 ^ suc m → b < 2 → take_in m g c b < 2 ^ suc m
unfolding take_in
take_in-lt m g c b gen hc hb = bring_down-lt (suc m) g (bit_xor c (b * 2 ^ m)) 0 gen.leads (xor_lt (suc m) c (b * 2 ^ m) hc (bit_at_top m b hb)) (omega arith)

pub started : (m g c d : ℕ) (bits : List ℕ) → Generator m g → c < 2 ^ suc m → d < 2 ^ suc m → All (λ b. b < 2) bits
    → fold (take_in m g) (bit_xor c d) bits ≡ bit_xor (fold (take_in m g) c bits) (zeros (suc m) g (length bits) d)
unfolding zeros
started m g c d [] gen hc hd h = refl
started m g c d (b ∷ bits) gen hc hd h =
    ap (λ x. fold (take_in m g) x bits) (take_in-xor m g c d b hc hd (first_bit b bits h))
    ∙ started m g (take_in m g c b) (bring_down (suc m) g d 0) bits gen (take_in-lt m g c b gen hc (first_bit b bits h)) (bring_down-lt (suc m) g d 0 gen.leads hd (omega arith)) (other_bits b bits h)

-- a number that is under way when the bits come
passed : (m g r s : ℕ) (bits : List ℕ) → Generator m g → r < 2 ^ suc m → s < 2 ^ suc m → All (λ b. b < 2) bits
    → remainder_from (suc m) g (bit_xor r s) bits ≡ bit_xor (remainder_from (suc m) g r bits) (zeros (suc m) g (length bits) s)
unfolding zeros remainder_from
passed m g r s [] gen hr hs h = refl
passed m g r s (b ∷ bits) gen hr hs h =
    let bit : b < 2 = first_bit b bits h in
    ap (λ x. remainder_from (suc m) g x bits)
    (ap (bring_down (suc m) g (bit_xor r s)) (sym (xor_zero_r b)) ∙ bring_down-xor (suc m) g r s b 0 hr hs bit (omega arith))
    ∙ passed m g (bring_down (suc m) g r b) (bring_down (suc m) g s 0) bits gen (bring_down-lt (suc m) g r b gen.leads hr bit) (bring_down-lt (suc m) g s 0 gen.leads hs (omega arith)) (other_bits b bits h)

turned_bit : (b : ℕ) → b < 2 → 1 - b ≡ bit_xor b 1
turned_bit zero h = refl
turned_bit (suc zero) h = refl
turned_bit (suc (suc b)) h = absurd (omega arith)

pub inverts : (m g k r s : ℕ) (bits : List ℕ) → Generator m g → r < 2 ^ suc m → s < 2 ^ suc m → All (λ b. b < 2) bits → k ≤ length bits
    → remainder_from (suc m) g (bit_xor r s) (inverted k bits) ≡ bit_xor (remainder_from (suc m) g r bits) (zeros (suc m) g (length bits - k) (remainder_from (suc m) g s (replicate k 1)))
unfolding remainder_from inverted
inverts m g zero r s bits gen hr hs h l = passed m g r s bits gen hr hs h ∙ ap (λ n. bit_xor (remainder_from (suc m) g r bits) (zeros (suc m) g n s)) (let e : length bits ≡ length bits - 0 = omega arith in e)
inverts m g (suc k) r s [] gen hr hs h l = absurd (omega arith)
inverts m g (suc k) r s (b ∷ bits) gen hr hs h l =
    let bit : b < 2 = first_bit b bits h in
    ap (λ x. remainder_from (suc m) g x (inverted k bits))
    (ap (bring_down (suc m) g (bit_xor r s)) (turned_bit b bit) ∙ bring_down-xor (suc m) g r s b 1 hr hs bit (omega arith))
    ∙ inverts m g k (bring_down (suc m) g r b) (bring_down (suc m) g s 1) bits gen (bring_down-lt (suc m) g r b gen.leads hr bit) (bring_down-lt (suc m) g s 1 gen.leads hs (omega arith)) (other_bits b bits h) (omega arith)
    ∙ ap (λ n. bit_xor (remainder_from (suc m) g (bring_down (suc m) g r b) bits) (zeros (suc m) g n (remainder_from (suc m) g (bring_down (suc m) g s 1) (replicate k 1)))) (let e : length bits - k ≡ suc (length bits) - suc k = omega arith in e)

pub generator_32 : Generator 31 0x104C11DB7
unfolding zeros
generator_32 = record { leads = refl; turns = refl }

ones_stay : remainder_from 32 0x104C11DB7 0 (replicate 32 1) ≡ 0xFFFFFFFF
unfolding remainder_from
ones_stay = refl

zero_front : (xs : List ℕ) → All (λ b. b < 2) xs → (k d : ℕ) → k < suc (length xs) → get_or (0 ∷ xs) k d < 2
zero_front xs h zero d l = omega arith
zero_front xs h (suc k) d l = h k d (omega arith)

zero_bits : (n : ℕ) → All (λ b. b < 2) (replicate n 0)
zero_bits zero = λ k d l. absurd (omega arith)
zero_bits (suc n) = zero_front (replicate n 0) (zero_bits n)

-- the register that begins with ones holds the remainder of the list with its first 32 bits inverted
pub inverted_register : (bytes : List ℕ) → remainder_from 32 0x104C11DB7 0 (inverted 32 (bits_of bytes ++ replicate 32 0)) ≡ fold (take_in 31 0x104C11DB7) 0xFFFFFFFF (bits_of bytes)
unfolding check_of
inverted_register bytes =
    let bits = bits_of bytes in
    let all = bits ++ replicate 32 0 in
    let zeros_are : All (λ b. b < 2) (replicate 32 0) = zero_bits 32 in
    let bits_are : All (λ b. b < 2) all = All-append (λ (b : ℕ). b < 2) bits (replicate 32 0) (bits_of-bits bytes) zeros_are in
    let long : length all ≡ length bits + 32 = length-append bits (replicate 32 0) in
    let less : length all - 32 ≡ length bits = omega arith in
    let one_way = inverts 31 0x104C11DB7 32 0 0 all generator_32 (omega arith) (omega arith) bits_are (omega arith) in
    let other_way = started 31 0x104C11DB7 0 0xFFFFFFFF bits generator_32 (omega arith) (omega arith) (bits_of-bits bytes) in
    let plain : check_of 32 0x104C11DB7 bits ≡ fold (take_in 31 0x104C11DB7) 0 bits =
    check-append 31 0x104C11DB7 [] bits generator_32 (λ k d l. absurd (omega arith)) (bits_of-bits bytes) ∙ ap (λ c. fold (take_in 31 0x104C11DB7) c bits) (check-nil 31 0x104C11DB7) in
    one_way
    ∙ ap (λ x. bit_xor x (zeros 32 0x104C11DB7 (length all - 32) (remainder_from 32 0x104C11DB7 0 (replicate 32 1)))) plain
    ∙ ap (λ n. bit_xor (fold (take_in 31 0x104C11DB7) 0 bits) (zeros 32 0x104C11DB7 n (remainder_from 32 0x104C11DB7 0 (replicate 32 1)))) less
    ∙ ap (λ s. bit_xor (fold (take_in 31 0x104C11DB7) 0 bits) (zeros 32 0x104C11DB7 (length bits) s)) ones_stay
    ∙ sym other_way

-- the register after some bytes
unfoldable pub register_32 : List ℕ → ℕ
register_32 bytes = fold (take_in 31 0x104C11DB7) 0xFFFFFFFF (bits_of bytes)

pub register-none : 0xFFFFFFFF ≡ register_32 []
unfolding register_32 bits_of
register-none = refl

pub register-more : (bytes : List ℕ) (i : ℕ) → i < length bytes → register_32 (take (i + 1) bytes) ≡ after_byte 31 0x104C11DB7 (register_32 (take i bytes)) (get_or bytes i 0)
unfolding register_32 after_byte
register-more bytes i h =
    ap (λ t. fold (take_in 31 0x104C11DB7) 0xFFFFFFFF (bits_of t)) (take_more bytes i 0 h)
    ∙ ap (fold (take_in 31 0x104C11DB7) 0xFFFFFFFF) (bits_of-push (take i bytes) (get_or bytes i 0))
    ∙ fold-append (take_in 31 0x104C11DB7) 0xFFFFFFFF (bits_of (take i bytes)) (low_bits 8 (get_or bytes i 0))

pub crc32_is : (bytes : List ℕ) → bit_xor (register_32 bytes) 0xFFFFFFFF ≡ crc32_of bytes
unfolding register_32 crc32_of
crc32_is bytes = ap (λ r. bit_xor r 0xFFFFFFFF) (sym (inverted_register bytes))

pub shifted_32 : (c x : ℕ) → c < 2 ^ 32 → x < 2 ^ 8 → zeros 32 0x104C11DB7 8 (bit_xor c (x * 2 ^ 24)) ≡ after_byte 31 0x104C11DB7 c x
unfolding after_byte
shifted_32 c x hc hx = ap (λ y. zeros 32 0x104C11DB7 8 (bit_xor c (y * 2 ^ 24))) (sym (mod-eq_of_lt hx)) ∙ fed 31 0x104C11DB7 8 24 c x generator_32 refl hc

-- the register after four bytes more
pub register-four : (bytes : List ℕ) (i : ℕ) → i + 4 ≤ length bytes → let after = after_byte 31 0x104C11DB7 in
    register_32 (take (i + 4) bytes) ≡ after (after (after (after (register_32 (take i bytes)) (get_or bytes i 0)) (get_or bytes (i + 1) 0)) (get_or bytes (i + 2) 0)) (get_or bytes (i + 3) 0)
register-four bytes i h =
    let after = after_byte 31 0x104C11DB7 in
    let b = λ (k : ℕ). get_or bytes k 0 in
    let e2 : i + 1 + 1 ≡ i + 2 = omega arith in
    let e3 : i + 2 + 1 ≡ i + 3 = omega arith in
    let e4 : i + 3 + 1 ≡ i + 4 = omega arith in
    let one = register-more bytes i (omega arith) in
    let two = ap (λ k. register_32 (take k bytes)) (sym e2) ∙ register-more bytes (i + 1) (omega arith) ∙ ap (λ r. after r (b (i + 1))) one in
    let three = ap (λ k. register_32 (take k bytes)) (sym e3) ∙ register-more bytes (i + 2) (omega arith) ∙ ap (λ r. after r (b (i + 2))) two in
    ap (λ k. register_32 (take k bytes)) (sym e4) ∙ register-more bytes (i + 3) (omega arith) ∙ ap (λ r. after r (b (i + 3))) three

-- the same, where the four bytes are those of a word
pub register-word : (bytes : List ℕ) (i v : ℕ) → i + 4 ≤ length bytes → v / 2 ^ 24 ≡ get_or bytes i 0 → v / 2 ^ 16 % 2 ^ 8 ≡ get_or bytes (i + 1) 0
    → v / 2 ^ 8 % 2 ^ 8 ≡ get_or bytes (i + 2) 0 → v % 2 ^ 8 ≡ get_or bytes (i + 3) 0
    → register_32 (take (i + 4) bytes) ≡ after_word 31 0x104C11DB7 (register_32 (take i bytes)) v
unfolding after_word
register-word bytes i v h e0 e1 e2 e3 =
    let after = after_byte 31 0x104C11DB7 in
    let r = register_32 (take i bytes) in
    register-four bytes i h
    ∙ ap (λ x. after (after (after (after r x) (get_or bytes (i + 1) 0)) (get_or bytes (i + 2) 0)) (get_or bytes (i + 3) 0)) (sym e0)
    ∙ ap (λ x. after (after (after (after r (v / 2 ^ 24)) x) (get_or bytes (i + 2) 0)) (get_or bytes (i + 3) 0)) (sym e1)
    ∙ ap (λ x. after (after (after (after r (v / 2 ^ 24)) (v / 2 ^ 16 % 2 ^ 8)) x) (get_or bytes (i + 3) 0)) (sym e2)
    ∙ ap (λ x. after (after (after (after r (v / 2 ^ 24)) (v / 2 ^ 16 % 2 ^ 8)) (v / 2 ^ 8 % 2 ^ 8)) x) (sym e3)

-- the number whose bytes stand at this place
pub record IsWordAt (bytes : List ℕ) (i v : ℕ) : Type 0 where
  pub first : v / 2 ^ 24 ≡ get_or bytes i 0
  pub second : v / 2 ^ 16 % 2 ^ 8 ≡ get_or bytes (i + 1) 0
  pub third : v / 2 ^ 8 % 2 ^ 8 ≡ get_or bytes (i + 2) 0
  pub fourth : v % 2 ^ 8 ≡ get_or bytes (i + 3) 0

pub word_more : (bytes : List ℕ) (i j v r : ℕ) → i + 4 ≤ length bytes → i + 4 ≡ j → IsWordAt bytes i v → r ≡ register_32 (take i bytes)
    → after_word 31 0x104C11DB7 r v ≡ register_32 (take j bytes)
word_more bytes i j v r h e is was =
    ap (λ x. after_word 31 0x104C11DB7 x v) was
    ∙ sym (register-word bytes i v h is.first is.second is.third is.fourth)
    ∙ ap (λ k. register_32 (take k bytes)) e

pub four_words_more : (bytes : List ℕ) (i v0 v1 v2 v3 r : ℕ) → i + 16 ≤ length bytes
    → IsWordAt bytes i v0 → IsWordAt bytes (i + 4) v1 → IsWordAt bytes (i + 8) v2 → IsWordAt bytes (i + 12) v3 → r ≡ register_32 (take i bytes)
    → let after = after_word 31 0x104C11DB7 in after (after (after (after r v0) v1) v2) v3 ≡ register_32 (take (i + 16) bytes)
four_words_more bytes i v0 v1 v2 v3 r h w0 w1 w2 w3 was =
    let after = after_word 31 0x104C11DB7 in
    let one = word_more bytes i (i + 4) v0 r (omega arith) (omega arith) w0 was in
    let two = word_more bytes (i + 4) (i + 8) v1 (after r v0) (omega arith) (omega arith) w1 one in
    let three = word_more bytes (i + 8) (i + 12) v2 (after (after r v0) v1) (omega arith) (omega arith) w2 two in
    word_more bytes (i + 12) (i + 16) v3 (after (after (after r v0) v1) v2) (omega arith) (omega arith) w3 three

rest_length : (bytes : List ℕ) (at : ℕ) → length (take (length bytes - at) (drop at bytes)) ≡ length bytes - at
rest_length bytes at = let e : length (drop at bytes) ≡ length bytes - at = length-drop at bytes in length-take-le (length bytes - at) (drop at bytes) (omega arith)

-- the register after one byte more of the rest of the bytes
pub register-rest : (bytes : List ℕ) (at i r : ℕ) → let rest = take (length bytes - at) (drop at bytes) in
    i < length rest → r ≡ register_32 (take (at + i) bytes) → after_byte 31 0x104C11DB7 r (get_or rest i 0) ≡ register_32 (take (at + (i + 1)) bytes)
register-rest bytes at i r h e =
    let few = rest_length bytes at in
    let short : i < length bytes - at = omega arith in
    let here : get_or (take (length bytes - at) (drop at bytes)) i 0 ≡ get_or bytes (at + i) 0 =
    get_or-take (length bytes - at) (drop at bytes) i 0 short ∙ get_or-drop at bytes i 0 in
    let sum : at + i + 1 ≡ at + (i + 1) = omega arith in
    ap (λ c. after_byte 31 0x104C11DB7 c (get_or (take (length bytes - at) (drop at bytes)) i 0)) e
    ∙ ap (after_byte 31 0x104C11DB7 (register_32 (take (at + i) bytes))) here
    ∙ sym (register-more bytes (at + i) (omega arith))
    ∙ ap (λ k. register_32 (take k bytes)) sum

pub register-all : (bytes : List ℕ) (at i r : ℕ) → at ≤ length bytes → length (take (length bytes - at) (drop at bytes)) ≤ i → i ≤ length (take (length bytes - at) (drop at bytes))
    → r ≡ register_32 (take (at + i) bytes) → bit_xor r 0xFFFFFFFF ≡ crc32_of bytes
register-all bytes at i r h low high e =
    let few = rest_length bytes at in
    let end : at + i ≡ length bytes = omega arith in
    ap (λ x. bit_xor x 0xFFFFFFFF) (e ∙ ap (λ k. register_32 (take k bytes)) end ∙ ap register_32 (take-length bytes)) ∙ crc32_is bytes
