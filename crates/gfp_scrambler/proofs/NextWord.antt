-- A word, and the word after it, from the last bits that were sent before both.
use Rattle.std.proofs.Common.{◌≡◌, ℕ, ◌+◌, ◌*◌, ◌/◌, ◌%◌, ◌^◌, ◌<◌, ap, ◌∙◌, sym, subst, arith}
use Rattle.std.specs.Prelude.{bit_xor}
use Rattle.std.specs.Int.{to_be_bytes, w64}
use Rattle.std.specs.Int.Bits.{xor_assoc, xor_zero_l, xor_zero_r}
use Rattle.std.proofs.lemmas.Nat.{xor_lt, xor_block, xor_comm, xor_shr, xor_mod}
use Rattle.std.proofs.Math.Nat.{mod-eq_of_lt}
use Rattle.gfp_scrambler.specs.Register.{last_bits, scrambled}
use Rattle.gfp_scrambler.proofs.EightBytes.{WordSent, beside, scrambled_word}

-- ---- sums modulo 2

swapped : (a b c d : ℕ) → bit_xor (bit_xor a b) (bit_xor c d) ≡ bit_xor (bit_xor a c) (bit_xor b d)
swapped a b c d =
    xor_assoc a b (bit_xor c d)
    ∙ ap (bit_xor a) (sym (xor_assoc b c d) ∙ ap (λ y. bit_xor y d) (xor_comm b c) ∙ xor_assoc c b d)
    ∙ sym (xor_assoc a c (bit_xor b d))

up : (a b : ℕ) → bit_xor (a * 2 ^ 21) (b * 2 ^ 21) ≡ bit_xor a b * 2 ^ 21
up a b =
    let plus : (x : ℕ) → x * 2 ^ 21 ≡ x * 2 ^ 21 + 0 = λ x. omega arith in
    ap (λ x. bit_xor x (b * 2 ^ 21)) (plus a) ∙ ap (bit_xor (a * 2 ^ 21 + 0)) (plus b)
    ∙ xor_block 21 a b 0 0 (omega arith) (omega arith)
    ∙ ap (λ x. bit_xor a b * 2 ^ 21 + x) (xor_zero_l 0)
    ∙ sym (plus (bit_xor a b))

-- ---- a word

-- what is sent for a word, where the last of what was sent before ends this number
one_word : (last word : ℕ) → ℕ
one_word last word = let t = bit_xor word (last * 2 ^ 21 % 2 ^ 64) in bit_xor t (t / 2 ^ 43)

pub scrambled_after : (last word : ℕ) → word < 2 ^ 64
    → let t = bit_xor word (last * 2 ^ 21 % 2 ^ 64) in WordSent (last % 2 ^ 43) word (bit_xor t (t / 2 ^ 43))
scrambled_after last word h =
    let key : last % 2 ^ 43 * 2 ^ 21 % 2 ^ 64 ≡ last * 2 ^ 21 % 2 ^ 64 = omega arith in
    let P : ℕ → Type 0 = λ k. let t = bit_xor word k in WordSent (last % 2 ^ 43) word (bit_xor t (t / 2 ^ 43)) in
    subst P key (scrambled_word (last % 2 ^ 43) word (omega arith) h)

-- ---- the key of the word after, where `keyed` is the word before with its own key

key_after : (keyed : ℕ) → keyed < 2 ^ 64 → bit_xor keyed (keyed / 2 ^ 43) * 2 ^ 21 % 2 ^ 64 ≡ bit_xor (keyed * 2 ^ 21 % 2 ^ 64) (keyed / 2 ^ 43 * 2 ^ 21)
key_after keyed h =
    let few : keyed / 2 ^ 43 * 2 ^ 21 < 2 ^ 64 = omega arith in
    ap (λ y. y % 2 ^ 64) (sym (up keyed (keyed / 2 ^ 43)))
    ∙ xor_mod (keyed * 2 ^ 21) (keyed / 2 ^ 43 * 2 ^ 21) 64
    ∙ ap (bit_xor (keyed * 2 ^ 21 % 2 ^ 64)) (mod-eq_of_lt few)

-- its first 21 bits
key_top : (keyed : ℕ) → keyed < 2 ^ 64 → bit_xor (keyed * 2 ^ 21 % 2 ^ 64) (keyed / 2 ^ 43 * 2 ^ 21) / 2 ^ 43 ≡ keyed * 2 ^ 21 % 2 ^ 64 / 2 ^ 43
key_top keyed h =
    let none : keyed / 2 ^ 43 * 2 ^ 21 / 2 ^ 43 ≡ 0 = omega arith in
    xor_shr (keyed * 2 ^ 21 % 2 ^ 64) (keyed / 2 ^ 43 * 2 ^ 21) 43
    ∙ ap (bit_xor (keyed * 2 ^ 21 % 2 ^ 64 / 2 ^ 43)) none ∙ xor_zero_r (keyed * 2 ^ 21 % 2 ^ 64 / 2 ^ 43)

both : (keyed : ℕ) → bit_xor (keyed / 2 ^ 43 * 2 ^ 21) (keyed * 2 ^ 21 % 2 ^ 64 / 2 ^ 43) ≡ keyed / 2 ^ 22
both keyed =
    let few : keyed * 2 ^ 21 % 2 ^ 64 / 2 ^ 43 < 2 ^ 21 = omega arith in
    let sum : keyed / 2 ^ 43 * 2 ^ 21 + keyed * 2 ^ 21 % 2 ^ 64 / 2 ^ 43 ≡ keyed / 2 ^ 22 = omega arith in
    beside (keyed / 2 ^ 43) (keyed * 2 ^ 21 % 2 ^ 64 / 2 ^ 43) few ∙ sum

-- ---- the word after

next_same : (last word next : ℕ) → word < 2 ^ 64
    → one_word (one_word last word) next
    ≡ (let keyed = bit_xor word (last * 2 ^ 21 % 2 ^ 64) in bit_xor (bit_xor next (next / 2 ^ 43)) (bit_xor (keyed * 2 ^ 21 % 2 ^ 64) (keyed / 2 ^ 22)))
unfolding one_word
next_same last word next h =
    let keyed = bit_xor word (last * 2 ^ 21 % 2 ^ 64) in
    let small : keyed < 2 ^ 64 = xor_lt 64 word (last * 2 ^ 21 % 2 ^ 64) h (omega arith) in
    let a = keyed * 2 ^ 21 % 2 ^ 64 in
    let b = keyed / 2 ^ 43 * 2 ^ 21 in
    ap (λ k. bit_xor (bit_xor next k) (bit_xor next k / 2 ^ 43)) (key_after keyed small)
    ∙ ap (bit_xor (bit_xor next (bit_xor a b))) (xor_shr next (bit_xor a b) 43 ∙ ap (bit_xor (next / 2 ^ 43)) (key_top keyed small))
    ∙ swapped next (bit_xor a b) (next / 2 ^ 43) (a / 2 ^ 43)
    ∙ ap (bit_xor (bit_xor next (next / 2 ^ 43))) (xor_assoc a b (a / 2 ^ 43) ∙ ap (bit_xor a) (both keyed))

pub scrambled_next : (last word next : ℕ) → word < 2 ^ 64 → next < 2 ^ 64
    → let keyed = bit_xor word (last * 2 ^ 21 % 2 ^ 64) in
    WordSent (last_bits (last % 2 ^ 43) (scrambled (last % 2 ^ 43) (to_be_bytes w64 word))) next
    (bit_xor (bit_xor next (next / 2 ^ 43)) (bit_xor (keyed * 2 ^ 21 % 2 ^ 64) (keyed / 2 ^ 22)))
unfolding one_word
scrambled_next last word next hw hn =
    let r = last % 2 ^ 43 in
    let sent = one_word last word in
    let first : WordSent r word sent = scrambled_after last word hw in
    let register : sent % 2 ^ 43 ≡ last_bits r (scrambled r (to_be_bytes w64 word)) = first.last ∙ ap (last_bits r) first.bytes in
    let second : WordSent (sent % 2 ^ 43) next (one_word sent next) = scrambled_after sent next hn in
    let P : ℕ → Type 0 = λ x. WordSent x next (one_word sent next) in
    let Q : ℕ → Type 0 = λ y. WordSent (last_bits r (scrambled r (to_be_bytes w64 word))) next y in
    subst Q (next_same last word next hw) (subst P register second)
