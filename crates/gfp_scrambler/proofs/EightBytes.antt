-- Eight bytes at once, as the word whose first byte is the most significant one.
use Rattle.std.proofs.Common.{◌≡◌, ℕ, zero, suc, ◌+◌, ◌*◌, ◌/◌, ◌%◌, ◌^◌, ◌<◌, List, [], ◌∷◌, get_or, refl, ap, ◌∙◌, sym, subst, arith}
use Rattle.std.specs.Prelude.{bit_xor}
use Rattle.std.specs.Int.{to_be_bytes, from_be_bytes, w64}
use Rattle.std.specs.Int.Bits.{xor_assoc, xor_zero_l, xor_zero_r}
use Rattle.std.proofs.lemmas.Nat.{xor_lt, xor_block, be_bytes_8, from_be_bytes-to_be_bytes_8}
use Rattle.std.proofs.Math.Nat.{mod-eq_of_lt}
use Rattle.gfp_scrambler.specs.Register.{shifted, last_bits, scrambled, descrambled}
use Rattle.gfp_scrambler.proofs.Steps.{scrambled-cons, descrambled-cons, scrambled-none, descrambled-none}

-- the word of eight bytes
abbrev num : (a0 a1 a2 a3 a4 a5 a6 a7 : ℕ) → ℕ
num a0 a1 a2 a3 a4 a5 a6 a7 = ((((((a0 * 2 ^ 8 + a1) * 2 ^ 8 + a2) * 2 ^ 8 + a3) * 2 ^ 8 + a4) * 2 ^ 8 + a5) * 2 ^ 8 + a6) * 2 ^ 8 + a7

-- words are added up byte by byte
num-xor : (a0 a1 a2 a3 a4 a5 a6 a7 b0 b1 b2 b3 b4 b5 b6 b7 : ℕ) → a1 < 256 → a2 < 256 → a3 < 256 → a4 < 256 → a5 < 256 → a6 < 256 → a7 < 256 → b1 < 256 → b2 < 256 → b3 < 256 → b4 < 256 → b5 < 256 → b6 < 256 → b7 < 256
    → bit_xor (num a0 a1 a2 a3 a4 a5 a6 a7) (num b0 b1 b2 b3 b4 b5 b6 b7) ≡ num (bit_xor a0 b0) (bit_xor a1 b1) (bit_xor a2 b2) (bit_xor a3 b3) (bit_xor a4 b4) (bit_xor a5 b5) (bit_xor a6 b6) (bit_xor a7 b7)
num-xor a0 a1 a2 a3 a4 a5 a6 a7 b0 b1 b2 b3 b4 b5 b6 b7 ha1 ha2 ha3 ha4 ha5 ha6 ha7 hb1 hb2 hb3 hb4 hb5 hb6 hb7 =
    let e1 = xor_block 8 a0 b0 a1 b1 ha1 hb1 in
    let e2 = xor_block 8 (a0 * 2 ^ 8 + a1) (b0 * 2 ^ 8 + b1) a2 b2 ha2 hb2 ∙ ap (λ y. y * 2 ^ 8 + bit_xor a2 b2) e1 in
    let e3 = xor_block 8 ((a0 * 2 ^ 8 + a1) * 2 ^ 8 + a2) ((b0 * 2 ^ 8 + b1) * 2 ^ 8 + b2) a3 b3 ha3 hb3 ∙ ap (λ y. y * 2 ^ 8 + bit_xor a3 b3) e2 in
    let e4 = xor_block 8 (((a0 * 2 ^ 8 + a1) * 2 ^ 8 + a2) * 2 ^ 8 + a3) (((b0 * 2 ^ 8 + b1) * 2 ^ 8 + b2) * 2 ^ 8 + b3) a4 b4 ha4 hb4 ∙ ap (λ y. y * 2 ^ 8 + bit_xor a4 b4) e3 in
    let e5 = xor_block 8 ((((a0 * 2 ^ 8 + a1) * 2 ^ 8 + a2) * 2 ^ 8 + a3) * 2 ^ 8 + a4) ((((b0 * 2 ^ 8 + b1) * 2 ^ 8 + b2) * 2 ^ 8 + b3) * 2 ^ 8 + b4) a5 b5 ha5 hb5 ∙ ap (λ y. y * 2 ^ 8 + bit_xor a5 b5) e4 in
    let e6 = xor_block 8 (((((a0 * 2 ^ 8 + a1) * 2 ^ 8 + a2) * 2 ^ 8 + a3) * 2 ^ 8 + a4) * 2 ^ 8 + a5) (((((b0 * 2 ^ 8 + b1) * 2 ^ 8 + b2) * 2 ^ 8 + b3) * 2 ^ 8 + b4) * 2 ^ 8 + b5) a6 b6 ha6 hb6 ∙ ap (λ y. y * 2 ^ 8 + bit_xor a6 b6) e5 in
    let e7 = xor_block 8 ((((((a0 * 2 ^ 8 + a1) * 2 ^ 8 + a2) * 2 ^ 8 + a3) * 2 ^ 8 + a4) * 2 ^ 8 + a5) * 2 ^ 8 + a6) ((((((b0 * 2 ^ 8 + b1) * 2 ^ 8 + b2) * 2 ^ 8 + b3) * 2 ^ 8 + b4) * 2 ^ 8 + b5) * 2 ^ 8 + b6) a7 b7 ha7 hb7 ∙ ap (λ y. y * 2 ^ 8 + bit_xor a7 b7) e6 in
    e7

-- the eight keys of a register are one word, where the bytes that come in begin with v0, v1, v2
keys : (r v0 v1 v2 : ℕ) → r < 2 ^ 43 → v0 < 256 → v1 < 256 → v2 < 256
    → r * 2 ^ 21 + (v0 * 2 ^ 13 + v1 * 2 ^ 5 + v2 / 8)
    ≡ num (r / 2 ^ 35) (r / 2 ^ 27 % 2 ^ 8) (r / 2 ^ 19 % 2 ^ 8) (r / 2 ^ 11 % 2 ^ 8) (r / 2 ^ 3 % 2 ^ 8) (r % 8 * 32 + v0 / 8) (v0 % 8 * 32 + v1 / 8) (v1 % 8 * 32 + v2 / 8)
keys r v0 v1 v2 hr h0 h1 h2 = omega arith

top_bits : (v0 v1 v2 v3 v4 v5 v6 v7 : ℕ) → v3 < 256 → v4 < 256 → v5 < 256 → v6 < 256 → v7 < 256 → num v0 v1 v2 v3 v4 v5 v6 v7 / 2 ^ 43 ≡ v0 * 2 ^ 13 + v1 * 2 ^ 5 + v2 / 8
top_bits v0 v1 v2 v3 v4 v5 v6 v7 hv3 hv4 hv5 hv6 hv7 = omega arith

low_bits_of : (v0 v1 v2 v3 v4 v5 v6 v7 : ℕ) → v3 < 256 → v4 < 256 → v5 < 256 → v6 < 256 → v7 < 256 → num v0 v1 v2 v3 v4 v5 v6 v7 % 2 ^ 43 ≡ v2 % 8 * 2 ^ 40 + v3 * 2 ^ 32 + v4 * 2 ^ 24 + v5 * 2 ^ 16 + v6 * 2 ^ 8 + v7
low_bits_of v0 v1 v2 v3 v4 v5 v6 v7 hv3 hv4 hv5 hv6 hv7 = omega arith

pub beside : (r t : ℕ) → t < 2 ^ 21 → bit_xor (r * 2 ^ 21) t ≡ r * 2 ^ 21 + t
beside r t h =
    let plus : r * 2 ^ 21 ≡ r * 2 ^ 21 + 0 = omega arith in
    let none : t ≡ 0 * 2 ^ 21 + t = omega arith in
    ap (λ x. bit_xor x t) plus ∙ ap (bit_xor (r * 2 ^ 21 + 0)) none ∙ xor_block 21 r 0 0 t (omega arith) h
    ∙ ap (λ x. x * 2 ^ 21 + bit_xor 0 t) (xor_zero_r r) ∙ ap (λ x. r * 2 ^ 21 + x) (xor_zero_l t)

-- the register as the bytes come in, and its key before each of them
pub record Passes (r v0 v1 v2 v3 v4 v5 v6 v7 : ℕ) : Type 0 where
  pub key_1 : (shifted r v0) / 2 ^ 35 ≡ (r / 2 ^ 27 % 2 ^ 8)
  pub key_2 : (shifted (shifted r v0) v1) / 2 ^ 35 ≡ (r / 2 ^ 19 % 2 ^ 8)
  pub key_3 : (shifted (shifted (shifted r v0) v1) v2) / 2 ^ 35 ≡ (r / 2 ^ 11 % 2 ^ 8)
  pub key_4 : (shifted (shifted (shifted (shifted r v0) v1) v2) v3) / 2 ^ 35 ≡ (r / 2 ^ 3 % 2 ^ 8)
  pub key_5 : (shifted (shifted (shifted (shifted (shifted r v0) v1) v2) v3) v4) / 2 ^ 35 ≡ (r % 8 * 32 + v0 / 8)
  pub key_6 : (shifted (shifted (shifted (shifted (shifted (shifted r v0) v1) v2) v3) v4) v5) / 2 ^ 35 ≡ (v0 % 8 * 32 + v1 / 8)
  pub key_7 : (shifted (shifted (shifted (shifted (shifted (shifted (shifted r v0) v1) v2) v3) v4) v5) v6) / 2 ^ 35 ≡ (v1 % 8 * 32 + v2 / 8)
  pub last : (shifted (shifted (shifted (shifted (shifted (shifted (shifted (shifted r v0) v1) v2) v3) v4) v5) v6) v7) ≡ num v0 v1 v2 v3 v4 v5 v6 v7 % 2 ^ 43

passes : (r v0 v1 v2 v3 v4 v5 v6 v7 : ℕ) → r < 2 ^ 43 → v0 < 256 → v1 < 256 → v2 < 256 → v3 < 256 → v4 < 256 → v5 < 256 → v6 < 256 → v7 < 256 → Passes r v0 v1 v2 v3 v4 v5 v6 v7
passes r v0 v1 v2 v3 v4 v5 v6 v7 hr hv0 hv1 hv2 hv3 hv4 hv5 hv6 hv7 =
    let r1 = shifted r v0 in
    let r2 = shifted r1 v1 in
    let r3 = shifted r2 v2 in
    let r4 = shifted r3 v3 in
    let r5 = shifted r4 v4 in
    let r6 = shifted r5 v5 in
    let r7 = shifted r6 v6 in
    let r8 = shifted r7 v7 in
    let f1 : r1 ≡ r % 2 ^ 35 * 2 ^ 8 + v0 = omega arith in
    let f2 : r2 ≡ r % 2 ^ 27 * 2 ^ 16 + v0 * 2 ^ 8 + v1 = omega arith in
    let f3 : r3 ≡ r % 2 ^ 19 * 2 ^ 24 + v0 * 2 ^ 16 + v1 * 2 ^ 8 + v2 = omega arith in
    let f4 : r4 ≡ r % 2 ^ 11 * 2 ^ 32 + v0 * 2 ^ 24 + v1 * 2 ^ 16 + v2 * 2 ^ 8 + v3 = omega arith in
    let f5 : r5 ≡ r % 2 ^ 3 * 2 ^ 40 + v0 * 2 ^ 32 + v1 * 2 ^ 24 + v2 * 2 ^ 16 + v3 * 2 ^ 8 + v4 = omega arith in
    let f6 : r6 ≡ v0 % 8 * 2 ^ 40 + v1 * 2 ^ 32 + v2 * 2 ^ 24 + v3 * 2 ^ 16 + v4 * 2 ^ 8 + v5 = omega arith in
    let f7 : r7 ≡ v1 % 8 * 2 ^ 40 + v2 * 2 ^ 32 + v3 * 2 ^ 24 + v4 * 2 ^ 16 + v5 * 2 ^ 8 + v6 = omega arith in
    let f8 : r8 ≡ v2 % 8 * 2 ^ 40 + v3 * 2 ^ 32 + v4 * 2 ^ 24 + v5 * 2 ^ 16 + v6 * 2 ^ 8 + v7 = omega arith in
    record {
      key_1 = omega arith;
      key_2 = omega arith;
      key_3 = omega arith;
      key_4 = omega arith;
      key_5 = omega arith;
      key_6 = omega arith;
      key_7 = omega arith;
      last = f8 ∙ sym (low_bits_of v0 v1 v2 v3 v4 v5 v6 v7 hv3 hv4 hv5 hv6 hv7);
    }

num_same : (a0 a1 a2 a3 a4 a5 a6 a7 b0 b1 b2 b3 b4 b5 b6 b7 : ℕ) → a0 ≡ b0 → a1 ≡ b1 → a2 ≡ b2 → a3 ≡ b3 → a4 ≡ b4 → a5 ≡ b5 → a6 ≡ b6 → a7 ≡ b7 → num a0 a1 a2 a3 a4 a5 a6 a7 ≡ num b0 b1 b2 b3 b4 b5 b6 b7
num_same a0 a1 a2 a3 a4 a5 a6 a7 b0 b1 b2 b3 b4 b5 b6 b7 e0 e1 e2 e3 e4 e5 e6 e7 =
    ap (λ y. num y a1 a2 a3 a4 a5 a6 a7) e0
    ∙ ap (λ y. num b0 y a2 a3 a4 a5 a6 a7) e1
    ∙ ap (λ y. num b0 b1 y a3 a4 a5 a6 a7) e2
    ∙ ap (λ y. num b0 b1 b2 y a4 a5 a6 a7) e3
    ∙ ap (λ y. num b0 b1 b2 b3 y a5 a6 a7) e4
    ∙ ap (λ y. num b0 b1 b2 b3 b4 y a6 a7) e5
    ∙ ap (λ y. num b0 b1 b2 b3 b4 b5 y a7) e6
    ∙ ap (λ y. num b0 b1 b2 b3 b4 b5 b6 y) e7

-- ---- the sender's side

-- the bytes that are sent for these plain ones
record IsSent (r b0 b1 b2 b3 b4 b5 b6 b7 s0 s1 s2 s3 s4 s5 s6 s7 : ℕ) : Type 0 where
  is_0 : s0 ≡ bit_xor b0 (r / 2 ^ 35)
  is_1 : s1 ≡ bit_xor b1 (r / 2 ^ 27 % 2 ^ 8)
  is_2 : s2 ≡ bit_xor b2 (r / 2 ^ 19 % 2 ^ 8)
  is_3 : s3 ≡ bit_xor b3 (r / 2 ^ 11 % 2 ^ 8)
  is_4 : s4 ≡ bit_xor b4 (r / 2 ^ 3 % 2 ^ 8)
  is_5 : s5 ≡ bit_xor b5 (r % 8 * 32 + s0 / 8)
  is_6 : s6 ≡ bit_xor b6 (s0 % 8 * 32 + s1 / 8)
  is_7 : s7 ≡ bit_xor b7 (s1 % 8 * 32 + s2 / 8)
  small_0 : s0 < 256
  small_1 : s1 < 256
  small_2 : s2 < 256
  small_3 : s3 < 256
  small_4 : s4 < 256
  small_5 : s5 < 256
  small_6 : s6 < 256
  small_7 : s7 < 256

sent_next : (r b key s : ℕ) (rest out : List ℕ) → r / 2 ^ 35 ≡ key → s ≡ bit_xor b key → scrambled (shifted r s) rest ≡ out → scrambled r (b ∷ rest) ≡ s ∷ out
sent_next r b key s rest out e f g =
    let is : bit_xor b (r / 2 ^ 35) ≡ s = ap (bit_xor b) e ∙ sym f in
    scrambled-cons r b rest ∙ ap (λ x. x ∷ scrambled (shifted r x) rest) is ∙ ap (λ y. s ∷ y) g

bytes_sent : (r b0 b1 b2 b3 b4 b5 b6 b7 s0 s1 s2 s3 s4 s5 s6 s7 : ℕ) → r < 2 ^ 43 → IsSent r b0 b1 b2 b3 b4 b5 b6 b7 s0 s1 s2 s3 s4 s5 s6 s7 → scrambled r (b0 ∷ b1 ∷ b2 ∷ b3 ∷ b4 ∷ b5 ∷ b6 ∷ b7 ∷ []) ≡ (s0 ∷ s1 ∷ s2 ∷ s3 ∷ s4 ∷ s5 ∷ s6 ∷ s7 ∷ [])
bytes_sent r b0 b1 b2 b3 b4 b5 b6 b7 s0 s1 s2 s3 s4 s5 s6 s7 hr is =
    let p = passes r s0 s1 s2 s3 s4 s5 s6 s7 hr is.small_0 is.small_1 is.small_2 is.small_3 is.small_4 is.small_5 is.small_6 is.small_7 in
    let r0 = r in
    let r1 = shifted r0 s0 in
    let r2 = shifted r1 s1 in
    let r3 = shifted r2 s2 in
    let r4 = shifted r3 s3 in
    let r5 = shifted r4 s4 in
    let r6 = shifted r5 s5 in
    let r7 = shifted r6 s6 in
    let r8 = shifted r7 s7 in
    let e7 : scrambled r7 (b7 ∷ []) ≡ (s7 ∷ []) = sent_next r7 b7 (s1 % 8 * 32 + s2 / 8) s7 [] [] p.key_7 is.is_7 (scrambled-none r8) in
    let e6 : scrambled r6 (b6 ∷ b7 ∷ []) ≡ (s6 ∷ s7 ∷ []) = sent_next r6 b6 (s0 % 8 * 32 + s1 / 8) s6 (b7 ∷ []) (s7 ∷ []) p.key_6 is.is_6 e7 in
    let e5 : scrambled r5 (b5 ∷ b6 ∷ b7 ∷ []) ≡ (s5 ∷ s6 ∷ s7 ∷ []) = sent_next r5 b5 (r % 8 * 32 + s0 / 8) s5 (b6 ∷ b7 ∷ []) (s6 ∷ s7 ∷ []) p.key_5 is.is_5 e6 in
    let e4 : scrambled r4 (b4 ∷ b5 ∷ b6 ∷ b7 ∷ []) ≡ (s4 ∷ s5 ∷ s6 ∷ s7 ∷ []) = sent_next r4 b4 (r / 2 ^ 3 % 2 ^ 8) s4 (b5 ∷ b6 ∷ b7 ∷ []) (s5 ∷ s6 ∷ s7 ∷ []) p.key_4 is.is_4 e5 in
    let e3 : scrambled r3 (b3 ∷ b4 ∷ b5 ∷ b6 ∷ b7 ∷ []) ≡ (s3 ∷ s4 ∷ s5 ∷ s6 ∷ s7 ∷ []) = sent_next r3 b3 (r / 2 ^ 11 % 2 ^ 8) s3 (b4 ∷ b5 ∷ b6 ∷ b7 ∷ []) (s4 ∷ s5 ∷ s6 ∷ s7 ∷ []) p.key_3 is.is_3 e4 in
    let e2 : scrambled r2 (b2 ∷ b3 ∷ b4 ∷ b5 ∷ b6 ∷ b7 ∷ []) ≡ (s2 ∷ s3 ∷ s4 ∷ s5 ∷ s6 ∷ s7 ∷ []) = sent_next r2 b2 (r / 2 ^ 19 % 2 ^ 8) s2 (b3 ∷ b4 ∷ b5 ∷ b6 ∷ b7 ∷ []) (s3 ∷ s4 ∷ s5 ∷ s6 ∷ s7 ∷ []) p.key_2 is.is_2 e3 in
    let e1 : scrambled r1 (b1 ∷ b2 ∷ b3 ∷ b4 ∷ b5 ∷ b6 ∷ b7 ∷ []) ≡ (s1 ∷ s2 ∷ s3 ∷ s4 ∷ s5 ∷ s6 ∷ s7 ∷ []) = sent_next r1 b1 (r / 2 ^ 27 % 2 ^ 8) s1 (b2 ∷ b3 ∷ b4 ∷ b5 ∷ b6 ∷ b7 ∷ []) (s2 ∷ s3 ∷ s4 ∷ s5 ∷ s6 ∷ s7 ∷ []) p.key_1 is.is_1 e2 in
    let e0 : scrambled r0 (b0 ∷ b1 ∷ b2 ∷ b3 ∷ b4 ∷ b5 ∷ b6 ∷ b7 ∷ []) ≡ (s0 ∷ s1 ∷ s2 ∷ s3 ∷ s4 ∷ s5 ∷ s6 ∷ s7 ∷ []) = sent_next r0 b0 (r / 2 ^ 35) s0 (b1 ∷ b2 ∷ b3 ∷ b4 ∷ b5 ∷ b6 ∷ b7 ∷ []) (s1 ∷ s2 ∷ s3 ∷ s4 ∷ s5 ∷ s6 ∷ s7 ∷ []) refl is.is_0 e1 in
    e0

last_sent : (r s0 s1 s2 s3 s4 s5 s6 s7 : ℕ) → r < 2 ^ 43 → s0 < 256 → s1 < 256 → s2 < 256 → s3 < 256 → s4 < 256 → s5 < 256 → s6 < 256 → s7 < 256 → num s0 s1 s2 s3 s4 s5 s6 s7 % 2 ^ 43 ≡ last_bits r (s0 ∷ s1 ∷ s2 ∷ s3 ∷ s4 ∷ s5 ∷ s6 ∷ s7 ∷ [])
unfolding last_bits
last_sent r s0 s1 s2 s3 s4 s5 s6 s7 hr hs0 hs1 hs2 hs3 hs4 hs5 hs6 hs7 = sym (passes r s0 s1 s2 s3 s4 s5 s6 s7 hr hs0 hs1 hs2 hs3 hs4 hs5 hs6 hs7).last

word_sent : (r b0 b1 b2 b3 b4 b5 b6 b7 s0 s1 s2 s3 s4 s5 s6 s7 : ℕ) → r < 2 ^ 43 → b0 < 256 → b1 < 256 → b2 < 256 → b3 < 256 → b4 < 256 → b5 < 256 → b6 < 256 → b7 < 256 → IsSent r b0 b1 b2 b3 b4 b5 b6 b7 s0 s1 s2 s3 s4 s5 s6 s7
    → let t = bit_xor (num b0 b1 b2 b3 b4 b5 b6 b7) (r * 2 ^ 21) in bit_xor t (t / 2 ^ 43) ≡ num s0 s1 s2 s3 s4 s5 s6 s7
word_sent r b0 b1 b2 b3 b4 b5 b6 b7 s0 s1 s2 s3 s4 s5 s6 s7 hr hb0 hb1 hb2 hb3 hb4 hb5 hb6 hb7 is =
    let w = num b0 b1 b2 b3 b4 b5 b6 b7 in
    let t = bit_xor w (r * 2 ^ 21) in
    let k0 : (r / 2 ^ 35) < 256 = omega arith in
    let k1 : (r / 2 ^ 27 % 2 ^ 8) < 256 = omega arith in
    let k2 : (r / 2 ^ 19 % 2 ^ 8) < 256 = omega arith in
    let k3 : (r / 2 ^ 11 % 2 ^ 8) < 256 = omega arith in
    let k4 : (r / 2 ^ 3 % 2 ^ 8) < 256 = omega arith in
    let k5 : (r % 8 * 32) < 256 = omega arith in
    let k6 : 0 < 256 = omega arith in
    let k7 : 0 < 256 = omega arith in
    let flat : r * 2 ^ 21 ≡ num (r / 2 ^ 35) (r / 2 ^ 27 % 2 ^ 8) (r / 2 ^ 19 % 2 ^ 8) (r / 2 ^ 11 % 2 ^ 8) (r / 2 ^ 3 % 2 ^ 8) (r % 8 * 32) 0 0 = omega arith in
    let added = num-xor b0 b1 b2 b3 b4 b5 b6 b7 (r / 2 ^ 35) (r / 2 ^ 27 % 2 ^ 8) (r / 2 ^ 19 % 2 ^ 8) (r / 2 ^ 11 % 2 ^ 8) (r / 2 ^ 3 % 2 ^ 8) (r % 8 * 32) 0 0 hb1 hb2 hb3 hb4 hb5 hb6 hb7 k1 k2 k3 k4 k5 k6 k7 in
    let top : t / 2 ^ 43 ≡ s0 * 2 ^ 13 + s1 * 2 ^ 5 + s2 / 8 =
    ap (λ y. bit_xor w y / 2 ^ 43) flat ∙ ap (λ y. y / 2 ^ 43) added
    ∙ top_bits (bit_xor b0 (r / 2 ^ 35)) (bit_xor b1 (r / 2 ^ 27 % 2 ^ 8)) (bit_xor b2 (r / 2 ^ 19 % 2 ^ 8)) (bit_xor b3 (r / 2 ^ 11 % 2 ^ 8)) (bit_xor b4 (r / 2 ^ 3 % 2 ^ 8)) (bit_xor b5 (r % 8 * 32)) (bit_xor b6 0) (bit_xor b7 0) (xor_lt 8 b3 (r / 2 ^ 11 % 2 ^ 8) hb3 k3) (xor_lt 8 b4 (r / 2 ^ 3 % 2 ^ 8) hb4 k4) (xor_lt 8 b5 (r % 8 * 32) hb5 k5) (xor_lt 8 b6 0 hb6 k6) (xor_lt 8 b7 0 hb7 k7)
    ∙ ap (λ y. y * 2 ^ 13 + (bit_xor b1 (r / 2 ^ 27 % 2 ^ 8)) * 2 ^ 5 + (bit_xor b2 (r / 2 ^ 19 % 2 ^ 8)) / 8) (sym is.is_0) ∙ ap (λ y. s0 * 2 ^ 13 + y * 2 ^ 5 + (bit_xor b2 (r / 2 ^ 19 % 2 ^ 8)) / 8) (sym is.is_1) ∙ ap (λ y. s0 * 2 ^ 13 + s1 * 2 ^ 5 + y / 8) (sym is.is_2) in
    let l0 = is.small_0 in
    let l1 = is.small_1 in
    let l2 = is.small_2 in
    let l3 = is.small_3 in
    let l4 = is.small_4 in
    let l5 = is.small_5 in
    let l6 = is.small_6 in
    let l7 = is.small_7 in
    let few : s0 * 2 ^ 13 + s1 * 2 ^ 5 + s2 / 8 < 2 ^ 21 = omega (arith, l0, l1, l2) in
    let m1 : (r / 2 ^ 27 % 2 ^ 8) < 256 = omega (arith, l0, l1, l2) in
    let m2 : (r / 2 ^ 19 % 2 ^ 8) < 256 = omega (arith, l0, l1, l2) in
    let m3 : (r / 2 ^ 11 % 2 ^ 8) < 256 = omega (arith, l0, l1, l2) in
    let m4 : (r / 2 ^ 3 % 2 ^ 8) < 256 = omega (arith, l0, l1, l2) in
    let m5 : (r % 8 * 32 + s0 / 8) < 256 = omega (arith, l0, l1, l2) in
    let m6 : (s0 % 8 * 32 + s1 / 8) < 256 = omega (arith, l0, l1, l2) in
    let m7 : (s1 % 8 * 32 + s2 / 8) < 256 = omega (arith, l0, l1, l2) in
    xor_assoc w (r * 2 ^ 21) (t / 2 ^ 43)
    ∙ ap (λ y. bit_xor w (bit_xor (r * 2 ^ 21) y)) top
    ∙ ap (bit_xor w) (beside r (s0 * 2 ^ 13 + s1 * 2 ^ 5 + s2 / 8) few ∙ keys r s0 s1 s2 hr l0 l1 l2)
    ∙ num-xor b0 b1 b2 b3 b4 b5 b6 b7 (r / 2 ^ 35) (r / 2 ^ 27 % 2 ^ 8) (r / 2 ^ 19 % 2 ^ 8) (r / 2 ^ 11 % 2 ^ 8) (r / 2 ^ 3 % 2 ^ 8) (r % 8 * 32 + s0 / 8) (s0 % 8 * 32 + s1 / 8) (s1 % 8 * 32 + s2 / 8) hb1 hb2 hb3 hb4 hb5 hb6 hb7 m1 m2 m3 m4 m5 m6 m7
    ∙ num_same (bit_xor b0 (r / 2 ^ 35)) (bit_xor b1 (r / 2 ^ 27 % 2 ^ 8)) (bit_xor b2 (r / 2 ^ 19 % 2 ^ 8)) (bit_xor b3 (r / 2 ^ 11 % 2 ^ 8)) (bit_xor b4 (r / 2 ^ 3 % 2 ^ 8)) (bit_xor b5 (r % 8 * 32 + s0 / 8)) (bit_xor b6 (s0 % 8 * 32 + s1 / 8)) (bit_xor b7 (s1 % 8 * 32 + s2 / 8)) s0 s1 s2 s3 s4 s5 s6 s7 (sym is.is_0) (sym is.is_1) (sym is.is_2) (sym is.is_3) (sym is.is_4) (sym is.is_5) (sym is.is_6) (sym is.is_7)

-- ---- words and their bytes

small_cons : (x : ℕ) (xs : List ℕ) → x < 256 → ((i : ℕ) → get_or xs i 0 < 256) → (i : ℕ) → get_or (x ∷ xs) i 0 < 256
small_cons x xs h hs zero = h
small_cons x xs h hs (suc i) = hs i

bytes_of_num : (s0 s1 s2 s3 s4 s5 s6 s7 n : ℕ) → s0 < 256 → s1 < 256 → s2 < 256 → s3 < 256 → s4 < 256 → s5 < 256 → s6 < 256 → s7 < 256 → n ≡ num s0 s1 s2 s3 s4 s5 s6 s7 → to_be_bytes w64 n ≡ (s0 ∷ s1 ∷ s2 ∷ s3 ∷ s4 ∷ s5 ∷ s6 ∷ s7 ∷ [])
bytes_of_num s0 s1 s2 s3 s4 s5 s6 s7 n hs0 hs1 hs2 hs3 hs4 hs5 hs6 hs7 e =
    let none : (i : ℕ) → get_or [] i 0 < 256 = λ i. omega arith in
    let a7 = small_cons s7 [] hs7 none in
    let a6 = small_cons s6 (s7 ∷ []) hs6 a7 in
    let a5 = small_cons s5 (s6 ∷ s7 ∷ []) hs5 a6 in
    let a4 = small_cons s4 (s5 ∷ s6 ∷ s7 ∷ []) hs4 a5 in
    let a3 = small_cons s3 (s4 ∷ s5 ∷ s6 ∷ s7 ∷ []) hs3 a4 in
    let a2 = small_cons s2 (s3 ∷ s4 ∷ s5 ∷ s6 ∷ s7 ∷ []) hs2 a3 in
    let a1 = small_cons s1 (s2 ∷ s3 ∷ s4 ∷ s5 ∷ s6 ∷ s7 ∷ []) hs1 a2 in
    let a0 = small_cons s0 (s1 ∷ s2 ∷ s3 ∷ s4 ∷ s5 ∷ s6 ∷ s7 ∷ []) hs0 a1 in
    be_bytes_8 (s0 ∷ s1 ∷ s2 ∷ s3 ∷ s4 ∷ s5 ∷ s6 ∷ s7 ∷ []) n refl a0 (e ∙ (let f : num s0 s1 s2 s3 s4 s5 s6 s7 ≡ from_be_bytes w64 (s0 ∷ s1 ∷ s2 ∷ s3 ∷ s4 ∷ s5 ∷ s6 ∷ s7 ∷ []) = omega arith in f))

num_of_word : (n : ℕ) → n < 2 ^ 64 → num (n / 256 ^ 7 % 256) (n / 256 ^ 6 % 256) (n / 256 ^ 5 % 256) (n / 256 ^ 4 % 256) (n / 256 ^ 3 % 256) (n / 256 ^ 2 % 256) (n / 256 ^ 1 % 256) (n % 256) ≡ n
num_of_word n h = (let f : num (n / 256 ^ 7 % 256) (n / 256 ^ 6 % 256) (n / 256 ^ 5 % 256) (n / 256 ^ 4 % 256) (n / 256 ^ 3 % 256) (n / 256 ^ 2 % 256) (n / 256 ^ 1 % 256) (n % 256) ≡ from_be_bytes w64 (to_be_bytes w64 n) = omega arith in f) ∙ from_be_bytes-to_be_bytes_8 n h

-- a word that is scrambled
pub record WordSent (register word sent : ℕ) : Type 0 where
  pub bytes : to_be_bytes w64 sent ≡ scrambled register (to_be_bytes w64 word)
  pub last : sent % 2 ^ 43 ≡ last_bits register (to_be_bytes w64 sent)

pub scrambled_word : (r word : ℕ) → r < 2 ^ 43 → word < 2 ^ 64
    → let t = bit_xor word (r * 2 ^ 21 % 2 ^ 64) in WordSent r word (bit_xor t (t / 2 ^ 43))
scrambled_word r word hr hw =
    let key : r * 2 ^ 21 % 2 ^ 64 ≡ r * 2 ^ 21 = mod-eq_of_lt (let h : r * 2 ^ 21 < 2 ^ 64 = omega arith in h) in
    let P : ℕ → Type 0 = λ k. let t = bit_xor word k in WordSent r word (bit_xor t (t / 2 ^ 43)) in
    subst P (sym key) (sent_word (bit_xor (bit_xor word (r * 2 ^ 21)) (bit_xor word (r * 2 ^ 21) / 2 ^ 43)) refl)
  where
    sent_word : (n : ℕ) → n ≡ (let t = bit_xor word (r * 2 ^ 21) in bit_xor t (t / 2 ^ 43)) → WordSent r word n
    sent_word n e =
        let b0 = (word / 256 ^ 7 % 256) in
        let b1 = (word / 256 ^ 6 % 256) in
        let b2 = (word / 256 ^ 5 % 256) in
        let b3 = (word / 256 ^ 4 % 256) in
        let b4 = (word / 256 ^ 3 % 256) in
        let b5 = (word / 256 ^ 2 % 256) in
        let b6 = (word / 256 ^ 1 % 256) in
        let b7 = (word % 256) in
        let hb0 : b0 < 256 = omega arith in
        let hb1 : b1 < 256 = omega arith in
        let hb2 : b2 < 256 = omega arith in
        let hb3 : b3 < 256 = omega arith in
        let hb4 : b4 < 256 = omega arith in
        let hb5 : b5 < 256 = omega arith in
        let hb6 : b6 < 256 = omega arith in
        let hb7 : b7 < 256 = omega arith in
        let s0 = bit_xor b0 (r / 2 ^ 35) in
        let hs0 : s0 < 256 = xor_lt 8 b0 (r / 2 ^ 35) hb0 (omega arith) in
        let s1 = bit_xor b1 (r / 2 ^ 27 % 2 ^ 8) in
        let hs1 : s1 < 256 = xor_lt 8 b1 (r / 2 ^ 27 % 2 ^ 8) hb1 (omega arith) in
        let s2 = bit_xor b2 (r / 2 ^ 19 % 2 ^ 8) in
        let hs2 : s2 < 256 = xor_lt 8 b2 (r / 2 ^ 19 % 2 ^ 8) hb2 (omega arith) in
        let s3 = bit_xor b3 (r / 2 ^ 11 % 2 ^ 8) in
        let hs3 : s3 < 256 = xor_lt 8 b3 (r / 2 ^ 11 % 2 ^ 8) hb3 (omega arith) in
        let s4 = bit_xor b4 (r / 2 ^ 3 % 2 ^ 8) in
        let hs4 : s4 < 256 = xor_lt 8 b4 (r / 2 ^ 3 % 2 ^ 8) hb4 (omega arith) in
        let s5 = bit_xor b5 (r % 8 * 32 + s0 / 8) in
        let hs5 : s5 < 256 = xor_lt 8 b5 (r % 8 * 32 + s0 / 8) hb5 (omega (arith, hs0, hs1, hs2)) in
        let s6 = bit_xor b6 (s0 % 8 * 32 + s1 / 8) in
        let hs6 : s6 < 256 = xor_lt 8 b6 (s0 % 8 * 32 + s1 / 8) hb6 (omega (arith, hs0, hs1, hs2)) in
        let s7 = bit_xor b7 (s1 % 8 * 32 + s2 / 8) in
        let hs7 : s7 < 256 = xor_lt 8 b7 (s1 % 8 * 32 + s2 / 8) hb7 (omega (arith, hs0, hs1, hs2)) in
        let is : IsSent r b0 b1 b2 b3 b4 b5 b6 b7 s0 s1 s2 s3 s4 s5 s6 s7 = record { is_0 = refl; is_1 = refl; is_2 = refl; is_3 = refl; is_4 = refl; is_5 = refl; is_6 = refl; is_7 = refl; small_0 = hs0; small_1 = hs1; small_2 = hs2; small_3 = hs3; small_4 = hs4; small_5 = hs5; small_6 = hs6; small_7 = hs7 } in
        let total : n ≡ num s0 s1 s2 s3 s4 s5 s6 s7 = e ∙ ap (λ y. let t = bit_xor y (r * 2 ^ 21) in bit_xor t (t / 2 ^ 43)) (sym (num_of_word word hw)) ∙ word_sent r b0 b1 b2 b3 b4 b5 b6 b7 s0 s1 s2 s3 s4 s5 s6 s7 hr hb0 hb1 hb2 hb3 hb4 hb5 hb6 hb7 is in
        let bytes : to_be_bytes w64 n ≡ (s0 ∷ s1 ∷ s2 ∷ s3 ∷ s4 ∷ s5 ∷ s6 ∷ s7 ∷ []) = bytes_of_num s0 s1 s2 s3 s4 s5 s6 s7 n hs0 hs1 hs2 hs3 hs4 hs5 hs6 hs7 total in
        record { bytes = bytes ∙ sym (bytes_sent r b0 b1 b2 b3 b4 b5 b6 b7 s0 s1 s2 s3 s4 s5 s6 s7 hr is); last = ap (λ y. y % 2 ^ 43) total ∙ last_sent r s0 s1 s2 s3 s4 s5 s6 s7 hr hs0 hs1 hs2 hs3 hs4 hs5 hs6 hs7 ∙ ap (last_bits r) (sym bytes) }

-- ---- the receiver's side

plain_next : (r g key : ℕ) (rest out : List ℕ) → r / 2 ^ 35 ≡ key → descrambled (shifted r g) rest ≡ out → descrambled r (g ∷ rest) ≡ bit_xor g key ∷ out
plain_next r g key rest out e f =
    descrambled-cons r g rest ∙ ap (λ x. bit_xor g x ∷ descrambled (shifted r g) rest) e ∙ ap (λ y. bit_xor g key ∷ y) f

bytes_plain : (r g0 g1 g2 g3 g4 g5 g6 g7 : ℕ) → r < 2 ^ 43 → g0 < 256 → g1 < 256 → g2 < 256 → g3 < 256 → g4 < 256 → g5 < 256 → g6 < 256 → g7 < 256 → descrambled r (g0 ∷ g1 ∷ g2 ∷ g3 ∷ g4 ∷ g5 ∷ g6 ∷ g7 ∷ []) ≡ ((bit_xor g0 (r / 2 ^ 35)) ∷ (bit_xor g1 (r / 2 ^ 27 % 2 ^ 8)) ∷ (bit_xor g2 (r / 2 ^ 19 % 2 ^ 8)) ∷ (bit_xor g3 (r / 2 ^ 11 % 2 ^ 8)) ∷ (bit_xor g4 (r / 2 ^ 3 % 2 ^ 8)) ∷ (bit_xor g5 (r % 8 * 32 + g0 / 8)) ∷ (bit_xor g6 (g0 % 8 * 32 + g1 / 8)) ∷ (bit_xor g7 (g1 % 8 * 32 + g2 / 8)) ∷ [])
bytes_plain r g0 g1 g2 g3 g4 g5 g6 g7 hr hg0 hg1 hg2 hg3 hg4 hg5 hg6 hg7 =
    let p = passes r g0 g1 g2 g3 g4 g5 g6 g7 hr hg0 hg1 hg2 hg3 hg4 hg5 hg6 hg7 in
    let r0 = r in
    let r1 = shifted r0 g0 in
    let r2 = shifted r1 g1 in
    let r3 = shifted r2 g2 in
    let r4 = shifted r3 g3 in
    let r5 = shifted r4 g4 in
    let r6 = shifted r5 g5 in
    let r7 = shifted r6 g6 in
    let r8 = shifted r7 g7 in
    let e7 : descrambled r7 (g7 ∷ []) ≡ ((bit_xor g7 (g1 % 8 * 32 + g2 / 8)) ∷ []) = plain_next r7 g7 (g1 % 8 * 32 + g2 / 8) [] [] p.key_7 (descrambled-none r8) in
    let e6 : descrambled r6 (g6 ∷ g7 ∷ []) ≡ ((bit_xor g6 (g0 % 8 * 32 + g1 / 8)) ∷ (bit_xor g7 (g1 % 8 * 32 + g2 / 8)) ∷ []) = plain_next r6 g6 (g0 % 8 * 32 + g1 / 8) (g7 ∷ []) ((bit_xor g7 (g1 % 8 * 32 + g2 / 8)) ∷ []) p.key_6 e7 in
    let e5 : descrambled r5 (g5 ∷ g6 ∷ g7 ∷ []) ≡ ((bit_xor g5 (r % 8 * 32 + g0 / 8)) ∷ (bit_xor g6 (g0 % 8 * 32 + g1 / 8)) ∷ (bit_xor g7 (g1 % 8 * 32 + g2 / 8)) ∷ []) = plain_next r5 g5 (r % 8 * 32 + g0 / 8) (g6 ∷ g7 ∷ []) ((bit_xor g6 (g0 % 8 * 32 + g1 / 8)) ∷ (bit_xor g7 (g1 % 8 * 32 + g2 / 8)) ∷ []) p.key_5 e6 in
    let e4 : descrambled r4 (g4 ∷ g5 ∷ g6 ∷ g7 ∷ []) ≡ ((bit_xor g4 (r / 2 ^ 3 % 2 ^ 8)) ∷ (bit_xor g5 (r % 8 * 32 + g0 / 8)) ∷ (bit_xor g6 (g0 % 8 * 32 + g1 / 8)) ∷ (bit_xor g7 (g1 % 8 * 32 + g2 / 8)) ∷ []) = plain_next r4 g4 (r / 2 ^ 3 % 2 ^ 8) (g5 ∷ g6 ∷ g7 ∷ []) ((bit_xor g5 (r % 8 * 32 + g0 / 8)) ∷ (bit_xor g6 (g0 % 8 * 32 + g1 / 8)) ∷ (bit_xor g7 (g1 % 8 * 32 + g2 / 8)) ∷ []) p.key_4 e5 in
    let e3 : descrambled r3 (g3 ∷ g4 ∷ g5 ∷ g6 ∷ g7 ∷ []) ≡ ((bit_xor g3 (r / 2 ^ 11 % 2 ^ 8)) ∷ (bit_xor g4 (r / 2 ^ 3 % 2 ^ 8)) ∷ (bit_xor g5 (r % 8 * 32 + g0 / 8)) ∷ (bit_xor g6 (g0 % 8 * 32 + g1 / 8)) ∷ (bit_xor g7 (g1 % 8 * 32 + g2 / 8)) ∷ []) = plain_next r3 g3 (r / 2 ^ 11 % 2 ^ 8) (g4 ∷ g5 ∷ g6 ∷ g7 ∷ []) ((bit_xor g4 (r / 2 ^ 3 % 2 ^ 8)) ∷ (bit_xor g5 (r % 8 * 32 + g0 / 8)) ∷ (bit_xor g6 (g0 % 8 * 32 + g1 / 8)) ∷ (bit_xor g7 (g1 % 8 * 32 + g2 / 8)) ∷ []) p.key_3 e4 in
    let e2 : descrambled r2 (g2 ∷ g3 ∷ g4 ∷ g5 ∷ g6 ∷ g7 ∷ []) ≡ ((bit_xor g2 (r / 2 ^ 19 % 2 ^ 8)) ∷ (bit_xor g3 (r / 2 ^ 11 % 2 ^ 8)) ∷ (bit_xor g4 (r / 2 ^ 3 % 2 ^ 8)) ∷ (bit_xor g5 (r % 8 * 32 + g0 / 8)) ∷ (bit_xor g6 (g0 % 8 * 32 + g1 / 8)) ∷ (bit_xor g7 (g1 % 8 * 32 + g2 / 8)) ∷ []) = plain_next r2 g2 (r / 2 ^ 19 % 2 ^ 8) (g3 ∷ g4 ∷ g5 ∷ g6 ∷ g7 ∷ []) ((bit_xor g3 (r / 2 ^ 11 % 2 ^ 8)) ∷ (bit_xor g4 (r / 2 ^ 3 % 2 ^ 8)) ∷ (bit_xor g5 (r % 8 * 32 + g0 / 8)) ∷ (bit_xor g6 (g0 % 8 * 32 + g1 / 8)) ∷ (bit_xor g7 (g1 % 8 * 32 + g2 / 8)) ∷ []) p.key_2 e3 in
    let e1 : descrambled r1 (g1 ∷ g2 ∷ g3 ∷ g4 ∷ g5 ∷ g6 ∷ g7 ∷ []) ≡ ((bit_xor g1 (r / 2 ^ 27 % 2 ^ 8)) ∷ (bit_xor g2 (r / 2 ^ 19 % 2 ^ 8)) ∷ (bit_xor g3 (r / 2 ^ 11 % 2 ^ 8)) ∷ (bit_xor g4 (r / 2 ^ 3 % 2 ^ 8)) ∷ (bit_xor g5 (r % 8 * 32 + g0 / 8)) ∷ (bit_xor g6 (g0 % 8 * 32 + g1 / 8)) ∷ (bit_xor g7 (g1 % 8 * 32 + g2 / 8)) ∷ []) = plain_next r1 g1 (r / 2 ^ 27 % 2 ^ 8) (g2 ∷ g3 ∷ g4 ∷ g5 ∷ g6 ∷ g7 ∷ []) ((bit_xor g2 (r / 2 ^ 19 % 2 ^ 8)) ∷ (bit_xor g3 (r / 2 ^ 11 % 2 ^ 8)) ∷ (bit_xor g4 (r / 2 ^ 3 % 2 ^ 8)) ∷ (bit_xor g5 (r % 8 * 32 + g0 / 8)) ∷ (bit_xor g6 (g0 % 8 * 32 + g1 / 8)) ∷ (bit_xor g7 (g1 % 8 * 32 + g2 / 8)) ∷ []) p.key_1 e2 in
    let e0 : descrambled r0 (g0 ∷ g1 ∷ g2 ∷ g3 ∷ g4 ∷ g5 ∷ g6 ∷ g7 ∷ []) ≡ ((bit_xor g0 (r / 2 ^ 35)) ∷ (bit_xor g1 (r / 2 ^ 27 % 2 ^ 8)) ∷ (bit_xor g2 (r / 2 ^ 19 % 2 ^ 8)) ∷ (bit_xor g3 (r / 2 ^ 11 % 2 ^ 8)) ∷ (bit_xor g4 (r / 2 ^ 3 % 2 ^ 8)) ∷ (bit_xor g5 (r % 8 * 32 + g0 / 8)) ∷ (bit_xor g6 (g0 % 8 * 32 + g1 / 8)) ∷ (bit_xor g7 (g1 % 8 * 32 + g2 / 8)) ∷ []) = plain_next r0 g0 (r / 2 ^ 35) (g1 ∷ g2 ∷ g3 ∷ g4 ∷ g5 ∷ g6 ∷ g7 ∷ []) ((bit_xor g1 (r / 2 ^ 27 % 2 ^ 8)) ∷ (bit_xor g2 (r / 2 ^ 19 % 2 ^ 8)) ∷ (bit_xor g3 (r / 2 ^ 11 % 2 ^ 8)) ∷ (bit_xor g4 (r / 2 ^ 3 % 2 ^ 8)) ∷ (bit_xor g5 (r % 8 * 32 + g0 / 8)) ∷ (bit_xor g6 (g0 % 8 * 32 + g1 / 8)) ∷ (bit_xor g7 (g1 % 8 * 32 + g2 / 8)) ∷ []) refl e1 in
    e0

word_plain : (r g0 g1 g2 g3 g4 g5 g6 g7 : ℕ) → r < 2 ^ 43 → g0 < 256 → g1 < 256 → g2 < 256 → g3 < 256 → g4 < 256 → g5 < 256 → g6 < 256 → g7 < 256
    → let w = num g0 g1 g2 g3 g4 g5 g6 g7 in bit_xor (bit_xor w (r * 2 ^ 21)) (w / 2 ^ 43) ≡ num (bit_xor g0 (r / 2 ^ 35)) (bit_xor g1 (r / 2 ^ 27 % 2 ^ 8)) (bit_xor g2 (r / 2 ^ 19 % 2 ^ 8)) (bit_xor g3 (r / 2 ^ 11 % 2 ^ 8)) (bit_xor g4 (r / 2 ^ 3 % 2 ^ 8)) (bit_xor g5 (r % 8 * 32 + g0 / 8)) (bit_xor g6 (g0 % 8 * 32 + g1 / 8)) (bit_xor g7 (g1 % 8 * 32 + g2 / 8))
word_plain r g0 g1 g2 g3 g4 g5 g6 g7 hr hg0 hg1 hg2 hg3 hg4 hg5 hg6 hg7 =
    let w = num g0 g1 g2 g3 g4 g5 g6 g7 in
    let few : g0 * 2 ^ 13 + g1 * 2 ^ 5 + g2 / 8 < 2 ^ 21 = omega arith in
    let m1 : (r / 2 ^ 27 % 2 ^ 8) < 256 = omega arith in
    let m2 : (r / 2 ^ 19 % 2 ^ 8) < 256 = omega arith in
    let m3 : (r / 2 ^ 11 % 2 ^ 8) < 256 = omega arith in
    let m4 : (r / 2 ^ 3 % 2 ^ 8) < 256 = omega arith in
    let m5 : (r % 8 * 32 + g0 / 8) < 256 = omega arith in
    let m6 : (g0 % 8 * 32 + g1 / 8) < 256 = omega arith in
    let m7 : (g1 % 8 * 32 + g2 / 8) < 256 = omega arith in
    xor_assoc w (r * 2 ^ 21) (w / 2 ^ 43)
    ∙ ap (λ y. bit_xor w (bit_xor (r * 2 ^ 21) y)) (top_bits g0 g1 g2 g3 g4 g5 g6 g7 hg3 hg4 hg5 hg6 hg7)
    ∙ ap (bit_xor w) (beside r (g0 * 2 ^ 13 + g1 * 2 ^ 5 + g2 / 8) few ∙ keys r g0 g1 g2 hr hg0 hg1 hg2)
    ∙ num-xor g0 g1 g2 g3 g4 g5 g6 g7 (r / 2 ^ 35) (r / 2 ^ 27 % 2 ^ 8) (r / 2 ^ 19 % 2 ^ 8) (r / 2 ^ 11 % 2 ^ 8) (r / 2 ^ 3 % 2 ^ 8) (r % 8 * 32 + g0 / 8) (g0 % 8 * 32 + g1 / 8) (g1 % 8 * 32 + g2 / 8) hg1 hg2 hg3 hg4 hg5 hg6 hg7 m1 m2 m3 m4 m5 m6 m7

-- a word that is descrambled
pub record WordPlain (register word plain : ℕ) : Type 0 where
  pub bytes : to_be_bytes w64 plain ≡ descrambled register (to_be_bytes w64 word)
  pub last : word % 2 ^ 43 ≡ last_bits register (to_be_bytes w64 word)

pub descrambled_word : (r word : ℕ) → r < 2 ^ 43 → word < 2 ^ 64 → WordPlain r word (bit_xor (bit_xor word (r * 2 ^ 21 % 2 ^ 64)) (word / 2 ^ 43))
descrambled_word r word hr hw =
    let key : r * 2 ^ 21 % 2 ^ 64 ≡ r * 2 ^ 21 = mod-eq_of_lt (let h : r * 2 ^ 21 < 2 ^ 64 = omega arith in h) in
    let P : ℕ → Type 0 = λ k. WordPlain r word (bit_xor (bit_xor word k) (word / 2 ^ 43)) in
    subst P (sym key) (plain_word (bit_xor (bit_xor word (r * 2 ^ 21)) (word / 2 ^ 43)) refl)
  where
    plain_word : (n : ℕ) → n ≡ bit_xor (bit_xor word (r * 2 ^ 21)) (word / 2 ^ 43) → WordPlain r word n
    plain_word n e =
        let g0 = (word / 256 ^ 7 % 256) in
        let g1 = (word / 256 ^ 6 % 256) in
        let g2 = (word / 256 ^ 5 % 256) in
        let g3 = (word / 256 ^ 4 % 256) in
        let g4 = (word / 256 ^ 3 % 256) in
        let g5 = (word / 256 ^ 2 % 256) in
        let g6 = (word / 256 ^ 1 % 256) in
        let g7 = (word % 256) in
        let hg0 : g0 < 256 = omega arith in
        let hg1 : g1 < 256 = omega arith in
        let hg2 : g2 < 256 = omega arith in
        let hg3 : g3 < 256 = omega arith in
        let hg4 : g4 < 256 = omega arith in
        let hg5 : g5 < 256 = omega arith in
        let hg6 : g6 < 256 = omega arith in
        let hg7 : g7 < 256 = omega arith in
        let hp0 : (bit_xor g0 (r / 2 ^ 35)) < 256 = xor_lt 8 g0 (r / 2 ^ 35) hg0 (omega arith) in
        let hp1 : (bit_xor g1 (r / 2 ^ 27 % 2 ^ 8)) < 256 = xor_lt 8 g1 (r / 2 ^ 27 % 2 ^ 8) hg1 (omega arith) in
        let hp2 : (bit_xor g2 (r / 2 ^ 19 % 2 ^ 8)) < 256 = xor_lt 8 g2 (r / 2 ^ 19 % 2 ^ 8) hg2 (omega arith) in
        let hp3 : (bit_xor g3 (r / 2 ^ 11 % 2 ^ 8)) < 256 = xor_lt 8 g3 (r / 2 ^ 11 % 2 ^ 8) hg3 (omega arith) in
        let hp4 : (bit_xor g4 (r / 2 ^ 3 % 2 ^ 8)) < 256 = xor_lt 8 g4 (r / 2 ^ 3 % 2 ^ 8) hg4 (omega arith) in
        let hp5 : (bit_xor g5 (r % 8 * 32 + g0 / 8)) < 256 = xor_lt 8 g5 (r % 8 * 32 + g0 / 8) hg5 (omega arith) in
        let hp6 : (bit_xor g6 (g0 % 8 * 32 + g1 / 8)) < 256 = xor_lt 8 g6 (g0 % 8 * 32 + g1 / 8) hg6 (omega arith) in
        let hp7 : (bit_xor g7 (g1 % 8 * 32 + g2 / 8)) < 256 = xor_lt 8 g7 (g1 % 8 * 32 + g2 / 8) hg7 (omega arith) in
        let total : n ≡ num (bit_xor g0 (r / 2 ^ 35)) (bit_xor g1 (r / 2 ^ 27 % 2 ^ 8)) (bit_xor g2 (r / 2 ^ 19 % 2 ^ 8)) (bit_xor g3 (r / 2 ^ 11 % 2 ^ 8)) (bit_xor g4 (r / 2 ^ 3 % 2 ^ 8)) (bit_xor g5 (r % 8 * 32 + g0 / 8)) (bit_xor g6 (g0 % 8 * 32 + g1 / 8)) (bit_xor g7 (g1 % 8 * 32 + g2 / 8)) = e ∙ ap (λ y. bit_xor (bit_xor y (r * 2 ^ 21)) (y / 2 ^ 43)) (sym (num_of_word word hw)) ∙ word_plain r g0 g1 g2 g3 g4 g5 g6 g7 hr hg0 hg1 hg2 hg3 hg4 hg5 hg6 hg7 in
        let bytes : to_be_bytes w64 n ≡ ((bit_xor g0 (r / 2 ^ 35)) ∷ (bit_xor g1 (r / 2 ^ 27 % 2 ^ 8)) ∷ (bit_xor g2 (r / 2 ^ 19 % 2 ^ 8)) ∷ (bit_xor g3 (r / 2 ^ 11 % 2 ^ 8)) ∷ (bit_xor g4 (r / 2 ^ 3 % 2 ^ 8)) ∷ (bit_xor g5 (r % 8 * 32 + g0 / 8)) ∷ (bit_xor g6 (g0 % 8 * 32 + g1 / 8)) ∷ (bit_xor g7 (g1 % 8 * 32 + g2 / 8)) ∷ []) = bytes_of_num (bit_xor g0 (r / 2 ^ 35)) (bit_xor g1 (r / 2 ^ 27 % 2 ^ 8)) (bit_xor g2 (r / 2 ^ 19 % 2 ^ 8)) (bit_xor g3 (r / 2 ^ 11 % 2 ^ 8)) (bit_xor g4 (r / 2 ^ 3 % 2 ^ 8)) (bit_xor g5 (r % 8 * 32 + g0 / 8)) (bit_xor g6 (g0 % 8 * 32 + g1 / 8)) (bit_xor g7 (g1 % 8 * 32 + g2 / 8)) n hp0 hp1 hp2 hp3 hp4 hp5 hp6 hp7 total in
        record { bytes = bytes ∙ sym (bytes_plain r g0 g1 g2 g3 g4 g5 g6 g7 hr hg0 hg1 hg2 hg3 hg4 hg5 hg6 hg7); last = ap (λ y. y % 2 ^ 43) (sym (num_of_word word hw)) ∙ last_sent r g0 g1 g2 g3 g4 g5 g6 g7 hr hg0 hg1 hg2 hg3 hg4 hg5 hg6 hg7 }
