-- Words of four bytes taken in at once, by tables each of which goes on from the one before.
use Rattle.std.proofs.Common.{◌≡◌, ℕ, ◌+◌, ◌*◌, ◌/◌, ◌%◌, ◌^◌, ◌<◌, List, [], get_or, Bool, true, false, refl, ap, ◌∙◌, sym, arith}
use Rattle.std.specs.Prelude.{bit_xor, ◌==◌, ◌&&◌, nat_lt}
use Rattle.std.specs.Int.Bits.{xor_assoc}
use Rattle.std.proofs.lemmas.Nat.{xor_lt}
use Rattle.std.proofs.lemmas.Bool.{agree_below_at, eqb-true, ltb-true, false≢true}
use Rattle.crc_small.specs.declared.frame_tables.TheConstants.{FRAME_STEPS}
use Rattle.crc_small.specs.Steps.LookUp.{looked_up}
use Rattle.crc_small.specs.Steps.Shifted.{after_byte, after_word}
use Rattle.crc_small.proofs.Linear.{zeros, zeros-xor, zeros-lt}
use Rattle.crc_small.proofs.Register.{above}
use Rattle.crc_small.proofs.Inverted.{generator_32, shifted_32}
use Rattle.crc_small.proofs.LookUps.{zeros_under}

-- a register after the shifts of a byte, and after those of a word
unfoldable pub z : ℕ → ℕ
z r = zeros 32 0x104C11DB7 8 r

w : ℕ → ℕ
w r = z (z (z (z r)))

pub z-xor : (r t : ℕ) → r < 2 ^ 32 → t < 2 ^ 32 → z (bit_xor r t) ≡ bit_xor (z r) (z t)
unfolding z
z-xor r t hr ht = zeros-xor 32 0x104C11DB7 8 r t generator_32.leads hr ht

pub z-lt : (r : ℕ) → r < 2 ^ 32 → z r < 2 ^ 32
unfolding z
z-lt r h = zeros-lt 32 0x104C11DB7 8 r generator_32.leads h

-- at the shifts of a byte below the top nothing goes out
z_up : (r : ℕ) → r < 2 ^ 24 → z r ≡ r * 2 ^ 8
unfolding z
z_up r h = zeros_under 32 0x104C11DB7 8 r (omega arith)

w-xor : (r t : ℕ) → r < 2 ^ 32 → t < 2 ^ 32 → w (bit_xor r t) ≡ bit_xor (w r) (w t)
unfolding w
w-xor r t hr ht =
    let r1 = z-lt r hr in
    let t1 = z-lt t ht in
    let r2 = z-lt (z r) r1 in
    let t2 = z-lt (z t) t1 in
    ap (λ x. z (z (z x))) (z-xor r t hr ht)
    ∙ ap (λ x. z (z x)) (z-xor (z r) (z t) r1 t1)
    ∙ ap z (z-xor (z (z r)) (z (z t)) r2 t2)
    ∙ z-xor (z (z (z r))) (z (z (z t))) (z-lt (z (z r)) r2) (z-lt (z (z t)) t2)

w-lt : (r : ℕ) → r < 2 ^ 32 → w r < 2 ^ 32
unfolding w
w-lt r h = z-lt (z (z (z r))) (z-lt (z (z r)) (z-lt (z r) (z-lt r h)))

-- one byte, put at the top of the register
pub one_byte : (c x : ℕ) → c < 2 ^ 32 → x < 2 ^ 8 → after_byte 31 0x104C11DB7 c x ≡ z (bit_xor c (x * 2 ^ 24))
unfolding z
one_byte c x hc hx = sym (shifted_32 c x hc hx)

-- the next byte, put in before the shifts of the last one
next_byte : (u x : ℕ) → u < 2 ^ 32 → x < 2 ^ 24 → bit_xor (z u) (x * 2 ^ 8) ≡ z (bit_xor u x)
next_byte u x hu hx = ap (bit_xor (z u)) (sym (z_up x hx)) ∙ sym (z-xor u x hu (omega arith))

-- four bytes, put into the register at once
four_bytes_in : (c x0 x1 x2 x3 : ℕ) → c < 2 ^ 32 → x0 < 2 ^ 8 → x1 < 2 ^ 8 → x2 < 2 ^ 8 → x3 < 2 ^ 8
    → let after = after_byte 31 0x104C11DB7 in
    after (after (after (after c x0) x1) x2) x3 ≡ w (bit_xor (bit_xor (bit_xor (bit_xor c (x0 * 2 ^ 24)) (x1 * 2 ^ 16)) (x2 * 2 ^ 8)) x3)
unfolding w
four_bytes_in c x0 x1 x2 x3 hc h0 h1 h2 h3 =
    let after = after_byte 31 0x104C11DB7 in
    let u0 = bit_xor c (x0 * 2 ^ 24) in
    let u1 = bit_xor u0 (x1 * 2 ^ 16) in
    let u2 = bit_xor u1 (x2 * 2 ^ 8) in
    let l0 : u0 < 2 ^ 32 = xor_lt 32 c (x0 * 2 ^ 24) hc (omega arith) in
    let l1 : u1 < 2 ^ 32 = xor_lt 32 u0 (x1 * 2 ^ 16) l0 (omega arith) in
    let l2 : u2 < 2 ^ 32 = xor_lt 32 u1 (x2 * 2 ^ 8) l1 (omega arith) in
    let e1 : x1 * 2 ^ 24 ≡ x1 * 2 ^ 16 * 2 ^ 8 = omega arith in
    let e2 : x2 * 2 ^ 24 ≡ x2 * 2 ^ 16 * 2 ^ 8 = omega arith in
    let f2 : x2 * 2 ^ 16 ≡ x2 * 2 ^ 8 * 2 ^ 8 = omega arith in
    let e3 : x3 * 2 ^ 24 ≡ x3 * 2 ^ 16 * 2 ^ 8 = omega arith in
    let f3 : x3 * 2 ^ 16 ≡ x3 * 2 ^ 8 * 2 ^ 8 = omega arith in
    let first : after c x0 ≡ z u0 = one_byte c x0 hc h0 in
    let second : after (z u0) x1 ≡ z (z u1) =
    one_byte (z u0) x1 (z-lt u0 l0) h1
    ∙ ap (λ y. z (bit_xor (z u0) y)) e1 ∙ ap z (next_byte u0 (x1 * 2 ^ 16) l0 (omega arith)) in
    let third : after (z (z u1)) x2 ≡ z (z (z u2)) =
    one_byte (z (z u1)) x2 (z-lt (z u1) (z-lt u1 l1)) h2
    ∙ ap (λ y. z (bit_xor (z (z u1)) y)) e2 ∙ ap z (next_byte (z u1) (x2 * 2 ^ 16) (z-lt u1 l1) (omega arith))
    ∙ ap (λ y. z (z (bit_xor (z u1) y))) f2 ∙ ap (λ y. z (z y)) (next_byte u1 (x2 * 2 ^ 8) l1 (omega arith)) in
    let fourth : after (z (z (z u2))) x3 ≡ z (z (z (z (bit_xor u2 x3)))) =
    one_byte (z (z (z u2))) x3 (z-lt (z (z u2)) (z-lt (z u2) (z-lt u2 l2))) h3
    ∙ ap (λ y. z (bit_xor (z (z (z u2))) y)) e3 ∙ ap z (next_byte (z (z u2)) (x3 * 2 ^ 16) (z-lt (z u2) (z-lt u2 l2)) (omega arith))
    ∙ ap (λ y. z (z (bit_xor (z (z u2)) y))) f3 ∙ ap (λ y. z (z y)) (next_byte (z u2) (x3 * 2 ^ 8) (z-lt u2 l2) (omega arith))
    ∙ ap (λ y. z (z (z y))) (next_byte u2 x3 l2 (omega arith)) in
    ap (λ r. after (after (after r x1) x2) x3) first
    ∙ ap (λ r. after (after r x2) x3) second
    ∙ ap (λ r. after r x3) third
    ∙ fourth

-- the bytes of a word, each in its place
by_bytes : (v : ℕ) → v < 2 ^ 32 → bit_xor (bit_xor (bit_xor (v / 2 ^ 24 * 2 ^ 24) (v / 2 ^ 16 % 2 ^ 8 * 2 ^ 16)) (v / 2 ^ 8 % 2 ^ 8 * 2 ^ 8)) (v % 2 ^ 8) ≡ v
by_bytes v h =
    let v1 = v / 2 ^ 16 % 2 ^ 8 in
    let v2 = v / 2 ^ 8 % 2 ^ 8 in
    let e1 : v / 2 ^ 24 * 2 ^ 24 + v1 * 2 ^ 16 ≡ v / 2 ^ 16 * 2 ^ 16 = omega arith in
    let e2 : v / 2 ^ 16 * 2 ^ 16 + v2 * 2 ^ 8 ≡ v / 2 ^ 8 * 2 ^ 8 = omega arith in
    let e3 : v / 2 ^ 8 * 2 ^ 8 + v % 2 ^ 8 ≡ v = omega arith in
    ap (λ y. bit_xor (bit_xor y (v2 * 2 ^ 8)) (v % 2 ^ 8)) (above 24 (v / 2 ^ 24) (v1 * 2 ^ 16) (omega arith) ∙ e1)
    ∙ ap (λ y. bit_xor y (v % 2 ^ 8)) (above 16 (v / 2 ^ 16) (v2 * 2 ^ 8) (omega arith) ∙ e2)
    ∙ above 8 (v / 2 ^ 8) (v % 2 ^ 8) (omega arith) ∙ e3

after_four_numbers : (c a b d e : ℕ) → bit_xor (bit_xor (bit_xor (bit_xor c a) b) d) e ≡ bit_xor c (bit_xor (bit_xor (bit_xor a b) d) e)
after_four_numbers c a b d e =
    ap (λ y. bit_xor (bit_xor y d) e) (xor_assoc c a b)
    ∙ ap (λ y. bit_xor y e) (xor_assoc c (bit_xor a b) d)
    ∙ xor_assoc c (bit_xor (bit_xor a b) d) e

-- a word taken in is a word added to the register
word_taken : (c v : ℕ) → c < 2 ^ 32 → v < 2 ^ 32 → after_word 31 0x104C11DB7 c v ≡ w (bit_xor c v)
unfolding after_word
word_taken c v hc hv =
    four_bytes_in c (v / 2 ^ 24) (v / 2 ^ 16 % 2 ^ 8) (v / 2 ^ 8 % 2 ^ 8) (v % 2 ^ 8) hc (omega arith) (omega arith) (omega arith) (omega arith)
    ∙ ap w (after_four_numbers c (v / 2 ^ 24 * 2 ^ 24) (v / 2 ^ 16 % 2 ^ 8 * 2 ^ 16) (v / 2 ^ 8 % 2 ^ 8 * 2 ^ 8) (v % 2 ^ 8) ∙ ap (bit_xor c) (by_bytes v hv))

w-four : (a b c d : ℕ) → a < 2 ^ 32 → b < 2 ^ 32 → c < 2 ^ 32 → d < 2 ^ 32 → w (bit_xor (bit_xor (bit_xor a b) c) d) ≡ bit_xor (bit_xor (bit_xor (w a) (w b)) (w c)) (w d)
w-four a b c d ha hb hc hd =
    let hab = xor_lt 32 a b ha hb in
    w-xor (bit_xor (bit_xor a b) c) d (xor_lt 32 (bit_xor a b) c hab hc) hd
    ∙ ap (λ y. bit_xor y (w d)) (w-xor (bit_xor a b) c hab hc)
    ∙ ap (λ y. bit_xor (bit_xor y (w c)) (w d)) (w-xor a b ha hb)

-- ---- tables

abbrev pub row : ℕ → List ℕ
row k = get_or FRAME_STEPS k []

pub both : {a b c d : ℕ} → a ≡ b → c ≡ d → bit_xor a c ≡ bit_xor b d
both {a} {b} {c} {d} e f = ap (λ x. bit_xor x c) e ∙ ap (bit_xor b) f

row_0 : (i : ℕ) → i < 256 → get_or (row 0) i 0 ≡ z (i * 2 ^ 24)
unfolding z zeros
row_0 i h = eqb-true _ _ (agree_below_at (λ i. get_or (row 0) i 0 == z (i * 2 ^ 24)) (λ i. true) 256 i refl h)

row_1 : (i : ℕ) → i < 256 → get_or (row 1) i 0 ≡ z (z (i * 2 ^ 24))
unfolding z zeros
row_1 i h = eqb-true _ _ (agree_below_at (λ i. get_or (row 1) i 0 == z (z (i * 2 ^ 24))) (λ i. true) 256 i refl h)

row_2 : (i : ℕ) → i < 256 → get_or (row 2) i 0 ≡ z (z (z (i * 2 ^ 24)))
unfolding z zeros
row_2 i h = eqb-true _ _ (agree_below_at (λ i. get_or (row 2) i 0 == z (z (z (i * 2 ^ 24)))) (λ i. true) 256 i refl h)

row_3 : (i : ℕ) → i < 256 → get_or (row 3) i 0 ≡ w (i * 2 ^ 24)
unfolding w z zeros
row_3 i h = eqb-true _ _ (agree_below_at (λ i. get_or (row 3) i 0 == w (i * 2 ^ 24)) (λ i. true) 256 i refl h)

-- the first four tables are for the bytes of one word
first_rows : (v : ℕ) → v < 2 ^ 32 → looked_up (row 3) (row 2) (row 1) (row 0) v ≡ w v
unfolding w
first_rows v h =
    let v0 = v / 2 ^ 24 in
    let v1 = v / 2 ^ 16 % 2 ^ 8 in
    let v2 = v / 2 ^ 8 % 2 ^ 8 in
    let v3 = v % 2 ^ 8 in
    let up1 : z (v1 * 2 ^ 16) ≡ v1 * 2 ^ 24 = z_up (v1 * 2 ^ 16) (omega arith) ∙ (let e : v1 * 2 ^ 16 * 2 ^ 8 ≡ v1 * 2 ^ 24 = omega arith in e) in
    let low2 : z (v2 * 2 ^ 8) ≡ v2 * 2 ^ 16 = z_up (v2 * 2 ^ 8) (omega arith) ∙ (let e : v2 * 2 ^ 8 * 2 ^ 8 ≡ v2 * 2 ^ 16 = omega arith in e) in
    let up2 : z (v2 * 2 ^ 16) ≡ v2 * 2 ^ 24 = z_up (v2 * 2 ^ 16) (omega arith) ∙ (let e : v2 * 2 ^ 16 * 2 ^ 8 ≡ v2 * 2 ^ 24 = omega arith in e) in
    let low3 : z v3 ≡ v3 * 2 ^ 8 = z_up v3 (omega arith) in
    let mid3 : z (v3 * 2 ^ 8) ≡ v3 * 2 ^ 16 = z_up (v3 * 2 ^ 8) (omega arith) ∙ (let e : v3 * 2 ^ 8 * 2 ^ 8 ≡ v3 * 2 ^ 16 = omega arith in e) in
    let up3 : z (v3 * 2 ^ 16) ≡ v3 * 2 ^ 24 = z_up (v3 * 2 ^ 16) (omega arith) ∙ (let e : v3 * 2 ^ 16 * 2 ^ 8 ≡ v3 * 2 ^ 24 = omega arith in e) in
    let four = row_3 v0 (omega arith) in
    let three : get_or (row 2) v1 0 ≡ z (z (z (z (v1 * 2 ^ 16)))) = row_2 v1 (omega arith) ∙ ap (λ y. z (z (z y))) (sym up1) in
    let two : get_or (row 1) v2 0 ≡ z (z (z (z (v2 * 2 ^ 8)))) = row_1 v2 (omega arith) ∙ ap (λ y. z (z y)) (sym up2) ∙ ap (λ y. z (z (z y))) (sym low2) in
    let one : get_or (row 0) v3 0 ≡ z (z (z (z v3))) = row_0 v3 (omega arith) ∙ ap z (sym up3) ∙ ap (λ y. z (z y)) (sym mid3) ∙ ap (λ y. z (z (z y))) (sym low3) in
    both (both (both four three) two) one
    ∙ sym (w-four (v0 * 2 ^ 24) (v1 * 2 ^ 16) (v2 * 2 ^ 8) v3 (omega arith) (omega arith) (omega arith) (omega arith))
    ∙ ap w (by_bytes v h)

-- a table that goes on by one word from another one, whose numbers are of 32 bits
record Follows (next table : List ℕ) : Type 0 where
  each : (i : ℕ) → i < 256 → get_or next i 0 ≡ w (get_or table i 0)
  small : (i : ℕ) → i < 256 → get_or table i 0 < 2 ^ 32

GoesOn : (next table : List ℕ) → ℕ → Bool
unfolding w z zeros
GoesOn next table i = (get_or next i 0 == w (get_or table i 0)) && nat_lt (get_or table i 0) (2 ^ 32)

follows : (next table : List ℕ) → ((i : ℕ) → i < 256 → GoesOn next table i ≡ true) → Follows next table
unfolding GoesOn
follows next table is = record {
  each = λ i h. eqb-true _ _ (and-true (get_or next i 0 == w (get_or table i 0)) (nat_lt (get_or table i 0) (2 ^ 32)) (is i h)).0;
  small = λ i h. ltb-true _ _ (and-true (get_or next i 0 == w (get_or table i 0)) (nat_lt (get_or table i 0) (2 ^ 32)) (is i h)).1;
}
  where
    and-true : (a b : Bool) → (a && b) ≡ true → (a ≡ true) × (b ≡ true)
    and-true true true e = (refl, refl)
    and-true true false e = (refl, e)
    and-true false b e = (e, absurd (false≢true e))

follows_4 : Follows (row 4) (row 0)
unfolding GoesOn w z zeros
follows_4 = follows (row 4) (row 0) (λ i h. agree_below_at (GoesOn (row 4) (row 0)) (λ i. true) 256 i refl h)

follows_5 : Follows (row 5) (row 1)
unfolding GoesOn w z zeros
follows_5 = follows (row 5) (row 1) (λ i h. agree_below_at (GoesOn (row 5) (row 1)) (λ i. true) 256 i refl h)

follows_6 : Follows (row 6) (row 2)
unfolding GoesOn w z zeros
follows_6 = follows (row 6) (row 2) (λ i h. agree_below_at (GoesOn (row 6) (row 2)) (λ i. true) 256 i refl h)

follows_7 : Follows (row 7) (row 3)
unfolding GoesOn w z zeros
follows_7 = follows (row 7) (row 3) (λ i h. agree_below_at (GoesOn (row 7) (row 3)) (λ i. true) 256 i refl h)

follows_8 : Follows (row 8) (row 4)
unfolding GoesOn w z zeros
follows_8 = follows (row 8) (row 4) (λ i h. agree_below_at (GoesOn (row 8) (row 4)) (λ i. true) 256 i refl h)

follows_9 : Follows (row 9) (row 5)
unfolding GoesOn w z zeros
follows_9 = follows (row 9) (row 5) (λ i h. agree_below_at (GoesOn (row 9) (row 5)) (λ i. true) 256 i refl h)

follows_10 : Follows (row 10) (row 6)
unfolding GoesOn w z zeros
follows_10 = follows (row 10) (row 6) (λ i h. agree_below_at (GoesOn (row 10) (row 6)) (λ i. true) 256 i refl h)

follows_11 : Follows (row 11) (row 7)
unfolding GoesOn w z zeros
follows_11 = follows (row 11) (row 7) (λ i h. agree_below_at (GoesOn (row 11) (row 7)) (λ i. true) 256 i refl h)

follows_12 : Follows (row 12) (row 8)
unfolding GoesOn w z zeros
follows_12 = follows (row 12) (row 8) (λ i h. agree_below_at (GoesOn (row 12) (row 8)) (λ i. true) 256 i refl h)

follows_13 : Follows (row 13) (row 9)
unfolding GoesOn w z zeros
follows_13 = follows (row 13) (row 9) (λ i h. agree_below_at (GoesOn (row 13) (row 9)) (λ i. true) 256 i refl h)

follows_14 : Follows (row 14) (row 10)
unfolding GoesOn w z zeros
follows_14 = follows (row 14) (row 10) (λ i h. agree_below_at (GoesOn (row 14) (row 10)) (λ i. true) 256 i refl h)

follows_15 : Follows (row 15) (row 11)
unfolding GoesOn w z zeros
follows_15 = follows (row 15) (row 11) (λ i h. agree_below_at (GoesOn (row 15) (row 11)) (λ i. true) 256 i refl h)

next_rows : (s3 s2 s1 s0 t3 t2 t1 t0 : List ℕ) → Follows s3 t3 → Follows s2 t2 → Follows s1 t1 → Follows s0 t0
    → (v : ℕ) → v < 2 ^ 32 → looked_up s3 s2 s1 s0 v ≡ w (looked_up t3 t2 t1 t0 v)
next_rows s3 s2 s1 s0 t3 t2 t1 t0 f3 f2 f1 f0 v h =
    let v0 = v / 2 ^ 24 in
    let v1 = v / 2 ^ 16 % 2 ^ 8 in
    let v2 = v / 2 ^ 8 % 2 ^ 8 in
    let v3 = v % 2 ^ 8 in
    both (both (both (f3.each v0 (omega arith)) (f2.each v1 (omega arith))) (f1.each v2 (omega arith))) (f0.each v3 (omega arith))
    ∙ sym (w-four (get_or t3 v0 0) (get_or t2 v1 0) (get_or t1 v2 0) (get_or t0 v3 0) (f3.small v0 (omega arith)) (f2.small v1 (omega arith)) (f1.small v2 (omega arith)) (f0.small v3 (omega arith)))

second_rows : (v : ℕ) → v < 2 ^ 32 → looked_up (row 7) (row 6) (row 5) (row 4) v ≡ w (w v)
second_rows v h = next_rows (row 7) (row 6) (row 5) (row 4) (row 3) (row 2) (row 1) (row 0) follows_7 follows_6 follows_5 follows_4 v h ∙ ap w (first_rows v h)

third_rows : (v : ℕ) → v < 2 ^ 32 → looked_up (row 11) (row 10) (row 9) (row 8) v ≡ w (w (w v))
third_rows v h = next_rows (row 11) (row 10) (row 9) (row 8) (row 7) (row 6) (row 5) (row 4) follows_11 follows_10 follows_9 follows_8 v h ∙ ap w (second_rows v h)

fourth_rows : (v : ℕ) → v < 2 ^ 32 → looked_up (row 15) (row 14) (row 13) (row 12) v ≡ w (w (w (w v)))
fourth_rows v h = next_rows (row 15) (row 14) (row 13) (row 12) (row 11) (row 10) (row 9) (row 8) follows_15 follows_14 follows_13 follows_12 v h ∙ ap w (third_rows v h)

pub word_looked_up : (c v : ℕ) → c < 2 ^ 32 → v < 2 ^ 32 → looked_up (row 3) (row 2) (row 1) (row 0) (bit_xor c v) ≡ after_word 31 0x104C11DB7 c v
word_looked_up c v hc hv = first_rows (bit_xor c v) (xor_lt 32 c v hc hv) ∙ sym (word_taken c v hc hv)

-- four words at once
pub words_looked_up : (c v0 v1 v2 v3 : ℕ) → c < 2 ^ 32 → v0 < 2 ^ 32 → v1 < 2 ^ 32 → v2 < 2 ^ 32 → v3 < 2 ^ 32
    → let after = after_word 31 0x104C11DB7 in
    bit_xor (bit_xor (bit_xor (looked_up (row 15) (row 14) (row 13) (row 12) (bit_xor c v0)) (looked_up (row 11) (row 10) (row 9) (row 8) v1)) (looked_up (row 7) (row 6) (row 5) (row 4) v2)) (looked_up (row 3) (row 2) (row 1) (row 0) v3)
    ≡ after (after (after (after c v0) v1) v2) v3
words_looked_up c v0 v1 v2 v3 hc h0 h1 h2 h3 =
    let after = after_word 31 0x104C11DB7 in
    let u0 = bit_xor c v0 in
    let l0 : u0 < 2 ^ 32 = xor_lt 32 c v0 hc h0 in
    let u1 = bit_xor (w u0) v1 in
    let l1 : u1 < 2 ^ 32 = xor_lt 32 (w u0) v1 (w-lt u0 l0) h1 in
    let u2 = bit_xor (w u1) v2 in
    let l2 : u2 < 2 ^ 32 = xor_lt 32 (w u1) v2 (w-lt u1 l1) h2 in
    let u3 = bit_xor (w u2) v3 in
    let taken : after (after (after (after c v0) v1) v2) v3 ≡ w u3 =
    ap (λ r. after (after (after r v1) v2) v3) (word_taken c v0 hc h0)
    ∙ ap (λ r. after (after r v2) v3) (word_taken (w u0) v1 (w-lt u0 l0) h1)
    ∙ ap (λ r. after r v3) (word_taken (w u1) v2 (w-lt u1 l1) h2)
    ∙ word_taken (w u2) v3 (w-lt u2 l2) h3 in
    let one : w u1 ≡ bit_xor (w (w u0)) (w v1) = w-xor (w u0) v1 (w-lt u0 l0) h1 in
    let two : w u2 ≡ bit_xor (bit_xor (w (w (w u0))) (w (w v1))) (w v2) =
    w-xor (w u1) v2 (w-lt u1 l1) h2
    ∙ ap (λ y. bit_xor (w y) (w v2)) one
    ∙ ap (λ y. bit_xor y (w v2)) (w-xor (w (w u0)) (w v1) (w-lt (w u0) (w-lt u0 l0)) (w-lt v1 h1)) in
    let three : w u3 ≡ bit_xor (bit_xor (bit_xor (w (w (w (w u0)))) (w (w (w v1)))) (w (w v2))) (w v3) =
    w-xor (w u2) v3 (w-lt u2 l2) h3
    ∙ ap (λ y. bit_xor (w y) (w v3)) two
    ∙ ap (λ y. bit_xor y (w v3)) (w-three (w (w (w u0))) (w (w v1)) (w v2) (w-lt (w (w u0)) (w-lt (w u0) (w-lt u0 l0))) (w-lt (w v1) (w-lt v1 h1)) (w-lt v2 h2)) in
    both (both (both (fourth_rows u0 l0) (third_rows v1 h1)) (second_rows v2 h2)) (first_rows v3 h3) ∙ sym three ∙ sym taken
  where
    w-three : (a b c : ℕ) → a < 2 ^ 32 → b < 2 ^ 32 → c < 2 ^ 32 → w (bit_xor (bit_xor a b) c) ≡ bit_xor (bit_xor (w a) (w b)) (w c)
    w-three a b c ha hb hc = w-xor (bit_xor a b) c (xor_lt 32 a b ha hb) hc ∙ ap (λ y. bit_xor y (w c)) (w-xor a b ha hb)
