-- A change within one byte makes the check wrong.
use Rattle.std.proofs.Common.{◌≡◌, ◌≢◌, ℕ, ◌<◌, [], ◌∷◌, refl, ap, inl, inr, ◌∙◌, sym, arith}
use Rattle.std.specs.Prelude.{bit_xor, ◌==◌}
use Rattle.std.specs.Int.Bits.{xor_self, xor_zero_l, xor_zero_r, xor_assoc}
use Rattle.std.proofs.lemmas.Nat.{xor_lt}
use Rattle.std.proofs.lemmas.Bool.{agree_below_at, eqb-true, eq-eqb}
use Rattle.crc_small.specs.LongDivision.{crc8_of}
use Rattle.crc_small.specs.Changes.{ChangesOneByte}
use Rattle.crc_small.specs.Steps.Shifted.{after_byte}
use Rattle.crc_small.proofs.Linear.{zeros, zeros-xor, zeros-lt}
use Rattle.crc_small.proofs.Register.{generator_8, shifted_8, crc8-two}

-- eight shifts leave nothing but of nothing
shifts_zero : (x : ℕ) → x < 256 → (zeros 8 0x10D 8 x == 0) ≡ (x == 0)
unfolding zeros
shifts_zero x h = agree_below_at (λ x. zeros 8 0x10D 8 x == 0) (λ x. x == 0) 256 x refl h

none_from_xor : (u v : ℕ) → bit_xor u v ≡ 0 → u ≡ v
none_from_xor u v e = sym (xor_zero_r u) ∙ ap (bit_xor u) (sym (xor_self v)) ∙ sym (xor_assoc u v v) ∙ ap (λ x. bit_xor x v) e ∙ xor_zero_l v

-- so different registers stay different
shifts_apart : (u v : ℕ) → u < 256 → v < 256 → zeros 8 0x10D 8 u ≡ zeros 8 0x10D 8 v → u ≡ v
shifts_apart u v hu hv e =
    let together : zeros 8 0x10D 8 (bit_xor u v) ≡ 0 = zeros-xor 8 0x10D 8 u v generator_8.leads hu hv ∙ ap (λ x. bit_xor x (zeros 8 0x10D 8 v)) e ∙ xor_self (zeros 8 0x10D 8 v) in
    none_from_xor u v (eqb-true (bit_xor u v) 0 (sym (shifts_zero (bit_xor u v) (xor_lt 8 u v hu hv)) ∙ eq-eqb (zeros 8 0x10D 8 (bit_xor u v)) 0 together))

after-lt : (c x : ℕ) → c < 256 → x < 256 → after_byte 7 0x10D c x < 256
after-lt c x hc hx = let low = zeros-lt 8 0x10D 8 (bit_xor c x) generator_8.leads (xor_lt 8 c x hc hx) in let same = shifted_8 c x hc hx in omega arith

after_apart : (c x c' x' : ℕ) → c < 256 → x < 256 → c' < 256 → x' < 256 → after_byte 7 0x10D c x ≡ after_byte 7 0x10D c' x' → bit_xor c x ≡ bit_xor c' x'
after_apart c x c' x' hc hx hc' hx' e = shifts_apart (bit_xor c x) (bit_xor c' x') (xor_lt 8 c x hc hx) (xor_lt 8 c' x' hc' hx') (shifted_8 c x hc hx ∙ e ∙ sym (shifted_8 c' x' hc' hx'))

pub same_front : (c x x' : ℕ) → bit_xor c x ≡ bit_xor c x' → x ≡ x'
same_front c x x' e = sym (back x) ∙ ap (bit_xor c) e ∙ back x'
  where
    back : (y : ℕ) → bit_xor c (bit_xor c y) ≡ y
    back y = sym (xor_assoc c c y) ∙ ap (λ z. bit_xor z y) (xor_self c) ∙ xor_zero_l y

same_back : (c c' x : ℕ) → bit_xor c x ≡ bit_xor c' x → c ≡ c'
same_back c c' x e = sym (back c) ∙ ap (λ y. bit_xor y x) e ∙ back c'
  where
    back : (y : ℕ) → bit_xor (bit_xor y x) x ≡ y
    back y = xor_assoc y x x ∙ ap (bit_xor y) (xor_self x) ∙ xor_zero_r y

-- one byte changed changes the check
pub second_changed : (x y y' : ℕ) → x < 256 → y < 256 → y' < 256 → crc8_of (x ∷ y ∷ []) ≡ crc8_of (x ∷ y' ∷ []) → y ≡ y'
second_changed x y y' hx hy hy' e =
    let c = after_byte 7 0x10D 0 x in
    let low : c < 256 = after-lt 0 x (omega arith) hx in
    same_front c y y' (after_apart c y c y' low hy low hy' (crc8-two x y ∙ e ∙ sym (crc8-two x y')))

pub first_changed : (x x' y : ℕ) → x < 256 → x' < 256 → y < 256 → crc8_of (x ∷ y ∷ []) ≡ crc8_of (x' ∷ y ∷ []) → x ≡ x'
first_changed x x' y hx hx' hy e =
    let c = after_byte 7 0x10D 0 x in
    let c' = after_byte 7 0x10D 0 x' in
    let low : c < 256 = after-lt 0 x (omega arith) hx in
    let low' : c' < 256 = after-lt 0 x' (omega arith) hx' in
    let same : c ≡ c' = same_back c c' y (after_apart c y c' y low hy low' hy (crc8-two x y ∙ e ∙ sym (crc8-two x' y))) in
    same_front 0 x x' (after_apart 0 x 0 x' (omega arith) hx (omega arith) hx' same)

-- a change within one of three bytes, of which the third was the check of the first two, makes it wrong
pub change_shows : (x y a b c : ℕ) → x < 256 → y < 256 → a < 256 → b < 256
    → ChangesOneByte (x ∷ y ∷ crc8_of (x ∷ y ∷ []) ∷ []) (a ∷ b ∷ c ∷ []) → c ≢ crc8_of (a ∷ b ∷ [])
change_shows x y a b c hx hy ha hb (inl (other, rest)) e =
    let second : y ≡ b = cc in
    let third : crc8_of (x ∷ y ∷ []) ≡ c = cc in
    other (first_changed x a y hx ha hy (third ∙ e ∙ ap (λ z. crc8_of (a ∷ z ∷ [])) (sym second)))
change_shows x y a b c hx hy ha hb (inr (first, inl (other, rest))) e =
    let third : crc8_of (x ∷ y ∷ []) ≡ c = cc in
    other (second_changed x y b hx hy hb (third ∙ e ∙ ap (λ z. crc8_of (z ∷ b ∷ [])) (sym first)))
change_shows x y a b c hx hy ha hb (inr (first, inr (second, inl (other, rest)))) e =
    other (ap (λ z. crc8_of (z ∷ y ∷ [])) first ∙ ap (λ z. crc8_of (a ∷ z ∷ [])) second ∙ sym e)
change_shows x y a b c hx hy ha hb (inr (first, inr (second, inr (third, none)))) e = none
