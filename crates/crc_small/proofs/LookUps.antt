-- A table of eight shifts serves every register.
use Rattle.std.proofs.Common.{◌≡◌, ℕ, zero, suc, ◌+◌, ◌*◌, ◌/◌, ◌%◌, ◌^◌, ◌<◌, ◌≤◌, get_or, [], true, refl, ap, ◌∙◌, sym, subst, arith}
use Rattle.std.specs.Prelude.{bit_xor, ◌==◌}
use Rattle.std.specs.Int.Bits.{xor_zero_r}
use Rattle.std.proofs.lemmas.Nat.{xor_lt, xor_block, pow_pos, pow-add, mod_below, shr_split, shr_below, shl_below}
use Rattle.std.proofs.lemmas.Bool.{agree_below_at, eqb-true}
use Rattle.std.proofs.Math.Nat.{pow-succ', le-mul_of_pos_right, add-mul-mod_self_right, mod-eq_of_lt}
use Rattle.crc_small.specs.declared.tables.TheConstants.{HEADER_STEPS}
use Rattle.crc_small.specs.declared.frame_tables.TheConstants.{FRAME_STEPS}
use Rattle.crc_small.specs.Steps.Shifted.{after_byte}
use Rattle.crc_small.proofs.Linear.{zeros, zeros-xor}
use Rattle.crc_small.proofs.Register.{shift_under, above, generator_16, shifted_16}
use Rattle.crc_small.proofs.Inverted.{generator_32, shifted_32}

-- shifts at which nothing goes out at the top
pub zeros_under : (n g j r : ℕ) → r * 2 ^ j < 2 ^ n → zeros n g j r ≡ r * 2 ^ j
unfolding zeros
zeros_under n g zero r h = let e : r ≡ r * 2 ^ 0 = omega arith in e
zeros_under n g (suc j) r h =
    let double : 2 ^ suc j ≡ 2 * 2 ^ j = pow-succ' 2 j in
    let same : r * 2 ^ suc j ≡ (2 * r) * 2 ^ j = ap (λ y. r * y) double ∙ (let e : r * (2 * 2 ^ j) ≡ (2 * r) * 2 ^ j = omega arith in e) in
    let fits : (2 * r) * 2 ^ j < 2 ^ n = subst (λ y. y < 2 ^ n) same h in
    let least : 2 * r ≤ (2 * r) * 2 ^ j = le-mul_of_pos_right (2 * r) (pow_pos j) in
    ap (zeros n g j) (shift_under n g r (omega arith)) ∙ zeros_under n g j (2 * r) fits ∙ sym same

-- what is shifted out of a register depends on its top byte alone
pub by_top : (k g c x : ℕ) → g / 2 ^ (8 + k) ≡ 1 → c < 2 ^ (8 + k) → x < 2 ^ 8
    → zeros (8 + k) g 8 (bit_xor c (x * 2 ^ k)) ≡ bit_xor (zeros (8 + k) g 8 (bit_xor (c / 2 ^ k) x * 2 ^ k)) ((c * 2 ^ 8) % 2 ^ (8 + k))
by_top k g c x leads hc hx =
    let n = 8 + k in
    let high = c / 2 ^ k in
    let low = c % 2 ^ k in
    let top = bit_xor high x in
    let low_fits : low < 2 ^ k = mod_below c (2 ^ k) (pow_pos k) in
    let high_fits : high < 2 ^ 8 = shr_below c 8 k hc in
    let split : high * 2 ^ k + low ≡ c = shr_split c k in
    let plus : x * 2 ^ k ≡ x * 2 ^ k + 0 = omega arith in
    let parts : bit_xor c (x * 2 ^ k) ≡ bit_xor (top * 2 ^ k) low =
    ap (λ y. bit_xor y (x * 2 ^ k)) (sym split)
    ∙ ap (bit_xor (high * 2 ^ k + low)) plus
    ∙ xor_block k high x low 0 low_fits (pow_pos k)
    ∙ ap (λ y. top * 2 ^ k + y) (xor_zero_r low)
    ∙ sym (above k top low low_fits) in
    let top_fits : top * 2 ^ k < 2 ^ n = shl_below top 8 k (xor_lt 8 high x high_fits hx) in
    let power : 2 ^ 8 * 2 ^ k ≡ 2 ^ n = sym (pow-add 2 8 k) in
    let low_up : low * 2 ^ 8 < 2 ^ n = omega arith in
    let low_in : low < 2 ^ n = omega arith in
    let shifted : c * 2 ^ 8 ≡ low * 2 ^ 8 + high * 2 ^ n = ap (λ y. y * 2 ^ 8) (sym split) ∙ (let e : (high * 2 ^ k + low) * 2 ^ 8 ≡ low * 2 ^ 8 + high * (2 ^ 8 * 2 ^ k) = omega arith in e) ∙ ap (λ y. low * 2 ^ 8 + high * y) power in
    let rest : (c * 2 ^ 8) % 2 ^ n ≡ low * 2 ^ 8 = ap (λ y. y % 2 ^ n) shifted ∙ add-mul-mod_self_right (low * 2 ^ 8) high (2 ^ n) ∙ mod-eq_of_lt low_up in
    ap (zeros n g 8) parts
    ∙ zeros-xor n g 8 (top * 2 ^ k) low leads top_fits low_in
    ∙ ap (bit_xor (zeros n g 8 (top * 2 ^ k))) (zeros_under n g 8 low low_up ∙ sym rest)

header_steps : (i : ℕ) → i < 256 → get_or HEADER_STEPS i 0 ≡ zeros 16 0x11021 8 (i * 2 ^ 8)
unfolding zeros
header_steps i h = eqb-true _ _ (agree_below_at (λ i. get_or HEADER_STEPS i 0 == zeros 16 0x11021 8 (i * 2 ^ 8)) (λ i. true) 256 i refl h)

frame_one : (i : ℕ) → i < 256 → get_or (get_or FRAME_STEPS 0 []) i 0 ≡ zeros 32 0x104C11DB7 8 (i * 2 ^ 24)
unfolding zeros
frame_one i h = eqb-true _ _ (agree_below_at (λ i. get_or (get_or FRAME_STEPS 0 []) i 0 == zeros 32 0x104C11DB7 8 (i * 2 ^ 24)) (λ i. true) 256 i refl h)

pub looked_up_16 : (c x : ℕ) → c < 2 ^ 16 → x < 2 ^ 8
    → bit_xor (get_or HEADER_STEPS (bit_xor (c / 2 ^ 8) x) 0) ((c * 2 ^ 8) % 2 ^ 16) ≡ after_byte 15 0x11021 c x
looked_up_16 c x hc hx =
    ap (λ y. bit_xor y ((c * 2 ^ 8) % 2 ^ 16)) (header_steps (bit_xor (c / 2 ^ 8) x) (xor_lt 8 (c / 2 ^ 8) x (omega arith) hx))
    ∙ sym (by_top 8 0x11021 c x generator_16.leads hc hx)
    ∙ shifted_16 c x hc hx

pub looked_up_32 : (c x : ℕ) → c < 2 ^ 32 → x < 2 ^ 8
    → bit_xor (get_or (get_or FRAME_STEPS 0 []) (bit_xor (c / 2 ^ 24) x) 0) ((c * 2 ^ 8) % 2 ^ 32) ≡ after_byte 31 0x104C11DB7 c x
looked_up_32 c x hc hx =
    ap (λ y. bit_xor y ((c * 2 ^ 8) % 2 ^ 32)) (frame_one (bit_xor (c / 2 ^ 24) x) (xor_lt 8 (c / 2 ^ 24) x (omega arith) hx))
    ∙ sym (by_top 24 0x104C11DB7 c x generator_32.leads hc hx)
    ∙ shifted_32 c x hc hx
