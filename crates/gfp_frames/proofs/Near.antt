-- The right header within one bit, by all 32 bits.
use Rattle.std.proofs.Common.{◌≡◌, ℕ, zero, suc, ◌/◌, ◌%◌, ◌^◌, ◌<◌, [], ◌∷◌, Bool, true, false, cond, Option, Some, None, refl, ap, ◌∙◌, sym, arith, inl, inr, ◌⊎◌}
use Rattle.std.specs.Prelude.{bit_xor, ◌==◌}
use Rattle.std.specs.Int.Bits.{xor_self, xor_assoc, xor_zero_l}
use Rattle.std.proofs.Math.Pow.{pow-lt}
use Rattle.std.proofs.lemmas.Nat.{xor_of_32}
use Rattle.std.proofs.lemmas.Bool.{cases_lt, eqb-true, eq-eqb}
use Rattle.crc_small.specs.LongDivision.{crc16_of}
use Rattle.crc_small.specs.Header.{IsRightHeader, IsWithinOneBit}
use Rattle.crc_small.proofs.Header.{at_most_one}
use Rattle.gfp_frames.specs.CoreHeader.{two_bytes, right_pli, first_of, turned_pli, near_pli}

-- ---- right_pli and right headers

chosen : (b : Bool) (x y : ℕ) → cond b (Some x) None ≡ Some y → (b ≡ true) × (x ≡ y)
chosen true x y e = (refl, cc)
chosen false x y e = cc

right_is : (h pli : ℕ) → h < 2 ^ 32 → right_pli h ≡ Some pli → IsRightHeader h × (pli ≡ h / 2 ^ 16)
unfolding right_pli
right_is h pli small e =
    let c = chosen (crc16_of (two_bytes (h / 2 ^ 16)) == h % 2 ^ 16) (h / 2 ^ 16) pli e in
    let check : crc16_of (two_bytes (h / 2 ^ 16)) ≡ h % 2 ^ 16 = eqb-true (crc16_of (two_bytes (h / 2 ^ 16))) (h % 2 ^ 16) c.0 in
    let first : h / 2 ^ 16 / 2 ^ 8 ≡ h / 2 ^ 24 = omega arith in
    ((small, ap (λ x. crc16_of (x ∷ h / 2 ^ 16 % 2 ^ 8 ∷ [])) (sym first) ∙ check), sym c.1)

is_right : (h : ℕ) → IsRightHeader h → right_pli h ≡ Some (h / 2 ^ 16)
unfolding right_pli
is_right h right =
    let first : h / 2 ^ 16 / 2 ^ 8 ≡ h / 2 ^ 24 = omega arith in
    let check : crc16_of (two_bytes (h / 2 ^ 16)) ≡ h % 2 ^ 16 = ap (λ x. crc16_of (x ∷ h / 2 ^ 16 % 2 ^ 8 ∷ [])) first ∙ right.1 in
    ap (λ b. cond b (Some (h / 2 ^ 16)) None) (eq-eqb (crc16_of (two_bytes (h / 2 ^ 16))) (h % 2 ^ 16) check)

-- ---- one bit turned

turned_small : (h place : ℕ) → h < 2 ^ 32 → place < 32 → bit_xor h (2 ^ place) < 2 ^ 32
turned_small h place small within = xor_of_32 h (2 ^ place) small (pow-lt within)

turned_near : (h place : ℕ) → place < 32 → IsWithinOneBit h (bit_xor h (2 ^ place))
turned_near h place within = inr (place, within, sym (xor_assoc h h (2 ^ place)) ∙ ap (λ x. bit_xor x (2 ^ place)) (xor_self h) ∙ xor_zero_l (2 ^ place))

turned_back : (h r n : ℕ) → bit_xor h r ≡ n → r ≡ bit_xor h n
turned_back h r n e = sym (ap (bit_xor h) (sym e) ∙ sym (xor_assoc h h r) ∙ ap (λ x. bit_xor x r) (xor_self h) ∙ xor_zero_l r)

-- ---- the search

first_none : (a b : Option ℕ) → a ≡ None → b ≡ None → first_of a b ≡ None
first_none a b ea eb = ap (λ x. first_of x b) ea ∙ eb

first_some : (a b : Option ℕ) (pli : ℕ) → first_of a b ≡ Some pli → (a ≡ Some pli) ⊎ (b ≡ Some pli)
first_some (Some x) b pli e = inl e
first_some None b pli e = inr e

second_of : (a b : Option ℕ) → first_of a b ≡ None → (a ≡ None) × (b ≡ None)
second_of (Some x) b e = cc
second_of None b e = (refl, e)

none_turned : (n h : ℕ) → ((k : ℕ) → k < n → right_pli (bit_xor h (2 ^ k)) ≡ None) → turned_pli n h ≡ None
unfolding turned_pli
none_turned zero h each = refl
none_turned (suc n) h each = first_none (right_pli (bit_xor h (2 ^ n))) (turned_pli n h) (each n (omega arith)) (none_turned n h (λ k lt. each k (omega arith)))

some_turned : (n h pli : ℕ) → turned_pli n h ≡ Some pli → (k : ℕ) × (k < n) × (right_pli (bit_xor h (2 ^ k)) ≡ Some pli)
unfolding turned_pli
some_turned zero h pli e = cc
some_turned (suc n) h pli e = elim (first_some (right_pli (bit_xor h (2 ^ n))) (turned_pli n h) pli e) [
  | inl here ↦ (n, omega arith, here)
  | inr later ↦ (let s = some_turned n h pli later in (s.0, omega (arith, s.1), s.2))
]

all_turned : (n h k : ℕ) → turned_pli n h ≡ None → k < n → right_pli (bit_xor h (2 ^ k)) ≡ None
unfolding turned_pli
all_turned zero h k e lt = absurd (omega arith)
all_turned (suc n) h k e lt =
    let both = second_of (right_pli (bit_xor h (2 ^ n))) (turned_pli n h) e in
    elim (cases_lt k n) [
      | inl before ↦ all_turned n h k both.1 before
      | inr last ↦ ap (λ i. right_pli (bit_xor h (2 ^ i))) (let e : k ≡ n = omega arith in e) ∙ both.0
    ]

-- ---- near

-- some header within one bit is right
near_some_is : (h pli : ℕ) → h < 2 ^ 32 → near_pli h ≡ Some pli → (r : ℕ) × IsRightHeader r × IsWithinOneBit h r × (pli ≡ r / 2 ^ 16)
unfolding near_pli
near_some_is h pli small e = elim (first_some (right_pli h) (turned_pli 32 h) pli e) [
  | inl itself ↦ (let is = right_is h pli small itself in (h, is.0, inl refl, is.1))
  | inr other ↦ (let s = some_turned 32 h pli other in let is = right_is (bit_xor h (2 ^ s.0)) pli (turned_small h s.0 small s.1) s.2 in (bit_xor h (2 ^ s.0), is.0, turned_near h s.0 s.1, is.1))
]

no_near : (h r : ℕ) → near_pli h ≡ None → IsRightHeader r → IsWithinOneBit h r → ⊥
unfolding near_pli
no_near h r e right near =
    let both = second_of (right_pli h) (turned_pli 32 h) e in
    let found = is_right r right in
    elim near [
      | inl same ↦ (let again : right_pli h ≡ Some (r / 2 ^ 16) = ap right_pli same ∙ found in let none = both.0 in cc)
      | inr (place, within, bits) ↦ (let none = all_turned 32 h place both.1 within in let again : right_pli (bit_xor h (2 ^ place)) ≡ Some (r / 2 ^ 16) = ap right_pli (sym (turned_back h r (2 ^ place) bits)) ∙ found in cc)
    ]

some_or_none : (o : Option ℕ) → (o ≡ None) ⊎ ((x : ℕ) × (o ≡ Some x))
some_or_none None = inl refl
some_or_none (Some x) = inr (x, refl)

pub near_is : (h r : ℕ) → h < 2 ^ 32 → IsRightHeader r → IsWithinOneBit h r
    → ((one other : ℕ) → IsRightHeader one → IsRightHeader other → IsWithinOneBit h one → IsWithinOneBit h other → one ≡ other) → near_pli h ≡ Some (r / 2 ^ 16)
near_is h r small right near one_only = elim (some_or_none (near_pli h)) [
  | inl none ↦ absurd (no_near h r none right near)
  | inr (pli, some) ↦ (let found = near_some_is h pli small some in some ∙ ap Some (found.3 ∙ ap (λ x. x / 2 ^ 16) (one_only found.0 r found.1 right found.2 near)))
]

pub near_none : (h : ℕ) → h < 2 ^ 32 → ((right : ℕ) → IsRightHeader right → IsWithinOneBit h right → ⊥) → near_pli h ≡ None
near_none h small none = elim (some_or_none (near_pli h)) [
  | inl e ↦ e
  | inr (pli, some) ↦ (let found = near_some_is h pli small some in absurd (none found.0 found.1 found.2))
]

-- the law of headers says that there is one at most
pub near_corrected : (h r : ℕ) → h < 2 ^ 32 → IsRightHeader r → IsWithinOneBit h r → near_pli h ≡ Some (r / 2 ^ 16)
near_corrected h r small right near = near_is h r small right near (at_most_one h)
