-- What the mask has in each place, and what is masked twice.
use Rattle.std.proofs.Common.{◌≡◌, ℕ, zero, suc, ◌+◌, ◌-◌, ◌*◌, ◌<◌, Bool, true, false, List, [], ◌∷◌, length, get_or, inl, inr, refl, ap, sym, ◌∙◌, arith}
use Rattle.std.specs.Prelude.{if◌then◌else◌, bit_xor}
use Rattle.std.specs.Int.Bits.{xor_zero_r, xor_assoc, xor_self}
use Rattle.std.proofs.Math.Dec.{leb}
use Rattle.std.proofs.lemmas.Bool.{cond-true, cond-false}
use Rattle.std.proofs.lemmas.Bool.Decides.{leb_tells}
use Rattle.std.proofs.lemmas.List.{ext_get_or}
use Rattle.std.proofs.lemmas.List.FromFn.{get_or-map-range_with_len, length-map-range_with_len}
use Rattle.otu_overhead.specs.Mask.{bits_from, mask_byte, mask}
use Rattle.otu_overhead.specs.Steps.Mask.{masked}

pub length-mask : (scrambled : Bool) → length (mask scrambled) ≡ 16320
unfolding mask
length-mask scrambled = length-map-range_with_len (λ place. if scrambled then mask_byte place else 0) 0 16320

pub get_or-mask : (scrambled : Bool) (place : ℕ) → place < 16320 → get_or (mask scrambled) place 0 ≡ (if scrambled then mask_byte place else 0)
unfolding mask
get_or-mask scrambled place h = get_or-map-range_with_len (λ place. if scrambled then mask_byte place else 0) 0 16320 place place 0 h (omega arith)

-- the mask of a scrambled line, byte by byte
pub mask_is : (bytes : List ℕ) → length bytes ≡ 16320 → ((place : ℕ) → place < 16320 → get_or bytes place 0 ≡ mask_byte place) → bytes ≡ mask true
mask_is bytes size each =
    ext_get_or 0 bytes (mask true) (size ∙ sym (length-mask true)) (λ place h.
    let below : place < 16320 = omega (arith, h, size) in
    each place below ∙ sym (get_or-mask true place below))

mask_fas : (place : ℕ) → place < 6 → mask_byte place ≡ 0
mask_fas place h = elim (leb_tells 6 place) [
  | inl past ↦ absurd (omega (arith, h, past.1))
  | inr below ↦ cond-false (leb 6 place) (bits_from (8 * (place - 6)) 8) 0 below.0
]

mask_behind : (k : ℕ) → mask_byte (6 + k) ≡ bits_from (8 * k) 8
mask_behind k = elim (leb_tells 6 (6 + k)) [
  | inl past ↦ cond-true (leb 6 (6 + k)) (bits_from (8 * (6 + k - 6)) 8) 0 past.0 ∙ ap (λ n. bits_from (8 * n) 8) (let e : 6 + k - 6 ≡ k = omega arith in e)
  | inr below ↦ absurd (omega (arith, below.1))
]

-- the FAS and what is behind it
pub mask_parts : (bytes : List ℕ) → length bytes ≡ 16320 → ((place : ℕ) → place < 6 → get_or bytes place 0 ≡ 0)
    → ((k : ℕ) → k < 16314 → get_or bytes (6 + k) 0 ≡ bits_from (8 * k) 8) → bytes ≡ mask true
mask_parts bytes size fas behind =
    mask_is bytes size (λ place h. elim (leb_tells 6 place) [
      | inr before ↦ fas place before.1 ∙ sym (mask_fas place before.1)
      | inl past ↦
          let here : place ≡ 6 + (place - 6) = omega (arith, past.1) in
          ap (λ n. get_or bytes n 0) here ∙ behind (place - 6) (omega (arith, h, past.1)) ∙ sym (ap (λ n. mask_byte n) here ∙ mask_behind (place - 6))
    ])

pub length-masked : (mask frame : List ℕ) → length (masked mask frame) ≡ length frame
unfolding masked
length-masked mask [] = refl
length-masked [] (x ∷ frame) = refl
length-masked (m ∷ mask) (x ∷ frame) = ap suc (length-masked mask frame)

-- each byte, by the byte of the mask at its place
pub get_or-masked : (mask frame : List ℕ) (i : ℕ) → i < length frame → get_or (masked mask frame) i 0 ≡ bit_xor (get_or frame i 0) (get_or mask i 0)
unfolding masked
get_or-masked mask [] i h = absurd (omega (arith, h))
get_or-masked [] (x ∷ frame) i h = sym (xor_zero_r (get_or (x ∷ frame) i 0))
get_or-masked (m ∷ mask) (x ∷ frame) zero h = refl
get_or-masked (m ∷ mask) (x ∷ frame) (suc i) h = get_or-masked mask frame i (omega (arith, h))

-- what is masked byte by byte
pub masked_is : (mask old new : List ℕ) → length new ≡ length old
    → ((i : ℕ) → i < length old → get_or new i 0 ≡ bit_xor (get_or old i 0) (get_or mask i 0)) → new ≡ masked mask old
masked_is mask old new size each =
    ext_get_or 0 new (masked mask old) (size ∙ sym (length-masked mask old)) (λ i h.
    let below : i < length old = omega (arith, h, size) in
    each i below ∙ sym (get_or-masked mask old i below))

-- masked twice, a frame is as it was
pub masked_twice : (mask frame : List ℕ) → masked mask (masked mask frame) ≡ frame
unfolding masked
masked_twice mask [] = refl
masked_twice [] (x ∷ frame) = refl
masked_twice (m ∷ mask) (x ∷ frame) =
    ap (λ b. b ∷ masked mask (masked mask frame)) (xor_assoc x m m ∙ ap (bit_xor x) (xor_self m) ∙ xor_zero_r x) ∙ ap (λ rest. x ∷ rest) (masked_twice mask frame)

-- the mask of a plain line leaves a frame as it is
pub masked_plain : (frame : List ℕ) → length frame ≡ 16320 → masked (mask false) frame ≡ frame
masked_plain frame size =
    sym (masked_is (mask false) frame frame refl (λ i h.
    let below : i < 16320 = omega (arith, h, size) in
    sym (ap (bit_xor (get_or frame i 0)) (get_or-mask false i below) ∙ xor_zero_r (get_or frame i 0))))

-- where the mask is 0, as over the FAS, a byte stays
pub masked_stays : (mask frame : List ℕ) (i : ℕ) → i < length frame → get_or mask i 0 ≡ 0 → get_or (masked mask frame) i 0 ≡ get_or frame i 0
masked_stays mask frame i h none = get_or-masked mask frame i h ∙ ap (bit_xor (get_or frame i 0)) none ∙ xor_zero_r (get_or frame i 0)
