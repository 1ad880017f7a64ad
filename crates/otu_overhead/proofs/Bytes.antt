-- The overhead, run by run.
use Rattle.std.proofs.Common.{◌≡◌, ℕ, ◌+◌, ◌-◌, ◌*◌, ◌<◌, ◌≤◌, true, false, List, length, get_or, inl, inr, ap, sym, ◌∙◌, arith}
use Rattle.std.specs.Prelude.{◌&&◌, if◌then◌else◌}
use Rattle.std.proofs.Math.Dec.{eqb, leb}
use Rattle.std.proofs.lemmas.Bool.{cond-true, cond-false}
use Rattle.std.proofs.lemmas.Bool.Decides.{eqb_tells, leb_tells}
use Rattle.frame_overhead.specs.Parity.{parity_of}
use Rattle.frame_overhead.specs.Runs.{IsPlace, IsPut, byte_of}
use Rattle.frame_overhead.proofs.Rows.{same_parity}
use Rattle.otu_overhead.specs.Section.{section_row, otu_byte, HasSection}

not_both : (a b c d : ℕ) → (a ≡ b → c ≤ d → ⊥) → (eqb a b && leb c d) ≡ false
not_both a b c d never =
    elim (eqb_tells a b) [
      | inl t ↦ elim (leb_tells c d) [ inl u ↦ absurd (never t.1 u.1) | inr u ↦ ap (λ x. x && leb c d) t.0 ∙ u.0 ]
      | inr t ↦ ap (λ x. x && leb c d) t.0
    ]

is_below : (a b : ℕ) → a ≤ b → leb a b ≡ true
is_below a b h = elim (leb_tells a b) [ inl t ↦ t.0 | inr t ↦ absurd (omega (arith, h, t.1)) ]

is_above : (a b : ℕ) → b < a → leb a b ≡ false
is_above a b h = elim (leb_tells a b) [ inl t ↦ absurd (omega (arith, h, t.1)) | inr t ↦ t.0 ]

in_section : (mfas tti bip col put : ℕ) → col ≤ 14 → otu_byte mfas tti bip 1 col put ≡ get_or (section_row mfas tti bip) (col - 1) 0
in_section mfas tti bip col put h =
    cond-true (leb col 14) (get_or (section_row mfas tti bip) (col - 1) 0) (if leb 3825 col then 0 else put) (is_below col 14 h)

in_fec : (mfas tti bip row col put : ℕ) → 3825 ≤ col → otu_byte mfas tti bip row col put ≡ 0
in_fec mfas tti bip row col put h =
    cond-false (eqb row 1 && leb col 14) (get_or (section_row mfas tti bip) (col - 1) 0) (if leb 3825 col then 0 else put) (not_both row 1 col 14 (λ _ low. omega (arith, h, low)))
    ∙ cond-true (leb 3825 col) 0 put (is_below 3825 col h)

in_rest : (mfas tti bip row col put : ℕ) → (row ≡ 1 → col ≤ 14 → ⊥) → col < 3825 → otu_byte mfas tti bip row col put ≡ put
in_rest mfas tti bip row col put never h =
    cond-false (eqb row 1 && leb col 14) (get_or (section_row mfas tti bip) (col - 1) 0) (if leb 3825 col then 0 else put) (not_both row 1 col 14 never)
    ∙ cond-false (leb 3825 col) 0 put (is_above 3825 col h)

-- the FEC columns of a row
fec_byte : (row col : ℕ) (fec old new : List ℕ) → length fec ≡ 256 → ((k : ℕ) → get_or fec k 0 ≡ 0) → IsPut 4080 row 3825 fec old new → 3825 ≤ col → col ≤ 4080
    → byte_of 4080 row col new ≡ 0
fec_byte row col fec old new many zero is low high =
    let here : col ≡ 3825 + (col - 3825) = omega (arith, low) in
    ap (λ c. byte_of 4080 row c new) here ∙ is.run (col - 3825) (omega (arith, many, low, high)) ∙ zero (col - 3825)

pub section_is : (mfas tti bip : ℕ) (fec old a b c d new : List ℕ) → length fec ≡ 256 → ((k : ℕ) → get_or fec k 0 ≡ 0)
    → IsPut 4080 1 1 (section_row mfas tti bip) old a → IsPut 4080 1 3825 fec a b → IsPut 4080 2 3825 fec b c → IsPut 4080 3 3825 fec c d → IsPut 4080 4 3825 fec d new
    → HasSection mfas tti bip old new
section_is mfas tti bip fec old a b c d new many zero head one two three four =
    let kept : (row col : ℕ) → IsPlace 4080 row col → col < 3825 → byte_of 4080 row col new ≡ byte_of 4080 row col a =
    λ row col place left.
    four.others row col place (inr (inl left)) ∙ three.others row col place (inr (inl left)) ∙ two.others row col place (inr (inl left)) ∙ one.others row col place (inr (inl left)) in
    let cleared : (row col : ℕ) → IsPlace 4080 row col → 3825 ≤ col → byte_of 4080 row col new ≡ 0 =
    λ row col place low. elim (eqb_tells row 4) [
      | inl r ↦ ap (λ n. byte_of 4080 n col new) r.1 ∙ fec_byte 4 col fec d new many zero four low place.col_high
      | inr r ↦ four.others row col place (inl r.1) ∙ elim (eqb_tells row 3) [
        | inl s ↦ ap (λ n. byte_of 4080 n col d) s.1 ∙ fec_byte 3 col fec c d many zero three low place.col_high
        | inr s ↦ three.others row col place (inl s.1) ∙ elim (eqb_tells row 2) [
          | inl t ↦ ap (λ n. byte_of 4080 n col c) t.1 ∙ fec_byte 2 col fec b c many zero two low place.col_high
          | inr t ↦ two.others row col place (inl t.1)
              ∙ ap (λ n. byte_of 4080 n col b) (let first : row ≡ 1 = omega (arith, r.1, s.1, t.1, place.row_low, place.row_high) in first)
              ∙ fec_byte 1 col fec a b many zero one low place.col_high
        ]
      ]
    ] in record {
      size = four.size ∙ three.size ∙ two.size ∙ one.size ∙ head.size;
      byte = λ row col place. elim (leb_tells 3825 col) [
        | inl fec_side ↦ cleared row col place fec_side.1 ∙ sym (in_fec mfas tti bip row col (byte_of 4080 row col old) fec_side.1)
        | inr left ↦ kept row col place left.1 ∙ elim (eqb_tells row 1) [
          | inr other ↦ head.others row col place (inl other.1)
              ∙ sym (in_rest mfas tti bip row col (byte_of 4080 row col old) (λ first _. absurd (other.1 first)) left.1)
          | inl first ↦ elim (leb_tells col 14) [
            | inl inside ↦
                let here : col ≡ 1 + (col - 1) = omega (arith, place.col_low) in
                ap (λ n. byte_of 4080 n col a) first.1 ∙ ap (λ n. byte_of 4080 1 n a) here
                ∙ head.run (col - 1) (omega (arith, inside.1, place.col_low))
                ∙ sym (in_section mfas tti bip col (byte_of 4080 row col old) inside.1)
                ∙ sym (ap (λ n. otu_byte mfas tti bip n col (byte_of 4080 row col old)) first.1)
            | inr beyond ↦ head.others row col place (inr (inr (omega (arith, beyond.1))))
                ∙ sym (in_rest mfas tti bip row col (byte_of 4080 row col old) (λ _ inside. omega (arith, beyond.1, inside)) left.1)
          ]
        ]
      ];
    }

-- the overhead leaves the OPU area, and so the parity
pub section_parity : (mfas tti bip : ℕ) (old new : List ℕ) → length old ≡ 4 * 4080 → HasSection mfas tti bip old new → parity_of 4080 new ≡ parity_of 4080 old
section_parity mfas tti bip old new size has =
    same_parity 4080 old new (omega arith) size (has.size ∙ size) (λ row col low high left right.
    has.byte row col (record { row_low = low; row_high = high; col_low = omega (arith, left); col_high = omega (arith, right) })
    ∙ in_rest mfas tti bip row col (byte_of 4080 row col old) (λ _ inside. omega (arith, left, inside)) (omega (arith, right)))
