-- The path overhead, row by row.
use Rattle.std.proofs.Common.{◌≡◌, ℕ, ◌+◌, ◌-◌, ◌*◌, ◌≤◌, true, false, List, length, get_or, inl, inr, refl, ap, sym, ◌∙◌, arith}
use Rattle.std.specs.Prelude.{◌&&◌, if◌then◌else◌}
use Rattle.std.proofs.Math.Dec.{eqb, leb}
use Rattle.std.proofs.lemmas.Bool.{cond-true, cond-false}
use Rattle.std.proofs.lemmas.Bool.Decides.{eqb_tells, leb_tells}
use Rattle.frame_geometry.specs.Places.{IsWidth}
use Rattle.frame_overhead.specs.Parity.{parity_of}
use Rattle.frame_overhead.specs.Runs.{IsPut, byte_of}
use Rattle.frame_overhead.proofs.Rows.{same_parity}
use Rattle.odu_path.specs.Path.{path_row, path_byte, HasPath}

both : (a b c d : ℕ) → a ≤ b → c ≤ d → (leb a b && leb c d) ≡ true
both a b c d h k =
    elim (leb_tells a b) [
      | inl t ↦ elim (leb_tells c d) [ inl u ↦ ap (λ x. x && leb c d) t.0 ∙ u.0 | inr u ↦ absurd (omega (arith, k, u.1)) ]
      | inr t ↦ absurd (omega (arith, h, t.1))
    ]

not_both : (a b c d : ℕ) → (a ≤ b → c ≤ d → ⊥) → (leb a b && leb c d) ≡ false
not_both a b c d never =
    elim (leb_tells a b) [
      | inl t ↦ elim (leb_tells c d) [ inl u ↦ absurd (never t.1 u.1) | inr u ↦ ap (λ x. x && leb c d) t.0 ∙ u.0 ]
      | inr t ↦ ap (λ x. x && leb c d) t.0
    ]

in_overhead : (tti bip row col put : ℕ) → 2 ≤ row → col ≤ 14 → path_byte tti bip row col put ≡ (if eqb row 3 then get_or (path_row tti bip) (col - 1) 0 else 0)
in_overhead tti bip row col put low high =
    cond-true (leb 2 row && leb col 14) (if eqb row 3 then get_or (path_row tti bip) (col - 1) 0 else 0) put (both 2 row col 14 low high)

in_rest : (tti bip row col put : ℕ) → (2 ≤ row → col ≤ 14 → ⊥) → path_byte tti bip row col put ≡ put
in_rest tti bip row col put never =
    cond-false (leb 2 row && leb col 14) (if eqb row 3 then get_or (path_row tti bip) (col - 1) 0 else 0) put (not_both 2 row col 14 never)

run_byte : (cols row col : ℕ) (bytes old new : List ℕ) → length bytes ≡ 14 → IsPut cols row 1 bytes old new → 1 ≤ col → col ≤ 14 → byte_of cols row col new ≡ get_or bytes (col - 1) 0
run_byte cols row col bytes old new many is low high =
    let here : col ≡ 1 + (col - 1) = omega (arith, low) in
    ap (λ c. byte_of cols row c new) here ∙ is.run (col - 1) (omega (arith, many, low, high))

pub path_is : (cols tti bip : ℕ) (none old a b new : List ℕ) → length none ≡ 14 → ((k : ℕ) → get_or none k 0 ≡ 0)
    → IsPut cols 2 1 none old a → IsPut cols 3 1 (path_row tti bip) a b → IsPut cols 4 1 none b new → HasPath cols tti bip old new
path_is cols tti bip none old a b new many zero two three four = record {
  size = four.size ∙ three.size ∙ two.size;
  byte = λ row col place. elim (leb_tells col 14) [
    | inr beyond ↦
        let right : 1 + 14 ≤ col = omega (arith, beyond.1) in
        let past : 1 + length none ≤ col = omega (arith, many, beyond.1) in
        four.others row col place (inr (inr past)) ∙ three.others row col place (inr (inr right)) ∙ two.others row col place (inr (inr past))
        ∙ sym (in_rest tti bip row col (byte_of cols row col old) (λ _ inside. omega (arith, beyond.1, inside)))
    | inl inside ↦ elim (eqb_tells row 4) [
      | inl r ↦ ap (λ n. byte_of cols n col new) r.1 ∙ run_byte cols 4 col none b new many four place.col_low inside.1 ∙ zero (col - 1)
          ∙ sym (in_overhead tti bip row col (byte_of cols row col old) (omega (arith, r.1)) inside.1
          ∙ ap (λ n. if eqb n 3 then get_or (path_row tti bip) (col - 1) 0 else 0) r.1)
      | inr r ↦ four.others row col place (inl r.1) ∙ elim (eqb_tells row 3) [
        | inl s ↦ ap (λ n. byte_of cols n col b) s.1 ∙ run_byte cols 3 col (path_row tti bip) a b refl three place.col_low inside.1
            ∙ sym (in_overhead tti bip row col (byte_of cols row col old) (omega (arith, s.1)) inside.1
            ∙ ap (λ n. if eqb n 3 then get_or (path_row tti bip) (col - 1) 0 else 0) s.1)
        | inr s ↦ three.others row col place (inl s.1) ∙ elim (eqb_tells row 2) [
          | inl t ↦ ap (λ n. byte_of cols n col a) t.1 ∙ run_byte cols 2 col none old a many two place.col_low inside.1 ∙ zero (col - 1)
              ∙ sym (in_overhead tti bip row col (byte_of cols row col old) (omega (arith, t.1)) inside.1
              ∙ ap (λ n. if eqb n 3 then get_or (path_row tti bip) (col - 1) 0 else 0) t.1)
          | inr t ↦ two.others row col place (inl t.1)
              ∙ sym (in_rest tti bip row col (byte_of cols row col old) (λ low _. omega (arith, r.1, s.1, t.1, low, place.row_high)))
        ]
      ]
    ]
  ];
}

wide : (cols : ℕ) → IsWidth cols → 3824 ≤ cols
wide cols width = elim width [ inl e ↦ omega (arith, e) | inr e ↦ omega (arith, e) ]

-- the overhead leaves the OPU area, and so the parity
pub path_parity : (cols tti bip : ℕ) (old new : List ℕ) → IsWidth cols → length old ≡ 4 * cols → HasPath cols tti bip old new → parity_of cols new ≡ parity_of cols old
path_parity cols tti bip old new width size has =
    same_parity cols old new (wide cols width) size (has.size ∙ size) (λ row col low high left right.
    has.byte row col (record { row_low = low; row_high = high; col_low = omega (arith, left); col_high = (let w = wide cols width in omega (arith, right, w)) })
    ∙ in_rest tti bip row col (byte_of cols row col old) (λ _ inside. omega (arith, left, inside)))
