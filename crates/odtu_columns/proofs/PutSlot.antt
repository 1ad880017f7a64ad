-- The bytes of one slot of an OTU2, put row by row.
use Rattle.std.proofs.Common.{◌≡◌, ◌⊎◌, inl, inr, ℕ, ◌+◌, ◌-◌, ◌*◌, ◌<◌, ◌≤◌, List, take, drop, get_or, ap, sym, subst, ◌∙◌, arith}
use Rattle.std.proofs.lemmas.List.{get_or-take, get_or-drop}
use Rattle.frame_geometry.specs.Places.{place_of}
use Rattle.odtu_columns.specs.Put.{SlotWasPut}
use Rattle.odtu_columns.proofs.JoinRows.{row_number}

-- those of a row were put
pub record OwnRow (k row : ℕ) (bytes before now : List ℕ) : Type 0 where
  pub put : (cycle : ℕ) → cycle < 476 → get_or now (place_of 4080 row (16 + 8 * cycle + k)) 0 ≡ get_or bytes (476 * (row - 1) + cycle) 0
  pub kept : (place : ℕ) → ((cycle : ℕ) → cycle < 476 → place ≡ place_of 4080 row (16 + 8 * cycle + k) → ⊥) → get_or now place 0 ≡ get_or before place 0

pub four_rows : (k : ℕ) (slots bytes f0 f1 f2 f3 f4 : List ℕ) → 1 ≤ k → k ≤ 8 → get_or slots 0 0 ≡ k
    → OwnRow k 1 bytes f0 f1 → OwnRow k 2 bytes f1 f2 → OwnRow k 3 bytes f2 f3 → OwnRow k 4 bytes f3 f4 → SlotWasPut slots bytes f0 f4
four_rows k slots bytes f0 f1 f2 f3 f4 low high is h1 h2 h3 h4 = record {
  put = λ row cycle first last l.
      subst (λ s. get_or f4 (place_of 4080 row (16 + 8 * cycle + s)) 0 ≡ get_or bytes (476 * (row - 1) + cycle) 0) (sym is) (own row cycle l (row_number row first last));
  kept = λ place none.
      h4.kept place (λ cycle l e. none 4 cycle (omega arith) (omega arith) l (e ∙ ap (λ s. place_of 4080 4 (16 + 8 * cycle + s)) (sym is)))
      ∙ h3.kept place (λ cycle l e. none 3 cycle (omega arith) (omega arith) l (e ∙ ap (λ s. place_of 4080 3 (16 + 8 * cycle + s)) (sym is)))
      ∙ h2.kept place (λ cycle l e. none 2 cycle (omega arith) (omega arith) l (e ∙ ap (λ s. place_of 4080 2 (16 + 8 * cycle + s)) (sym is)))
      ∙ h1.kept place (λ cycle l e. none 1 cycle (omega arith) (omega arith) l (e ∙ ap (λ s. place_of 4080 1 (16 + 8 * cycle + s)) (sym is)));
}
  where
    own : (row cycle : ℕ) → cycle < 476 → (row ≡ 1) ⊎ ((row ≡ 2) ⊎ ((row ≡ 3) ⊎ (row ≡ 4))) → get_or f4 (place_of 4080 row (16 + 8 * cycle + k)) 0 ≡ get_or bytes (476 * (row - 1) + cycle) 0
    own row cycle l (inl one) =
        subst (λ r. get_or f4 (place_of 4080 r (16 + 8 * cycle + k)) 0 ≡ get_or bytes (476 * (r - 1) + cycle) 0) (sym one)
        (h4.kept (place_of 4080 1 (16 + 8 * cycle + k)) (λ y m e. omega arith)
        ∙ h3.kept (place_of 4080 1 (16 + 8 * cycle + k)) (λ y m e. omega arith)
        ∙ h2.kept (place_of 4080 1 (16 + 8 * cycle + k)) (λ y m e. omega arith)
        ∙ h1.put cycle l)
    own row cycle l (inr (inl two)) =
        subst (λ r. get_or f4 (place_of 4080 r (16 + 8 * cycle + k)) 0 ≡ get_or bytes (476 * (r - 1) + cycle) 0) (sym two)
        (h4.kept (place_of 4080 2 (16 + 8 * cycle + k)) (λ y m e. omega arith)
        ∙ h3.kept (place_of 4080 2 (16 + 8 * cycle + k)) (λ y m e. omega arith)
        ∙ h2.put cycle l)
    own row cycle l (inr (inr (inl three))) =
        subst (λ r. get_or f4 (place_of 4080 r (16 + 8 * cycle + k)) 0 ≡ get_or bytes (476 * (r - 1) + cycle) 0) (sym three)
        (h4.kept (place_of 4080 3 (16 + 8 * cycle + k)) (λ y m e. omega arith)
        ∙ h3.put cycle l)
    own row cycle l (inr (inr (inr four))) =
        subst (λ r. get_or f4 (place_of 4080 r (16 + 8 * cycle + k)) 0 ≡ get_or bytes (476 * (r - 1) + cycle) 0) (sym four) (h4.put cycle l)

-- a byte of those of a row
pub own_part : (bytes : List ℕ) (at end cycle : ℕ) → end ≡ at + 476 → cycle < 476 → get_or (take (end - at) (drop at bytes)) (1 * cycle + 0) 0 ≡ get_or bytes (at + cycle) 0
own_part bytes at end cycle e l =
    ap (λ n. get_or (take (end - at) (drop at bytes)) n 0) (let f : 1 * cycle + 0 ≡ cycle = omega arith in f)
    ∙ get_or-take (end - at) (drop at bytes) cycle 0 (omega arith)
    ∙ get_or-drop at bytes cycle 0
