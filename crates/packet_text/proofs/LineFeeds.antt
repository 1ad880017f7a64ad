-- LF among the lanes of a piece.
use Rattle.std.proofs.Common.{◌≡◌, ◌≢◌, ◌<◌, ◌≤◌, ◌+◌, ◌-◌, ◌*◌, ℕ, suc, Bool, true, false, not, cond, eqb, List, [], ◌∷◌, length, take, drop, get_or, length-drop, arith, refl, sym, ap, ◌∙◌, eqb-true}
use Rattle.std.specs.List.{prefix_len}
use Rattle.std.proofs.lemmas.List.{take_all, take-take, get_or-take}
use Rattle.std.proofs.lemmas.Simd.{first_set_mask_l}
use lib.Count.{count_trailing_zeros}
use Rattle.packet_text.specs.TextLines.{has_lf}
use Rattle.packet_text.specs.Steps.Carrying.{IsFirstLf, lf_bits}
use Rattle.packet_text.proofs.Lists.{first_behind, clean_piece}

abbrev pub is_clean : ℕ → Bool
is_clean x = not (eqb x 10)

pub prefix_clean : (xs : List ℕ) → has_lf (take (prefix_len is_clean xs) xs) ≡ false
unfolding has_lf
prefix_clean [] = refl
prefix_clean (x ∷ xs) = go (eqb x 10) refl (prefix_clean xs)
  where
    go : (t : Bool) → eqb x 10 ≡ t → has_lf (take (prefix_len is_clean xs) xs) ≡ false → has_lf (take (prefix_len is_clean (x ∷ xs)) (x ∷ xs)) ≡ false
    go true e later = rw e refl
    go false e later = let one : 1 + prefix_len is_clean xs ≡ suc (prefix_len is_clean xs) = omega arith in rw (e, one, e) later

pub prefix_stops : (xs : List ℕ) → prefix_len is_clean xs < length xs → get_or xs (prefix_len is_clean xs) 0 ≡ 10
prefix_stops [] h = absurd (omega arith)
prefix_stops (x ∷ xs) h = go (eqb x 10) refl (prefix_stops xs) h
  where
    go : (t : Bool) → eqb x 10 ≡ t → (prefix_len is_clean xs < length xs → get_or xs (prefix_len is_clean xs) 0 ≡ 10)
        → prefix_len is_clean (x ∷ xs) < length (x ∷ xs) → get_or (x ∷ xs) (prefix_len is_clean (x ∷ xs)) 0 ≡ 10
    go true e later h = rw e (eqb-true x 10 e)
    go false e later h =
        let one : 1 + prefix_len is_clean xs ≡ suc (prefix_len is_clean xs) = omega arith in
        let less : 1 + prefix_len is_clean xs < suc (length xs) = rw e at h in
        rw (e, one) (later (omega (arith, less)))

-- no bit: no LF
pub none_found : (xs : List ℕ) → lf_bits xs ≡ 0 → has_lf xs ≡ false
unfolding has_lf
none_found [] e = refl
none_found (x ∷ xs) e = go (eqb x 10) refl (none_found xs)
  where
    go : (t : Bool) → eqb x 10 ≡ t → (lf_bits xs ≡ 0 → has_lf xs ≡ false) → has_lf (x ∷ xs) ≡ false
    go true p later = absurd (let q : 1 + 2 * lf_bits xs ≡ 0 = rw p at e in omega (arith, q))
    go false p later = rw p (later (let q : 0 + 2 * lf_bits xs ≡ 0 = rw p at e in omega (arith, q)))

-- the lowest bit: how many bytes are before the first LF
pub lowest_found : (xs : List ℕ) → length xs ≡ 64 → lf_bits xs ≢ 0 → count_trailing_zeros 64 (lf_bits xs) ≡ prefix_len is_clean xs
lowest_found xs long some =
    go (eqb (lf_bits xs) 0) refl (first_set_mask_l (λ x. eqb x 10) xs 64 long (omega arith))
  where
    go : (t : Bool) → eqb (lf_bits xs) 0 ≡ t → cond (eqb (lf_bits xs) 0) 64 (count_trailing_zeros 64 (lf_bits xs)) ≡ prefix_len is_clean xs
        → count_trailing_zeros 64 (lf_bits xs) ≡ prefix_len is_clean xs
    go true e h = absurd (some (eqb-true _ _ e))
    go false e h = rw e at h

pub none_in_whole : (xs : List ℕ) → length xs ≡ 64 → lf_bits xs ≡ 0 → has_lf (take 64 xs) ≡ false
none_in_whole xs long e = ap has_lf (take_all 64 xs (omega (arith, long))) ∙ none_found xs e

-- the first LF of a piece is the first of all, where the bytes before the piece have none
pub first_in_piece : (bytes : List ℕ) (before clean : ℕ) → before + 64 ≤ length bytes → has_lf (take before bytes) ≡ false → clean < 64
    → has_lf (take clean (take (before + 64 - before) (drop before bytes))) ≡ false → get_or (take (before + 64 - before) (drop before bytes)) clean 0 ≡ 10
    → IsFirstLf bytes (before + clean)
first_in_piece bytes before clean fits h less none here =
    let e : before + 64 - before ≡ 64 = omega arith in
    let rest = drop before bytes in
    first_behind bytes before clean (omega (arith, fits)) h (record {
      within = omega (arith, fits, less, length-drop before bytes);
      clean = ap has_lf (sym (take-take clean 64 rest (omega (arith, less)))) ∙ rw e at none;
      here = sym (get_or-take 64 rest clean 0 less) ∙ rw e at here;
    })

-- a piece without LF
pub piece_more : (bytes : List ℕ) (before clean : ℕ) → before + 64 ≤ length bytes → has_lf (take before bytes) ≡ false → clean ≡ 64
    → has_lf (take clean (take (before + 64 - before) (drop before bytes))) ≡ false → has_lf (take (before + 64) bytes) ≡ false
piece_more bytes before clean fits h whole none =
    let e : before + 64 - before ≡ 64 = omega arith in
    let rest = drop before bytes in
    clean_piece bytes before 64 h (ap (λ n. has_lf (take n rest)) e ∙ ap has_lf (sym (take-take 64 64 rest (omega arith))) ∙ rw (whole, e) at none)
