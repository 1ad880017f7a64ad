-- Rows, one after another.
use Rattle.std.proofs.Common.{◌≡◌, ◌<◌, ◌≤◌, ◌+◌, ◌-◌, ◌*◌, ◌∙◌, ℕ, zero, suc, List, [], ◌∷◌, ◌++◌, length, take, refl, ap, sym, arith, add-one, append-nil, drop, length-drop}
use Rattle.std.proofs.lemmas.List.{length-take-le}
use Rattle.std.specs.List.{flat_map, range_with_len}
use Rattle.std.proofs.lemmas.Grind.{flat_map-append}
use Rattle.std.proofs.lemmas.Slice.{take-put_mid}
use Rattle.std.proofs.Math.Seq.{take-length}
use borrow.Rule.Slice.PartMut.{put_mid}

-- one number more
pub range-more : (a n : ℕ) → range_with_len a (suc n) ≡ range_with_len a n ++ (a + n) ∷ []
range-more a zero = ap (λ x. x ∷ []) (omega arith)
range-more a (suc n) =
    let next : a + 1 + n ≡ a + suc n = omega arith in
    ap (λ xs. a ∷ xs) (range-more (a + 1) n ∙ ap (λ x. range_with_len (a + 1) n ++ x ∷ []) next)

-- what one number more adds
pub flat_map-range_more : (f : ℕ → List ℕ) (a n : ℕ) → flat_map f (range_with_len a (n + 1)) ≡ flat_map f (range_with_len a n) ++ f (a + n)
flat_map-range_more f a n =
    ap (λ k. flat_map f (range_with_len a k)) (add-one n) ∙ ap (flat_map f) (range-more a n)
    ∙ flat_map-append f (range_with_len a n) ((a + n) ∷ []) ∙ ap (λ xs. flat_map f (range_with_len a n) ++ xs) (append-nil (f (a + n)))

-- a row more of 476 bytes
pub rows_filled : (f : ℕ → List ℕ) (into new : List ℕ) (i : ℕ) → take (i * 476) into ≡ flat_map f (range_with_len 1 i) → length new ≡ 476
    → i < 4 → length into ≡ 1904 → new ≡ f (i + 1)
    → take ((i + 1) * 476) (put_mid (i * 476) (i * 476 + 476 - i * 476) into new) ≡ flat_map f (range_with_len 1 (i + 1))
rows_filled f into new i so_far wide within room is =
    let order : 1 + i ≡ i + 1 = omega arith in
    take-put_mid (i * 476) (i * 476 + 476 - i * 476) into new ((i + 1) * 476) (omega arith) (omega arith)
    ∙ ap (λ xs. xs ++ new) so_far ∙ ap (λ xs. flat_map f (range_with_len 1 i) ++ xs) (is ∙ ap f (sym order)) ∙ sym (flat_map-range_more f 1 i)

-- what is made of each number, one after another, is the same where it is the same at each of them
pub flat_same : (g h : ℕ → List ℕ) (a n : ℕ) → ((x : ℕ) → a ≤ x → x < a + n → g x ≡ h x) → flat_map g (range_with_len a n) ≡ flat_map h (range_with_len a n)
flat_same g h a zero same = refl
flat_same g h a (suc n) same =
    let later = flat_same g h (a + 1) n (λ x low high. same x (omega arith) (omega arith)) in
    ap (λ xs. xs ++ flat_map g (range_with_len (a + 1) n)) (same a (omega arith) (omega arith)) ∙ ap (λ xs. h a ++ xs) later

-- the bytes of a row among those of four
pub part_length : (into : List ℕ) (i : ℕ) → length into ≡ 1904 → i < 4 → length (take (i * 476 + 476 - i * 476) (drop (i * 476) into)) ≡ 476
part_length into i room within =
    let there : i * 476 + 476 - i * 476 ≤ length (drop (i * 476) into) = simp length-drop (omega arith) in
    length-take-le (i * 476 + 476 - i * 476) (drop (i * 476) into) there ∙ omega arith

-- all four rows
pub rows_whole : (f : ℕ → List ℕ) (into : List ℕ) (i : ℕ) → take (i * 476) into ≡ flat_map f (range_with_len 1 i) → i ≡ 4 → length into ≡ 1904
    → into ≡ flat_map f (range_with_len 1 4)
rows_whole f into i so_far last room =
    let all : length into ≡ i * 476 = omega arith in
    sym (take-length into) ∙ ap (λ n. take n into) all ∙ so_far ∙ ap (λ n. flat_map f (range_with_len 1 n)) last
