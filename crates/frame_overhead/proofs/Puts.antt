-- What a frame is after bytes were written into a row.
use Rattle.std.proofs.Common.{◌≡◌, ◌≢◌, ◌⊎◌, ℕ, ◌+◌, ◌-◌, ◌*◌, ◌<◌, ◌≤◌, List, length, get_or, inl, inr, ap, ◌∙◌, arith}
use Rattle.std.proofs.lemmas.Bool.Decides.{leb_tells}
use Rattle.otn_base.specs.declared.limits.TheConstants.{OVERHEAD_COLUMNS}
use Rattle.frame_geometry.specs.Places.{IsWidth, place_of}
use Rattle.frame_overhead.specs.Runs.{IsPlace, IsPut}

-- all places of a row are before those of a later one
row_before : (cols r row c : ℕ) → 1 ≤ r → r < row → c ≤ cols → 1 ≤ c → place_of cols r c < place_of cols row 1
row_before cols r row c low less high from =
    let d = row - r - 1 in
    let later : row - 1 ≡ (r - 1) + (d + 1) = omega (arith, less, low) in
    let wide : cols * (row - 1) ≡ cols * (r - 1) + (cols * d + cols) = rw later (omega arith) in
    omega (arith, wide, high, from)

pub put_is : (cols row col : ℕ) (bytes old new : List ℕ) → 1 ≤ row → row ≤ 4 → 1 ≤ col → col + length bytes ≤ cols + 1 → length new ≡ length old
    → ((k : ℕ) → k < place_of cols row col → get_or new k 0 ≡ get_or old k 0)
    → ((k : ℕ) → k < length bytes → get_or new (place_of cols row col + k) 0 ≡ get_or bytes k 0)
    → ((k : ℕ) → place_of cols row col + length bytes ≤ k → get_or new k 0 ≡ get_or old k 0)
    → IsPut cols row col bytes old new
put_is cols row col bytes old new low high from room size before run after =
    let same : (r c : ℕ) → IsPlace cols r c → (r ≢ row) ⊎ ((c < col) ⊎ (col + length bytes ≤ c)) → get_or new (place_of cols r c) 0 ≡ get_or old (place_of cols r c) 0 =
    λ r c place apart. elim (leb_tells row r) [
      | inr less ↦ before (place_of cols r c) (let a = row_before cols r row c place.row_low less.1 place.col_high place.col_low in omega (arith, a, from))
      | inl geq ↦ elim (leb_tells r row) [
        | inr more ↦ after (place_of cols r c) (let a = row_before cols row r cols low more.1 (omega arith) (omega (arith, place.col_low, place.col_high)) in omega (arith, a, from, room, place.col_low, place.col_high))
        | inl leq ↦
            let equal : r ≡ row = omega (arith, geq.1, leq.1) in
            let where_is : place_of cols r c ≡ place_of cols row c = ap (λ n. place_of cols n c) equal in
            elim apart [
              | inl other ↦ absurd (other equal)
              | inr beside ↦ elim beside [
                | inl left ↦ before (place_of cols r c) (omega (arith, where_is, left, place.col_low))
                | inr right ↦ after (place_of cols r c) (omega (arith, where_is, right, from))
              ]
            ]
      ]
    ] in record {
      run = λ k h. let here : place_of cols row (col + k) ≡ place_of cols row col + k = omega (arith, from) in ap (λ place. get_or new place 0) here ∙ run k h;
      others = same;
      size = size;
    }

-- The same of the first columns of a row, of which every width has 16.
pub put_first : (cols row : ℕ) (bytes old new : List ℕ) → 1 ≤ row → row ≤ 4 → IsWidth cols → length bytes ≤ OVERHEAD_COLUMNS → length new ≡ length old
    → ((k : ℕ) → k < cols * (row - 1) → get_or new k 0 ≡ get_or old k 0)
    → ((k : ℕ) → k < length bytes → get_or new (cols * (row - 1) + k) 0 ≡ get_or bytes k 0)
    → ((k : ℕ) → cols * (row - 1) + length bytes ≤ k → get_or new k 0 ≡ get_or old k 0)
    → IsPut cols row 1 bytes old new
put_first cols row bytes old new low high width few size before run after =
    let start : place_of cols row 1 ≡ cols * (row - 1) = omega arith in
    let room : 1 + length bytes ≤ cols + 1 = elim width [
      | inl line ↦ omega (arith, line, few)
      | inr client ↦ omega (arith, client, few)
    ] in
    put_is cols row 1 bytes old new low high (omega arith) room size
    (λ k h. before k (omega (arith, start, h)))
    (λ k h. ap (λ place. get_or new (place + k) 0) start ∙ run k h)
    (λ k h. after k (omega (arith, start, h)))
