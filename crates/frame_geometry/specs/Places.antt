-- Believed: where the bytes of a frame stand.
use Rattle.std.specs.Prelude.{◌≡◌, ℕ, ◌+◌, ◌-◌, ◌*◌, ◌/◌, ◌%◌, ◌<◌, ◌≤◌, ◌⊎◌, List, ◌++◌, length, take, drop}
use Rattle.std.proofs.Common.{arith, ap, sym, ◌∙◌, add-zero}
use Rattle.std.proofs.Math.Nat.{mul-add-div, mul-add-mod_self_left, div-eq_of_lt, mod-eq_of_lt}
use Rattle.otn_base.specs.declared.limits.TheConstants.{CLIENT_COLUMNS, LINE_COLUMNS, PAYLOAD_COLUMNS}

-- A frame is as wide as a line's frame, OTU2 or OTU3, or as an ODU frame, which has no FEC columns.
abbrev pub IsWidth : ℕ → Type 0
IsWidth cols = (cols ≡ LINE_COLUMNS) ⊎ (cols ≡ CLIENT_COLUMNS)

-- G.709 clause 11.1: four rows, sent one after the other, each from its first column on. Rows and columns count from 1.
abbrev pub place_of : (cols row col : ℕ) → ℕ
place_of cols row col = cols * (row - 1) + (col - 1)

-- G.709 clause 12.1: the payload of a row stands in columns 17 to 3824, whatever follows them.
abbrev pub payload_row_of : (cols row : ℕ) → List ℕ → List ℕ
payload_row_of cols row frame = take PAYLOAD_COLUMNS (drop (place_of cols row 17) frame)

-- The frame after the payload columns of a row were written.
abbrev pub with_payload_row : (cols row : ℕ) → (frame payload : List ℕ) → List ℕ
with_payload_row cols row frame payload = take (place_of cols row 17) frame
    ++ (payload ++ drop (place_of cols row 17 + length payload) frame)

-- Two places are equal only where both the row and the column are.
pub same_place : (cols row col row' col' : ℕ) → 1 ≤ row → 1 ≤ row' → 1 ≤ col → col ≤ cols → 1 ≤ col' → col' ≤ cols
    → place_of cols row col ≡ place_of cols row' col' → (row ≡ row') × (col ≡ col')
same_place cols row col row' col' a b c d e f same =
    let inside : col - 1 < cols = omega arith in
    let inside' : col' - 1 < cols = omega arith in
    let wide : 0 < cols = omega arith in
    let row_is : (d c : ℕ) → c < cols → (cols * d + c) / cols ≡ d = λ d c h. mul-add-div wide d c
    ∙ ap (λ n. d + n) (div-eq_of_lt h) ∙ add-zero d in
    let column_is : (d c : ℕ) → c < cols → (cols * d + c) % cols ≡ c = λ d c h. mul-add-mod_self_left cols d c
    ∙ mod-eq_of_lt h in
    let rows : row - 1 ≡ row' - 1 = sym (row_is (row - 1) (col - 1) inside) ∙ ap (λ place. place / cols) same
    ∙ row_is (row' - 1) (col' - 1) inside' in
    let columns : col - 1 ≡ col' - 1 = sym (column_is (row - 1) (col - 1) inside) ∙ ap (λ place. place % cols) same
    ∙ column_is (row' - 1) (col' - 1) inside' in
    (omega arith, omega arith)
