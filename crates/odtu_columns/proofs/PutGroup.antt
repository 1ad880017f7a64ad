-- A group written byte by byte.
use Rattle.std.proofs.Common.{◌≡◌, ◌≢◌, ◌⊎◌, inl, inr, ℕ, ◌+◌, ◌<◌, ◌≤◌, List, length, map, get_or, ap, sym, ◌∙◌, arith, get_or-set_same, get_or-set_other}
use Rattle.std.proofs.Math.ListN.{set}
use Rattle.std.proofs.lemmas.List.{length-map, length-set, get_or-map, ext_get_or}
use Rattle.std.specs.Prelude.{All}
use Rattle.frame_geometry.specs.Places.{place_of}

pub group_put_more : (slots bytes frame now : List ℕ) (row first i : ℕ) → All (λ slot. (1 ≤ slot) × (first + slot ≤ 4080)) slots
    → ((j k : ℕ) → j < k → k < length slots → get_or slots j 0 < get_or slots k 0)
    → i < length slots → 1 ≤ row → row ≤ 4 → length frame ≡ 16320
    → now ≡ set frame (place_of 4080 row (first + get_or slots i 0)) (get_or bytes i 0)
    → ((j : ℕ) → j < i → get_or frame (place_of 4080 row (first + get_or slots j 0)) 0 ≡ get_or bytes j 0)
    → (j : ℕ) → j < i + 1 → get_or now (place_of 4080 row (first + get_or slots j 0)) 0 ≡ get_or bytes j 0
group_put_more slots bytes frame now row first i each rising inside low high size is before j l = go (order j i (omega arith))
  where
    order : (j i : ℕ) → j ≤ i → (j ≡ i) ⊎ (j < i)
    order j i h = grind arith

    go : (j ≡ i) ⊎ (j < i) → get_or now (place_of 4080 row (first + get_or slots j 0)) 0 ≡ get_or bytes j 0
    go (inl e) =
        let here = each i 0 inside in
        ap (λ k. get_or now (place_of 4080 row (first + get_or slots k 0)) 0) e
        ∙ ap (λ xs. get_or xs (place_of 4080 row (first + get_or slots i 0)) 0) is
        ∙ get_or-set_same frame (place_of 4080 row (first + get_or slots i 0)) (get_or bytes i 0) 0 (omega arith)
        ∙ ap (λ k. get_or bytes k 0) (sym e)
    go (inr h) =
        let less = rising j i h inside in
        let there = each j 0 (omega arith) in
        let other : place_of 4080 row (first + get_or slots j 0) ≢ place_of 4080 row (first + get_or slots i 0) = λ e. (let bad : ⊥ = omega arith in bad) in
        ap (λ xs. get_or xs (place_of 4080 row (first + get_or slots j 0)) 0) is
        ∙ get_or-set_other frame (place_of 4080 row (first + get_or slots i 0)) (place_of 4080 row (first + get_or slots j 0)) (get_or bytes i 0) 0 other
        ∙ before j h

pub group_kept_more : (slots bytes old frame now : List ℕ) (row first i : ℕ)
    → now ≡ set frame (place_of 4080 row (first + get_or slots i 0)) (get_or bytes i 0)
    → ((place : ℕ) → ((j : ℕ) → j < i → place ≡ place_of 4080 row (first + get_or slots j 0) → ⊥) → get_or frame place 0 ≡ get_or old place 0)
    → (place : ℕ) → ((j : ℕ) → j < i + 1 → place ≡ place_of 4080 row (first + get_or slots j 0) → ⊥) → get_or now place 0 ≡ get_or old place 0
group_kept_more slots bytes old frame now row first i is before place none =
    ap (λ xs. get_or xs place 0) is
    ∙ get_or-set_other frame (place_of 4080 row (first + get_or slots i 0)) place (get_or bytes i 0) 0 (none i (omega arith))
    ∙ before place (λ j l. none j (omega arith))

pub size_before : (frame now : List ℕ) (place byte : ℕ) → now ≡ set frame place byte → length now ≡ 16320 → length frame ≡ 16320
size_before frame now place byte is size = sym (length-set frame place byte) ∙ sym (ap length is) ∙ size

-- a group that was put, read back
pub group_back : (slots bytes now : List ℕ) (row first : ℕ) → length bytes ≡ length slots
    → ((i : ℕ) → i < length slots → get_or now (place_of 4080 row (first + get_or slots i 0)) 0 ≡ get_or bytes i 0)
    → map (λ slot. get_or now (place_of 4080 row (first + slot)) 0) slots ≡ bytes
group_back slots bytes now row first size put =
    let byte : ℕ → ℕ = λ slot. get_or now (place_of 4080 row (first + slot)) 0 in
    ext_get_or 0 (map byte slots) bytes (length-map slots byte ∙ sym size) (λ i h.
    let inside : i < length slots = omega (arith, length-map slots byte) in
    get_or-map byte slots i 0 0 inside ∙ put i inside)
