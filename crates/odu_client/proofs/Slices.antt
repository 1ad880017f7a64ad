-- Slices that are filled from their front on.
use Rattle.std.proofs.Common.{◌≡◌, ◌≤◌, ◌+◌, ◌-◌, ℕ, List, ◌++◌, length, take, drop, arith, sym, ap, ◌∙◌, length-append, length-drop}
use Rattle.std.proofs.Math.Seq.{take-append-add, take-length}
use Rattle.std.proofs.lemmas.List.{length-take-le}

-- the rest of a slice was filled
pub rest_size : (into sub : List ℕ) (done : ℕ) → done ≤ length into → length sub ≡ length (take (length into - done) (drop done into)) → length (take done into ++ sub) ≡ length into
rest_size into sub done fits size =
    let a = length-append (take done into) sub in
    let b = length-take-le done into fits in
    let c = length-drop done into in
    let d = length-take-le (length into - done) (drop done into) (omega arith) in
    omega arith

pub rest_length : (into : List ℕ) (done : ℕ) → done ≤ length into → length (take (length into - done) (drop done into)) ≡ length into - done
rest_length into done fits = length-take-le (length into - done) (drop done into) (let c = length-drop done into in omega arith)

-- its next bytes
pub rest_more : (into sub : List ℕ) (done more : ℕ) → done ≤ length into → take (done + more) (take done into ++ sub) ≡ take done into ++ take more sub
rest_more into sub done more fits =
    let b : length (take done into) ≡ done = length-take-le done into fits in
    ap (λ k. take (k + more) (take done into ++ sub)) (sym b) ∙ take-append-add (take done into) sub more

pub all_taken : (xs : List ℕ) (n : ℕ) → length xs ≤ n → n ≤ length xs → take n xs ≡ xs
all_taken xs n a b = ap (λ k. take k xs) (let e : n ≡ length xs = omega arith in e) ∙ take-length xs
