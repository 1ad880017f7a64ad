-- Ranges of a list of bytes, one after the other.
use Rattle.std.proofs.Common.{◌≡◌, ℕ, ◌+◌, ◌-◌, ◌≤◌, List, [], ◌++◌, length, take, drop, ap, ◌∙◌, sym, arith}
use Rattle.std.specs.Prelude.{slice_range}
use Rattle.std.proofs.lemmas.List.{take-take, drop-take, drop-drop, take-append-drop, length-take, length-drop}

front_and_more : (n d : ℕ) (ys : List ℕ) → take n ys ++ take d (drop n ys) ≡ take (n + d) ys
front_and_more n d ys =
    ap (λ x. x ++ take d (drop n ys)) (sym (take-take n (n + d) ys (omega arith)))
    ∙ ap (λ y. take n (take (n + d) ys) ++ y) (sym (drop-take n d ys))
    ∙ take-append-drop n (take (n + d) ys)

pub none_between : (xs : List ℕ) (a : ℕ) → slice_range xs a a ≡ []
none_between xs a = ap (λ n. take n (drop a xs)) (let e : a - a ≡ 0 = omega arith in e)

pub joined : (xs : List ℕ) (a b c : ℕ) → a ≤ b → b ≤ c → slice_range xs a b ++ slice_range xs b c ≡ slice_range xs a c
joined xs a b c h k =
    let place : a + (b - a) ≡ b = omega arith in
    let at : drop b xs ≡ drop (b - a) (drop a xs) = ap (λ n. drop n xs) (sym place) ∙ sym (drop-drop (b - a) a xs) in
    let long : b - a + (c - b) ≡ c - a = omega arith in
    ap (λ ys. take (b - a) (drop a xs) ++ take (c - b) ys) at ∙ front_and_more (b - a) (c - b) (drop a xs) ∙ ap (λ n. take n (drop a xs)) long

-- the front of a range, and what is behind it
pub front_of : (xs : List ℕ) (a b d : ℕ) → a + d ≤ b → take d (slice_range xs a b) ≡ slice_range xs a (a + d)
front_of xs a b d h =
    let long : d ≡ a + d - a = omega arith in
    take-take d (b - a) (drop a xs) (omega arith) ∙ ap (λ n. take n (drop a xs)) long

pub back_of : (xs : List ℕ) (a b d : ℕ) → a + d ≤ b → drop d (slice_range xs a b) ≡ slice_range xs (a + d) b
back_of xs a b d h =
    let long : b - a ≡ d + (b - (a + d)) = omega arith in
    ap (λ n. drop d (take n (drop a xs))) long ∙ drop-take d (b - (a + d)) (drop a xs) ∙ ap (take (b - (a + d))) (drop-drop d a xs)

-- a range from the first byte on
pub from_start : (xs : List ℕ) (k : ℕ) → slice_range xs 0 k ≡ take k xs
from_start xs k = ap (λ n. take n xs) (let e : k - 0 ≡ k = omega arith in e)

pub length-slice : (xs : List ℕ) (a b : ℕ) → b ≤ length xs → length (slice_range xs a b) ≡ b - a
length-slice xs a b h = let one = length-take (b - a) (drop a xs) in let two = length-drop a xs in omega arith

-- the bytes of a group within a front of the list
pub within_front : (bytes : List ℕ) (m x k : ℕ) → x + m ≤ k → take m (drop x (take k bytes)) ≡ take m (drop x bytes)
within_front bytes m x k h =
    let split : k ≡ x + (k - x) = omega arith in
    ap (λ k. take m (drop x (take k bytes))) split ∙ ap (take m) (drop-take x (k - x) bytes) ∙ take-take m (k - x) (drop x bytes) (omega arith)
