-- The last eight bytes of a list, by the eight before them.
use Rattle.std.proofs.Common.{◌≡◌, ℕ, ◌+◌, ◌-◌, ◌%◌, ◌^◌, ◌<◌, ◌≤◌, List, [], ◌∷◌, ◌++◌, length, take, drop, inl, inr, ap, ◌∙◌, sym, subst, arith, length-take}
use Rattle.std.specs.Int.{to_be_bytes, w64}
use Rattle.std.proofs.Math.Seq.{take-add}
use Rattle.std.proofs.Math.ListN.{drop_of_length-le, get_or-eq_default}
use Rattle.std.proofs.lemmas.Bool.{cases_lt}
use Rattle.std.proofs.lemmas.List.{take-append-drop, take-append-le, take-take, take_all, take_at, length-take-le, get_or-take, append-nil}
use Rattle.gfp_scrambler.specs.BitList.{AreBytes}
use Rattle.gfp_scrambler.specs.Register.{shifted, last_bits, descrambled}
use Rattle.gfp_scrambler.proofs.EightBytes.{descrambled_word}
use Rattle.gfp_scrambler.proofs.Rules.{older}
use Rattle.gfp_scrambler.proofs.Runs.{descrambled-append, length-descrambled}
use Rattle.gfp_scrambler.proofs.Steps.{last_bits-append}

last_bits-lt : (r : ℕ) (xs : List ℕ) → r < 2 ^ 43 → AreBytes xs → last_bits r xs < 2 ^ 43
unfolding last_bits
last_bits-lt r [] h bytes = h
last_bits-lt r (x ∷ xs) h bytes = last_bits-lt (shifted r x) xs (let b : x < 256 = bytes 0 in omega arith) (older x xs bytes)

front_bytes : (n : ℕ) (xs : List ℕ) → AreBytes xs → AreBytes (take n xs)
front_bytes n xs bytes k = elim (cases_lt k n) [
  | inl front ↦ subst (λ x. x < 256) (sym (get_or-take n xs k 0 front)) (bytes k)
  | inr behind ↦ subst (λ x. x < 256) (sym (get_or-eq_default (take n xs) 0 (let e = length-take n xs in omega arith))) (omega arith)
]

-- the register after a word holds its last bits, whatever came before
after_word : (r word : ℕ) (front eight : List ℕ) → r < 2 ^ 43 → word < 2 ^ 64 → AreBytes front → to_be_bytes w64 word ≡ eight
    → word % 2 ^ 43 ≡ last_bits r (front ++ eight)
after_word r word front eight small fits bytes is =
    (descrambled_word (last_bits r front) word (last_bits-lt r front small bytes) fits).last
    ∙ ap (last_bits (last_bits r front)) is
    ∙ sym (last_bits-append r front eight)

-- a list, by all but its last bytes and these
by_end : (xs : List ℕ) (n : ℕ) → length xs ≡ n + 8 → take n xs ++ take 8 (drop n xs) ≡ xs
by_end xs n size = sym (take-add n 8 xs) ∙ take_all (n + 8) xs (omega arith)

-- the register before the last bytes, by the word before them
pub before_last : (got : List ℕ) (r before : ℕ) → r < 2 ^ 43 → before < 2 ^ 64 → AreBytes got → 16 ≤ length got
    → to_be_bytes w64 before ≡ take 8 (drop (length got - 8 - 8) got) → before % 2 ^ 43 ≡ last_bits r (take (length got - 8) got)
before_last got r before small fits bytes two is =
    let m = length got - 8 - 8 in
    let e : m + 8 ≡ length got - 8 = omega arith in
    after_word r before (take m got) (take 8 (drop m got)) small fits (front_bytes m got bytes) is
    ∙ ap (last_bits r) (sym (take-add m 8 got) ∙ ap (λ n. take n got) e)

-- and after them, by their own
pub after_last : (got : List ℕ) (r word : ℕ) → r < 2 ^ 43 → word < 2 ^ 64 → AreBytes got → 16 ≤ length got
    → to_be_bytes w64 word ≡ take 8 (drop (length got - 8) got) → word % 2 ^ 43 ≡ last_bits r got
after_last got r word small fits bytes two is =
    let n = length got - 8 in
    after_word r word (take n got) (take 8 (drop n got)) small fits (front_bytes n got bytes) is ∙ ap (last_bits r) (by_end got n (omega arith))

-- all but the last bytes stand plain, and these are put behind them
pub plain_by_end : (got s eight s' : List ℕ) (r last n : ℕ) → length got ≡ n + 8 → length s ≡ n + 8
    → take n s ≡ descrambled r (take n got) → last ≡ last_bits r (take n got) → eight ≡ descrambled last (take 8 (drop n got))
    → s' ≡ take n s ++ (eight ++ drop (n + 8) s) → s' ≡ descrambled r got
plain_by_end got s eight s' r last n size room front before is put =
    let end = take 8 (drop n got) in
    put
    ∙ ap (λ rest. take n s ++ (eight ++ rest)) (drop_of_length-le s (omega arith))
    ∙ ap (λ y. take n s ++ y) (append-nil eight ∙ is ∙ ap (λ x. descrambled x end) before)
    ∙ ap (λ y. y ++ descrambled (last_bits r (take n got)) end) front
    ∙ sym (descrambled-append r (take n got) end)
    ∙ ap (descrambled r) (by_end got n size)

-- the front of what stands plain up to some place is the plain front
pub plain_front : (got s : List ℕ) (r last at n : ℕ) → n ≤ at → at ≤ length s → n ≤ length got → take at s ++ descrambled last (drop at got) ≡ descrambled r got
    → take n s ≡ descrambled r (take n got)
plain_front got s r last at n few within short done =
    let rest = descrambled last (drop at got) in
    let size : length (descrambled r (take n got)) ≡ n = length-descrambled r (take n got) ∙ length-take-le n got short in
    sym (take-take n at s few)
    ∙ sym (take-append-le n (take at s) rest (let e = length-take-le at s within in omega arith))
    ∙ ap (take n) (done ∙ ap (descrambled r) (sym (take-append-drop n got)) ∙ descrambled-append r (take n got) (drop n got))
    ∙ take_at (descrambled r (take n got)) (descrambled (last_bits r (take n got)) (drop n got)) n size
