-- Lists of numbers, and their texts.
use Rattle.std.proofs.Common.{◌≡◌, ◌≢◌, ◌<◌, ◌≤◌, ◌==◌, ◌∙◌, ℕ, false, All, List, [], ◌∷◌, length, map, get_or, refl, sym, ap, arith}
use Rattle.std.specs.Fmt.{decimal}
use Rattle.std.specs.Int.{IsInRange}
use Rattle.std.specs.List.{join_with_byte, slice_split}
use Rattle.std.specs.Str.Parse.{AllDigits, digits_value}
use Rattle.std.proofs.lemmas.Bool.Decides.{nat_tests}
use Rattle.std.proofs.lemmas.Fmt.{decimal_injective, decimal_is_IsNumeral}
use Rattle.std.proofs.lemmas.List.Elements.{All-head, All-tail, All-from_get_or}
use Rattle.std.proofs.lemmas.List.Splits.{slice_split_at, slice_split_none, join_with_byte-slice_split}
use Rattle.std.proofs.lemmas.Str.Parse.{IsNumeralModel, not_in_digits, numerals_by_value, tells_digits}
use Rattle.number_lists.specs.NumberLists.{numbers_text}

-- ---- numbers in decimal

digits_own : IsNumeralModel (AllDigits 10) (digits_value 10)
digits_own = numerals_by_value (AllDigits 10) tells_digits

-- a byte that is no digit does not stand in one
pub no_mark : (n mark : ℕ) → n < 256 → (IsInRange 48 57 mark → ⊥) → (i : ℕ) → i < length (decimal n) → get_or (decimal n) i 0 ≢ mark
no_mark n mark few out = not_in_digits digits_own (decimal n) mark (decimal_is_IsNumeral n (omega (arith, few))).0.1 out

is_no_comma : (byte : ℕ) → byte ≢ 44 → (byte == 44) ≡ false
is_no_comma byte other = grind (arith, nat_tests)

no_comma : (n : ℕ) → n < 256 → All (λ byte. (byte == 44) ≡ false) (decimal n)
no_comma n few =
    All-from_get_or (λ byte. (byte == 44) ≡ false) (decimal n) 0
    (λ i less. is_no_comma (get_or (decimal n) i 0) (no_mark n 44 few (λ r. let low = r.0 in let bad : ⊥ = omega arith in bad) i less))

-- ---- the text of a list, cut at its commas

abbrev pub AreBelow : (limit : ℕ) → List ℕ → Type 0
AreBelow limit = All (λ n. n < limit)

parts_of_numbers : (limit number : ℕ) (numbers : List ℕ) → limit ≤ 256 → AreBelow limit (number ∷ numbers)
    → slice_split (λ byte. byte == 44) (numbers_text (number ∷ numbers)) ≡ map decimal (number ∷ numbers)
parts_of_numbers limit number [] small few =
    let low = All-head (λ n. n < limit) number [] few in
    slice_split_none (λ byte. byte == 44) (decimal number) (no_comma number (omega arith))
parts_of_numbers limit number (next ∷ numbers) small few =
    let low = All-head (λ n. n < limit) number (next ∷ numbers) few in
    slice_split_at (λ byte. byte == 44) (decimal number) 44 (numbers_text (next ∷ numbers)) (no_comma number (omega arith)) refl
    ∙ ap (λ parts. decimal number ∷ parts) (parts_of_numbers limit next numbers small (All-tail (λ n. n < limit) number (next ∷ numbers) few))

-- the parts of the text of a list
pub parts_of_list : (limit : ℕ) (numbers : List ℕ) → limit ≤ 256 → 1 ≤ length numbers → AreBelow limit numbers → slice_split (λ byte. byte == 44) (numbers_text numbers) ≡ map decimal numbers
parts_of_list limit [] small some few = absurd (omega arith)
parts_of_list limit (number ∷ numbers) small some few = parts_of_numbers limit number numbers small few

-- a text is that of the numbers in its parts
pub text_of_parts : (text numbers : List ℕ) → slice_split (λ byte. byte == 44) text ≡ map decimal numbers → text ≡ numbers_text numbers
text_of_parts text numbers e = sym (join_with_byte-slice_split 44 text) ∙ ap (join_with_byte 44) e

same_numbers : (limit : ℕ) (xs ys : List ℕ) → limit ≤ 256 → AreBelow limit xs → AreBelow limit ys → map decimal xs ≡ map decimal ys → xs ≡ ys
same_numbers limit [] [] small few least e = refl
same_numbers limit [] (y ∷ ys) small few least e = absurd (cc)
same_numbers limit (x ∷ xs) [] small few least e = absurd (cc)
same_numbers limit (x ∷ xs) (y ∷ ys) small few least e =
    let x_few = All-head (λ n. n < limit) x xs few in
    let y_few = All-head (λ n. n < limit) y ys least in
    let first : decimal x ≡ decimal y = cc in
    let rest : map decimal xs ≡ map decimal ys = cc in
    let same = decimal_injective x y (omega arith) (omega arith) first in
    ap (λ n. n ∷ xs) same ∙ ap (λ ns. y ∷ ns) (same_numbers limit xs ys small (All-tail (λ n. n < limit) x xs few) (All-tail (λ n. n < limit) y ys least) rest)

-- lists of one text are one
pub same_list : (limit : ℕ) (xs ys : List ℕ) → limit ≤ 256 → 1 ≤ length xs → AreBelow limit xs → 1 ≤ length ys → AreBelow limit ys → numbers_text xs ≡ numbers_text ys → xs ≡ ys
same_list limit xs ys small some few other least e =
    same_numbers limit xs ys small few least
    (sym (parts_of_list limit xs small some few) ∙ ap (slice_split (λ byte. byte == 44)) e ∙ parts_of_list limit ys small other least)
