-- The text of a list, as far as it is read.
use Rattle.std.proofs.Common.{◌≡◌, ◌<◌, ◌≤◌, ◌+◌, ◌-◌, ◌==◌, ◌∙◌, ℕ, false, List, [], ◌∷◌, ◌++◌, length, map, take, drop, refl, sym, ap, subst, arith, length-drop, append-nil}
use Rattle.std.specs.Fmt.{decimal}
use Rattle.std.specs.List.{slice_split, position_or_len}
use Rattle.std.proofs.Math.Seq.{take-length}
use Rattle.std.proofs.lemmas.List.{drop-drop}
use Rattle.std.proofs.lemmas.List.Elements.{All-nil, All-head, All-tail, All-push, All-from_get_or}
use Rattle.std.proofs.lemmas.List.Sums.{fails_before_first}
use Rattle.std.proofs.lemmas.List.Splits.{slice_split_none, slice_split_first}
use Rattle.number_lists.specs.NumberLists.{IsNumberList, numbers_text}
use Rattle.number_lists.proofs.NumberLists.{AreBelow, parts_of_list, text_of_parts}

-- ---- what is left to read of it

-- the numbers of a list that stand behind those that were read
record Left (limit : ℕ) (done : List ℕ) (rest : List (List ℕ)) (numbers : List ℕ) : Type 0 where
  pub more : List ℕ
  pub parts : rest ≡ map decimal more
  pub many : length numbers ≡ length done + length more
  pub below : AreBelow limit more

left_of : (limit : ℕ) (done : List ℕ) (rest : List (List ℕ)) (numbers : List ℕ) → AreBelow limit numbers → map decimal numbers ≡ map decimal done ++ rest → Left limit done rest numbers
left_of limit [] rest numbers few e = record { more = numbers; parts = sym e; many = omega arith; below = few }
left_of limit (n ∷ done) rest [] few e = absurd (cc)
left_of limit (n ∷ done) rest (number ∷ numbers) few e =
    let behind : map decimal numbers ≡ map decimal done ++ rest = cc in
    let l = left_of limit done rest numbers (All-tail (λ n. n < limit) number numbers few) behind in
    record { more = l.more; parts = l.parts; many = (let m = l.many in omega arith); below = l.below }

-- the first of some parts is no number, or there is no room for it: so they are not those of a list
no_part : (limit most : ℕ) (done first : List ℕ) (rest : List (List ℕ)) (numbers : List ℕ) → IsNumberList limit most numbers → map decimal numbers ≡ map decimal done ++ first ∷ rest
    → ((n : ℕ) → first ≡ decimal n → n < limit → length done ≡ most) → ⊥
no_part limit most done first rest numbers h e none = go l.more l.parts l.many l.below
  where
    l : Left limit done (first ∷ rest) numbers
    l = left_of limit done (first ∷ rest) numbers h.below e

    go : (more : List ℕ) → first ∷ rest ≡ map decimal more → length numbers ≡ length done + length more → AreBelow limit more → ⊥
    go [] parts many below = absurd (cc)
    go (n ∷ more) parts many below =
        let is : first ≡ decimal n = cc in
        let full = none n is (All-head (λ n. n < limit) n more below) in
        let few = h.few in
        omega arith

-- ---- steps of the reader

-- the numbers that were read so far are those of the first parts
pub record ReadSo (limit : ℕ) (text done rest : List ℕ) : Type 0 where
  pub parts : slice_split (λ byte. byte == 44) text ≡ map decimal done ++ slice_split (λ byte. byte == 44) rest
  pub below : AreBelow limit done

pub none_read : (limit : ℕ) (text : List ℕ) → ReadSo limit text [] text
none_read limit text = record { parts = refl; below = All-nil (λ n. n < limit) }

-- where a comma is left
comma_left : (rest : List ℕ) (comma : ℕ) → comma ≡ position_or_len (λ byte. byte == 44) rest → comma < length rest
    → slice_split (λ byte. byte == 44) rest ≡ take comma rest ∷ slice_split (λ byte. byte == 44) (drop (comma + 1) rest)
comma_left rest comma is less =
    slice_split_first (λ byte. byte == 44) rest 0 (subst (λ n. n < length rest) is less)
    ∙ ap (λ n. take n rest ∷ slice_split (λ byte. byte == 44) (drop (n + 1) rest)) (sym is)

-- and where none is
none_left : (rest : List ℕ) (comma : ℕ) → comma ≡ position_or_len (λ byte. byte == 44) rest → length rest ≤ comma → slice_split (λ byte. byte == 44) rest ≡ rest ∷ []
none_left rest comma is all =
    slice_split_none (λ byte. byte == 44) rest
    (All-from_get_or (λ byte. (byte == 44) ≡ false) rest 0 (λ k less. fails_before_first (λ byte. byte == 44) rest k 0 (omega (arith, is, all, less))))

parts_of_text : (limit most : ℕ) (text numbers : List ℕ) → limit ≤ 256 → IsNumberList limit most numbers → text ≡ numbers_text numbers
    → map decimal numbers ≡ slice_split (λ byte. byte == 44) text
parts_of_text limit most text numbers small h e = sym (ap (slice_split (λ byte. byte == 44)) e ∙ parts_of_list limit numbers small h.some h.below)

-- no list has this text: of its next part
pub no_number : (limit most : ℕ) (text done rest : List ℕ) (comma : ℕ) → limit ≤ 256 → ReadSo limit text done rest → comma ≡ position_or_len (λ byte. byte == 44) rest → comma < length rest
    → ((n : ℕ) → take comma rest ≡ decimal n → n < limit → length done ≡ most) → (numbers : List ℕ) → IsNumberList limit most numbers → text ≡ numbers_text numbers → ⊥
no_number limit most text done rest comma small read is less none numbers h e =
    no_part limit most done (take comma rest) (slice_split (λ byte. byte == 44) (drop (comma + 1) rest)) numbers h
    (parts_of_text limit most text numbers small h e ∙ read.parts ∙ ap (λ parts. map decimal done ++ parts) (comma_left rest comma is less)) none

-- and of its last
pub no_last_number : (limit most : ℕ) (text done rest : List ℕ) (comma : ℕ) → limit ≤ 256 → ReadSo limit text done rest → comma ≡ position_or_len (λ byte. byte == 44) rest → length rest ≤ comma
    → ((n : ℕ) → rest ≡ decimal n → n < limit → length done ≡ most) → (numbers : List ℕ) → IsNumberList limit most numbers → text ≡ numbers_text numbers → ⊥
no_last_number limit most text done rest comma small read is all none numbers h e =
    no_part limit most done rest [] numbers h
    (parts_of_text limit most text numbers small h e ∙ read.parts ∙ ap (λ parts. map decimal done ++ parts) (none_left rest comma is all)) none

map-push : (done : List ℕ) (n : ℕ) (rest : List (List ℕ)) → map decimal (done ++ n ∷ []) ++ rest ≡ map decimal done ++ decimal n ∷ rest
map-push [] n rest = refl
map-push (first ∷ done) n rest = ap (λ parts. decimal first ∷ parts) (map-push done n rest)

-- what stands behind a comma
pub behind_comma : (rest from : List ℕ) (comma : ℕ) → from ≡ take (length rest - comma) (drop comma rest) → comma < length rest → take (length from - 1) (drop 1 from) ≡ drop (comma + 1) rest
behind_comma rest from comma is less =
    let size : length (drop comma rest) ≡ length rest - comma = length-drop comma rest in
    let all : from ≡ drop comma rest = is ∙ ap (λ n. take n (drop comma rest)) (sym size) ∙ take-length (drop comma rest) in
    let one = length-drop 1 (drop comma rest) in
    let long = ap length all in
    let left : length from - 1 ≡ length (drop 1 (drop comma rest)) = omega (arith, one, long) in
    ap (λ xs. take (length from - 1) (drop 1 xs)) all ∙ ap (λ n. take n (drop 1 (drop comma rest))) left ∙ take-length (drop 1 (drop comma rest))
    ∙ drop-drop 1 comma rest

-- one more is read, and its comma
pub read_on : (limit : ℕ) (text done rest now : List ℕ) (comma n : ℕ) → ReadSo limit text done rest → comma ≡ position_or_len (λ byte. byte == 44) rest → comma < length rest
    → take comma rest ≡ decimal n → n < limit → now ≡ done ++ n ∷ [] → (next : List ℕ) → next ≡ drop (comma + 1) rest → ReadSo limit text now next
read_on limit text done rest now comma n read is less first few same next later = subst (ReadSo limit text now) (sym later) (record {
  parts = read.parts ∙ ap (λ parts. map decimal done ++ parts) (comma_left rest comma is less ∙ ap (λ part. part ∷ slice_split (λ byte. byte == 44) (drop (comma + 1) rest)) first)
      ∙ sym (map-push done n (slice_split (λ byte. byte == 44) (drop (comma + 1) rest))) ∙ ap (λ ns. map decimal ns ++ slice_split (λ byte. byte == 44) (drop (comma + 1) rest)) (sym same);
  below = subst (AreBelow limit) (sym same) (All-push (λ n. n < limit) done n read.below few);
})

-- the last one is read
pub all_read : (limit : ℕ) (text done rest now : List ℕ) (comma n : ℕ) → ReadSo limit text done rest → comma ≡ position_or_len (λ byte. byte == 44) rest → length rest ≤ comma
    → rest ≡ decimal n → now ≡ done ++ n ∷ [] → text ≡ numbers_text now
all_read limit text done rest now comma n read is all last same =
    text_of_parts text now
    (read.parts ∙ ap (λ parts. map decimal done ++ parts) (none_left rest comma is all ∙ ap (λ part. part ∷ []) last) ∙ sym (map-push done n [])
    ∙ append-nil (map decimal (done ++ n ∷ [])) ∙ ap (map decimal) (sym same))

pub all_below : (limit most : ℕ) (done now : List ℕ) (n : ℕ) → AreBelow limit done → n < limit → now ≡ done ++ n ∷ [] → length now ≤ most → IsNumberList limit most now
all_below limit most done now n below few same room = record {
  some = push_some done now n same;
  few = room;
  below = subst (AreBelow limit) (sym same) (All-push (λ n. n < limit) done n below few);
}
  where
    push_some : (done now : List ℕ) (n : ℕ) → now ≡ done ++ n ∷ [] → 1 ≤ length now
    push_some [] now n e = (let l = ap length e in omega arith)
    push_some (x ∷ xs) now n e = (let l = ap length e in omega arith)
