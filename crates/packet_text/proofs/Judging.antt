-- What a line gives behind others.
use Rattle.std.proofs.Common.{◌≡◌, ◌≢◌, ◌<◌, ◌≤◌, ◌+◌, ◌-◌, ◌^◌, ℕ, min, Bool, true, false, nat_le, ◌&&◌, if◌then◌else◌, List, [], ◌∷◌, ◌++◌, length, take, Some, None, Result, Ok, Err, arith, refl, sym, ap, ◌∙◌, length-append}
use Rattle.std.specs.Prelude.{reverse}
use Rattle.std.proofs.lemmas.List.{reverse-append, length-take-le}
use Rattle.std.proofs.lemmas.List.Sums.{take_while-cons}
use Rattle.std.proofs.lemmas.Bool.Decides.{nat_tests}
use Rattle.hex.specs.Hex.{decode_of, decode_pairs}
use Rattle.hex.specs.declared.error.FromHexError.{FromHexError}
use Rattle.hex.proofs.HexLemmas.{decode_of-ok}
use Rattle.packet_text.specs.PacketText.{without_cr, decoded, bytes_of_line, is_nothing, is_empty_line, empty_lines, line_gives}
use Rattle.packet_text.proofs.LineEnds.{cr_length}
use Rattle.packet_text.specs.LinesStand.{LinesView}
use Rattle.otn_base.specs.Counts.{saturated}
use Rattle.packet_text.specs.Steps.Finding.{Counts, Judges}
use Rattle.packet_text.specs.declared.found.Found.{Found}
use Rattle.packet_text.specs.declared.found.Found.TheVariants as found

reverse-last : (lines : List (List ℕ)) (line : List ℕ) → reverse (lines ++ line ∷ []) ≡ line ∷ reverse lines
reverse-last lines line = reverse-append lines (line ∷ [])

pub empty_lines-empty : (lines : List (List ℕ)) (line : List ℕ) → is_empty_line line ≡ true → empty_lines (lines ++ line ∷ []) ≡ empty_lines lines + 1
unfolding empty_lines
empty_lines-empty lines line e = rw (reverse-last lines line, take_while-cons is_empty_line line (reverse lines), e) (omega arith)

pub empty_lines-other : (lines : List (List ℕ)) (line : List ℕ) → is_empty_line line ≡ false → empty_lines (lines ++ line ∷ []) ≡ 0
unfolding empty_lines
empty_lines-other lines line e = rw (reverse-last lines line, take_while-cons is_empty_line line (reverse lines), e) refl

nothing : (bytes : List ℕ) → length bytes ≡ 0 → is_nothing bytes ≡ true
nothing [] e = refl
nothing (x ∷ xs) e = absurd (omega arith)

none_of : (bytes : List ℕ) → is_nothing bytes ≡ true → bytes ≡ []
none_of [] e = refl
none_of (x ∷ xs) e = absurd (cc)

same_some : (a b : List ℕ) → Some a ≡ Some b → a ≡ b
same_some a b e = cc

-- a line whose digits say no byte is empty
pub empty_from : (line : List ℕ) → bytes_of_line line ≡ Some [] → is_empty_line line ≡ true
unfolding bytes_of_line
empty_from line e = by_test (nat_le (length (without_cr line)) 131054) e
  where
    by_digits : (d : Result (List ℕ) FromHexError) → decode_of (without_cr line) ≡ d → decoded d ≡ Some [] → is_empty_line line ≡ true
    by_digits (Ok bytes) is k = let none : length bytes ≡ 0 = ap length (same_some bytes [] k) in let h = (decode_of-ok (without_cr line) bytes is).2 in nothing (without_cr line) (omega arith)
    by_digits (Err x) is k = absurd (cc)

    by_test : (t : Bool) → (if t then decoded (decode_of (without_cr line)) else None) ≡ Some [] → is_empty_line line ≡ true
    by_test true k = by_digits (decode_of (without_cr line)) refl k
    by_test false k = absurd (cc)

pub empty_gives : (line : List ℕ) → is_empty_line line ≡ true → bytes_of_line line ≡ Some []
unfolding bytes_of_line decode_pairs
empty_gives line e = rw (none_of (without_cr line) e) refl

-- more than 131,055 bytes are no packet
pub long_gives : (line : List ℕ) → 131055 < length line → bytes_of_line line ≡ None
unfolding bytes_of_line
long_gives line long =
    let test : nat_le (length (without_cr line)) 131054 ≡ false = (let h = cr_length line in grind (arith, nat_tests)) in
    rw test refl

pub bad_gives : (lines : List (List ℕ)) (line : List ℕ) → bytes_of_line line ≡ None → line_gives lines line ≡ None
bad_gives lines line e = by_test (nat_le 65536 (empty_lines lines) && is_empty_line line)
  where
    by_test : (t : Bool) → (if t then None else bytes_of_line line) ≡ None
    by_test true = refl
    by_test false = e

-- an empty line is counted, or is one too many
pub judge_empty : (lines : List (List ℕ)) (line text packet : List ℕ) (n : ℕ) (r : Found) (old new : LinesView) → text ≡ line → n ≡ 0 → bytes_of_line text ≡ Some (take n packet) → Counts lines old
    → (65536 ≤ old.empty → (r ≡ found.Bad) × (new.empty ≡ old.empty)) → (old.empty < 65536 → (r ≡ found.Empty) × (new.empty ≡ old.empty + 1))
    → new.number ≡ min (old.number + 1) (2 ^ 64 - 1) → Judges r lines line new
judge_empty lines line text packet n r old new same zero_n gives h bad empty number = by_test (nat_le 65536 (empty_lines lines)) refl
  where
    none : bytes_of_line line ≡ Some []
    none = rw (← same) (gives ∙ ap (λ k. Some (take k packet)) zero_n)

    is_empty : is_empty_line line ≡ true
    is_empty = empty_from line none

    count : new.number ≡ saturated (length lines + 1)
    count = (let e = h.number in omega (arith, number, e))

    by_test : (t : Bool) → nat_le 65536 (empty_lines lines) ≡ t → Judges r lines line new
    by_test true e =
        let many : 65536 ≤ old.empty = (let k = h.empty in grind (arith, nat_tests)) in
        let b = bad many in
        record {
          empty = λ f. absurd (let g = b.0 in cc);
          packet = λ f. absurd (let g = b.0 in cc);
          bad = λ _. (rw (e, is_empty) refl, count);
          open_place = (λ f. (let g = b.0 in cc), λ f. (let g = b.0 in cc));
        }
    by_test false e =
        let few : old.empty < 65536 = (let k = h.empty in grind (arith, nat_tests)) in
        let b = empty few in
        record {
          empty = λ _. (
            rw (e, none) refl,
            record {
              number = rw (length-append lines (line ∷ [])) count;
              empty = b.1 ∙ ap (λ k. k + 1) h.empty ∙ sym (empty_lines-empty lines line is_empty);
            },
          );
          packet = λ f. absurd (let g = b.0 in cc);
          bad = λ f. absurd (let g = b.0 in cc);
          open_place = (λ f. (let g = b.0 in cc), λ f. (let g = b.0 in cc));
        }

-- a line with a packet
pub judge_packet : (lines : List (List ℕ)) (line text packet : List ℕ) (n : ℕ) (old new : LinesView) → text ≡ line → n ≢ 0 → n ≤ length packet → bytes_of_line text ≡ Some (take n packet) → Counts lines old
    → new.packet ≡ take n packet → new.empty ≡ 0 → new.number ≡ min (old.number + 1) (2 ^ 64 - 1) → Judges found.Packet lines line new
judge_packet lines line text packet n old new same some_n room gives h is none_empty number =
    let line_is : bytes_of_line line ≡ Some new.packet = rw (← same) (gives ∙ ap Some (sym is)) in
    let size : length (take n packet) ≡ n = length-take-le n packet room in
    let some : new.packet ≢ [] = λ e. some_n (sym size ∙ ap length (sym is ∙ e)) in
    let other : is_empty_line line ≡ false = by_test (is_empty_line line) refl line_is some in
    record {
      empty = λ f. absurd (cc);
      packet = λ _. (
        by_flag (nat_le 65536 (empty_lines lines)) other line_is,
        some,
        record {
          number = rw (length-append lines (line ∷ [])) (let e = h.number in omega (arith, number, e));
          empty = none_empty ∙ sym (empty_lines-other lines line other);
        },
      );
      bad = λ f. absurd (cc);
      open_place = (λ f. cc, λ f. cc);
    }
  where
    by_test : (t : Bool) → is_empty_line line ≡ t → bytes_of_line line ≡ Some new.packet → new.packet ≢ [] → is_empty_line line ≡ false
    by_test true e k some = absurd (some (same_some new.packet [] (sym k ∙ empty_gives line e)))
    by_test false e k some = e

    by_flag : (t : Bool) → is_empty_line line ≡ false → bytes_of_line line ≡ Some new.packet → (if t && is_empty_line line then None else bytes_of_line line) ≡ Some new.packet
    by_flag true e k = rw e k
    by_flag false e k = k
