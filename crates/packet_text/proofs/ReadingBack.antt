-- What is written reads back.
use Rattle.std.proofs.Common.{◌≡◌, ◌≢◌, ◌≤◌, ◌+◌, ◌-◌, ℕ, zero, suc, Bool, true, false, nat_lt, nat_le, ◌&&◌, ◌==◌, if◌then◌else◌, List, [], ◌∷◌, ◌++◌, length, take, slice_index, map, Some, None, arith, refl, ap, subst, ◌∙◌, append_assoc}
use Rattle.std.specs.List.{All, AllPass}
use Rattle.std.proofs.lemmas.List.Elements.{All-head, All-tail}
use Rattle.std.proofs.lemmas.Bool.Decides.{nat_tests}
use Rattle.hex.specs.Hex.{IsBytes, encode_lower, lower_digits, is_hex_digit}
use Rattle.hex.proofs.HexLemmas.{length-encode_with, decode_of-encode_lower, decode_of-ok}
use Rattle.packet_text.specs.TextLines.{has_lf, lines_of}
use Rattle.packet_text.specs.PacketText.{without_cr, bytes_of_line, is_nothing, is_empty_line, empty_lines, line_gives, Ended, behind, with_line, packets_behind, packets_of, hex_text}
use Rattle.packet_text.specs.Laws.{IsPacket, ReadsBack}
use Rattle.packet_text.proofs.Texts.{lines_of-line}
use Rattle.packet_text.proofs.GoingOn.{with_packet}

same_digit : (x n : ℕ) → x ≡ n → is_hex_digit x ≡ true → is_hex_digit n ≡ true
same_digit x n e h = let P : ℕ → Type 0 = λ k. is_hex_digit k ≡ true in subst P e h

digits_clean : (s : List ℕ) → AllPass is_hex_digit s → has_lf s ≡ false
unfolding has_lf
digits_clean [] h = refl
digits_clean (x ∷ xs) h =
    let head : is_hex_digit x ≡ true = All-head (λ c. is_hex_digit c ≡ true) x xs h in
    let rest = digits_clean xs (All-tail (λ c. is_hex_digit c ≡ true) x xs h) in
    let other : x ≢ 10 = λ e. (let bad : is_hex_digit 10 ≡ true = same_digit x 10 e head in cc) in
    let test : (x == 10) ≡ false = grind (arith, nat_tests) in
    rw (test, rest) refl

no_cr : (s : List ℕ) (k : ℕ) → AllPass is_hex_digit s → slice_index s k ≢ 13
no_cr [] k h e = absurd (grind arith)
no_cr (x ∷ xs) zero h e = let head : is_hex_digit x ≡ true = All-head (λ c. is_hex_digit c ≡ true) x xs h in let f : x ≡ 13 = e in (let bad : is_hex_digit 13 ≡ true = same_digit x 13 f head in cc)
no_cr (x ∷ xs) (suc k) h e = no_cr xs k (All-tail (λ c. is_hex_digit c ≡ true) x xs h) e

kept : (s : List ℕ) → AllPass is_hex_digit s → without_cr s ≡ s
unfolding without_cr
kept s h = by_test (nat_lt 0 (length s)) (slice_index s (length s - 1) == 13) (let other = no_cr s (length s - 1) h in grind (arith, nat_tests))
  where
    by_test : (a b : Bool) → b ≡ false → (if a && b then take (length s - 1) s else s) ≡ s
    by_test true true e = absurd (cc)
    by_test true false e = refl
    by_test false b e = refl

digits_of : (packet : List ℕ) → IsBytes packet → AllPass is_hex_digit (encode_lower packet)
digits_of packet h = (decode_of-ok (encode_lower packet) packet (decode_of-encode_lower packet h)).1

line_bytes : (packet : List ℕ) → IsPacket packet → bytes_of_line (encode_lower packet) ≡ Some packet
unfolding bytes_of_line
line_bytes packet h =
    let same = kept (encode_lower packet) (digits_of packet h.bytes) in
    let size = length-encode_with lower_digits packet in
    let most = h.most in
    let test : nat_le (length (encode_lower packet)) 131054 ≡ true = grind (arith, nat_tests) in
    rw (same, test, decode_of-encode_lower packet h.bytes) refl

not_nothing : (s : List ℕ) → 1 ≤ length s → is_nothing s ≡ false
not_nothing [] h = absurd (omega arith)
not_nothing (x ∷ xs) h = refl

line_is : (before : List (List ℕ)) (packet : List ℕ) → IsPacket packet → line_gives before (encode_lower packet) ≡ Some packet
line_is before packet h =
    let same = kept (encode_lower packet) (digits_of packet h.bytes) in
    let size = length-encode_with lower_digits packet in
    let some = h.some in
    let other : is_empty_line (encode_lower packet) ≡ false = rw same (not_nothing (encode_lower packet) (omega arith)) in
    by_test (nat_le 65536 (empty_lines before)) (is_empty_line (encode_lower packet)) other
  where
    by_test : (a b : Bool) → b ≡ false → (if a && b then None else bytes_of_line (encode_lower packet)) ≡ Some packet
    by_test true true e = absurd (cc)
    by_test true false e = line_bytes packet h
    by_test false b e = line_bytes packet h

text_lines : (packets : List (List ℕ)) → All IsPacket packets → lines_of (hex_text packets) ≡ map encode_lower packets
unfolding hex_text lines_of
text_lines [] h = refl
text_lines (packet ∷ packets) h =
    let p = All-head IsPacket packet packets h in
    ap lines_of (append_assoc (encode_lower packet) (10 ∷ []) (hex_text packets)) ∙ lines_of-line (encode_lower packet) (hex_text packets) (digits_clean (encode_lower packet) (digits_of packet p.bytes))
    ∙ ap (λ ls. encode_lower packet ∷ ls) (text_lines packets (All-tail IsPacket packet packets h))

some_packet : (packet : List ℕ) → 1 ≤ length packet → packet ≢ []
some_packet packet h e = absurd (let z = ap length e in omega arith)

all_back : (before packets : List (List ℕ)) → All IsPacket packets → packets_behind before (map encode_lower packets) ≡ record { packets = packets; ending = Ended }
unfolding packets_behind
all_back before [] h = refl
all_back before (packet ∷ packets) h =
    let p = All-head IsPacket packet packets h in
    let next = before ++ encode_lower packet ∷ [] in
    ap (λ g. with_line (length before + 1) g (packets_behind next (map encode_lower packets))) (line_is before packet p)
    ∙ with_packet (length before + 1) packet (packets_behind next (map encode_lower packets)) (some_packet packet p.some)
    ∙ ap (behind (packet ∷ [])) (all_back next packets (All-tail IsPacket packet packets h))

pub reads_back : ReadsBack
unfolding packets_of
reads_back = λ packets h. ap (packets_behind []) (text_lines packets h) ∙ all_back [] packets h
