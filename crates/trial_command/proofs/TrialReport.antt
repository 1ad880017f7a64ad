-- What is counted in the text of packets.
use Rattle.std.proofs.Common.{◌≡◌, ◌≢◌, ◌≤◌, ◌<◌, ◌+◌, ◌*◌, ◌==◌, ℕ, true, false, List, [], ◌∷◌, ◌++◌, length, length-append, take, get_or, Some, refl, sym, ap, ◌∙◌, subst, arith, add-one}
use Rattle.std.specs.Prelude.{All, map}
use Rattle.std.specs.List.{AllPass}
use Rattle.std.proofs.lemmas.Bool.Decides.{nat_tests}
use Rattle.std.proofs.lemmas.List.{take_more, take_all}
use Rattle.std.proofs.lemmas.List.Elements.{All-head, All-tail}
use Rattle.std.proofs.lemmas.List.Sums.{sum_by-cons}
use Rattle.hex.specs.Hex.{encode_lower, lower_digits, is_hex_digit}
use Rattle.hex.proofs.HexLemmas.{length-encode_with, decode_of-encode_lower, decode_of-ok}
use Rattle.port_base.specs.Views.{OutView, BaysView, client_out_at}
use Rattle.packet_text.specs.Laws.{IsPacket}
use Rattle.packet_text.specs.PacketText.{packet_line, hex_text}
use Rattle.trial_command.specs.TrialReport.{bytes_of, client_line, client_lines}
use Rattle.trial_command.specs.Steps.TrialReport.{feed, lines_in, bytes_in, text_line}
use Rattle.trial_command.specs.Steps.TrialRuns.{ClientsTold}

lines_append : (xs ys : List ℕ) → lines_in (xs ++ ys) ≡ lines_in xs + lines_in ys
unfolding lines_in
lines_append [] ys = omega arith
lines_append (x ∷ xs) ys = let h = lines_append xs ys in omega arith

one_byte : (byte : ℕ) → lines_in (byte ∷ []) ≡ feed byte
unfolding lines_in
one_byte byte = omega arith

pub feed_few : (byte : ℕ) → feed byte ≤ 1
feed_few byte = grind (arith, nat_tests)

pub lines_none : (text : List ℕ) → lines_in (take 0 text) ≡ 0
unfolding lines_in
lines_none text = refl

pub lines_next : (text : List ℕ) (i : ℕ) → i < length text → lines_in (take (i + 1) text) ≡ lines_in (take i text) + feed (get_or text i 0)
lines_next text i h =
    ap lines_in (take_more text i 0 h) ∙ lines_append (take i text) (get_or text i 0 ∷ []) ∙ ap (λ n. lines_in (take i text) + n) (one_byte (get_or text i 0))

pub lines_all : (text : List ℕ) (i : ℕ) → length text ≤ i → lines_in (take i text) ≡ lines_in text
lines_all text i h = ap lines_in (take_all i text h)

-- ---- the text of packets

same_digit : (x n : ℕ) → x ≡ n → is_hex_digit x ≡ true → is_hex_digit n ≡ true
same_digit x n e h = let P : ℕ → Type 0 = λ k. is_hex_digit k ≡ true in subst P e h

no_feed : (x : ℕ) → is_hex_digit x ≡ true → feed x ≡ 0
no_feed x h =
    let other : x ≢ 10 = λ e. (let bad : is_hex_digit 10 ≡ true = same_digit x 10 e h in cc) in
    let test : (x == 10) ≡ false = grind (arith, nat_tests) in
    rw test refl

digits_in : (s : List ℕ) → AllPass is_hex_digit s → lines_in s ≡ 0
unfolding lines_in
digits_in [] h = refl
digits_in (x ∷ xs) h =
    let here = no_feed x (All-head (λ c. is_hex_digit c ≡ true) x xs h) in
    let rest = digits_in xs (All-tail (λ c. is_hex_digit c ≡ true) x xs h) in
    omega arith

lines_of_packet : (packet : List ℕ) → IsPacket packet → lines_in (packet_line packet) ≡ 1
unfolding lines_in
lines_of_packet packet is =
    let clean = digits_in (encode_lower packet) (decode_of-ok (encode_lower packet) packet (decode_of-encode_lower packet is.bytes)).1 in
    lines_append (encode_lower packet) (10 ∷ []) ∙ (let e : lines_in (encode_lower packet) + 1 ≡ 1 = omega arith in e)

pub long_packet : (packet : List ℕ) → length (packet_line packet) ≡ 2 * length packet + 1
long_packet packet = let size = length-encode_with lower_digits packet in length-append (encode_lower packet) (10 ∷ []) ∙ omega arith

pub lines_of_text : (packets : List (List ℕ)) → All IsPacket packets → lines_in (hex_text packets) ≡ length packets
unfolding lines_in hex_text
lines_of_text [] are = refl
lines_of_text (packet ∷ packets) are =
    let here = lines_of_packet packet (All-head IsPacket packet packets are) in
    let rest = lines_of_text packets (All-tail IsPacket packet packets are) in
    let both = lines_append (packet_line packet) (hex_text packets) in
    omega arith

long_text : (packets : List (List ℕ)) → length (hex_text packets) ≡ 2 * bytes_of packets + length packets
unfolding hex_text
long_text [] = refl
long_text (packet ∷ packets) =
    let here = long_packet packet in
    let rest = long_text packets in
    let both = length-append (packet_line packet) (hex_text packets) in
    let sums = sum_by-cons (λ x. x) (length packet) (map length packets) in
    omega arith

pub text_told : (c : ℕ) (packets : List (List ℕ)) → All IsPacket packets → text_line c (hex_text packets) ≡ client_line c (length packets) (bytes_of packets)
text_told c packets are =
    let lines = lines_of_text packets are in
    let long = long_text packets in
    let bytes : bytes_in (hex_text packets) ≡ bytes_of packets = omega arith in
    ap (λ n. client_line c n (bytes_in (hex_text packets))) lines ∙ ap (client_line c (length packets)) bytes

-- ---- the lines of the clients

pub none_told : (bays : BaysView) (lines : List ℕ) → lines ≡ [] → ClientsTold 0 bays lines
unfolding client_lines
none_told bays lines none = record { told = λ packets got. none }

lines_after : (packets : (c : ℕ) → List (List ℕ)) (n : ℕ) → client_lines packets (n + 1) ≡ client_lines packets n ++ client_line n (length (packets n)) (bytes_of (packets n))
unfolding client_lines
lines_after packets n = ap (client_lines packets) (add-one n)

pub next_told : (n : ℕ) (bays : BaysView) (place : OutView) (text line lines more : List ℕ) → n < 8 → ClientsTold n bays lines → client_out_at bays n ≡ place → place.got ≡ Some text
    → line ≡ text_line n text → more ≡ lines ++ line → ClientsTold (n + 1) bays more
next_told n bays place text line lines more few before is got told push = record {
  told = λ packets came.
      let due = came.each n few in
      let same : text ≡ hex_text (packets n) = (let e : Some text ≡ Some (hex_text (packets n)) = sym got ∙ ap (λ (v : OutView). v.got) (sym is) ∙ due in cc) in
      push
      ∙ ap (λ l. l ++ line) (before.told packets came)
      ∙ ap (λ l. client_lines packets n ++ l) (told ∙ ap (text_line n) same ∙ text_told n (packets n) (came.are n few))
      ∙ sym (lines_after packets n);
}
