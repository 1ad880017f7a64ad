-- A capture in the other byte order has the same text.
use Rattle.std.proofs.Common.{◌≡◌, ◌≢◌, ◌⊎◌, inl, inr, ◌<◌, ◌≤◌, ◌+◌, ◌%◌, ℕ, zero, suc, Bool, true, false, ◌&&◌, ◌==◌, nat_le, nat_lt, if◌then◌else◌, List, [], ◌∷◌, ◌++◌, length, take, drop, reverse, Option, Some, None, arith, refl, sym, ap, ◌∙◌, length-append, length-drop}
use Rattle.std.specs.Option.{option_map}
use Rattle.std.proofs.lemmas.Bool.{and_parts, cases_lt, eqb-true}
use Rattle.std.proofs.lemmas.Bool.Decides.{nat_tests}
use Rattle.std.proofs.lemmas.List.{length-take, length-take-le, length-reverse, take-append-drop, drop-drop, take_at, drop_at}
use Rattle.packet_text.specs.PacketText.{packet_line}
use Rattle.pcap_packets.specs.CaptureText.{half_in, number_in, is_magic, is_header, header_order, captured, is_whole_record, packet_in, behind_record, records, records_text, text_behind, capture_text}
use Rattle.pcap_packets.specs.Turned.{other, turned_at, turned_sizes, turned_header, turned_records, turned_behind, turned}
use Rattle.pcap_packets.specs.Laws.{ByteOrderAlike}
use Rattle.pcap_packets.specs.declared.order.ByteOrder.{ByteOrder}
use Rattle.pcap_packets.specs.declared.order.ByteOrder.TheVariants.{LowFirst, HighFirst}
use Rattle.pcap_packets.proofs.Records.{WholeRecord, whole_record, is_whole, not_whole, records_whole, records_bad, number_more, header_more, short_header, capture_short}

-- ---- numbers that are turned, byte by byte

-- sixteen bytes
pub record Sixteen (bytes : List ℕ) : Type 0 where
  pub long : length (turned_sizes bytes) ≡ 16
  pub size : (order : ByteOrder) → captured (other order) (turned_sizes bytes) ≡ captured order bytes

pub sixteen_of : (bytes : List ℕ) → length bytes ≡ 16 → Sixteen bytes
unfolding number_in
sixteen_of (a0 ∷ a1 ∷ a2 ∷ a3 ∷ a4 ∷ a5 ∷ a6 ∷ a7 ∷ a8 ∷ a9 ∷ a10 ∷ a11 ∷ a12 ∷ a13 ∷ a14 ∷ a15 ∷ []) h = record { long = omega arith; size = λ order. elim order as (λ o. captured (other o) (turned_sizes (a0 ∷ a1 ∷ a2 ∷ a3 ∷ a4 ∷ a5 ∷ a6 ∷ a7 ∷ a8 ∷ a9 ∷ a10 ∷ a11 ∷ a12 ∷ a13 ∷ a14 ∷ a15 ∷ [])) ≡ captured o (a0 ∷ a1 ∷ a2 ∷ a3 ∷ a4 ∷ a5 ∷ a6 ∷ a7 ∷ a8 ∷ a9 ∷ a10 ∷ a11 ∷ a12 ∷ a13 ∷ a14 ∷ a15 ∷ [])) [ LowFirst ↦ refl | HighFirst ↦ refl ] }
sixteen_of bytes h = absurd (omega arith)

-- a header of 24 bytes
pub record Header (bytes : List ℕ) : Type 0 where
  pub long : length (turned_header bytes) ≡ 24
  pub same : (order : ByteOrder) → is_header (other order) (turned_header bytes) ≡ is_header order bytes

header_of : (bytes : List ℕ) → length bytes ≡ 24 → Header bytes
unfolding is_header number_in
header_of (a0 ∷ a1 ∷ a2 ∷ a3 ∷ a4 ∷ a5 ∷ a6 ∷ a7 ∷ a8 ∷ a9 ∷ a10 ∷ a11 ∷ a12 ∷ a13 ∷ a14 ∷ a15 ∷ a16 ∷ a17 ∷ a18 ∷ a19 ∷ a20 ∷ a21 ∷ a22 ∷ a23 ∷ []) h = record { long = omega arith; same = λ order. elim order as (λ o. is_header (other o) (turned_header (a0 ∷ a1 ∷ a2 ∷ a3 ∷ a4 ∷ a5 ∷ a6 ∷ a7 ∷ a8 ∷ a9 ∷ a10 ∷ a11 ∷ a12 ∷ a13 ∷ a14 ∷ a15 ∷ a16 ∷ a17 ∷ a18 ∷ a19 ∷ a20 ∷ a21 ∷ a22 ∷ a23 ∷ [])) ≡ is_header o (a0 ∷ a1 ∷ a2 ∷ a3 ∷ a4 ∷ a5 ∷ a6 ∷ a7 ∷ a8 ∷ a9 ∷ a10 ∷ a11 ∷ a12 ∷ a13 ∷ a14 ∷ a15 ∷ a16 ∷ a17 ∷ a18 ∷ a19 ∷ a20 ∷ a21 ∷ a22 ∷ a23 ∷ [])) [ LowFirst ↦ refl | HighFirst ↦ refl ] }
header_of bytes h = absurd (omega arith)

length-turned_at : (at n : ℕ) (bytes : List ℕ) → length (turned_at at n bytes) ≡ length bytes
length-turned_at at n bytes =
    let a = length-append (take at bytes) (reverse (take n (drop at bytes)) ++ drop (at + n) bytes) in
    let b = length-append (reverse (take n (drop at bytes))) (drop (at + n) bytes) in
    let d = length-reverse (take n (drop at bytes)) in
    let e = length-take n (drop at bytes) in
    let f = length-drop at bytes in
    let g = length-drop (at + n) bytes in
    let h = length-take at bytes in
    omega (arith, a, b, d, e, f, g, h)

-- ---- records

length-turned_records : (n : ℕ) (order : ByteOrder) (bytes : List ℕ) → length (turned_records n order bytes) ≡ length bytes
unfolding turned_records
length-turned_records zero order bytes = refl
length-turned_records (suc n) order bytes = by_size (cases_lt (length bytes) 16) (length-turned_records n order (behind_record order bytes))
  where
    by_size : (length bytes < 16) ⊎ (16 ≤ length bytes) → length (turned_records n order (behind_record order bytes)) ≡ length (behind_record order bytes) → length (turned_records (suc n) order bytes) ≡ length bytes
    by_size (inl short) later = let test : nat_lt (length bytes) 16 ≡ true = grind (arith, nat_tests, short) in rw test refl
    by_size (inr long) later =
        let test : nat_lt (length bytes) 16 ≡ false = grind (arith, nat_tests, long) in
        let k = captured order bytes in
        let rest = turned_records n order (behind_record order bytes) in
        let front : length (take 16 bytes) ≡ 16 = length-take-le 16 bytes long in
        let sizes = (sixteen_of (take 16 bytes) front).long in
        let a = length-append (turned_sizes (take 16 bytes)) (packet_in order bytes ++ rest) in
        let b = length-append (packet_in order bytes) rest in
        let d = length-take k (drop 16 bytes) in
        let e = length-drop 16 bytes in
        let f = length-drop (16 + k) bytes in
        rw test (omega (arith, sizes, a, b, d, e, f, later, long))

-- what turned records begin with
pub record Turned (n : ℕ) (order : ByteOrder) (bytes : List ℕ) : Type 0 where
  pub front : List ℕ
  pub long : length front ≡ 16
  pub parts : turned_records (suc n) order bytes ≡ front ++ (packet_in order bytes ++ turned_records n order (behind_record order bytes))
  pub size : captured (other order) (turned_records (suc n) order bytes) ≡ captured order bytes

turned_of : (n : ℕ) (order : ByteOrder) (bytes : List ℕ) → 16 ≤ length bytes → Turned n order bytes
unfolding turned_records
turned_of n order bytes long =
    let test : nat_lt (length bytes) 16 ≡ false = grind (arith, nat_tests, long) in
    let first : length (take 16 bytes) ≡ 16 = length-take-le 16 bytes long in
    let s = sixteen_of (take 16 bytes) first in
    let more = packet_in order bytes ++ turned_records n order (behind_record order bytes) in
    let fits = s.long in
    let back : captured order (take 16 bytes) ≡ captured order bytes = sym (number_more order (take 16 bytes) (drop 16 bytes) 8 (omega (arith, first))) ∙ ap (captured order) (take-append-drop 16 bytes) in
    record {
      front = turned_sizes (take 16 bytes);
      long = s.long;
      parts = rw test refl;
      size = rw test (number_more (other order) (turned_sizes (take 16 bytes)) more 8 (omega (arith, fits)) ∙ s.size order ∙ back);
    }

-- a whole record stands in front of both, or of none
whole_turned : (n : ℕ) (order : ByteOrder) (bytes : List ℕ) → 16 ≤ length bytes → WholeRecord order bytes → WholeRecord (other order) (turned_records (suc n) order bytes)
whole_turned n order bytes long w =
    let t = turned_of n order bytes long in
    let size = length-turned_records (suc n) order bytes in
    let is = t.size in
    let fits = w.fits in
    let packet = w.packet in
    record { header = omega (arith, size, long); fits = omega (arith, is, fits); packet = omega (arith, is, packet, size) }

whole_back : (n : ℕ) (order : ByteOrder) (bytes : List ℕ) → 16 ≤ length bytes → WholeRecord (other order) (turned_records (suc n) order bytes) → WholeRecord order bytes
whole_back n order bytes long w =
    let t = turned_of n order bytes long in
    let size = length-turned_records (suc n) order bytes in
    let is = t.size in
    let fits = w.fits in
    let packet = w.packet in
    record { header = long; fits = omega (arith, is, fits); packet = omega (arith, is, packet, size) }

some_bytes : (bytes : List ℕ) → 16 ≤ length bytes → bytes ≢ []
some_bytes [] h e = absurd (omega arith)
some_bytes (x ∷ xs) h e = absurd (cc)

-- a whole record
text_of_whole : (n : ℕ) (order : ByteOrder) (bytes : List ℕ) → 16 ≤ length bytes → WholeRecord order bytes → records_text (other order) (turned_records n order (behind_record order bytes)) ≡ records_text order (behind_record order bytes)
    → records_text (other order) (turned_records (suc n) order bytes) ≡ records_text order bytes
text_of_whole n order bytes long w later =
    let t = turned_of n order bytes long in
    let k = captured order bytes in
    let rest = turned_records n order (behind_record order bytes) in
    let packet = packet_in order bytes in
    let all = turned_records (suc n) order bytes in
    let room = w.packet in
    let left = length-drop 16 bytes in
    let size : length packet ≡ k = length-take-le k (drop 16 bytes) (omega (arith, room, left)) in
    let behind : drop 16 all ≡ packet ++ rest = ap (drop 16) t.parts ∙ drop_at t.front (packet ++ rest) 16 t.long in
    let line : packet_in (other order) all ≡ packet = ap (λ m. take m (drop 16 all)) t.size ∙ ap (take k) behind ∙ take_at packet rest k size in
    let next : behind_record (other order) all ≡ rest = ap (λ m. drop (16 + m) all) t.size ∙ sym (drop-drop k 16 all) ∙ ap (drop k) behind ∙ drop_at packet rest k size in
    records_whole (other order) all (is_whole (other order) all (whole_turned n order bytes long w)) ∙ ap (λ p. packet_line p ++ records_text (other order) (behind_record (other order) all)) line
    ∙ ap (λ r. packet_line packet ++ records_text (other order) r) next ∙ ap (λ text. packet_line packet ++ text) later ∙ sym (records_whole order bytes (is_whole order bytes w))

no_header : (order : ByteOrder) (bytes : List ℕ) → length bytes < 16 → is_whole_record order bytes ≡ false
no_header order bytes short = not_whole order bytes (λ w. (let header = w.header in omega (arith, header, short)))

text_short : (a b : ByteOrder) (bytes : List ℕ) → length bytes < 16 → records_text a bytes ≡ records_text b bytes
unfolding records
text_short a b [] short = refl
text_short a b (x ∷ xs) short = records_bad a (x ∷ xs) (λ e. absurd (cc)) (no_header a (x ∷ xs) short) ∙ sym (records_bad b (x ∷ xs) (λ e. absurd (cc)) (no_header b (x ∷ xs) short))

turned_short : (n : ℕ) (order : ByteOrder) (bytes : List ℕ) → length bytes < 16 → turned_records n order bytes ≡ bytes
unfolding turned_records
turned_short zero order bytes short = refl
turned_short (suc n) order bytes short = let test : nat_lt (length bytes) 16 ≡ true = grind (arith, nat_tests, short) in rw test refl

cases_whole : (b : Bool) → (b ≡ true) ⊎ (b ≡ false)
cases_whole true = inl refl
cases_whole false = inr refl

text_turned : (n : ℕ) (order : ByteOrder) (bytes : List ℕ) → length bytes ≤ n → records_text (other order) (turned_records n order bytes) ≡ records_text order bytes
text_turned zero order bytes few = let short : length bytes < 16 = omega arith in ap (records_text (other order)) (turned_short zero order bytes short) ∙ text_short (other order) order bytes short
text_turned (suc n) order bytes few = by_size (cases_lt (length bytes) 16) (cases_whole (is_whole_record order bytes)) (text_turned n order (behind_record order bytes))
  where
    by_size : (length bytes < 16) ⊎ (16 ≤ length bytes) → (is_whole_record order bytes ≡ true) ⊎ (is_whole_record order bytes ≡ false)
        → (length (behind_record order bytes) ≤ n → records_text (other order) (turned_records n order (behind_record order bytes)) ≡ records_text order (behind_record order bytes)) → records_text (other order) (turned_records (suc n) order bytes) ≡ records_text order bytes
    by_size (inl short) w later = ap (records_text (other order)) (turned_short (suc n) order bytes short) ∙ text_short (other order) order bytes short
    by_size (inr long) (inl whole) later =
        let size = length-drop (16 + captured order bytes) bytes in
        text_of_whole n order bytes long (whole_record order bytes whole) (later (omega (arith, size, few, long)))
    by_size (inr long) (inr part) later =
        let all = turned_records (suc n) order bytes in
        let size = length-turned_records (suc n) order bytes in
        let other_part = not_whole (other order) all (λ w. (let whole = is_whole order bytes (whole_back n order bytes long w) in cc)) in
        records_bad (other order) all (some_bytes all (omega (arith, size, long))) other_part ∙ sym (records_bad order bytes (some_bytes bytes long) part)

-- ---- the header

version_of : (order : ByteOrder) (bytes : List ℕ) → is_header order bytes ≡ true → half_in order bytes 4 ≡ 2
unfolding is_header
version_of order bytes h =
    let a = nat_le 24 (length bytes) in
    let b = is_magic (number_in order bytes 0) in
    let d = half_in order bytes 4 == 2 in
    let e = half_in order bytes 6 == 4 in
    let f = number_in order bytes 20 % 65536 == 1 in
    let first = (and_parts (((a && b) && d) && e) f h).0 in
    let second = (and_parts ((a && b) && d) e first).0 in
    eqb-true (half_in order bytes 4) 2 (and_parts (a && b) d second).1

-- no header is one of both byte orders: the versions tell them apart
not_both : (bytes : List ℕ) → is_header HighFirst bytes ≡ true → is_header LowFirst bytes ≡ true → ⊥
not_both bytes high low =
    let x : half_in HighFirst bytes 4 ≡ 2 = version_of HighFirst bytes high in
    let y : half_in LowFirst bytes 4 ≡ 2 = version_of LowFirst bytes low in
    omega (arith, x, y)

order_swapped : (a b : Bool) → (a ≡ true → b ≡ true → ⊥) → (if b then Some HighFirst else if a then Some LowFirst else None) ≡ option_map other (if a then Some HighFirst else if b then Some LowFirst else None)
order_swapped true true h = absurd (h refl refl)
order_swapped true false h = refl
order_swapped false true h = refl
order_swapped false false h = refl

same_order : (a b a' b' : Bool) → a' ≡ b → b' ≡ a → (a ≡ true → b ≡ true → ⊥) → (if a' then Some HighFirst else if b' then Some LowFirst else None) ≡ option_map other (if a then Some HighFirst else if b then Some LowFirst else None)
same_order a b a' b' e f h = rw (e, f) (order_swapped a b h)

order_turned : (bytes : List ℕ) → 24 ≤ length bytes → header_order (turned bytes) ≡ option_map other (header_order bytes)
unfolding turned
order_turned bytes long =
    let first = take 24 bytes in
    let whole : first ++ drop 24 bytes ≡ bytes = take-append-drop 24 bytes in
    let size : length first ≡ 24 = length-take-le 24 bytes long in
    let h = header_of first size in
    let room : 24 ≤ length first = omega (arith, size) in
    let fits = h.long in
    let more = turned_behind (header_order bytes) (drop 24 bytes) in
    let high : is_header HighFirst (turned_header first ++ more) ≡ is_header LowFirst bytes =
    header_more HighFirst (turned_header first) more (omega (arith, fits)) ∙ h.same LowFirst ∙ sym (header_more LowFirst first (drop 24 bytes) room) ∙ ap (is_header LowFirst) whole in
    let low : is_header LowFirst (turned_header first ++ more) ≡ is_header HighFirst bytes =
    header_more LowFirst (turned_header first) more (omega (arith, fits)) ∙ h.same HighFirst ∙ sym (header_more HighFirst first (drop 24 bytes) room) ∙ ap (is_header HighFirst) whole in
    same_order (is_header HighFirst bytes) (is_header LowFirst bytes) (is_header HighFirst (turned_header first ++ more)) (is_header LowFirst (turned_header first ++ more)) high low (not_both bytes)

behind_turned : (order : Option ByteOrder) (bytes : List ℕ) → text_behind (option_map other order) (turned_behind order bytes) ≡ text_behind order bytes
behind_turned None bytes = refl
behind_turned (Some order) bytes = text_turned (length bytes) order bytes (omega arith)

rest_turned : (bytes : List ℕ) → 24 ≤ length bytes → drop 24 (turned bytes) ≡ turned_behind (header_order bytes) (drop 24 bytes)
unfolding turned
rest_turned bytes long =
    let size : length (take 24 bytes) ≡ 24 = length-take-le 24 bytes long in
    drop_at (turned_header (take 24 bytes)) (turned_behind (header_order bytes) (drop 24 bytes)) 24 (header_of (take 24 bytes) size).long

text_alike : (bytes : List ℕ) → 24 ≤ length bytes → capture_text (turned bytes) ≡ capture_text bytes
unfolding capture_text
text_alike bytes long = ap (λ o. text_behind o (drop 24 (turned bytes))) (order_turned bytes long) ∙ ap (text_behind (option_map other (header_order bytes))) (rest_turned bytes long) ∙ behind_turned (header_order bytes) (drop 24 bytes)

-- a header that is not whole
order_short : (bytes : List ℕ) → length bytes < 24 → header_order bytes ≡ None
order_short bytes short = rw (short_header HighFirst bytes short, short_header LowFirst bytes short) refl

turned_none : (bytes : List ℕ) → length bytes < 24 → length (turned bytes) < 24
unfolding turned
turned_none bytes short =
    let first = take 24 bytes in
    let a = length-turned_at 0 4 first in
    let b = length-turned_at 4 2 (turned_at 0 4 first) in
    let d = length-turned_at 6 2 (turned_at 4 2 (turned_at 0 4 first)) in
    let e = length-turned_at 20 4 (turned_at 6 2 (turned_at 4 2 (turned_at 0 4 first))) in
    let f = length-take 24 bytes in
    let g = length-drop 24 bytes in
    let behind : length (turned_behind (header_order bytes) (drop 24 bytes)) ≡ length (drop 24 bytes) = ap (λ o. length (turned_behind o (drop 24 bytes))) (order_short bytes short) in
    let all = length-append (turned_header first) (turned_behind (header_order bytes) (drop 24 bytes)) in
    omega (arith, a, b, d, e, f, g, behind, all, short)

pub byte_order_alike : ByteOrderAlike
byte_order_alike = λ bytes. by_size bytes (cases_lt (length bytes) 24)
  where
    by_size : (bytes : List ℕ) → (length bytes < 24) ⊎ (24 ≤ length bytes) → (header_order (turned bytes) ≡ option_map other (header_order bytes)) × (capture_text (turned bytes) ≡ capture_text bytes)
    by_size bytes (inr long) = (order_turned bytes long, text_alike bytes long)
    by_size bytes (inl short) =
        let none = turned_none bytes short in
        (order_short (turned bytes) none ∙ sym (ap (option_map other) (order_short bytes short)), capture_short (turned bytes) none ∙ sym (capture_short bytes short))
