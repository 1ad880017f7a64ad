-- Digits of lower case, and the packet that they say.
use Rattle.std.proofs.Common.{◌≡◌, ◌≤◌, ◌<◌, ◌+◌, ◌*◌, ◌/◌, ◌%◌, ◌==◌, ℕ, zero, suc, Bool, true, false, not, ◌&&◌, ◌||◌, nat_lt, min, if◌then◌else◌, List, [], ◌∷◌, ◌++◌, length, take, slice_index, slice_get, Option, Some, None, Ok, unwrap_or, add-one, arith, refl, sym, ap, ◌∙◌}
use Rattle.std.proofs.lemmas.Bool.{and_parts, and_from, agree_below_at, eqb-true}
use Rattle.std.proofs.lemmas.Bool.Decides.{nat_tests}
use Rattle.hex.specs.Hex.{decode_of, decode_pairs, encode_lower, encode_with, hex_digit_value, lower_digits, pair_value}
use Rattle.hex.proofs.Pairs.{decode_pairs-ok_pair, cons_byte}
use Rattle.hex.proofs.HexLemmas.{decode_of-even}
use Rattle.packet_text.specs.PacketText.{decoded, packet_line}
use Rattle.pcap_packets.specs.Written.{is_lower_digit, all_lower, digits_in_front, packet_of}

-- a digit's value
abbrev value_of : ℕ → ℕ
value_of c = unwrap_or (hex_digit_value c) 99

-- a digit of lower case is that of its value
abbrev is_of_value : ℕ → Bool
is_of_value c = not (is_lower_digit c) || (nat_lt (value_of c) 16 && (slice_index lower_digits (value_of c) == c))

pub record LowerDigit (c : ℕ) : Type 0 where
  pub value : ℕ
  pub is : hex_digit_value c ≡ Some value
  pub small : value < 16
  pub digit : slice_index lower_digits value ≡ c

or_not : (a b : Bool) → (not a || b) ≡ true → a ≡ true → b ≡ true
or_not true b h e = h
or_not false b h e = absurd (cc)

some_of : (o : Option ℕ) → unwrap_or o 99 < 16 → o ≡ Some (unwrap_or o 99)
some_of None h = absurd (omega arith)
some_of (Some v) h = refl

pub lower_digit : (c : ℕ) → is_lower_digit c ≡ true → LowerDigit c
lower_digit c h =
    let byte : c < 256 = grind (arith, nat_tests) in
    let parts = and_parts (nat_lt (value_of c) 16) (slice_index lower_digits (value_of c) == c) (or_not (is_lower_digit c) _ (agree_below_at is_of_value (λ _. true) 256 c refl byte) h) in
    let small : value_of c < 16 = grind (arith, nat_tests, parts.0) in
    record { value = value_of c; is = some_of (hex_digit_value c) small; small = small; digit = eqb-true _ _ parts.1 }

-- what digits say
pub record Says (i : ℕ) (digits : List ℕ) : Type 0 where
  pub bytes : List ℕ
  pub is : decode_pairs i digits ≡ Ok bytes
  pub back : encode_lower bytes ≡ digits
  pub size : length digits ≡ 2 * length bytes

pub says : (i : ℕ) (digits : List ℕ) → all_lower digits ≡ true → length digits % 2 ≡ 0 → Says i digits
unfolding all_lower decode_pairs encode_with
says i [] h even = record { bytes = []; is = refl; back = refl; size = refl }
says i (x ∷ []) h even = absurd (omega arith)
says i (x ∷ y ∷ rest) h even =
    let first = and_parts (is_lower_digit x) (is_lower_digit y && all_lower rest) h in
    let second = and_parts (is_lower_digit y) (all_lower rest) first.1 in
    let a = lower_digit x first.0 in
    let b = lower_digit y second.0 in
    let later = says (i + 2) rest second.1 (omega arith) in
    let v = a.value * 16 + b.value in
    let ok : pair_value x y i ≡ Ok v = rw (a.is, b.is) refl in
    let few = b.small in
    let high : v / 16 ≡ a.value = omega (arith, few) in
    let low : v % 16 ≡ b.value = omega (arith, few) in
    let size = later.size in
    record {
      bytes = v ∷ later.bytes;
      is = decode_pairs-ok_pair i x y v rest ok ∙ ap (cons_byte v) later.is;
      back = rw (high, low, a.digit, b.digit) (ap (λ l. x ∷ y ∷ l) later.back);
      size = omega (arith, size);
    }

packet_is : (digits : List ℕ) (s : Says 0 digits) → length digits % 2 ≡ 0 → packet_of digits ≡ s.bytes
unfolding packet_of
packet_is digits s even = ap (λ r. unwrap_or (decoded r) []) (decode_of-even digits even ∙ s.is)

-- an even count of digits of lower case are those of their packet
pub packet_decoded : (digits : List ℕ) → all_lower digits ≡ true → length digits % 2 ≡ 0 → decoded (decode_of digits) ≡ Some (packet_of digits)
packet_decoded digits lower even =
    let s = says 0 digits lower even in
    ap decoded (decode_of-even digits even ∙ s.is) ∙ ap Some (sym (packet_is digits s even))

pub packet_back : (digits : List ℕ) → all_lower digits ≡ true → length digits % 2 ≡ 0 → packet_line (packet_of digits) ≡ digits ++ 10 ∷ []
packet_back digits lower even =
    let s = says 0 digits lower even in
    ap (λ l. l ++ 10 ∷ []) (ap encode_lower (packet_is digits s even) ∙ s.back)

pub length-packet_of : (digits : List ℕ) → all_lower digits ≡ true → length digits % 2 ≡ 0 → length digits ≡ 2 * length (packet_of digits)
length-packet_of digits lower even =
    let s = says 0 digits lower even in
    rw (packet_is digits s even) s.size

pub decoded_is : (b : Bool) (o : Option (List ℕ)) (bytes packet : List ℕ) → o ≡ (if b then Some bytes else None) → o ≡ Some packet → bytes ≡ packet
decoded_is true o bytes packet e h = cc
decoded_is false o bytes packet e h = absurd (cc)

pub all_lower-append : (a b : List ℕ) → all_lower a ≡ true → all_lower b ≡ true → all_lower (a ++ b) ≡ true
unfolding all_lower
all_lower-append [] b h k = k
all_lower-append (x ∷ xs) b h k =
    let parts = and_parts (is_lower_digit x) (all_lower xs) h in
    and_from (is_lower_digit x) (all_lower (xs ++ b)) parts.0 (all_lower-append xs b parts.1 k)

digit_more : (bytes : List ℕ) (n : ℕ) → n < length bytes → all_lower (take n bytes) ≡ true → is_lower_digit (slice_index bytes n) ≡ true → all_lower (take (suc n) bytes) ≡ true
unfolding all_lower
digit_more [] n less h k = absurd (omega arith)
digit_more (x ∷ xs) zero less h k = and_from (is_lower_digit x) true k refl
digit_more (x ∷ xs) (suc n) less h k =
    let parts = and_parts (is_lower_digit x) (all_lower (take n xs)) h in
    and_from (is_lower_digit x) (all_lower (take (suc n) xs)) parts.0 (digit_more xs n (omega arith) parts.1 k)

-- one digit more
pub all_lower-more : (bytes : List ℕ) (n : ℕ) → n < length bytes → all_lower (take n bytes) ≡ true → is_lower_digit (slice_index bytes n) ≡ true → all_lower (take (n + 1) bytes) ≡ true
all_lower-more bytes n less h k = rw add-one (digit_more bytes n less h k)

pub all_lower-none : all_lower [] ≡ true
unfolding all_lower
all_lower-none = refl

-- ---- how many digits are in front

pub digits_end : (bytes : List ℕ) (n : ℕ) → n < length bytes → all_lower (take n bytes) ≡ true → is_lower_digit (slice_index bytes n) ≡ false → n ≡ digits_in_front bytes
unfolding all_lower digits_in_front
digits_end [] n less h k = absurd (omega arith)
digits_end (x ∷ xs) zero less h k = let none : is_lower_digit x ≡ false = k in rw none refl
digits_end (x ∷ xs) (suc n) less h k =
    let parts = and_parts (is_lower_digit x) (all_lower (take n xs)) h in
    rw parts.0 (ap suc (digits_end xs n (omega arith) parts.1 k))

pub digits_all : (bytes : List ℕ) (n : ℕ) → n ≤ length bytes → length bytes ≤ n → all_lower (take n bytes) ≡ true → n ≡ digits_in_front bytes
unfolding all_lower digits_in_front
digits_all [] n some all h = omega arith
digits_all (x ∷ xs) zero some all h = absurd (omega arith)
digits_all (x ∷ xs) (suc n) some all h =
    let parts = and_parts (is_lower_digit x) (all_lower (take n xs)) h in
    rw parts.0 (ap suc (digits_all xs n (omega arith) (omega arith) parts.1))

more_or_none : (b : Bool) (n m k : ℕ) → m ≡ min n k → (if b then suc m else 0) ≡ min (suc n) (if b then suc k else 0)
more_or_none true n m k e = omega arith
more_or_none false n m k e = omega arith

pub digits_take : (n : ℕ) (bytes : List ℕ) → digits_in_front (take n bytes) ≡ min n (digits_in_front bytes)
unfolding digits_in_front
digits_take zero bytes = omega arith
digits_take (suc n) [] = omega arith
digits_take (suc n) (x ∷ xs) = more_or_none (is_lower_digit x) n (digits_in_front (take n xs)) (digits_in_front xs) (digits_take n xs)

few_or_none : (b : Bool) (k l : ℕ) → k ≤ l → (if b then suc k else 0) ≤ suc l
few_or_none true k l h = omega arith
few_or_none false k l h = omega arith

pub digits_few : (bytes : List ℕ) → digits_in_front bytes ≤ length bytes
unfolding digits_in_front
digits_few [] = omega arith
digits_few (x ∷ xs) = few_or_none (is_lower_digit x) (digits_in_front xs) (length xs) (digits_few xs)

-- bytes of which LF is the first
pub record LfFirst (bytes : List ℕ) : Type 0 where
  pub more : List ℕ
  pub is : bytes ≡ 10 ∷ more

pub lf_first : (bytes : List ℕ) (first : ℕ) → Some first ≡ slice_get bytes 0 → first ≡ 10 → LfFirst bytes
lf_first [] first is lf = absurd (cc)
lf_first (x ∷ xs) first is lf = record { more = xs; is = (let same : first ≡ x = cc in ap (λ b. b ∷ xs) (sym same ∙ lf)) }
