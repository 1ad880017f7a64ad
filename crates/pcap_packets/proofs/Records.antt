-- Laws of the text of records.
use Rattle.std.proofs.Common.{◌≡◌, ◌≢◌, ◌<◌, ◌≤◌, ◌+◌, ℕ, zero, suc, Bool, true, false, ◌&&◌, nat_le, if◌then◌else◌, List, [], ◌∷◌, ◌++◌, length, take, drop, slice_index, arith, refl, ap, ◌∙◌, length-drop, length-append}
use Rattle.std.proofs.lemmas.Bool.{and_parts, and_from}
use Rattle.std.proofs.lemmas.Bool.Decides.{nat_tests}
use Rattle.std.proofs.lemmas.List.{take-append-le, drop-append-le, get_or_append_left}
use Rattle.packet_text.specs.PacketText.{packet_line}
use Rattle.pcap_packets.specs.CaptureText.{half_in, number_in, is_header, header_order, captured, is_whole_record, packet_in, behind_record, bad_line, records, records_text, text_behind, capture_text}
use Rattle.pcap_packets.specs.declared.order.ByteOrder.{ByteOrder}
use Rattle.pcap_packets.specs.declared.order.ByteOrder.TheVariants.{LowFirst, HighFirst}

-- what a whole record at the front says
pub record WholeRecord (order : ByteOrder) (bytes : List ℕ) : Type 0 where
  pub header : 16 ≤ length bytes
  pub fits : captured order bytes ≤ 65527
  pub packet : 16 + captured order bytes ≤ length bytes

pub whole_record : (order : ByteOrder) (bytes : List ℕ) → is_whole_record order bytes ≡ true → WholeRecord order bytes
unfolding is_whole_record
whole_record order bytes h =
    let n = captured order bytes in
    let outer = and_parts (nat_le 16 (length bytes) && nat_le n 65527) (nat_le (16 + n) (length bytes)) h in
    let inner = and_parts (nat_le 16 (length bytes)) (nat_le n 65527) outer.0 in
    record { header = grind (arith, nat_tests, inner.0); fits = grind (arith, nat_tests, inner.1); packet = grind (arith, nat_tests, outer.1) }

pub is_whole : (order : ByteOrder) (bytes : List ℕ) → WholeRecord order bytes → is_whole_record order bytes ≡ true
unfolding is_whole_record
is_whole order bytes w =
    let n = captured order bytes in
    let header = w.header in
    let fits = w.fits in
    let packet = w.packet in
    let a : nat_le 16 (length bytes) ≡ true = grind (arith, nat_tests) in
    let b : nat_le n 65527 ≡ true = grind (arith, nat_tests) in
    let c : nat_le (16 + n) (length bytes) ≡ true = grind (arith, nat_tests) in
    and_from (nat_le 16 (length bytes) && nat_le n 65527) (nat_le (16 + n) (length bytes)) (and_from (nat_le 16 (length bytes)) (nat_le n 65527) a b) c

not_true : (b : Bool) → (b ≡ true → ⊥) → b ≡ false
not_true true h = absurd (h refl)
not_true false h = refl

pub not_whole : (order : ByteOrder) (bytes : List ℕ) → (WholeRecord order bytes → ⊥) → is_whole_record order bytes ≡ false
not_whole order bytes h = not_true (is_whole_record order bytes) (λ whole. h (whole_record order bytes whole))

-- a byte more or less to look at changes nothing
pub records_same : (n m : ℕ) (order : ByteOrder) (bytes : List ℕ) → length bytes ≤ n → length bytes ≤ m → records n order bytes ≡ records m order bytes
unfolding records
records_same zero zero order bytes h k = refl
records_same zero (suc m) order [] h k = refl
records_same zero (suc m) order (x ∷ xs) h k = absurd (omega arith)
records_same (suc n) zero order [] h k = refl
records_same (suc n) zero order (x ∷ xs) h k = absurd (omega arith)
records_same (suc n) (suc m) order [] h k = refl
records_same (suc n) (suc m) order (x ∷ xs) h k =
    let rest = behind_record order (x ∷ xs) in
    let size = length-drop (16 + captured order (x ∷ xs)) (x ∷ xs) in
    let left : length rest ≤ n = omega arith in
    let right : length rest ≤ m = omega arith in
    ap (λ text. if is_whole_record order (x ∷ xs) then packet_line (packet_in order (x ∷ xs)) ++ text else bad_line) (records_same n m order rest left right)

-- the text from a whole record on
pub records_whole : (order : ByteOrder) (bytes : List ℕ) → is_whole_record order bytes ≡ true → records_text order bytes ≡ packet_line (packet_in order bytes) ++ records_text order (behind_record order bytes)
unfolding records is_whole_record
records_whole order [] h = absurd (cc)
records_whole order (x ∷ xs) h =
    let rest = behind_record order (x ∷ xs) in
    let size = length-drop (16 + captured order (x ∷ xs)) (x ∷ xs) in
    let left : length rest ≤ length xs = omega arith in
    let same : length rest ≤ length rest = omega arith in
    rw h (ap (λ text. packet_line (packet_in order (x ∷ xs)) ++ text) (records_same (length xs) (length rest) order rest left same))

-- the text of bytes that do not begin with a whole record
pub records_bad : (order : ByteOrder) (bytes : List ℕ) → bytes ≢ [] → is_whole_record order bytes ≡ false → records_text order bytes ≡ bad_line
unfolding records
records_bad order [] some h = absurd (some refl)
records_bad order (x ∷ xs) some h = rw h refl

-- ---- bytes in front of others

same_byte : (a b : List ℕ) (i : ℕ) → i < length a → slice_index (a ++ b) i ≡ slice_index a i
same_byte a b i h = get_or_append_left a b 0 i h

half_more : (order : ByteOrder) (a b : List ℕ) (at : ℕ) → at + 2 ≤ length a → half_in order (a ++ b) at ≡ half_in order a at
half_more LowFirst a b at h = rw (same_byte a b at (omega arith), same_byte a b (at + 1) (omega arith)) refl
half_more HighFirst a b at h = rw (same_byte a b at (omega arith), same_byte a b (at + 1) (omega arith)) refl

pub number_more : (order : ByteOrder) (a b : List ℕ) (at : ℕ) → at + 4 ≤ length a → number_in order (a ++ b) at ≡ number_in order a at
unfolding number_in
number_more LowFirst a b at h = rw (half_more LowFirst a b at (omega arith), half_more LowFirst a b (at + 2) (omega arith)) refl
number_more HighFirst a b at h = rw (half_more HighFirst a b at (omega arith), half_more HighFirst a b (at + 2) (omega arith)) refl

longer : (a b : List ℕ) (n : ℕ) → n ≤ length a → n ≤ length (a ++ b)
longer a b n h = let size = length-append a b in omega arith

-- a whole record stays one
whole_more : (order : ByteOrder) (a b : List ℕ) → WholeRecord order a → WholeRecord order (a ++ b)
whole_more order a b w =
    let header = w.header in
    let same : captured order (a ++ b) ≡ captured order a = number_more order a b 8 (omega arith) in
    record { header = longer a b 16 header; fits = rw same w.fits; packet = rw same (longer a b (16 + captured order a) w.packet) }

pub text_whole : (order : ByteOrder) (a b : List ℕ) (size : ℕ) → is_whole_record order a ≡ true → captured order a ≡ size
    → records_text order (a ++ b) ≡ packet_line (take size (drop 16 a)) ++ records_text order (drop (16 + size) a ++ b)
text_whole order a b size whole is =
    let w = whole_record order a whole in
    let header = w.header in
    let packet = w.packet in
    let left = length-drop 16 a in
    let same : captured order (a ++ b) ≡ size = number_more order a b 8 (omega arith) ∙ is in
    let line : packet_in order (a ++ b) ≡ take size (drop 16 a) =
    ap (λ k. take k (drop 16 (a ++ b))) same ∙ ap (take size) (drop-append-le 16 a b header) ∙ take-append-le size (drop 16 a) b (omega (arith, is)) in
    let rest : behind_record order (a ++ b) ≡ drop (16 + size) a ++ b =
    ap (λ k. drop (16 + k) (a ++ b)) same ∙ drop-append-le (16 + size) a b (omega (arith, is)) in
    records_whole order (a ++ b) (is_whole order (a ++ b) (whole_more order a b w)) ∙ ap (λ l. packet_line l ++ records_text order (behind_record order (a ++ b))) line
    ∙ ap (λ r. packet_line (take size (drop 16 a)) ++ records_text order r) rest

not_empty : (a b : List ℕ) → 1 ≤ length a → a ++ b ≢ []
not_empty [] b h e = absurd (omega arith)
not_empty (x ∷ xs) b h e = absurd (cc)

-- a record that tells of too many bytes
pub text_bad : (order : ByteOrder) (a b : List ℕ) → 16 ≤ length a → 65527 < captured order a → records_text order (a ++ b) ≡ bad_line
text_bad order a b header many =
    let same : captured order (a ++ b) ≡ captured order a = number_more order a b 8 (omega arith) in
    records_bad order (a ++ b) (not_empty a b (omega arith)) (not_whole order (a ++ b) (λ w. (let fits = w.fits in omega (arith, fits, same, many))))

-- ---- the header

pub header_more : (order : ByteOrder) (a b : List ℕ) → 24 ≤ length a → is_header order (a ++ b) ≡ is_header order a
unfolding is_header
header_more order a b h =
    let long : nat_le 24 (length a) ≡ true = grind (arith, nat_tests) in
    let size = length-append a b in
    let more : nat_le 24 (length (a ++ b)) ≡ true = grind (arith, nat_tests) in
    rw (more, long, number_more order a b 0 (omega arith), half_more order a b 4 (omega arith), half_more order a b 6 (omega arith), number_more order a b 20 (omega arith)) refl

-- the text of a capture whose first bytes are these, header and all
pub capture_more : (a b : List ℕ) → 24 ≤ length a → capture_text (a ++ b) ≡ text_behind (header_order a) (drop 24 a ++ b)
unfolding capture_text
capture_more a b h = rw (header_more HighFirst a b h, header_more LowFirst a b h, drop-append-le 24 a b h) refl

pub short_header : (order : ByteOrder) (bytes : List ℕ) → length bytes < 24 → is_header order bytes ≡ false
unfolding is_header
short_header order bytes h = let short : nat_le 24 (length bytes) ≡ false = grind (arith, nat_tests) in rw short refl

-- the text of a capture whose header is not whole
pub capture_short : (bytes : List ℕ) → length bytes < 24 → capture_text bytes ≡ bad_line
unfolding capture_text
capture_short bytes h = rw (short_header HighFirst bytes h, short_header LowFirst bytes h) refl
