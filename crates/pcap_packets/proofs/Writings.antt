-- What is written of packets.
use Rattle.std.proofs.Common.{◌≡◌, ◌≢◌, ◌⊎◌, inl, inr, ◌<◌, ◌≤◌, ◌+◌, ◌^◌, ℕ, zero, suc, Bool, true, false, not, nat_le, nat_lt, if◌then◌else◌, List, [], ◌∷◌, ◌++◌, length, drop, arith, refl, sym, ap, ◌∙◌, length-append, length-drop, append_assoc, append-nil}
use Rattle.std.specs.Int.{to_le_bytes, w32}
use Rattle.std.proofs.lemmas.Nat.{from_le_bytes-to_le_bytes_4}
use Rattle.std.proofs.lemmas.Bool.{and_parts, and_from, cases_lt}
use Rattle.std.proofs.lemmas.Bool.Decides.{nat_tests}
use Rattle.std.proofs.lemmas.List.{take_at, drop_at, drop-drop, drop-append-le}
use Rattle.pcap_packets.specs.CaptureText.{number_in, captured, packet_in, behind_record}
use Rattle.pcap_packets.specs.Written.{header_written, time_written, record_of, records_of, is_none, capture_of, is_record, record_packets, packets_written}
use Rattle.pcap_packets.specs.Writing.{one_more, all_fit}
use Rattle.pcap_packets.specs.declared.order.ByteOrder.TheVariants.{LowFirst}
use Rattle.pcap_packets.proofs.Records.{number_more}
use Rattle.pcap_packets.proofs.Windows.{no_bytes}

pub length-header : (b : Bool) → length (if b then [] else header_written) ≤ 24
length-header true = omega arith
length-header false = omega arith

-- a record put together behind what is in front of it
pub record_joined : (front a b d e : List ℕ) (first : List ℕ) (packet : List ℕ) → a ≡ front → b ≡ a ++ time_written → d ≡ b ++ to_le_bytes w32 (length packet) → e ≡ d ++ to_le_bytes w32 (length packet) → first ≡ e ++ packet
    → first ≡ front ++ record_of packet
unfolding record_of
record_joined front a b d e first packet is_a is_b is_d is_e is =
    let n = to_le_bytes w32 (length packet) in
    rw (is, is_e, is_d, is_b, is_a) (append_assoc (((front ++ time_written) ++ n)) n packet ∙ append_assoc (front ++ time_written) n (n ++ packet) ∙ append_assoc front time_written (n ++ (n ++ packet)))

-- ---- a record reads back

pub captured_written : (packet more : List ℕ) → length packet < 2 ^ 32 → captured LowFirst (record_of packet ++ more) ≡ length packet
unfolding number_in record_of
captured_written packet more fits = let h = from_le_bytes-to_le_bytes_4 (length packet) fits in omega (arith, h)

pub length-record_of : (packet : List ℕ) → length (record_of packet) ≡ 16 + length packet
unfolding record_of
length-record_of packet = omega arith

behind_header : (packet more : List ℕ) → drop 16 (record_of packet ++ more) ≡ packet ++ more
unfolding record_of
behind_header packet more = refl

pub packet_read : (packet more : List ℕ) → length packet < 2 ^ 32 → packet_in LowFirst (record_of packet ++ more) ≡ packet
packet_read packet more fits = rw (captured_written packet more fits, behind_header packet more) (take_at packet more (length packet) refl)

pub behind_read : (packet more : List ℕ) → length packet < 2 ^ 32 → behind_record LowFirst (record_of packet ++ more) ≡ more
behind_read packet more fits =
    ap (λ n. drop (16 + n) (record_of packet ++ more)) (captured_written packet more fits) ∙ sym (drop-drop (length packet) 16 (record_of packet ++ more)) ∙ ap (drop (length packet)) (behind_header packet more) ∙ drop_at packet more (length packet) refl

pub record record_whole (bytes : List ℕ) : Type 0 where
  pub header : 16 ≤ length bytes
  pub packet : 16 + captured LowFirst bytes ≤ length bytes

pub is_record-of : (bytes : List ℕ) → record_whole bytes → is_record bytes ≡ true
unfolding is_record
is_record-of bytes w =
    let header = w.header in
    let packet = w.packet in
    let a : nat_le 16 (length bytes) ≡ true = grind (arith, nat_tests) in
    let b : nat_le (16 + captured LowFirst bytes) (length bytes) ≡ true = grind (arith, nat_tests) in
    and_from (nat_le 16 (length bytes)) (nat_le (16 + captured LowFirst bytes) (length bytes)) a b

pub record_is : (bytes : List ℕ) → is_record bytes ≡ true → record_whole bytes
unfolding is_record
record_is bytes h =
    let parts = and_parts (nat_le 16 (length bytes)) (nat_le (16 + captured LowFirst bytes) (length bytes)) h in
    record { header = grind (arith, nat_tests, parts.0); packet = grind (arith, nat_tests, parts.1) }

not_true : (b : Bool) → (b ≡ true → ⊥) → b ≡ false
not_true true h = absurd (h refl)
not_true false h = refl

pub no_record : (bytes : List ℕ) → length bytes < 16 → is_record bytes ≡ false
no_record bytes short = not_true (is_record bytes) (λ h. (let header = (record_is bytes h).header in omega (arith, header, short)))

pub is_record-written : (packet more : List ℕ) → length packet < 2 ^ 32 → is_record (record_of packet ++ more) ≡ true
is_record-written packet more fits =
    let n = captured_written packet more fits in
    let a = length-append (record_of packet) more in
    let b = length-record_of packet in
    is_record-of (record_of packet ++ more) (record { header = omega (arith, a, b); packet = omega (arith, a, b, n) })

-- ---- the packets of records

pub packets_same : (n m : ℕ) (bytes : List ℕ) → length bytes ≤ n → length bytes ≤ m → record_packets n bytes ≡ record_packets m bytes
unfolding record_packets is_record
packets_same zero zero bytes h k = refl
packets_same zero (suc m) [] h k = refl
packets_same zero (suc m) (x ∷ xs) h k = absurd (omega arith)
packets_same (suc n) zero [] h k = refl
packets_same (suc n) zero (x ∷ xs) h k = absurd (omega arith)
packets_same (suc n) (suc m) bytes h k =
    let rest = behind_record LowFirst bytes in
    let size = length-drop (16 + captured LowFirst bytes) bytes in
    let left : length rest ≤ n = omega arith in
    let right : length rest ≤ m = omega arith in
    ap (λ packets. if is_record bytes then packet_in LowFirst bytes ∷ packets else []) (packets_same n m rest left right)

-- the packets of the records from here on
abbrev pub all_packets : List ℕ → List (List ℕ)
all_packets bytes = record_packets (length bytes) bytes

pub packets_whole : (bytes : List ℕ) → is_record bytes ≡ true → all_packets bytes ≡ packet_in LowFirst bytes ∷ all_packets (behind_record LowFirst bytes)
unfolding record_packets is_record
packets_whole [] h = absurd (cc)
packets_whole (x ∷ xs) h =
    let rest = behind_record LowFirst (x ∷ xs) in
    let size = length-drop (16 + captured LowFirst (x ∷ xs)) (x ∷ xs) in
    let left : length rest ≤ length xs = omega arith in
    let same : length rest ≤ length rest = omega arith in
    rw h (ap (λ packets. packet_in LowFirst (x ∷ xs) ∷ packets) (packets_same (length xs) (length rest) rest left same))

pub packets_none : (bytes : List ℕ) → is_record bytes ≡ false → all_packets bytes ≡ []
unfolding record_packets
packets_none [] h = refl
packets_none (x ∷ xs) h = rw h refl

pub packets_records : (packets : List (List ℕ)) (part : List ℕ) → all_fit packets ≡ true → is_record part ≡ false → all_packets (records_of packets ++ part) ≡ packets
unfolding records_of all_fit
packets_records [] part fits h = packets_none part h
packets_records (packet ∷ packets) part fits h =
    let parts = and_parts (nat_lt (length packet) (2 ^ 32)) (all_fit packets) fits in
    let few : length packet < 2 ^ 32 = grind (arith, nat_tests, parts.0) in
    let more = records_of packets ++ part in
    ap all_packets (append_assoc (record_of packet) (records_of packets) part) ∙ packets_whole (record_of packet ++ more) (is_record-written packet more few)
    ∙ ap (λ p. p ∷ all_packets (behind_record LowFirst (record_of packet ++ more))) (packet_read packet more few)
    ∙ ap (λ rest. packet ∷ all_packets rest) (behind_read packet more few) ∙ ap (λ ps. packet ∷ ps) (packets_records packets part parts.1 h)

-- no whole record stands in what was written behind these packets
abbrev pub is_part : List (List ℕ) → List ℕ → Bool
is_part packets part = not (is_record (if is_none packets then drop 24 part else part))

of_not : (b : Bool) → not b ≡ true → b ≡ false
of_not true h = absurd (cc)
of_not false h = refl

pub written_packets : (packets : List (List ℕ)) (part : List ℕ) → all_fit packets ≡ true → is_part packets part ≡ true → packets_written (capture_of packets ++ part) ≡ packets
unfolding packets_written records_of
written_packets [] part fits h = packets_none (drop 24 part) (of_not (is_record (drop 24 part)) h)
written_packets (packet ∷ packets) part fits h = packets_records (packet ∷ packets) part fits (of_not (is_record part) h)

pub no_record-part : (packet part rest : List ℕ) → length packet < 2 ^ 32 → rest ≢ [] → part ++ rest ≡ record_of packet → is_record part ≡ false
no_record-part packet part rest fits some parts = not_true (is_record part) (λ h. (
    let w = record_is part h in
    let header = w.header in
    let whole = w.packet in
    let same : captured LowFirst part ≡ length packet = sym (number_more LowFirst part rest 8 (omega (arith, header))) ∙ ap (captured LowFirst) (parts ∙ sym (append-nil (record_of packet))) ∙ captured_written packet [] fits in
    let size : length part + length rest ≡ 16 + length packet = sym (length-append part rest) ∙ ap length parts ∙ length-record_of packet in
    some (no_bytes rest (omega (arith, whole, same, size)))))

not_of : (b : Bool) → b ≡ false → not b ≡ true
not_of true h = absurd (cc)
not_of false h = refl

pub part_more : (packets : List (List ℕ)) (packet part rest : List ℕ) → length packet < 2 ^ 32 → rest ≢ [] → part ++ rest ≡ one_more packets packet → is_part packets part ≡ true
part_more [] packet part rest fits some parts = by_size (cases_lt (length part) 24)
  where
    by_size : (length part < 24) ⊎ (24 ≤ length part) → is_part [] part ≡ true
    by_size (inl short) = let size = length-drop 24 part in not_of (is_record (drop 24 part)) (no_record (drop 24 part) (omega (arith, size, short)))
    by_size (inr long) = not_of (is_record (drop 24 part)) (no_record-part packet (drop 24 part) rest fits some (sym (drop-append-le 24 part rest long) ∙ ap (drop 24) parts))
part_more (p ∷ ps) packet part rest fits some parts = not_of (is_record part) (no_record-part packet part rest fits some parts)
