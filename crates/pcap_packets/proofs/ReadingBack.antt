-- What was written reads back.
use Rattle.std.proofs.Common.{◌≡◌, ◌≢◌, ◌⊎◌, inl, inr, ◌<◌, ◌≤◌, ◌^◌, ℕ, Bool, true, false, not, nat_le, nat_lt, if◌then◌else◌, List, [], ◌∷◌, ◌++◌, length, take, drop, arith, refl, sym, ap, ◌∙◌, length-append, append_assoc, append-nil}
use Rattle.std.specs.List.{All}
use Rattle.std.proofs.lemmas.List.Elements.{All-head, All-tail}
use Rattle.std.proofs.lemmas.Bool.{and_parts, and_from, cases_lt}
use Rattle.std.proofs.lemmas.Bool.Decides.{nat_tests}
use Rattle.std.proofs.lemmas.List.{take-append-drop, take-append-le, drop-append-le}
use Rattle.packet_text.specs.Laws.{IsPacket}
use Rattle.packet_text.specs.PacketText.{is_nothing, packets_of, packet_line, hex_text}
use Rattle.packet_text.proofs.ReadingBack.{reads_back}
use Rattle.pcap_packets.specs.CaptureText.{number_in, is_header, is_whole_record, behind_record, bad_line, records, records_text, capture_text}
use Rattle.pcap_packets.specs.Written.{header_written, record_of, records_of, capture_of, is_record, packets_written, packet_of, read_back}
use Rattle.pcap_packets.specs.Writing.{one_more, all_fit, part_written, Stands}
use Rattle.pcap_packets.specs.Laws.{WrittenReadsBack, WrittenGivesPackets, ReadsBack}
use Rattle.pcap_packets.specs.declared.order.ByteOrder.TheVariants.{LowFirst}
use Rattle.pcap_packets.proofs.Records.{is_whole, not_whole, records_whole, records_bad, capture_more, capture_short}
use Rattle.pcap_packets.proofs.Writings.{is_record-of, captured_written, length-record_of, packet_read, behind_read, no_record-part}

-- how a text ends with such a part of a record
abbrev ending_of : List ℕ → List ℕ
ending_of [] = []
ending_of (x ∷ part) = bad_line

no_whole : (bytes : List ℕ) → is_record bytes ≡ false → is_whole_record LowFirst bytes ≡ false
no_whole bytes h = not_whole LowFirst bytes (λ w. (let yes = is_record-of bytes (record { header = w.header; packet = w.packet }) in cc))

text_of_part : (part : List ℕ) → is_record part ≡ false → records_text LowFirst part ≡ ending_of part
unfolding records
text_of_part [] h = refl
text_of_part (x ∷ part) h = records_bad LowFirst (x ∷ part) (λ e. absurd (cc)) (no_whole (x ∷ part) h)

some_record : (packet more : List ℕ) → record_of packet ++ more ≢ []
unfolding record_of
some_record packet more e = absurd (cc)

record_read : (packet more : List ℕ) → length packet < 2 ^ 32 → length packet ≤ 65527 → records_text LowFirst (record_of packet ++ more) ≡ packet_line packet ++ records_text LowFirst more
record_read packet more few fits =
    let n = captured_written packet more few in
    let a = length-append (record_of packet) more in
    let b = length-record_of packet in
    let whole = is_whole LowFirst (record_of packet ++ more) (record { header = omega (arith, a, b); fits = omega (arith, n, fits); packet = omega (arith, a, b, n) }) in
    records_whole LowFirst (record_of packet ++ more) whole ∙ ap (λ p. packet_line p ++ records_text LowFirst (behind_record LowFirst (record_of packet ++ more))) (packet_read packet more few)
    ∙ ap (λ rest. packet_line packet ++ records_text LowFirst rest) (behind_read packet more few)

record_long : (packet more : List ℕ) → length packet < 2 ^ 32 → 65527 < length packet → records_text LowFirst (record_of packet ++ more) ≡ bad_line
record_long packet more few long =
    let n = captured_written packet more few in
    records_bad LowFirst (record_of packet ++ more) (some_record packet more) (not_whole LowFirst (record_of packet ++ more) (λ w. (let fits = w.fits in omega (arith, fits, n, long))))

read_step : (packet more text : List ℕ) → length packet < 2 ^ 32 → records_text LowFirst more ≡ text → records_text LowFirst (record_of packet ++ more) ≡ (if nat_le (length packet) 65527 then packet_line packet ++ text else bad_line)
read_step packet more text few is = by_size (cases_lt 65527 (length packet))
  where
    by_size : (65527 < length packet) ⊎ (length packet ≤ 65527) → records_text LowFirst (record_of packet ++ more) ≡ (if nat_le (length packet) 65527 then packet_line packet ++ text else bad_line)
    by_size (inl long) = let test : nat_le (length packet) 65527 ≡ false = grind (arith, nat_tests, long) in rw test (record_long packet more few long)
    by_size (inr short) = let test : nat_le (length packet) 65527 ≡ true = grind (arith, nat_tests, short) in rw test (record_read packet more few short ∙ ap (λ t. packet_line packet ++ t) is)

records_read : (packets : List (List ℕ)) (part : List ℕ) → all_fit packets ≡ true → is_record part ≡ false → records_text LowFirst (records_of packets ++ part) ≡ read_back packets (ending_of part)
unfolding records_of all_fit read_back
records_read [] part fits h = text_of_part part h
records_read (packet ∷ packets) part fits h =
    let parts = and_parts (nat_lt (length packet) (2 ^ 32)) (all_fit packets) fits in
    let few : length packet < 2 ^ 32 = grind (arith, nat_tests, parts.0) in
    ap (records_text LowFirst) (append_assoc (record_of packet) (records_of packets) part) ∙ read_step packet (records_of packets ++ part) (read_back packets (ending_of part)) few (records_read packets part parts.1 h)

-- behind the header that is written stand the records
header_read : (bytes : List ℕ) → capture_text (header_written ++ bytes) ≡ records_text LowFirst bytes
unfolding is_header number_in
header_read bytes = capture_more header_written bytes (omega arith)

no_record_none : is_record [] ≡ false
unfolding is_record
no_record_none = refl

pub written_reads_back : WrittenReadsBack
written_reads_back [] some fits = absurd (some refl)
written_reads_back (packet ∷ packets) some fits =
    header_read (records_of (packet ∷ packets)) ∙ ap (records_text LowFirst) (sym (append-nil (records_of (packet ∷ packets)))) ∙ records_read (packet ∷ packets) [] fits no_record_none

-- packets that are no longer than a client may read
all_short : (packets : List (List ℕ)) → All IsPacket packets → all_fit packets ≡ true
unfolding all_fit
all_short [] h = refl
all_short (packet ∷ packets) h =
    let most = (All-head IsPacket packet packets h).most in
    let test : nat_lt (length packet) (2 ^ 32) ≡ true = grind (arith, nat_tests) in
    and_from (nat_lt (length packet) (2 ^ 32)) (all_fit packets) test (all_short packets (All-tail IsPacket packet packets h))

short_text : (packets : List (List ℕ)) → All IsPacket packets → read_back packets [] ≡ hex_text packets
unfolding read_back hex_text
short_text [] h = refl
short_text (packet ∷ packets) h =
    let most = (All-head IsPacket packet packets h).most in
    let test : nat_le (length packet) 65527 ≡ true = grind (arith, nat_tests) in
    rw test (ap (λ text. packet_line packet ++ text) (short_text packets (All-tail IsPacket packet packets h)))

pub written_gives_packets : WrittenGivesPackets
written_gives_packets packets some h = ap packets_of (written_reads_back packets some (all_short packets h) ∙ short_text packets h) ∙ reads_back packets h

-- ---- what a sink wrote

either_ending : (packets : List (List ℕ)) (part text : List ℕ) → text ≡ read_back packets (ending_of part) → (text ≡ read_back packets []) ⊎ (text ≡ read_back packets bad_line)
either_ending packets [] text is = inl is
either_ending packets (x ∷ part) text is = inr is

-- a part of the first record, with the header in front of it
first_part : (packet part rest : List ℕ) → length packet < 2 ^ 32 → part ++ rest ≡ header_written ++ record_of packet → rest ≢ [] → (capture_text part ≡ []) ⊎ (capture_text part ≡ bad_line)
first_part packet part rest few parts some = by_size (cases_lt (length part) 24)
  where
    by_size : (length part < 24) ⊎ (24 ≤ length part) → (capture_text part ≡ []) ⊎ (capture_text part ≡ bad_line)
    by_size (inl short) = inr (capture_short part short)
    by_size (inr long) =
        let front : take 24 part ≡ header_written = sym (take-append-le 24 part rest long) ∙ ap (take 24) parts in
        let back : drop 24 part ++ rest ≡ record_of packet = sym (drop-append-le 24 part rest long) ∙ ap (drop 24) parts in
        let whole : part ≡ header_written ++ drop 24 part = sym (take-append-drop 24 part) ∙ ap (λ l. l ++ drop 24 part) front in
        let none = no_record-part packet (drop 24 part) rest few some back in
        let text : capture_text part ≡ ending_of (drop 24 part) = ap capture_text whole ∙ header_read (drop 24 part) ∙ text_of_part (drop 24 part) none in
        either (drop 24 part) text
      where
        either : (l : List ℕ) → capture_text part ≡ ending_of l → (capture_text part ≡ []) ⊎ (capture_text part ≡ bad_line)
        either [] is = inl is
        either (x ∷ l) is = inr is

whole_reads : (packets : List (List ℕ)) (bytes : List ℕ) → all_fit packets ≡ true → bytes ≡ capture_of packets → (capture_text bytes ≡ read_back packets []) ⊎ (capture_text bytes ≡ read_back packets bad_line)
unfolding records_of read_back
whole_reads [] bytes fits is = let short : length bytes < 24 = rw is (omega arith) in inr (capture_short bytes short)
whole_reads (packet ∷ packets) bytes fits is = inl (ap capture_text is ∙ written_reads_back (packet ∷ packets) (λ e. absurd (cc)) fits)

either_first : (text : List ℕ) → (text ≡ []) ⊎ (text ≡ bad_line) → (text ≡ read_back [] []) ⊎ (text ≡ read_back [] bad_line)
unfolding read_back
either_first text (inl is) = inl is
either_first text (inr is) = inr is

part_reads : (packets : List (List ℕ)) (packet part rest bytes : List ℕ) → all_fit packets ≡ true → length packet < 2 ^ 32 → bytes ≡ capture_of packets ++ part → part ++ rest ≡ one_more packets packet → rest ≢ []
    → (capture_text bytes ≡ read_back packets []) ⊎ (capture_text bytes ≡ read_back packets bad_line)
unfolding records_of
part_reads [] packet part rest bytes fits few is left some = rw is (either_first (capture_text part) (first_part packet part rest few left some))
part_reads (p ∷ packets) packet part rest bytes fits few is left some =
    let none = no_record-part packet part rest few some left in
    either_ending (p ∷ packets) part (capture_text bytes) (ap capture_text (is ∙ append_assoc header_written (records_of (p ∷ packets)) part) ∙ header_read (records_of (p ∷ packets) ++ part) ∙ records_read (p ∷ packets) part fits none)

none_first : (a b : List ℕ) → a ++ b ≡ [] → a ≡ []
none_first [] b e = refl
none_first (x ∷ xs) b e = absurd (cc)

-- what was written where no rest of a record is left
pub whole_written : (any : Bool) (digits bytes : List ℕ) → Stands any digits [] bytes → bytes ≡ capture_of (packets_written bytes)
whole_written any digits bytes s = s.parts ∙ ap (λ part. capture_of (packets_written bytes) ++ part) (none_first (part_written bytes) [] s.left) ∙ append-nil (capture_of (packets_written bytes))

pub sink_reads : (any : Bool) (digits rest bytes : List ℕ) → Stands any digits rest bytes → (rest ≢ [] → length (packet_of digits) < 2 ^ 32) → ReadsBack bytes
sink_reads any digits [] bytes s few = whole_reads (packets_written bytes) bytes s.fits (whole_written any digits bytes s)
sink_reads any digits (x ∷ rest) bytes s few =
    let some : x ∷ rest ≢ [] = λ e. absurd (cc) in
    part_reads (packets_written bytes) (packet_of digits) (part_written bytes) (x ∷ rest) bytes s.fits (few some) s.parts s.left some

pub left_none : (any : Bool) (digits rest bytes : List ℕ) → Stands any digits rest bytes → not (is_nothing rest) ≡ false → bytes ≡ capture_of (packets_written bytes)
left_none any digits [] bytes s h = whole_written any digits bytes s
left_none any digits (x ∷ rest) bytes s h = absurd (cc)
