-- Where a writer of a capture stands, before and after bytes went.
use Rattle.std.proofs.Common.{◌≡◌, ◌≢◌, ◌⊎◌, inl, inr, ◌<◌, ◌≤◌, ◌+◌, ◌-◌, ◌^◌, min, ℕ, Bool, true, false, not, nat_lt, if◌then◌else◌, List, [], ◌∷◌, ◌++◌, length, drop, Option, Some, None, Result, Ok, Err, IfSome, OnOk, OnErr, arith, refl, sym, ap, ◌∙◌, append_assoc, append-nil}
use Rattle.std.specs.Option.{option_map}
use Rattle.std.proofs.lemmas.Bool.{and_parts, and_from, cases_lt}
use Rattle.std.proofs.lemmas.Bool.Decides.{nat_tests}
use Rattle.std.proofs.lemmas.List.{drop_at}
use Rattle.port_base.specs.Bytes.{after, HasFailed}
use Rattle.packet_text.specs.PacketText.{packet_line, hex_text}
use Rattle.pcap_packets.specs.HeldBytes.{held}
use Rattle.pcap_packets.specs.Written.{header_written, record_of, records_of, is_none, capture_of, is_record, record_packets, packets_written, packet_of}
use Rattle.pcap_packets.specs.Writing.{in_hand, one_more, wanted, all_fit, part_written, Stands}
use Rattle.pcap_packets.specs.Steps.Writing.{Went}
use Rattle.pcap_packets.specs.declared.record.LineRecord.{LineRecord}
use Rattle.pcap_packets.proofs.Windows.{some_behind}
use Rattle.pcap_packets.proofs.Digits.{packet_back, length-packet_of}
use Rattle.pcap_packets.proofs.Writings.{is_part, written_packets, part_more}

-- ---- one packet more

records_snoc : (packets : List (List ℕ)) (packet : List ℕ) → records_of (packets ++ packet ∷ []) ≡ records_of packets ++ record_of packet
unfolding records_of
records_snoc [] packet = append-nil (record_of packet)
records_snoc (p ∷ ps) packet = ap (λ l. record_of p ++ l) (records_snoc ps packet) ∙ sym (append_assoc (record_of p) (records_of ps) (record_of packet))

capture_snoc : (packets : List (List ℕ)) (packet : List ℕ) → capture_of (packets ++ packet ∷ []) ≡ capture_of packets ++ one_more packets packet
unfolding records_of
capture_snoc [] packet = ap (λ l. header_written ++ l) (append-nil (record_of packet))
capture_snoc (p ∷ ps) packet = ap (λ l. header_written ++ l) (records_snoc (p ∷ ps) packet) ∙ sym (append_assoc header_written (records_of (p ∷ ps)) (record_of packet))

fits_snoc : (packets : List (List ℕ)) (packet : List ℕ) → all_fit packets ≡ true → length packet < 2 ^ 32 → all_fit (packets ++ packet ∷ []) ≡ true
unfolding all_fit
fits_snoc [] packet h few = let test : nat_lt (length packet) (2 ^ 32) ≡ true = grind (arith, nat_tests) in and_from (nat_lt (length packet) (2 ^ 32)) true test refl
fits_snoc (p ∷ ps) packet h few =
    let parts = and_parts (nat_lt (length p) (2 ^ 32)) (all_fit ps) h in
    and_from (nat_lt (length p) (2 ^ 32)) (all_fit (ps ++ packet ∷ [])) parts.0 (fits_snoc ps packet parts.1 few)

text_snoc : (packets : List (List ℕ)) (packet : List ℕ) → hex_text (packets ++ packet ∷ []) ≡ hex_text packets ++ packet_line packet
unfolding hex_text
text_snoc [] packet = append-nil (packet_line packet)
text_snoc (p ∷ ps) packet = ap (λ l. packet_line p ++ l) (text_snoc ps packet) ∙ sym (append_assoc (packet_line p) (hex_text ps) (packet_line packet))

some_snoc : (packets : List (List ℕ)) (packet : List ℕ) → is_none (packets ++ packet ∷ []) ≡ false
some_snoc [] packet = refl
some_snoc (p ∷ ps) packet = refl

append_none : (packets : List (List ℕ)) → packets ++ [] ≡ packets
append_none packets = append-nil packets

-- ---- what is in hand

hand_some : (rest digits : List ℕ) → rest ≢ [] → in_hand rest digits ≡ packet_of digits ∷ []
hand_some [] digits some = absurd (some refl)
hand_some (x ∷ rest) digits some = refl

stands_from : (packets : List (List ℕ)) (part bytes : List ℕ) (any : Bool) (digits rest : List ℕ) → bytes ≡ capture_of packets ++ part → packets_written bytes ≡ packets → part ++ rest ≡ wanted packets (in_hand rest digits)
    → all_fit packets ≡ true → any ≡ not (is_none (packets ++ in_hand rest digits)) → Stands any digits rest bytes
stands_from packets part bytes any digits rest parts is left fits begun =
    let behind : drop (length (capture_of packets)) bytes ≡ part = ap (drop (length (capture_of packets))) parts ∙ drop_at (capture_of packets) part (length (capture_of packets)) refl in
    record {
      parts = rw (is, behind) parts;
      left = rw (is, behind) left;
      fits = rw is fits;
      begun = rw is begun;
    }

-- a part of the rest went
pub record WentPart (any : Bool) (digits rest' bytes written : List ℕ) : Type 0 where
  pub same : packets_written (bytes ++ written) ≡ packets_written bytes
  pub stands : Stands any digits rest' (bytes ++ written)

pub went_part : (any : Bool) (digits rest rest' bytes written : List ℕ) → Stands any digits rest bytes → length (packet_of digits) < 2 ^ 32 → rest ≡ written ++ rest' → rest' ≢ [] → WentPart any digits rest' bytes written
went_part any digits rest rest' bytes written s few parts some' =
    let ps = packets_written bytes in
    let part = part_written bytes in
    let p = packet_of digits in
    let some : rest ≢ [] = rw parts (some_behind written rest' some') in
    let hand = hand_some rest digits some in
    let hand' = hand_some rest' digits some' in
    let left : part ++ rest ≡ one_more ps p = s.left ∙ ap (wanted ps) hand in
    let left' : (part ++ written) ++ rest' ≡ one_more ps p = append_assoc part written rest' ∙ ap (λ l. part ++ l) (sym parts) ∙ left in
    let is : bytes ++ written ≡ capture_of ps ++ (part ++ written) = ap (λ l. l ++ written) s.parts ∙ append_assoc (capture_of ps) part written in
    let same : packets_written (bytes ++ written) ≡ ps = ap packets_written is ∙ written_packets ps (part ++ written) s.fits (part_more ps p (part ++ written) rest' few some' left') in
    record {
      same = same;
      stands = stands_from ps (part ++ written) (bytes ++ written) any digits rest' is same (left' ∙ sym (ap (wanted ps) hand')) s.fits (s.begun ∙ ap (λ h. not (is_none (ps ++ h))) (hand ∙ sym hand'));
    }

no_record_none : is_record [] ≡ false
unfolding is_record
no_record_none = refl

no_part : (packets : List (List ℕ)) → is_part packets [] ≡ true
no_part [] = rw no_record_none refl
no_part (p ∷ ps) = rw no_record_none refl

-- all of it went
pub record WentWhole (any : Bool) (digits rest digits' bytes : List ℕ) : Type 0 where
  pub more : packets_written (bytes ++ rest) ≡ packets_written bytes ++ packet_of digits ∷ []
  pub stands : Stands any digits' [] (bytes ++ rest)

pub went_whole : (any : Bool) (digits rest digits' bytes : List ℕ) → Stands any digits rest bytes → length (packet_of digits) < 2 ^ 32 → rest ≢ [] → WentWhole any digits rest digits' bytes
went_whole any digits rest digits' bytes s few some =
    let ps = packets_written bytes in
    let part = part_written bytes in
    let p = packet_of digits in
    let all = ps ++ p ∷ [] in
    let hand = hand_some rest digits some in
    let left : part ++ rest ≡ one_more ps p = s.left ∙ ap (wanted ps) hand in
    let is : bytes ++ rest ≡ capture_of all = ap (λ l. l ++ rest) s.parts ∙ append_assoc (capture_of ps) part rest ∙ ap (λ l. capture_of ps ++ l) left ∙ sym (capture_snoc ps p) in
    let is' : bytes ++ rest ≡ capture_of all ++ [] = is ∙ sym (append-nil (capture_of all)) in
    let fits = fits_snoc ps p s.fits few in
    let more : packets_written (bytes ++ rest) ≡ all = ap packets_written is' ∙ written_packets all [] fits (no_part all) in
    let begun : any ≡ not (is_none (all ++ [])) = s.begun ∙ ap (λ h. not (is_none (ps ++ h))) hand ∙ ap (λ a. not (is_none a)) (sym (append_none all)) in
    record { more = more; stands = stands_from all [] (bytes ++ rest) any digits' [] is' more refl fits begun }

none_first : (a b : List ℕ) → a ++ b ≡ [] → a ≡ []
none_first [] b e = refl
none_first (x ∷ xs) b e = absurd (cc)

header_first : (any none : Bool) → any ≡ not none → (if any then [] else header_written) ≡ (if none then header_written else [])
header_first any true e = rw e refl
header_first any false e = rw e refl

record_some : (packet : List ℕ) → record_of packet ≢ []
unfolding record_of
record_some packet e = absurd (cc)

-- a record was made
pub made : (any : Bool) (digits rest bytes : List ℕ) → Stands any digits [] bytes → rest ≡ (if any then [] else header_written) ++ record_of (packet_of digits) → Stands true digits rest bytes
made any digits rest bytes s is =
    let ps = packets_written bytes in
    let p = packet_of digits in
    let some : rest ≢ [] = rw is (some_behind (if any then [] else header_written) (record_of p) (record_some p)) in
    let hand = hand_some rest digits some in
    let part : part_written bytes ≡ [] = none_first (part_written bytes) [] s.left in
    let begun : any ≡ not (is_none ps) = s.begun ∙ ap (λ a. not (is_none a)) (append_none ps) in
    let image : rest ≡ one_more ps p = is ∙ ap (λ h. h ++ record_of p) (header_first any (is_none ps) begun) in
    record {
      parts = s.parts;
      left = rw (part, hand) image;
      fits = s.fits;
      begun = sym (ap (λ h. not (is_none (ps ++ h))) hand ∙ ap not (some_snoc ps p));
    }

-- ---- a sink that may tell its bytes

-- the text that it got, by the bytes below and the digits in hand
abbrev pub text_got : Option (List ℕ) → List ℕ → Option (List ℕ)
text_got got digits = option_map (λ bytes. hex_text (packets_written bytes) ++ digits) got

-- wherever it tells them, it stands so
abbrev pub AllStand : Option (List ℕ) → Bool → List ℕ → List ℕ → Type 0
AllStand got any digits rest = (bytes : List ℕ) → got ≡ Some bytes → Stands any digits rest bytes

pub got_part : (got now : Option (List ℕ)) (any : Bool) (digits rest rest' : List ℕ) → AllStand got any digits rest → length (packet_of digits) < 2 ^ 32 → Went rest got rest' now → rest' ≢ []
    → text_got now digits ≡ after (text_got got digits) []
got_part None now any digits rest rest' s few w some = rw w.got refl
got_part (Some bytes) now any digits rest rest' s few w some =
    let p = went_part any digits rest rest' bytes w.written (s bytes refl) few w.parts some in
    rw (w.got, p.same) (ap Some (sym (append-nil (hex_text (packets_written bytes) ++ digits))))

pub stand_part : (got now : Option (List ℕ)) (any : Bool) (digits rest rest' : List ℕ) → AllStand got any digits rest → length (packet_of digits) < 2 ^ 32 → Went rest got rest' now → rest' ≢ [] → AllStand now any digits rest'
stand_part None now any digits rest rest' s few w some = λ bytes is. absurd (let e = w.got in cc)
stand_part (Some old) now any digits rest rest' s few w some = λ bytes is. (
    let p = went_part any digits rest rest' old w.written (s old refl) few w.parts some in
    let same : old ++ w.written ≡ bytes = (let e = w.got in cc) in
    rw same at p.stands)

pub got_whole : (got now : Option (List ℕ)) (any : Bool) (digits rest : List ℕ) → AllStand got any digits rest → length (packet_of digits) < 2 ^ 32 → Went rest got [] now → rest ≢ [] → packet_line (packet_of digits) ≡ digits ++ 10 ∷ []
    → text_got now [] ≡ after (text_got got digits) (10 ∷ [])
got_whole None now any digits rest s few w some line = rw w.got refl
got_whole (Some bytes) now any digits rest s few w some line =
    let p = went_whole any digits rest [] bytes (s bytes refl) few some in
    let ps = packets_written bytes in
    let all : rest ≡ w.written = w.parts ∙ append-nil w.written in
    let text : hex_text (packets_written (bytes ++ w.written)) ≡ (hex_text ps ++ digits) ++ 10 ∷ [] =
    ap (λ r. hex_text (packets_written (bytes ++ r))) (sym all) ∙ ap hex_text p.more ∙ text_snoc ps (packet_of digits) ∙ ap (λ l. hex_text ps ++ l) line ∙ sym (append_assoc (hex_text ps) digits (10 ∷ [])) in
    rw w.got (ap Some (append-nil (hex_text (packets_written (bytes ++ w.written))) ∙ text))

pub stand_whole : (got now : Option (List ℕ)) (any : Bool) (digits rest digits' : List ℕ) → AllStand got any digits rest → length (packet_of digits) < 2 ^ 32 → Went rest got [] now → rest ≢ [] → AllStand now any digits' []
stand_whole None now any digits rest digits' s few w some = λ bytes is. absurd (let e = w.got in cc)
stand_whole (Some old) now any digits rest digits' s few w some = λ bytes is. (
    let p = went_whole any digits rest digits' old (s old refl) few some in
    let all : rest ≡ w.written = w.parts ∙ append-nil w.written in
    let same : old ++ rest ≡ bytes = (let e = w.got in cc) in
    rw same at p.stands)

-- by how the write ended
pub stand_either : {T E : Type 0} → (r : Result T E) (got now : Option (List ℕ)) (any any' : Bool) (digits digits' rest rest' : List ℕ) → AllStand got any digits rest → length (packet_of digits) < 2 ^ 32 → Went rest got rest' now → rest ≢ [] → any' ≡ any
    → OnOk r ((rest' ≡ []) × (digits' ≡ [])) → OnErr r ((rest' ≢ []) × (digits' ≡ digits)) → AllStand now any' digits' rest'
stand_either (Ok v) got now any any' digits digits' rest rest' s few w some begun whole part =
    let w' : Went rest got [] now = rw whole.0 at w in
    rw (begun, whole.0) (stand_whole got now any digits rest digits' s few w' some)
stand_either (Err e) got now any any' digits digits' rest rest' s few w some begun whole part =
    rw (begun, part.1) (stand_part got now any digits rest rest' s few w part.0)

-- nothing was written
none_written : packets_written [] ≡ []
unfolding packets_written record_packets
none_written = refl

all_fit_none : all_fit [] ≡ true
unfolding all_fit
all_fit_none = refl

pub fresh_stands : (got : Option (List ℕ)) (any : Bool) (digits rest : List ℕ) → IfSome got (λ bytes. bytes ≡ []) → any ≡ false → rest ≡ [] → AllStand got any digits rest
unfolding records_of
fresh_stands None any digits rest none begun over = λ bytes is. absurd (cc)
fresh_stands (Some old) any digits rest none begun over = λ bytes is. (
    let empty : bytes ≡ [] = (let e = none in cc) in
    rw (begun, over, empty) (stands_from [] [] [] false digits [] refl none_written refl all_fit_none refl))

pub fresh_text : (got : Option (List ℕ)) (digits : List ℕ) → IfSome got (λ bytes. bytes ≡ []) → digits ≡ [] → text_got got digits ≡ option_map (λ _. []) got
unfolding hex_text
fresh_text None digits none over = refl
fresh_text (Some old) digits none over = rw (none, over, none_written) refl

-- a record was made
pub made_stands : (got : Option (List ℕ)) (any : Bool) (digits rest : List ℕ) → AllStand got any digits [] → rest ≡ (if any then [] else header_written) ++ record_of (packet_of digits) → AllStand got true digits rest
made_stands got any digits rest s is = λ bytes told. made any digits rest bytes (s bytes told) is

pub made_some : (front rest packet : List ℕ) → rest ≡ front ++ record_of packet → rest ≢ []
made_some front rest packet is = rw is (some_behind front (record_of packet) (record_some packet))

-- ---- the line of a record

pub line_of_record : (l : LineRecord) → held l.rest ≢ [] → packet_line (packet_of (held l.line)) ≡ held l.line ++ 10 ∷ []
line_of_record l some = packet_back (held l.line) l.digits (l.even some)

pub record_fits : (l : LineRecord) → held l.rest ≢ [] → length (packet_of (held l.line)) < 2 ^ 32
record_fits l some =
    let few = l.few in
    let size = length-packet_of (held l.line) l.digits (l.even some) in
    omega (arith, few, size)

-- ---- counts of faults

pub later_faults : (a b m n : ℕ) → a ≤ b → m ≤ n → min (a + m) (2 ^ 64 - 1) ≤ min (b + n) (2 ^ 64 - 1)
later_faults a b m n h k = omega arith

pub own_fault : (a m n : ℕ) → n ≡ min (m + 1) (2 ^ 64 - 1) → HasFailed (min (a + m) (2 ^ 64 - 1)) (min (a + n) (2 ^ 64 - 1))
own_fault a m n e = by_size (cases_lt (a + m) (2 ^ 64 - 1))
  where
    by_size : (a + m < 2 ^ 64 - 1) ⊎ (2 ^ 64 - 1 ≤ a + m) → HasFailed (min (a + m) (2 ^ 64 - 1)) (min (a + n) (2 ^ 64 - 1))
    by_size (inl less) = inl (omega (arith, e, less))
    by_size (inr full) = inr (omega (arith, e, full))

pub inner_fault : (a b m : ℕ) → HasFailed a b → HasFailed (min (a + m) (2 ^ 64 - 1)) (min (b + m) (2 ^ 64 - 1))
inner_fault a b m (inr end) = inr (omega (arith, end))
inner_fault a b m (inl more) = by_size (cases_lt (a + m) (2 ^ 64 - 1))
  where
    by_size : (a + m < 2 ^ 64 - 1) ⊎ (2 ^ 64 - 1 ≤ a + m) → HasFailed (min (a + m) (2 ^ 64 - 1)) (min (b + m) (2 ^ 64 - 1))
    by_size (inl less) = inl (omega (arith, more, less))
    by_size (inr full) = inr (omega (arith, more, full))
