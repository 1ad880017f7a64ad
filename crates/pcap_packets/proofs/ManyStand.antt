-- Where a writer of a capture stands before and after the records of many lines went.
use Rattle.std.proofs.Common.{◌≡◌, ◌≢◌, ◌<◌, ◌^◌, ℕ, Bool, true, List, [], ◌∷◌, ◌++◌, length, Option, Some, None, arith, refl, sym, ap, ◌∙◌, append_assoc, append-nil}
use Rattle.std.proofs.lemmas.Bool.{and_parts}
use Rattle.port_base.specs.Bytes.{after}
use Rattle.port_base.specs.declared.drain.Written.{Written}
use Rattle.port_base.specs.declared.drain.Written.TheVariants.{Whole, Lost}
use Rattle.port_base.proofs.GivenLaws.{after-none}
use Rattle.port_base.proofs.TakenTwice.{after-after}
use Rattle.packet_text.specs.PacketText.{hex_text}
use Rattle.pcap_packets.specs.Written.{record_of, packets_written, packet_of}
use Rattle.pcap_packets.specs.Steps.Writing.{Went}
use Rattle.pcap_packets.specs.Steps.Gathering.{is_whole_line, are_lines, lines_text, lines_records, PartWent, WentLines}
use Rattle.pcap_packets.proofs.Digits.{packet_back, length-packet_of}
use Rattle.pcap_packets.proofs.Writings.{length-record_of}
use Rattle.pcap_packets.proofs.Standing.{AllStand, text_got, made_stands, stand_part, got_part, stand_whole, got_whole}
use Rattle.pcap_packets.proofs.ManyLines.{whole_line-is, lines_first, text_first, record_first, no_text, no_records}

-- where no rest is left the digits in hand count for nothing
any_digits : (got : Option (List ℕ)) (digits digits' : List ℕ) → AllStand got true digits [] → AllStand got true digits' []
any_digits got digits digits' s = λ bytes told. (let h = s bytes told in record { parts = h.parts; left = h.left; fits = h.fits; begun = h.begun })

digits_got : (got : Option (List ℕ)) (digits : List ℕ) → text_got got digits ≡ after (text_got got []) digits
digits_got None digits = refl
digits_got (Some bytes) digits = ap (λ l. Some (l ++ digits)) (sym (append-nil (hex_text (packets_written bytes))))

record_of-some : (packet : List ℕ) → record_of packet ≢ []
record_of-some packet none = let size = length-record_of packet in let zero = ap length none in omega (arith, size, zero)

line_fits : (digits : List ℕ) → is_whole_line digits ≡ true → length (packet_of digits) < 2 ^ 32
line_fits digits h =
    let w = whole_line-is digits h in
    let few = w.few in
    let two = length-packet_of digits w.lower w.even in
    omega (arith, few, two)

-- ---- one line

made_one : (got : Option (List ℕ)) (digits : List ℕ) → AllStand got true [] [] → AllStand got true digits (record_of (packet_of digits))
made_one got digits s = made_stands got true digits (record_of (packet_of digits)) (any_digits got [] digits s) refl

went_one : (got : Option (List ℕ)) (rest : List ℕ) → Went rest got [] (after got rest)
went_one got rest = record { written = rest; parts = sym (append-nil rest); got = refl }

stand_one : (got : Option (List ℕ)) (digits : List ℕ) → is_whole_line digits ≡ true → AllStand got true [] [] → AllStand (after got (record_of (packet_of digits))) true [] []
stand_one got digits h s =
    let rest = record_of (packet_of digits) in
    stand_whole got (after got rest) true digits rest [] (made_one got digits s) (line_fits digits h) (went_one got rest) (record_of-some (packet_of digits))

got_one : (got : Option (List ℕ)) (digits : List ℕ) → is_whole_line digits ≡ true → AllStand got true [] [] → text_got (after got (record_of (packet_of digits))) [] ≡ after (text_got got []) (digits ++ 10 ∷ [])
got_one got digits h s =
    let rest = record_of (packet_of digits) in
    let w = whole_line-is digits h in
    got_whole got (after got rest) true digits rest (made_one got digits s) (line_fits digits h) (went_one got rest) (record_of-some (packet_of digits)) (packet_back digits w.lower w.even)
    ∙ ap (λ g. after g (10 ∷ [])) (digits_got got digits) ∙ after-after (text_got got []) digits (10 ∷ [])

-- ---- lines

stand_lines : (lines : List (List ℕ)) (got : Option (List ℕ)) → are_lines lines ≡ true → AllStand got true [] [] → AllStand (after got (lines_records lines)) true [] []
stand_lines [] got h s = rw (no_records, sym (after-none got)) s
stand_lines (d ∷ ds) got h s =
    let parts = and_parts (is_whole_line d) (are_lines ds) (sym (lines_first d ds) ∙ h) in
    let r = record_of (packet_of d) in
    rw (record_first d ds, sym (after-after got r (lines_records ds))) (stand_lines ds (after got r) parts.1 (stand_one got d parts.0 s))

got_lines : (lines : List (List ℕ)) (got : Option (List ℕ)) → are_lines lines ≡ true → AllStand got true [] [] → text_got (after got (lines_records lines)) [] ≡ after (text_got got []) (lines_text lines)
got_lines [] got h s =
    ap (λ r. text_got (after got r) []) no_records ∙ ap (λ g. text_got g []) (sym (after-none got)) ∙ after-none (text_got got []) ∙ ap (after (text_got got [])) (sym no_text)
got_lines (d ∷ ds) got h s =
    let parts = and_parts (is_whole_line d) (are_lines ds) (sym (lines_first d ds) ∙ h) in
    let r = record_of (packet_of d) in
    let text : (d ++ 10 ∷ []) ++ lines_text ds ≡ lines_text (d ∷ ds) = append_assoc d (10 ∷ []) (lines_text ds) ∙ sym (text_first d ds) in
    ap (λ l. text_got (after got l) []) (record_first d ds) ∙ ap (λ g. text_got g []) (sym (after-after got r (lines_records ds))) ∙ got_lines ds (after got r) parts.1 (stand_one got d parts.0 s)
    ∙ ap (λ g. after g (lines_text ds)) (got_one got d parts.0 s) ∙ after-after (text_got got []) (d ++ 10 ∷ []) (lines_text ds) ∙ ap (after (text_got got [])) text

-- ---- lines, and a part of a record

went_behind : (got now : Option (List ℕ)) (text written digits rest : List ℕ) (p : PartWent text written digits rest) → now ≡ after got written → Went (record_of (packet_of digits)) (after got (lines_records p.lines)) rest now
went_behind got now text written digits rest p is = record {
  written = p.part;
  parts = sym p.cut;
  got = is ∙ ap (after got) p.parts ∙ sym (after-after got (lines_records p.lines) p.part);
}

made_behind : (got : Option (List ℕ)) (text written digits rest : List ℕ) (p : PartWent text written digits rest) → AllStand got true [] [] → AllStand (after got (lines_records p.lines)) true digits (record_of (packet_of digits))
made_behind got text written digits rest p s = made_one (after got (lines_records p.lines)) digits (stand_lines p.lines got p.good s)

stand_behind : (got now : Option (List ℕ)) (text written digits rest : List ℕ) (p : PartWent text written digits rest) → now ≡ after got written → AllStand got true [] [] → rest ≢ [] → AllStand now true digits rest
stand_behind got now text written digits rest p is s some =
    stand_part (after got (lines_records p.lines)) now true digits (record_of (packet_of digits)) rest (made_behind got text written digits rest p s) (line_fits digits p.line) (went_behind got now text written digits rest p is) some

got_behind : (got now : Option (List ℕ)) (text written digits rest : List ℕ) (p : PartWent text written digits rest) → now ≡ after got written → AllStand got true [] [] → rest ≢ [] → text_got now digits ≡ after (text_got got []) text
got_behind got now text written digits rest p is s some =
    let mid = after got (lines_records p.lines) in
    got_part mid now true digits (record_of (packet_of digits)) rest (made_behind got text written digits rest p s) (line_fits digits p.line) (went_behind got now text written digits rest p is) some
    ∙ sym (after-none (text_got mid digits)) ∙ digits_got mid digits ∙ ap (λ g. after g digits) (got_lines p.lines got p.good s) ∙ after-after (text_got got []) (lines_text p.lines) digits ∙ ap (after (text_got got [])) (sym p.is)

-- ---- by how the write ended

stand_answer : (answer : Written) (text : List ℕ) (got now : Option (List ℕ)) (digits rest : List ℕ) → AllStand got true [] [] → WentLines answer text got digits rest now → (answer ≡ Lost → rest ≢ []) → AllStand now true digits rest
stand_answer Whole text got now digits rest s w some =
    let g = w.left.0 in
    rw (w.got, w.left.1, w.left.2, g.all) (stand_lines g.lines got g.are.good s)
stand_answer Lost text got now digits rest s w some = stand_behind got now text w.written digits rest w.left w.got s (some refl)

got_answer : (answer : Written) (text : List ℕ) (got now : Option (List ℕ)) (digits rest : List ℕ) → AllStand got true [] [] → WentLines answer text got digits rest now → (answer ≡ Lost → rest ≢ []) → text_got now digits ≡ after (text_got got []) text
got_answer Whole text got now digits rest s w some =
    let g = w.left.0 in
    rw (w.got, w.left.1, g.all, g.are.is) (got_lines g.lines got g.are.good s)
got_answer Lost text got now digits rest s w some = got_behind got now text w.written digits rest w.left w.got s (some refl)

pub stands_went : (answer : Written) (text : List ℕ) (got now : Option (List ℕ)) (any any' : Bool) (old digits over rest : List ℕ) → AllStand got any old over → any ≡ true → old ≡ [] → over ≡ [] → any' ≡ any
    → WentLines answer text got digits rest now → (answer ≡ Lost → rest ≢ []) → AllStand now any' digits rest
stands_went answer text got now any any' old digits over rest s begun none clear same w some =
    rw (same, begun) (stand_answer answer text got now digits rest (λ bytes told. (rw (begun, none, clear) at (s bytes told))) w some)

pub got_went : (answer : Written) (text : List ℕ) (got now : Option (List ℕ)) (any : Bool) (old digits over rest : List ℕ) → AllStand got any old over → any ≡ true → old ≡ [] → over ≡ []
    → WentLines answer text got digits rest now → (answer ≡ Lost → rest ≢ []) → text_got now digits ≡ after (text_got got old) text
got_went answer text got now any old digits over rest s begun none clear w some =
    rw none (got_answer answer text got now digits rest (λ bytes told. (rw (begun, none, clear) at (s bytes told))) w some)
