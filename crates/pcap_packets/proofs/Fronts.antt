-- What is in hand, and what it makes of the text.
use Rattle.std.proofs.Common.{◌≡◌, ◌≢◌, ◌<◌, ◌≤◌, ◌+◌, ℕ, zero, suc, Bool, true, false, not, nat_lt, List, [], ◌++◌, length, take, drop, Some, None, arith, refl, sym, ap, ◌∙◌, length-drop, append-nil, append_assoc}
use Rattle.std.proofs.lemmas.Bool.{and_parts, and_from}
use Rattle.std.proofs.lemmas.Bool.Decides.{nat_tests}
use Rattle.std.proofs.lemmas.List.{length-take-le, take_at, take-append-drop}
use Rattle.port_base.proofs.TakenTwice.{front}
use Rattle.packet_text.specs.PacketText.{packet_line}
use Rattle.pcap_packets.proofs.Windows.{no_bytes}
use Rattle.pcap_packets.specs.CaptureText.{header_order, captured, is_whole_record, bad_line, records, text_behind}
use Rattle.pcap_packets.specs.Captures.{text_from}
use Rattle.pcap_packets.specs.Steps.Captures.{is_begun, is_waiting}
use Rattle.pcap_packets.specs.declared.order.ByteOrder.{ByteOrder}
use Rattle.pcap_packets.specs.declared.lines.Stage.{Stage}
use Rattle.pcap_packets.specs.declared.lines.Stage.TheVariants.{Start, Records, Over}
use Rattle.pcap_packets.proofs.Records.{WholeRecord, not_whole, records_bad, text_whole, text_bad, capture_more, capture_short}

not_of : (b : Bool) → b ≡ false → not b ≡ true
not_of true h = absurd (cc)
not_of false h = refl

of_not : (b : Bool) → not b ≡ true → b ≡ false
of_not true h = absurd (cc)
of_not false h = refl

pub begun : (order : ByteOrder) (bytes : List ℕ) → length bytes < 65543 → (WholeRecord order bytes → ⊥) → is_begun order bytes ≡ true
begun order bytes few part =
    let short : nat_lt (length bytes) 65543 ≡ true = grind (arith, nat_tests) in
    and_from (nat_lt (length bytes) 65543) (not (is_whole_record order bytes)) short (not_of (is_whole_record order bytes) (not_whole order bytes part))

-- there is room for more
pub waits_short : (stage : Stage) (bytes : List ℕ) → is_waiting stage bytes ≡ true → length bytes < 65543
waits_short Start bytes h = grind (arith, nat_tests)
waits_short (Records order) bytes h =
    let parts = and_parts (nat_lt (length bytes) 65543) (not (is_whole_record order bytes)) h in
    let short = parts.0 in
    grind (arith, nat_tests)
waits_short Over bytes h = absurd (cc)

-- a line in front of a text, and what was in hand behind it
pub line_made : (order : ByteOrder) (line hand : List ℕ) (hand' line' : List ℕ) (size : ℕ) → line ≡ [] → is_whole_record order hand ≡ true → captured order hand ≡ size → line' ≡ packet_line (take size (drop 16 hand)) → hand' ≡ drop (16 + size) hand
    → (coming : List ℕ) → line' ++ text_from (Records order) (hand' ++ coming) ≡ line ++ text_from (Records order) (hand ++ coming)
line_made order line hand hand' line' size none whole is made rest coming = rw (none, made, rest) (sym (text_whole order hand coming size whole is))

pub line_bad : (order : ByteOrder) (line hand line' : List ℕ) → line ≡ [] → 16 ≤ length hand → 65527 < captured order hand → line' ≡ bad_line
    → (coming : List ℕ) → line' ++ [] ≡ line ++ text_from (Records order) (hand ++ coming)
line_bad order line hand line' none header many made coming = rw (none, made) (sym (text_bad order hand coming header many))

pub header_made : (order : ByteOrder) (hand : List ℕ) → 24 ≤ length hand → header_order hand ≡ Some order → (coming : List ℕ) → text_from (Records order) (drop 24 hand ++ coming) ≡ text_from Start (hand ++ coming)
header_made order hand long is coming = sym (capture_more hand coming long ∙ ap (λ o. text_behind o (drop 24 hand ++ coming)) is)

pub header_bad : (line hand line' : List ℕ) → line ≡ [] → 24 ≤ length hand → header_order hand ≡ None → line' ≡ bad_line → (coming : List ℕ) → line' ++ [] ≡ line ++ text_from Start (hand ++ coming)
header_bad line hand line' none long is made coming = rw (none, made) (sym (capture_more hand coming long ∙ ap (λ o. text_behind o (drop 24 hand ++ coming)) is))

-- the source has ended behind what is in hand
pub ends_at_start : (line hand line' : List ℕ) → line ≡ [] → is_waiting Start hand ≡ true → line' ≡ bad_line → line' ++ [] ≡ line ++ text_from Start (hand ++ [])
ends_at_start line hand line' none waits made =
    let short : length hand < 24 = grind (arith, nat_tests) in
    rw (none, made, append-nil hand) (sym (capture_short hand short))

pub ends_in_record : (order : ByteOrder) (line hand line' : List ℕ) → line ≡ [] → is_waiting (Records order) hand ≡ true → hand ≢ [] → line' ≡ bad_line → line' ++ [] ≡ line ++ text_from (Records order) (hand ++ [])
ends_in_record order line hand line' none waits some made =
    let parts = and_parts (nat_lt (length hand) 65543) (not (is_whole_record order hand)) waits in
    rw (none, made, append-nil hand) (sym (records_bad order hand some (of_not (is_whole_record order hand) parts.1)))

pub ends_well : (order : ByteOrder) (hand : List ℕ) → hand ≡ [] → text_from (Records order) (hand ++ []) ≡ []
unfolding records
ends_well order hand none = rw none refl

-- ---- lines given

pub given_more : (whole was into w t line line' left text : List ℕ) (d n : ℕ) → d ≤ length into → n ≤ length line → n ≤ length w → whole ≡ take d into ++ was → line ++ text ≡ was → w ≡ take n line ++ left → line' ≡ drop n line
    → whole ≡ take (d + n) (take d into ++ (w ++ t)) ++ (line' ++ text)
given_more whole was into w t line line' left text d n fits some room parts same put rest =
    let size : length (take n line) ≡ n = length-take-le n line some in
    let piece : take n w ≡ take n line = ap (take n) put ∙ take_at (take n line) left n size in
    let joined : take n line ++ (drop n line ++ text) ≡ was = sym (append_assoc (take n line) (drop n line) text) ∙ ap (λ l. l ++ text) (take-append-drop n line) ∙ same in
    parts ∙ sym (rw (front into w t d n fits room, rest, piece) (append_assoc (take d into) (take n line) (drop n line ++ text) ∙ ap (λ l. take d into ++ l) joined))

drop_every : (n : ℕ) (xs : List ℕ) → length xs ≤ n → drop n xs ≡ []
drop_every n xs h = let size = length-drop n xs in no_bytes (drop n xs) (omega arith)

pub given_all : (line line' : List ℕ) (n : ℕ) → line' ≡ drop n line → length line ≤ n → line' ≡ []
given_all line line' n rest all = rest ∙ drop_every n line all

-- lines given behind those before
pub given_on : (whole was into w t left : List ℕ) (d n : ℕ) → d ≤ length into → n ≤ length w → whole ≡ take d into ++ was → was ≡ take n w ++ left
    → whole ≡ take (d + n) (take d into ++ (w ++ t)) ++ left
given_on whole was into w t left d n fits some parts step =
    parts ∙ ap (λ l. take d into ++ l) step ∙ sym (append_assoc (take d into) (take n w) left) ∙ ap (λ l. l ++ left) (sym (front into w t d n fits some))

-- the front of a line given
pub line_given : (line line' text into new : List ℕ) (n : ℕ) → n ≤ length line → new ≡ take n line ++ drop n into → line' ≡ drop n line → line ++ text ≡ take n new ++ (line' ++ text)
line_given line line' text into new n some put rest =
    let piece : take n new ≡ take n line = ap (take n) put ∙ take_at (take n line) (drop n into) n (length-take-le n line some) in
    rw (piece, rest) (ap (λ l. l ++ text) (sym (take-append-drop n line)) ∙ append_assoc (take n line) (drop n line) text)

-- a line put, of the whole record at the front
pub line_put : (order : ByteOrder) (line hand line' hand' put : List ℕ) (size : ℕ) → line ≡ [] → line' ≡ line → is_whole_record order hand ≡ true → captured order hand ≡ size
    → put ≡ packet_line (take size (drop 16 hand)) → hand' ≡ drop (16 + size) hand
    → (coming : List ℕ) → line ++ text_from (Records order) (hand ++ coming) ≡ put ++ (line' ++ text_from (Records order) (hand' ++ coming))
line_put order line hand line' hand' put size none same whole is made rest coming =
    sym (line_made order line hand hand' put size none whole is made rest coming) ∙ ap (λ l. put ++ (l ++ text_from (Records order) (hand' ++ coming))) (sym (same ∙ none))

-- nothing put, or something
pub put_or_not : (n : ℕ) (into : List ℕ) (P Q : List ℕ → List ℕ) → (n ≡ 0 → (coming : List ℕ) → P coming ≡ Q coming) → (0 < n → (coming : List ℕ) → P coming ≡ take n into ++ Q coming)
    → (coming : List ℕ) → P coming ≡ take n into ++ Q coming
put_or_not zero into P Q none some = none refl
put_or_not (suc n) into P Q none some = some (omega arith)
