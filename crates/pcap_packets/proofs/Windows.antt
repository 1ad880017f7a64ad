-- Bytes that are held, as a window of a buffer.
use Rattle.std.proofs.Common.{◌≡◌, ◌≢◌, ◌≤◌, ◌+◌, ◌-◌, ◌*◌, ℕ, List, [], ◌∷◌, ◌++◌, length, take, drop, arith, refl, sym, ap, ◌∙◌, length-drop, length-append, append-nil, append_assoc, Option}
use Rattle.port_base.specs.Bytes.{before, after}
use Rattle.port_base.proofs.GivenLaws.{after-none}
use Rattle.port_base.proofs.TakenTwice.{after-after}
use Rattle.pcap_packets.specs.Steps.Writing.{Went}
use Rattle.std.proofs.lemmas.List.{take-append-drop, length-take-le, drop-take, drop-drop, take-take, take_at, drop_at}
use Rattle.std.proofs.Math.Seq.{take-add}
use Rattle.std.proofs.lemmas.List.Edits.{take-paste}
use lib.Seq.{paste}
use Rattle.hex.specs.Hex.{encode_lower, lower_digits}
use Rattle.hex.proofs.HexLemmas.{length-encode_with}
use Rattle.packet_text.specs.PacketText.{packet_line}
use Rattle.pcap_packets.specs.HeldBytes.{held}
use Rattle.pcap_packets.specs.declared.held.Held.{Held}

pub length-window : (xs : List ℕ) (at end : ℕ) → end ≤ length xs → length (take (end - at) (drop at xs)) ≡ end - at
length-window xs at end fits =
    let size = length-drop at xs in
    length-take-le (end - at) (drop at xs) (omega arith)

pub length-held : (h : Held) → length (held h) ≡ h.end - h.at
unfolding held
length-held h = let w = h.within in let r = h.room in length-window h.bytes.items h.at h.end (omega arith)

-- the window behind some bytes of it
pub window_behind : (xs : List ℕ) (at end count : ℕ) → at + count ≤ end → take (end - (at + count)) (drop (at + count) xs) ≡ drop count (take (end - at) (drop at xs))
window_behind xs at end count fits =
    let m = end - (at + count) in
    let parts : end - at ≡ count + m = omega arith in
    rw parts (sym (drop-take count m (drop at xs) ∙ ap (take m) (drop-drop count at xs)))

-- the front of a window
pub window_front : (xs : List ℕ) (at end count : ℕ) → at + count ≤ end → take count (drop at xs) ≡ take count (take (end - at) (drop at xs))
window_front xs at end count fits = sym (take-take count (end - at) (drop at xs) (omega arith))

nothing : (xs : List ℕ) → length xs ≡ 0 → xs ≡ []
nothing [] h = refl
nothing (x ∷ xs) h = absurd (omega arith)

pub no_bytes : (xs : List ℕ) → length xs ≡ 0 → xs ≡ []
no_bytes xs h = nothing xs h

-- the window moved to the front
pub window_moved : (xs : List ℕ) (at end : ℕ) → at ≤ end → end ≤ length xs → take (end - at - 0) (drop 0 (paste xs 0 (drop at xs) (end - at))) ≡ take (end - at) (drop at xs)
window_moved xs at end order fits =
    let size = length-drop at xs in
    let n = end - at in
    let z : n - 0 ≡ 0 + n = omega arith in
    let room : n ≤ length (drop at xs) = omega arith in
    rw z (take-paste xs 0 (drop at xs) n (omega arith) room)

-- the window with what came behind it, where what stood up to its end is as it was
pub asked : (xs ys : List ℕ) (at end n : ℕ) → at ≤ end → end + n ≤ length ys → take end ys ≡ take end xs
    → take (end + n - at) (drop at ys) ≡ take (end - at) (drop at xs) ++ take n (drop end ys)
asked xs ys at end n order fits same =
    let parts : end + n - at ≡ (end - at) + n = omega arith in
    let there : end ≡ at + (end - at) = omega arith in
    let front : take (end - at) (drop at ys) ≡ take (end - at) (drop at xs) =
    sym (drop-take at (end - at) ys) ∙ ap (drop at) (ap (λ k. take k ys) (sym there) ∙ same ∙ ap (λ k. take k xs) there) ∙ drop-take at (end - at) xs in
    let back : drop (end - at) (drop at ys) ≡ drop end ys = drop-drop (end - at) at ys ∙ ap (λ k. drop k ys) (sym there) in
    rw parts (take-add (end - at) n (drop at ys)) ∙ ap (λ l. l ++ take n (drop (end - at) (drop at ys))) front ∙ ap (λ l. take (end - at) (drop at xs) ++ take n l) back

-- bytes that came are held behind those that were
pub asked_held : (old now new : Held) (ys : List ℕ) (n : ℕ) → held now ≡ held old → new.bytes.items ≡ ys → new.at ≡ now.at → new.end ≡ now.end + n → now.end + n ≤ length ys → take now.end ys ≡ take now.end now.bytes.items
    → held new ≡ held old ++ take n (drop now.end ys)
unfolding held
asked_held old now new ys n moved items at end fits front = rw (items, at, end) (asked now.bytes.items ys now.at now.end n now.order fits front ∙ ap (λ l. l ++ take n (drop now.end ys)) moved)

-- none came
pub asked_none : (old now new : Held) (ys : List ℕ) → held now ≡ held old → new.bytes.items ≡ ys → new.at ≡ now.at → new.end ≡ now.end → length ys ≡ length now.bytes.items → take now.end ys ≡ take now.end now.bytes.items → held new ≡ held old
asked_none old now new ys moved items at end size front =
    let room = now.room in
    let within = now.within in
    let fits : now.end + 0 ≤ length ys = omega (arith, size, room, within) in
    let zero : new.end ≡ now.end + 0 = omega (arith, end) in
    asked_held old now new ys 0 moved items at zero fits front ∙ append-nil (held old)

-- what came behind others
pub came_parts : (old new further : List ℕ) → new ≡ old ++ further → new ≡ old ++ drop (length old) new
came_parts old new further parts = rw parts (ap (λ l. old ++ l) (sym (drop_at old further (length old) refl)))

pub came_is : (old new further : List ℕ) → new ≡ old ++ further → drop (length old) new ≡ further
came_is old new further parts = rw parts (drop_at old further (length old) refl)

pub before_came : (first : Option (List ℕ)) (old new further : List ℕ) (left : Option (List ℕ)) → new ≡ old ++ further → first ≡ before further left → first ≡ before (drop (length old) new) left
before_came first old new further left parts had = rw (came_is old new further parts) had

pub length-further : (old new ys : List ℕ) (end n : ℕ) → end + n ≤ length ys → new ≡ old ++ take n (drop end ys) → length new ≡ length old + n
length-further old new ys end n fits parts =
    let left = length-drop end ys in
    let size : length (take n (drop end ys)) ≡ n = length-take-le n (drop end ys) (omega arith) in
    ap length parts ∙ length-append old (take n (drop end ys)) ∙ ap (λ k. length old + k) size

-- a buffer's front as a window
pub front_window : (front xs : List ℕ) (n : ℕ) (rest : List ℕ) → length front ≡ n → xs ≡ front ++ rest → take (n - 0) (drop 0 xs) ≡ front
front_window front xs n rest size parts =
    let z : n - 0 ≡ n = omega arith in
    rw (z, parts) (take_at front rest n size)

pub length-packet_line : (packet : List ℕ) → length (packet_line packet) ≡ 2 * length packet + 1
length-packet_line packet = length-append (encode_lower packet) (10 ∷ []) ∙ ap (λ k. k + 1) (length-encode_with lower_digits packet)

-- bytes put behind the others, where none went
pub pushed : (old new : Held) (ys bytes : List ℕ) (n : ℕ) → old.at ≡ 0 → new.bytes.items ≡ ys → new.at ≡ old.at → new.end ≡ old.end + n → take (old.end + n) ys ≡ take old.end old.bytes.items ++ bytes → held new ≡ held old ++ bytes
unfolding held
pushed old new ys bytes n front items at end put =
    let a : old.end - 0 ≡ old.end = omega arith in
    let b : old.end + n - 0 ≡ old.end + n = omega arith in
    rw (items, at, end, front, a, b) put

-- ---- bytes that went to a sink

pub went_none : (old : List ℕ) (got : Option (List ℕ)) → Went old got old got
went_none old got = record { written = []; parts = refl; got = after-none got }

pub went_more : (first old new : List ℕ) (got now later : Option (List ℕ)) (n : ℕ) → Went first got old now → new ≡ drop n old → later ≡ after now (take n old) → Went first got new later
went_more first old new got now later n h rest more = record {
  written = h.written ++ take n old;
  parts = h.parts ∙ ap (λ l. h.written ++ l) (sym (take-append-drop n old) ∙ ap (λ l. take n old ++ l) (sym rest)) ∙ sym (append_assoc h.written (take n old) new);
  got = more ∙ ap (λ g. after g (take n old)) h.got ∙ after-after got h.written (take n old);
}

pub went_same : (first old : List ℕ) (got now later : Option (List ℕ)) → Went first got old now → later ≡ after now [] → Went first got old later
went_same first old got now later h same = record { written = h.written; parts = h.parts; got = same ∙ sym (after-none now) ∙ h.got }

pub some_behind : (a b : List ℕ) → b ≢ [] → a ++ b ≢ []
some_behind [] b some e = some e
some_behind (x ∷ xs) b some e = absurd (cc)
