-- What the lines that are held, and a write of them, make of the count of packets.
use Rattle.std.proofs.Common.{◌≡◌, ◌≢◌, ◌≤◌, ◌+◌, ◌-◌, ◌/◌, ◌%◌, ◌^◌, ℕ, zero, suc, min, Bool, true, false, true≢false, ◌==◌, cond, List, [], ◌∷◌, ◌++◌, length, take, drop, slice_index, arith, refl, sym, ap, subst, inl, inr, ◌∙◌, append_assoc, append-nil, length-append}
use Rattle.std.specs.Prelude.{filter}
use Rattle.std.proofs.lemmas.List.{take-append-drop, take-append-le, length-take-le}
use Rattle.std.proofs.Math.Seq.{take-length, drop-length}
use Rattle.std.proofs.lemmas.List.Elements.{filter-append}
use Rattle.hex.specs.Hex.{lower_digits, encode_with, encode_lower}
use Rattle.port_base.specs.Given.{Lives, Gained}
use Rattle.port_base.specs.Sent.{IsSent}
use Rattle.port_base.specs.Views.{State, Empty, Live, Dead, is_dead, OutView}
use Rattle.port_base.specs.Writes.{IsWriting, state_after_write}
use Rattle.port_base.specs.declared.drain.Written.{Written}
use Rattle.port_base.specs.declared.drain.Written.TheVariants as written
use Rattle.port_base.proofs.GivenLaws.{gained_twice, empty_not_live, dead_not_live}
use Rattle.otn_base.specs.Counts.{saturated}
use Rattle.packet_text.specs.PacketText.{packet_line, hex_text}
use Rattle.device_model.specs.Numbers.{whole_lines, counted_packets}
use Rattle.cross_matrix.specs.Receiving.{HeldView, NoneHeld}
use Rattle.cross_matrix.specs.Steps.Receiving.{LinesSent, LinesHeld}

-- ---- whole lines

lines-append : (a b : List ℕ) → whole_lines (a ++ b) ≡ whole_lines a + whole_lines b
lines-append a b = ap length (filter-append (λ byte. byte == 10) a b) ∙ length-append (filter (λ byte. byte == 10) a) (filter (λ byte. byte == 10) b)

lines-cons : (x : ℕ) (xs : List ℕ) → (x == 10) ≡ false → whole_lines (x ∷ xs) ≡ whole_lines xs
lines-cons x xs e = ap (λ b. length (cond b (x ∷ filter (λ byte. byte == 10) xs) (filter (λ byte. byte == 10) xs))) e

no_lf : (b : Bool) (x : ℕ) (xs : List ℕ) → (x == 10) ≡ b → whole_lines (x ∷ xs) ≡ 0 → (b ≡ false) × (whole_lines xs ≡ 0)
no_lf false x xs e h = (refl, sym (lines-cons x xs e) ∙ h)
no_lf true x xs e h = absurd (let f = ap (λ b. length (cond b (x ∷ filter (λ byte. byte == 10) xs) (filter (λ byte. byte == 10) xs))) e in omega arith)

-- no entry of a table without line feeds is one
no_lf_at : (table : List ℕ) (k : ℕ) → whole_lines table ≡ 0 → (slice_index table k == 10) ≡ false
no_lf_at [] k h = refl
no_lf_at (x ∷ xs) zero h = (no_lf (x == 10) x xs refl h).0
no_lf_at (x ∷ xs) (suc k) h = no_lf_at xs k (no_lf (x == 10) x xs refl h).1

digits_clean : (table packet : List ℕ) → whole_lines table ≡ 0 → whole_lines (encode_with table packet) ≡ 0
unfolding encode_with
digits_clean table [] h = refl
digits_clean table (byte ∷ packet) h =
    let high = byte / 16 in
    let low = byte % 16 in
    lines-cons (slice_index table high) (slice_index table low ∷ encode_with table packet) (no_lf_at table high h) ∙ lines-cons (slice_index table low) (encode_with table packet) (no_lf_at table low h) ∙ digits_clean table packet h

digits_none : (packet : List ℕ) → whole_lines (encode_lower packet) ≡ 0
digits_none packet = digits_clean lower_digits packet refl

line_one : (packet : List ℕ) → whole_lines (packet_line packet) ≡ 1
line_one packet = lines-append (encode_lower packet) (10 ∷ []) ∙ ap (λ n. n + 1) (digits_none packet)

-- ---- texts

pub text-append : (ps qs : List (List ℕ)) → hex_text (ps ++ qs) ≡ hex_text ps ++ hex_text qs
unfolding hex_text
text-append [] qs = refl
text-append (p ∷ ps) qs = ap (λ text. packet_line p ++ text) (text-append ps qs) ∙ sym (append_assoc (packet_line p) (hex_text ps) (hex_text qs))

text-one : (packet : List ℕ) → hex_text (packet ∷ []) ≡ packet_line packet
unfolding hex_text
text-one packet = append-nil (packet_line packet)

text-more : (packets : List (List ℕ)) (packet : List ℕ) → hex_text (packets ++ packet ∷ []) ≡ hex_text packets ++ packet_line packet
text-more packets packet = text-append packets (packet ∷ []) ∙ ap (λ text. hex_text packets ++ text) (text-one packet)

-- ---- a place that was live or dead at first

not_empty : (first now : State) (f g : ℕ) → Lives first now f g → now ≢ Empty → first ≢ Empty
not_empty first now f g (inl (same, calm)) some e = some (same ∙ e)
not_empty first now f g (inr (live, dead, failed)) some e = empty_not_live (sym e ∙ live)

counts_went : (s : State) (packets : List (List ℕ)) (sent : List ℕ) → s ≢ Empty → counted_packets s packets sent ≡ whole_lines sent
counts_went Empty packets sent some = absurd (some refl)
counts_went Live packets sent some = refl
counts_went Dead packets sent some = refl

counts_all : (s : State) (packets : List (List ℕ)) (sent : List ℕ) → s ≡ Empty → counted_packets s packets sent ≡ length packets
counts_all Empty packets sent e = refl
counts_all Live packets sent e = absurd (empty_not_live (sym e))
counts_all Dead packets sent e = absurd (cc)

more_counted : (n m : ℕ) → min (saturated n + m) (2 ^ 64 - 1) ≡ saturated (n + m)
more_counted n m = omega arith

dead_not_empty : Dead ≢ Empty
dead_not_empty e = cc

live_not_empty : Live ≢ Empty
live_not_empty e = cc

was_empty : (s now : State) (f g : ℕ) → Lives s now f g → now ≡ Empty → s ≡ Empty
was_empty s now f g (inl (same, calm)) e = sym same ∙ e
was_empty s now f g (inr (live, dead, failed)) e = absurd (dead_not_empty (sym dead ∙ e))

-- ---- one packet more

all_gone : (first now : OutView) (due : List ℕ) (h : IsSent first due now) → now.state ≡ Live → h.written ≡ due
all_gone first now due h live = sym (append-nil h.written) ∙ ap (λ r. h.written ++ r) (sym (h.whole live)) ∙ h.parts

-- to a place that is not live nothing goes
abbrev idle_text : (first now : OutView) (packets : List (List ℕ)) (packet : List ℕ) → now.state ≢ Live → IsSent first (hex_text packets) now → IsSent first (hex_text (packets ++ packet ∷ [])) now
idle_text first now packets packet idle h = record {
  written = h.written;
  rest = h.rest ++ packet_line packet;
  parts = sym (append_assoc h.written h.rest (packet_line packet)) ∙ ap (λ x. x ++ packet_line packet) h.parts ∙ sym (text-more packets packet);
  gained = h.gained;
  whole = λ alive. absurd (idle alive);
}

-- on a dead place no packet counts
line_dead : (first now : OutView) (packets : List (List ℕ)) (packet : List ℕ) (count : ℕ) → now.state ≡ Dead → LinesSent first now packets count → LinesSent first now (packets ++ packet ∷ []) count
line_dead first now packets packet count dead h =
    let some = not_empty first.state now.state first.faults now.faults h.sent.gained.state (λ e. dead_not_empty (sym dead ∙ e)) in
    record {
      sent = idle_text first now packets packet (λ l. dead_not_live (sym dead ∙ l)) h.sent;
      counted = h.counted ∙ ap saturated (counts_went first.state packets h.sent.written some ∙ sym (counts_went first.state (packets ++ packet ∷ []) h.sent.written some));
    }

-- no line is held
pub none_held : (first now : OutView) (packets : List (List ℕ)) (held : HeldView) → NoneHeld held → LinesSent first now packets held.packets → LinesHeld first now packets held
unfolding hex_text
none_held first now packets held none h = record { due = packets; waiting = []; parts = append-nil packets; sent = h; text = none.text; count = none.count; dead = λ _. refl }

-- for a dead place none is
pub held_dead : (first now : OutView) (packets : List (List ℕ)) (packet : List ℕ) (held : HeldView) → now.state ≡ Dead → LinesHeld first now packets held → LinesHeld first now (packets ++ packet ∷ []) held
unfolding hex_text
held_dead first now packets packet held dead h =
    let none = h.dead dead in
    let P : List (List ℕ) → Type 0 = λ ps. LinesSent first now ps held.packets in
    let sent : LinesSent first now packets held.packets = subst P (sym (append-nil h.due) ∙ ap (λ ps. h.due ++ ps) (sym none) ∙ h.parts) h.sent in
    none_held first now (packets ++ packet ∷ []) held (record { text = h.text ∙ ap hex_text none; count = h.count ∙ ap length none }) (line_dead first now packets packet held.packets dead sent)

-- and for any other each
pub held_more : (first now : OutView) (packets : List (List ℕ)) (packet : List ℕ) (old new : HeldView) → is_dead now.state ≡ false → new.text ≡ old.text ++ packet_line packet → new.count ≡ old.count + 1 → new.packets ≡ old.packets
    → LinesHeld first now packets old → LinesHeld first now (packets ++ packet ∷ []) new
held_more first now packets packet old new alive text count same h = record {
  due = h.due;
  waiting = h.waiting ++ packet ∷ [];
  parts = sym (append_assoc h.due h.waiting (packet ∷ [])) ∙ ap (λ ps. ps ++ packet ∷ []) h.parts;
  sent = rw same h.sent;
  text = text ∙ ap (λ t. t ++ packet_line packet) h.text ∙ sym (text-more h.waiting packet);
  count = count ∙ ap (λ n. n + 1) h.count ∙ sym (length-append h.waiting (packet ∷ []));
  dead = λ e. absurd (true≢false (sym (ap is_dead e) ∙ alive));
}

-- ---- the lines leave

text_lines : (packets : List (List ℕ)) → whole_lines (hex_text packets) ≡ length packets
unfolding hex_text
text_lines [] = refl
text_lines (packet ∷ packets) = let both = lines-append (packet_line packet) (hex_text packets) in let one = line_one packet in let rest = text_lines packets in omega arith

-- no more bytes go than there are
pub went_within : (s : State) (r : Written) (n all : ℕ) → (s ≡ Live → IsWriting r n all) → (s ≢ Live → n ≡ 0) → n ≤ all
went_within Live written.Whole n all live idle = let e = live refl in omega arith
went_within Live written.Lost n all live idle = let e = live refl in omega arith
went_within Empty r n all live idle = let e = idle empty_not_live in omega arith
went_within Dead r n all live idle = let e = idle dead_not_live in omega arith

-- the front of a front
pub front_of_front : (n m : ℕ) (bytes : List ℕ) → n ≤ m → m ≤ length bytes → take n (take m bytes) ≡ take n bytes
front_of_front n m bytes h k = let size = length-take-le m bytes k in sym (take-append-le n (take m bytes) (drop m bytes) (omega arith)) ∙ ap (take n) (take-append-drop m bytes)

-- those that count are the whole lines that went
lines_gone : (r : Written) (text : List ℕ) (waiting : List (List ℕ)) (n count more : ℕ) → IsWriting r n (length text) → (r ≡ written.Whole → more ≡ count) → (r ≡ written.Lost → more ≡ whole_lines (take n text)) → text ≡ hex_text waiting
    → count ≡ length waiting → more ≡ whole_lines (take n text)
lines_gone written.Whole text waiting n count more all whole lost e k = whole refl ∙ k ∙ sym (ap whole_lines (ap (λ m. take m text) all ∙ take-length text ∙ e) ∙ text_lines waiting)
lines_gone written.Lost text waiting n count more less whole lost e k = lost refl

rest_none : (r : Written) (s : State) (text : List ℕ) (n : ℕ) → IsWriting r n (length text) → s ≡ state_after_write Live r → s ≡ Live → drop n text ≡ []
rest_none written.Whole s text n all e live = ap (λ m. drop m text) all ∙ drop-length text
rest_none written.Lost s text n less e live = absurd (dead_not_live (sym e ∙ live))

live_flushed : (first old new : OutView) (packets : List (List ℕ)) (held : HeldView) (r : Written) (n more : ℕ) → old.state ≡ Live → new.state ≡ state_after_write Live r → Gained old (take n held.text) new → IsWriting r n (length held.text)
    → (r ≡ written.Whole → more ≡ held.count) → (r ≡ written.Lost → more ≡ whole_lines (take n held.text)) → LinesHeld first old packets held → LinesSent first new packets (min (held.packets + more) (2 ^ 64 - 1))
live_flushed first old new packets held r n more live state gained writing whole lost h =
    let was = h.sent.sent in
    let part = take n held.text in
    let some = not_empty first.state old.state first.faults old.faults was.gained.state (λ e. live_not_empty (sym live ∙ e)) in
    record {
      sent = record {
        written = was.written ++ part;
        rest = drop n held.text;
        parts =
            append_assoc was.written part (drop n held.text) ∙ ap (λ text. was.written ++ text) (take-append-drop n held.text ∙ h.text)
            ∙ ap (λ w. w ++ hex_text h.waiting) (all_gone first old (hex_text h.due) was live) ∙ sym (text-append h.due h.waiting) ∙ ap hex_text h.parts;
        gained = gained_twice first old new was.written part was.gained gained;
        whole = rest_none r new.state held.text n writing state;
      };
      counted =
          ap (λ m. min (m + more) (2 ^ 64 - 1)) (h.sent.counted ∙ ap saturated (counts_went first.state h.due was.written some)) ∙ more_counted (whole_lines was.written) more
          ∙ ap saturated (
          ap (λ m. whole_lines was.written + m) (lines_gone r held.text h.waiting n held.count more writing whole lost h.text h.count)
          ∙ sym (lines-append was.written part) ∙ sym (counts_went first.state packets (was.written ++ part) some)
          );
    }

-- on an empty place each counts
empty_flushed : (first now : OutView) (packets : List (List ℕ)) (held : HeldView) (more : ℕ) → now.state ≡ Empty → more ≡ held.count → LinesHeld first now packets held → LinesSent first now packets (min (held.packets + more) (2 ^ 64 - 1))
empty_flushed first now packets held more empty e h =
    let was = h.sent.sent in
    let none = was_empty first.state now.state first.faults now.faults was.gained.state empty in
    record {
      sent = record {
        written = was.written;
        rest = was.rest ++ hex_text h.waiting;
        parts = sym (append_assoc was.written was.rest (hex_text h.waiting)) ∙ ap (λ x. x ++ hex_text h.waiting) was.parts ∙ sym (text-append h.due h.waiting) ∙ ap hex_text h.parts;
        gained = was.gained;
        whole = λ alive. absurd (empty_not_live (sym empty ∙ alive));
      };
      counted =
          ap (λ m. min (m + more) (2 ^ 64 - 1)) (h.sent.counted ∙ ap saturated (counts_all first.state h.due was.written none)) ∙ more_counted (length h.due) more
          ∙ ap saturated (ap (λ m. length h.due + m) (e ∙ h.count) ∙ sym (length-append h.due h.waiting) ∙ ap length h.parts ∙ sym (counts_all first.state packets was.written none));
    }

-- for a dead one nothing was held
dead_flushed : (first now : OutView) (packets : List (List ℕ)) (held : HeldView) (more : ℕ) → now.state ≡ Dead → more ≡ held.count → LinesHeld first now packets held → LinesSent first now packets (min (held.packets + more) (2 ^ 64 - 1))
dead_flushed first now packets held more dead e h =
    let none = h.dead dead in
    let same : h.due ≡ packets = sym (append-nil h.due) ∙ ap (λ ps. h.due ++ ps) (sym none) ∙ h.parts in
    let P : List (List ℕ) → Type 0 = λ ps. LinesSent first now ps (min (held.packets + more) (2 ^ 64 - 1)) in
    let count = counted_packets first.state h.due h.sent.sent.written in
    subst P same (record {
      sent = h.sent.sent;
      counted = ap (λ m. min (held.packets + m) (2 ^ 64 - 1)) (e ∙ h.count ∙ ap length none) ∙ ap (λ m. min (m + 0) (2 ^ 64 - 1)) h.sent.counted ∙ more_counted count 0 ∙ ap saturated (n_plus_0 count);
    })
  where
    n_plus_0 : (n : ℕ) → n + 0 ≡ n
    n_plus_0 n = omega arith

-- from what the write of the lines ensures
pub flushed : (first old new : OutView) (packets : List (List ℕ)) (held : HeldView) (r : Written) (n more : ℕ) → new.state ≡ state_after_write old.state r → (old.state ≢ Live → (new ≡ old) × (r ≡ written.Whole)) → Gained old (take n held.text) new
    → (old.state ≡ Live → IsWriting r n (length held.text)) → (r ≡ written.Whole → more ≡ held.count) → (r ≡ written.Lost → more ≡ whole_lines (take n held.text)) → LinesHeld first old packets held
    → LinesSent first new packets (min (held.packets + more) (2 ^ 64 - 1))
flushed first old new packets held r n more state idle gained writing whole lost h = by_state old.state refl
  where
    P : OutView → Type 0
    P place = LinesSent first place packets (min (held.packets + more) (2 ^ 64 - 1))

    by_state : (s : State) → old.state ≡ s → LinesSent first new packets (min (held.packets + more) (2 ^ 64 - 1))
    by_state Live e = live_flushed first old new packets held r n more e (state ∙ ap (λ s. state_after_write s r) e) gained (writing e) whole lost h
    by_state Empty e = let same = idle (λ l. empty_not_live (sym e ∙ l)) in subst P (sym same.0) (empty_flushed first old packets held more e (whole same.1) h)
    by_state Dead e = let same = idle (λ l. dead_not_live (sym e ∙ l)) in subst P (sym same.0) (dead_flushed first old packets held more e (whole same.1) h)
