-- How the lines of a place go on.
use Rattle.std.proofs.Common.{◌≡◌, ◌≢◌, ◌+◌, ℕ, Bool, true, false, List, [], ◌∷◌, ◌++◌, length, Some, None, arith, refl, sym, ap, ◌∙◌, length-append, append_assoc, append-nil}
use Rattle.port_base.specs.Views.{InView}
use Rattle.packet_text.specs.TextLines.{has_lf, lines_of, full_lines}
use Rattle.packet_text.specs.PacketText.{line_gives, Packets, Ended, BadAt, behind, with_line, packets_behind, packets_of}
use Rattle.packet_text.specs.LinesStand.{LinesView, Begins, HasBad, GoesOn}
use Rattle.otn_base.specs.Counts.{saturated}
use Rattle.packet_text.specs.Steps.Finding.{Counts}
use Rattle.packet_text.specs.Cutting.{CutView}
use Rattle.packet_text.specs.Steps.Cutting.{Came, Cuts}
use Rattle.packet_text.specs.declared.cutter.Cut.TheVariants as cut
use Rattle.packet_text.proofs.Cuts.{was_open}
use Rattle.packet_text.proofs.Texts.{lines_of-line, lines_of-last, full_lines-line}

-- the lines of all that was taken
pub all_lines : {seen : Bool} {was is : InView} {further read : List ℕ} {packets : List (List ℕ)} {old : LinesView} → (h : GoesOn read packets old) → Came old.hand old.ended was further seen is
    → lines_of (read ++ further) ≡ h.lines ++ lines_of (old.hand ++ further)
all_lines {further = further} {read = read} {old = old} h k = by_flag old.ended refl
  where
    by_flag : (t : Bool) → old.ended ≡ t → lines_of (read ++ further) ≡ h.lines ++ lines_of (old.hand ++ further)
    by_flag true e = let q = (k.quiet e).0 in rw (q, append-nil read, append-nil old.hand) (h.over e)
    by_flag false e = ap (λ bytes. lines_of (bytes ++ further)) h.parts ∙ ap lines_of (append_assoc h.used old.hand further) ∙ h.split e (old.hand ++ further)

-- the lines of a text that begins with all that was taken
pub record TextLines (text read further hand : List ℕ) (lines : List (List ℕ)) (ended : Bool) : Type 0 where
  pub rest : List ℕ
  pub over : ended ≡ true → rest ≡ []
  pub parts : lines_of text ≡ lines ++ lines_of ((hand ++ further) ++ rest)

pub text_lines : {seen : Bool} {was is : InView} {further read : List ℕ} {packets : List (List ℕ)} {old : LinesView} → (h : GoesOn read packets old) → Came old.hand old.ended was further seen is
    → (text : List ℕ) → (seen ≡ true → text ≡ read ++ further) → Begins (read ++ further) text → TextLines text read further old.hand h.lines seen
text_lines {seen = seen} {further = further} {read = read} {old = old} h k text whole begins = by_flag seen refl
  where
    by_flag : (t : Bool) → seen ≡ t → TextLines text read further old.hand h.lines seen
    by_flag true e = record { rest = []; over = λ _. refl; parts = ap lines_of (whole e) ∙ all_lines h k ∙ ap (λ bytes. h.lines ++ lines_of bytes) (sym (append-nil (old.hand ++ further))) }
    by_flag false e =
        let was = was_open k e in
        let joined : text ≡ h.used ++ ((old.hand ++ further) ++ begins.rest) = begins.parts ∙ ap (λ bytes. (bytes ++ further) ++ begins.rest) h.parts ∙ (rw (append_assoc, append_assoc, append_assoc) refl) in
        record { rest = begins.rest; over = λ f. absurd (cc); parts = ap lines_of joined ∙ h.split was ((old.hand ++ further) ++ begins.rest) }

-- an empty line, and one with a packet, behind lines that gave these packets
pub sound_empty : (lines : List (List ℕ)) (line : List ℕ) (packets : List (List ℕ)) → ((later : List (List ℕ)) → packets_behind [] (lines ++ later) ≡ behind packets (packets_behind lines later))
    → line_gives lines line ≡ Some [] → (later : List (List ℕ)) → packets_behind [] ((lines ++ line ∷ []) ++ later) ≡ behind packets (packets_behind (lines ++ line ∷ []) later)
unfolding packets_behind
sound_empty lines line packets h gives later =
    ap (packets_behind []) (append_assoc lines (line ∷ []) later) ∙ h (line ∷ later) ∙ ap (λ g. behind packets (with_line (length lines + 1) g (packets_behind (lines ++ line ∷ []) later))) gives

pub with_packet : (n : ℕ) (packet : List ℕ) (later : Packets) → packet ≢ [] → with_line n (Some packet) later ≡ behind (packet ∷ []) later
with_packet n [] later some = absurd (some refl)
with_packet n (x ∷ xs) later some = refl

pub behind_twice : (a b : List (List ℕ)) (text : Packets) → behind a (behind b text) ≡ behind (a ++ b) text
behind_twice a b text = ap (λ packets. let p : Packets = record { packets = packets; ending = text.ending } in p) (sym (append_assoc a b text.packets))

pub sound_packet : (lines : List (List ℕ)) (line packet : List ℕ) (packets : List (List ℕ)) → ((later : List (List ℕ)) → packets_behind [] (lines ++ later) ≡ behind packets (packets_behind lines later))
    → line_gives lines line ≡ Some packet → packet ≢ [] → (later : List (List ℕ)) → packets_behind [] ((lines ++ line ∷ []) ++ later) ≡ behind (packets ++ packet ∷ []) (packets_behind (lines ++ line ∷ []) later)
unfolding packets_behind
sound_packet lines line packet packets h gives some later =
    let next = packets_behind (lines ++ line ∷ []) later in
    ap (packets_behind []) (append_assoc lines (line ∷ []) later) ∙ h (line ∷ later) ∙ ap (λ g. behind packets (with_line (length lines + 1) g next)) gives
    ∙ ap (behind packets) (with_packet (length lines + 1) packet next some) ∙ behind_twice packets (packet ∷ []) next

-- the text has a bad line behind the lines so far
pub has_bad : {read : List ℕ} {packets : List (List ℕ)} {old : LinesView} → (h : GoesOn read packets old) → (text line : List ℕ) (later : List (List ℕ)) (number : ℕ)
    → lines_of text ≡ h.lines ++ (line ∷ later) → line_gives h.lines line ≡ None → number ≡ saturated (length h.lines + 1) → HasBad packets number (packets_of text)
unfolding packets_of packets_behind
has_bad {packets = packets} h text line later number lines none counted = record {
  line = length h.lines + 1;
  counted = counted;
  ends = ap (packets_behind []) lines ∙ h.sound (line ∷ later) ∙ ap (λ g. behind packets (with_line (length h.lines + 1) g (packets_behind (h.lines ++ line ∷ []) later))) none
      ∙ ap (λ ps. let p : Packets = record { packets = ps; ending = BadAt (length h.lines + 1) } in p) (append-nil packets);
}

-- the text has ended behind the lines so far
pub has_ended : {read : List ℕ} {packets : List (List ℕ)} {old : LinesView} → (h : GoesOn read packets old) → (text : List ℕ) → lines_of text ≡ h.lines ++ []
    → packets_of text ≡ record { packets = packets; ending = Ended }
unfolding packets_of packets_behind
has_ended {packets = packets} h text lines =
    ap (packets_behind []) lines ∙ h.sound [] ∙ ap (λ ps. let p : Packets = record { packets = ps; ending = Ended } in p) (append-nil packets)

-- a line that ends with LF is used
pub line_goes : {read : List ℕ} {packets : List (List ℕ)} {old new : LinesView} {cnew : CutView} {was is : InView} → (h : GoesOn read packets old) → (k : Cuts cut.Line old.hand old.ended was cnew is)
    → new.hand ≡ cnew.hand → new.ended ≡ cnew.ended → (packets : List (List ℕ))
    → ((later : List (List ℕ)) → packets_behind [] ((h.lines ++ cnew.line ∷ []) ++ later) ≡ behind packets (packets_behind (h.lines ++ cnew.line ∷ []) later))
    → Counts (h.lines ++ cnew.line ∷ []) new → GoesOn (read ++ k.further) packets new
line_goes {read = read} {old = old} {new = new} {cnew = cnew} h k hand ended packets sound counts =
    let further = k.further in
    let line = cnew.line in
    let lf = line ++ 10 ∷ [] in
    let all : old.hand ++ further ≡ line ++ 10 ∷ cnew.hand = k.met in
    let clean : has_lf line ≡ false = k.clean in
    let behind_lf = λ (rest : List ℕ). append_assoc h.used lf rest ∙ ap (λ b. h.used ++ b) (append_assoc line (10 ∷ []) rest) in
    let was = λ (still : new.ended ≡ false). was_open k.reads (sym ended ∙ still) in
    record {
      lines = h.lines ++ line ∷ [];
      used = h.used ++ lf;
      parts = ap (λ b. b ++ further) h.parts ∙ append_assoc h.used old.hand further ∙ ap (λ b. h.used ++ b) (all ∙ ap (λ b. line ++ 10 ∷ b) (sym hand)) ∙ sym (behind_lf new.hand);
      split = λ still rest. ap lines_of (behind_lf rest) ∙ h.split (was still) (line ++ 10 ∷ rest) ∙ ap (λ ls. h.lines ++ ls) (lines_of-line line rest clean) ∙ sym (append_assoc h.lines (line ∷ []) (lines_of rest));
      full = λ still rest. ap full_lines (behind_lf rest) ∙ h.full (was still) (line ++ 10 ∷ rest) ∙ ap (λ b. h.used ++ b) (full_lines-line line rest) ∙ sym (append_assoc h.used lf (full_lines rest));
      over = λ e. all_lines h k.reads ∙ ap (λ b. h.lines ++ lines_of b) (all ∙ ap (λ b. line ++ 10 ∷ b) (sym hand)) ∙ ap (λ ls. h.lines ++ ls) (lines_of-line line new.hand clean) ∙ sym (append_assoc h.lines (line ∷ []) (lines_of new.hand));
      sound = sound;
      number = counts.number;
      empty = counts.empty;
      blocks = λ still. rw (length-append read further) (let a = h.blocks (was still) in let b = k.reads.blocks (sym ended ∙ still) in omega arith);
    }

-- a last line without LF is used
pub last_goes : {read : List ℕ} {packets : List (List ℕ)} {old new : LinesView} {cnew : CutView} {was is : InView} → (h : GoesOn read packets old) → (k : Cuts cut.Last old.hand old.ended was cnew is)
    → new.hand ≡ cnew.hand → new.ended ≡ cnew.ended → (packets : List (List ℕ))
    → ((later : List (List ℕ)) → packets_behind [] ((h.lines ++ cnew.line ∷ []) ++ later) ≡ behind packets (packets_behind (h.lines ++ cnew.line ∷ []) later))
    → Counts (h.lines ++ cnew.line ∷ []) new → GoesOn (read ++ k.further) packets new
unfolding lines_of
last_goes {read = read} {old = old} {new = new} {cnew = cnew} h k hand ended packets sound counts =
    let further = k.further in
    let line = cnew.line in
    let last = k.met in
    let none : new.hand ≡ [] = hand ∙ last.1 in
    let over : new.ended ≡ true = ended ∙ last.2 in
    let clean : has_lf line ≡ false = k.clean in
    record {
      lines = h.lines ++ line ∷ [];
      used = read ++ further;
      parts = rw none (sym (append-nil (read ++ further)));
      split = λ still rest. absurd (cc);
      full = λ still rest. absurd (cc);
      over = λ e. all_lines h k.reads ∙ ap (λ b. h.lines ++ lines_of b) last.0 ∙ ap (λ ls. h.lines ++ ls) (lines_of-last line clean last.3) ∙ rw none (sym (append-nil (h.lines ++ line ∷ [])));
      sound = sound;
      number = counts.number;
      empty = counts.empty;
      blocks = λ still. absurd (cc);
    }
