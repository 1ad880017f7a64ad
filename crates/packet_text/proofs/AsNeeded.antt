-- What is read is needed, and a bad line is shown before it is told.
use Rattle.std.proofs.Common.{◌≡◌, ◌<◌, ◌≤◌, ◌+◌, ◌%◌, ◌⊎◌, inl, inr, ◌||◌, nat_lt, ℕ, Bool, true, false, List, [], ◌∷◌, ◌++◌, length, drop, None, arith, refl, sym, ap, ◌∙◌, length-append, append_assoc, append-nil}
use Rattle.std.proofs.lemmas.Bool.Decides.{nat_tests}
use Rattle.std.proofs.lemmas.List.{drop_at}
use Rattle.port_base.specs.Views.{InView}
use Rattle.port_base.proofs.GivenLaws.{gave_twice}
use Rattle.packet_text.specs.TextLines.{has_lf, lines_of, full_lines, begun_line}
use Rattle.packet_text.specs.PacketText.{line_gives, TextEnding, Ended, BadAt, Packets, packets_of, is_bad, shows_bad}
use Rattle.packet_text.specs.LinesStand.{LinesView, GoesOn, ReadAsNeeded, HasBad}
use Rattle.otn_base.specs.Counts.{saturated}
use Rattle.packet_text.specs.Steps.Finding.{Reaches, Seeks}
use Rattle.packet_text.specs.Cutting.{CutView}
use Rattle.packet_text.specs.Steps.Cutting.{LastRead, Came, Cuts}
use Rattle.packet_text.specs.declared.cutter.Cut.TheVariants as cut
use Rattle.packet_text.proofs.Cuts.{was_open}
use Rattle.packet_text.proofs.Texts.{lines_of-line, full_lines-line, full_lines-none}
use Rattle.packet_text.proofs.GoingOn.{has_bad, has_ended}

-- bytes that have no LF stand behind the lines so far
pub record Behind (packets : List (List ℕ)) (bytes line : List ℕ) : Type 0 where
  pub packets_are : packets_of (full_lines bytes) ≡ record { packets = packets; ending = Ended }
  pub begun : begun_line bytes ≡ line

pub behind_lines : {read : List ℕ} {packets : List (List ℕ)} {old : LinesView} → (h : GoesOn read packets old) → old.ended ≡ false → (more line : List ℕ) → old.hand ++ more ≡ line → has_lf line ≡ false → Behind packets (read ++ more) line
unfolding lines_of
behind_lines {read = read} {packets = packets} {old = old} h still more line e clean =
    let all : read ++ more ≡ h.used ++ line = ap (λ b. b ++ more) h.parts ∙ append_assoc h.used old.hand more ∙ ap (λ b. h.used ++ b) e in
    let full : full_lines (read ++ more) ≡ h.used = ap full_lines all ∙ h.full still line ∙ ap (λ b. h.used ++ b) (full_lines-none line clean) ∙ append-nil h.used in
    let lines : lines_of (full_lines (read ++ more)) ≡ h.lines ++ [] = ap lines_of (full ∙ sym (append-nil h.used)) ∙ h.split still [] in
    record {
      packets_are = has_ended h (full_lines (read ++ more)) lines;
      begun = ap (λ f. drop (length f) (read ++ more)) full ∙ ap (drop (length h.used)) all ∙ drop_at h.used line (length h.used) refl;
    }

not_shown : (ending : TextEnding) (n : ℕ) → ending ≡ Ended → n ≤ 131055 → (is_bad ending || nat_lt 131055 n) ≡ false
not_shown Ended n e less = grind (arith, nat_tests)
not_shown (BadAt k) n e less = absurd (cc)

shown_by_length : (b : Bool) (n : ℕ) → 131055 < n → (b || nat_lt 131055 n) ≡ true
shown_by_length true n more = refl
shown_by_length false n more = grind (arith, nat_tests)

shown_by_line : (ending : TextEnding) (k : ℕ) (b : Bool) → ending ≡ BadAt k → (is_bad ending || b) ≡ true
shown_by_line Ended k b e = absurd (cc)
shown_by_line (BadAt n) k b e = refl

-- one of the whole lines is bad
pub shown_bad : (packets : List (List ℕ)) (number : ℕ) (bytes : List ℕ) → HasBad packets number (packets_of (full_lines bytes)) → shows_bad bytes ≡ true
shown_bad packets number bytes h = shown_by_line (packets_of (full_lines bytes)).ending h.line (nat_lt 131055 (length (begun_line bytes))) (ap (λ (p : Packets). p.ending) h.ends)

-- the line that has begun is too long
pub shown_long : (bytes line : List ℕ) → begun_line bytes ≡ line → 131055 < length line → shows_bad bytes ≡ true
shown_long bytes line e long = rw e (shown_by_length (is_bad (packets_of (full_lines bytes)).ending) (length line) long)

-- the line behind the lines so far is bad, and has its LF
pub shown_by_lf : {read : List ℕ} {packets : List (List ℕ)} {old : LinesView} {cnew : CutView} {was is : InView} → (h : GoesOn read packets old) → (k : Cuts cut.Line old.hand old.ended was cnew is) → cnew.ended ≡ false
    → line_gives h.lines cnew.line ≡ None → (number : ℕ) → number ≡ saturated (length h.lines + 1) → shows_bad (read ++ k.further) ≡ true
shown_by_lf {read = read} {packets = packets} {old = old} {cnew = cnew} h k still gives number counted =
    let line = cnew.line in
    let further = k.further in
    let open_text = was_open k.reads still in
    let rest = full_lines cnew.hand in
    let all : read ++ further ≡ h.used ++ (line ++ 10 ∷ cnew.hand) = ap (λ b. b ++ further) h.parts ∙ append_assoc h.used old.hand further ∙ ap (λ b. h.used ++ b) k.met in
    let full : full_lines (read ++ further) ≡ h.used ++ (line ++ 10 ∷ rest) =
    ap full_lines all ∙ h.full open_text (line ++ 10 ∷ cnew.hand) ∙ ap (λ b. h.used ++ b) (full_lines-line line cnew.hand ∙ append_assoc line (10 ∷ []) rest) in
    let lines : lines_of (full_lines (read ++ further)) ≡ h.lines ++ (line ∷ lines_of rest) =
    ap lines_of full ∙ h.split open_text (line ++ 10 ∷ rest) ∙ ap (λ ls. h.lines ++ ls) (lines_of-line line rest k.clean) in
    shown_bad packets number (read ++ further) (has_bad h (full_lines (read ++ further)) line (lines_of rest) number lines gives counted)

-- the line behind them is too long
pub shown_too_long : {read : List ℕ} {packets : List (List ℕ)} {old : LinesView} {cnew : CutView} {was is : InView} → (h : GoesOn read packets old) → (k : Cuts cut.Long old.hand old.ended was cnew is) → cnew.ended ≡ false
    → shows_bad (read ++ k.further) ≡ true
shown_too_long {read = read} {cnew = cnew} h k still =
    let long = k.met in
    shown_long (read ++ k.further) cnew.line (behind_lines h (was_open k.reads still) k.further cnew.line long.0 k.clean).begun long.2

nothing_shown : {packets : List (List ℕ)} {bytes line : List ℕ} → Behind packets bytes line → length line ≤ 131055 → shows_bad bytes ≡ false
nothing_shown {bytes = bytes} {line = line} h short = rw h.begun (not_shown (packets_of (full_lines bytes)).ending (length line) (ap (λ (p : Packets). p.ending) h.packets_are) short)

-- a last read is needed where the bytes before it show no bad line, and of what is asked for one packet is missing
pub needed_last : {read : List ℕ} {packets : List (List ℕ)} {old : LinesView} → (h : GoesOn read packets old) → old.ended ≡ false → (short : Bool) (before last : List ℕ)
    → length before % 4096 ≡ 0 → length last ≤ 4096 → (short ≡ false → length last % 4096 ≡ 0) → (short ≡ true → length last < 4096)
    → has_lf (old.hand ++ before) ≡ false → length (old.hand ++ before) ≤ 131055 → ReadAsNeeded short (length packets + 1) (read ++ (before ++ last))
needed_last {read = read} {packets = packets} {old = old} h still short before last blocks most whole part clean few =
    let b = behind_lines h still before (old.hand ++ before) refl clean in
    record {
      before = read ++ before;
      last = last;
      parts = sym (append_assoc read before last);
      blocks = (let e = h.blocks still in rw (length-append read before) (omega (arith, e, blocks)));
      most = most;
      whole = whole;
      part = part;
      needed = nothing_shown b few;
      fewer = inr (let same = ap (λ (p : Packets). length p.packets) b.packets_are in omega (arith, same));
    }

-- as many packets were asked for, or more
pub more_asked : (short : Bool) (asked more : ℕ) (read : List ℕ) → asked ≤ more → ReadAsNeeded short asked read → ReadAsNeeded short more read
more_asked short asked more read le h = record {
  before = h.before;
  last = h.last;
  parts = h.parts;
  blocks = h.blocks;
  most = h.most;
  whole = h.whole;
  part = h.part;
  needed = h.needed;
  fewer = elim h.fewer [ inl none ↦ inl none | inr less ↦ inr (omega arith) ];
}

-- so far, with the bytes that came
pub reached : {first was is : InView} {read further : List ℕ} {packets : List (List ℕ)} {old : LinesView} {seen : Bool} → Seeks first read packets old was → Came old.hand old.ended was further seen is
    → Reaches first (read ++ further) (length packets + 1) seen is
reached {first = first} {was = was} {is = is} {read = read} {further = further} {packets = packets} {old = old} {seen = seen} h k = record {
  gave = gave_twice first was is read further h.reaches.gave k.gave;
  over = k.over h.reaches.over;
  unended = λ e. k.unended e ∙ h.reaches.unended (was_open k e);
  alive = k.alive ∙ h.reaches.alive;
  needed = by_reads k.reads;
}
  where
    by_reads : ((further ≡ []) × (seen ≡ old.ended)) ⊎ LastRead old.hand old.ended further seen → ReadAsNeeded seen (length packets + 1) (read ++ further)
    by_reads (inl (none, same)) = rw (same, none, append-nil read) h.reaches.needed
    by_reads (inr l) = rw l.parts (needed_last h.goes l.still_open seen l.before l.last l.blocks l.most l.whole l.part l.clean l.short)
