-- What the search for the next line that counts finds.
use Rattle.std.proofs.Common.{◌≡◌, ◌≢◌, ◌<◌, ◌+◌, ◌%◌, ℕ, true, false, List, [], ◌∷◌, ◌++◌, length, None, arith, refl, sym, ap, ◌∙◌, length-append, append_assoc, append-nil}
use Rattle.port_base.specs.Views.{InView}
use Rattle.port_base.proofs.GivenLaws.{gave_twice}
use Rattle.packet_text.specs.TextLines.{lines_of, full_lines, whole_blocks, text_of_dead}
use Rattle.packet_text.specs.PacketText.{line_gives, behind, packets_behind, packets_of, shows_bad}
use Rattle.packet_text.specs.LinesStand.{LinesView, Begins, HasBad, GoesOn, LinesStand, given_by}
use Rattle.otn_base.specs.Counts.{saturated}
use Rattle.packet_text.specs.Steps.Finding.{answer_of, Counts, Judges, with_answer, Seeks, Finds}
use Rattle.packet_text.specs.Cutting.{CutView}
use Rattle.packet_text.specs.Steps.Cutting.{Came, Cuts, Loses}
use Rattle.packet_text.specs.declared.cutter.Cut.TheVariants as cut
use Rattle.packet_text.specs.declared.found.Found.{Found}
use Rattle.packet_text.specs.declared.found.Found.TheVariants as found
use Rattle.packet_text.proofs.Cuts.{was_open}
use Rattle.packet_text.proofs.Texts.{lines_of-line, lines_of-long, lines_of-last, LongLine, full_lines-none, whole_blocks-part}
use Rattle.packet_text.proofs.Judging.{bad_gives, long_gives}
use Rattle.packet_text.proofs.AsNeeded.{shown_by_lf, shown_too_long, needed_last, reached}
use Rattle.packet_text.proofs.GoingOn.{all_lines, text_lines, sound_empty, sound_packet, has_bad, has_ended, line_goes, last_goes}
use Rattle.packet_text.proofs.StandingLines.{packet_stands, bad_stands, end_stands, lost_stands}

-- a line was judged that goes on with the lines so far, and may be bad
judged : {first was is : InView} {read further line : List ℕ} {packets : List (List ℕ)} {old new : LinesView} (r : Found) → (h : Seeks first read packets old was) → Came old.hand old.ended was further new.ended is
    → Judges r h.goes.lines line new → length new.hand < 4096
    → ((packets : List (List ℕ)) → ((later : List (List ℕ)) → packets_behind [] ((h.goes.lines ++ line ∷ []) ++ later) ≡ behind packets (packets_behind (h.goes.lines ++ line ∷ []) later))
    → Counts (h.goes.lines ++ line ∷ []) new → GoesOn (read ++ further) packets new)
    → (line_gives h.goes.lines line ≡ None → new.number ≡ saturated (length h.goes.lines + 1) → (text : List ℕ) → (new.ended ≡ true → text ≡ read ++ further) → Begins (read ++ further) text → HasBad packets new.number (packets_of text))
    → (line_gives h.goes.lines line ≡ None → new.number ≡ saturated (length h.goes.lines + 1) → new.ended ≡ false → shows_bad (read ++ further) ≡ true) → Finds r first read packets old new is
judged {first = first} {is = is} {read = read} {further = further} {line = line} {packets = packets} {old = old} {new = new} r h k j near goes bad shows = record {
  further = further;
  quiet = k.quiet;
  empty = λ e. (let g = j.empty e in record { reaches = reached h k; goes = goes packets (sound_empty h.goes.lines line packets h.goes.sound g.0) g.1 });
  stands = by_found r j;
}
  where
    by_found : (q : Found) → Judges q h.goes.lines line new → q ≢ found.Empty → LinesStand first is (read ++ further) (packets ++ given_by (answer_of q new.number) new.packet) (with_answer q new)
    by_found found.Empty i f = absurd (f refl)
    by_found found.Packet i f = let g = i.packet refl in packet_stands first is (read ++ further) packets new (reached h k) (goes (packets ++ new.packet ∷ []) (sound_packet h.goes.lines line new.packet packets h.goes.sound g.0 g.1) g.2) near
    by_found found.Bad i f = let g = i.bad refl in bad_stands first is (read ++ further) packets new (reached h k) (bad g.0 g.1) (shows g.0 g.1)
    by_found found.End i f = absurd (i.open_place.0 refl)
    by_found found.Lost i f = absurd (i.open_place.1 refl)

pub find_line : (r : Found) (first : InView) (read : List ℕ) (packets : List (List ℕ)) (old new : LinesView) (cnew : CutView) (was is : InView) → Cuts cut.Line old.hand old.ended was cnew is
    → ((lines : List (List ℕ)) → Counts lines old → Judges r lines cnew.line new) → new.hand ≡ cnew.hand → new.ended ≡ cnew.ended → length cnew.hand < 4096 → Seeks first read packets old was → Finds r first read packets old new is
find_line r first read packets old new cnew was is k judges hand ended near h =
    judged r h (rw ended k.reads) (judges h.goes.lines (record { number = h.goes.number; empty = h.goes.empty })) (rw hand near) (line_goes h.goes k hand ended)
    (λ none number text whole begins.
    let t = text_lines h.goes k.reads text (λ f. whole (ended ∙ f)) begins in
    let line : lines_of ((old.hand ++ k.further) ++ t.rest) ≡ cnew.line ∷ lines_of (cnew.hand ++ t.rest) =
    ap (λ b. lines_of (b ++ t.rest)) k.met ∙ ap lines_of (append_assoc cnew.line (10 ∷ cnew.hand) t.rest) ∙ lines_of-line cnew.line (cnew.hand ++ t.rest) k.clean in
    has_bad h.goes text cnew.line (lines_of (cnew.hand ++ t.rest)) new.number (t.parts ∙ ap (λ ls. h.goes.lines ++ ls) line) none number)
    (λ none number still. shown_by_lf h.goes k (sym ended ∙ still) none new.number number)

pub find_last : (r : Found) (first : InView) (read : List ℕ) (packets : List (List ℕ)) (old new : LinesView) (cnew : CutView) (was is : InView) → Cuts cut.Last old.hand old.ended was cnew is
    → ((lines : List (List ℕ)) → Counts lines old → Judges r lines cnew.line new) → new.hand ≡ cnew.hand → new.ended ≡ cnew.ended → length cnew.hand < 4096 → Seeks first read packets old was → Finds r first read packets old new is
find_last r first read packets old new cnew was is k judges hand ended near h =
    let last = k.met in
    judged r h (rw ended k.reads) (judges h.goes.lines (record { number = h.goes.number; empty = h.goes.empty })) (rw hand near) (last_goes h.goes k hand ended)
    (λ none number text whole begins.
    let t = text_lines h.goes k.reads text (λ f. whole (ended ∙ f)) begins in
    let all : (old.hand ++ k.further) ++ t.rest ≡ cnew.line = ap (λ b. (old.hand ++ k.further) ++ b) (t.over last.2) ∙ append-nil (old.hand ++ k.further) ∙ last.0 in
    has_bad h.goes text cnew.line [] new.number (t.parts ∙ ap (λ ls. h.goes.lines ++ ls) (ap lines_of all ∙ lines_of-last cnew.line k.clean last.3)) none number)
    (λ none number still. absurd (let f = ended ∙ last.2 in cc))

pub find_long : (r : Found) (first : InView) (read : List ℕ) (packets : List (List ℕ)) (old new : LinesView) (cnew : CutView) (was is : InView) → Cuts cut.Long old.hand old.ended was cnew is
    → r ≡ found.Bad → new.number ≡ saturated (old.number + 1) → new.ended ≡ cnew.ended → Seeks first read packets old was → Finds r first read packets old new is
find_long r first read packets old new cnew was is k bad number ended h =
    let long = k.met in
    let reads : Came old.hand old.ended was k.further new.ended is = rw ended k.reads in
    rw bad (record {
      further = k.further;
      quiet = reads.quiet;
      empty = λ e. absurd (cc);
      stands = λ _. bad_stands first is (read ++ k.further) packets new (reached h reads)
          (λ text whole begins.
          let t = text_lines h.goes k.reads text (λ f. whole (ended ∙ f)) begins in
          let l : LongLine cnew.line (lines_of (cnew.line ++ t.rest)) = lines_of-long cnew.line t.rest k.clean (λ none. let z = ap length none in let size = long.2 in absurd (omega arith)) in
          let line : lines_of ((old.hand ++ k.further) ++ t.rest) ≡ (cnew.line ++ l.more) ∷ l.later = ap (λ b. lines_of (b ++ t.rest)) long.0 ∙ l.parts in
          let none = bad_gives h.goes.lines (cnew.line ++ l.more) (long_gives (cnew.line ++ l.more) (rw (length-append cnew.line l.more) (let size = long.2 in omega arith))) in
          has_bad h.goes text (cnew.line ++ l.more) l.later new.number (t.parts ∙ ap (λ ls. h.goes.lines ++ ls) line) none (let e = h.goes.number in omega (arith, number, e)))
          (λ still. shown_too_long h.goes k (sym ended ∙ still));
    })

pub find_end : (first : InView) (read : List ℕ) (packets : List (List ℕ)) (old new : LinesView) (cnew : CutView) (was is : InView) → Cuts cut.End old.hand old.ended was cnew is
    → new.ended ≡ cnew.ended → Seeks first read packets old was → Finds found.End first read packets old new is
unfolding lines_of
find_end first read packets old new cnew was is k ended h =
    let end = k.met in
    let reads : Came old.hand old.ended was k.further new.ended is = rw ended k.reads in
    record {
      further = k.further;
      quiet = reads.quiet;
      empty = λ e. absurd (cc);
      stands = λ _. end_stands first is (read ++ k.further) packets new (reached h reads) (ended ∙ end.1) (has_ended h.goes (read ++ k.further) (all_lines h.goes k.reads ∙ ap (λ b. h.goes.lines ++ lines_of b) end.0));
    }

pub find_lost : (first : InView) (read : List ℕ) (packets : List (List ℕ)) (old new : LinesView) (cnew : CutView) (was is : InView) → Loses old.hand old.ended was cnew is
    → new.ended ≡ cnew.ended → Seeks first read packets old was → Finds found.Lost first read packets old new is
unfolding lines_of
find_lost first read packets old new cnew was is k ended h =
    let g = h.goes in
    let whole = k.goes.further in
    let part = k.lost.part in
    let further = whole ++ part in
    let reads = k.goes.reads in
    let still : old.ended ≡ false = was_open reads k.still in
    let line : old.hand ++ whole ≡ cnew.line = k.goes.all ∙ ap (λ b. cnew.line ++ b) k.none ∙ append-nil cnew.line in
    let blocks : length (read ++ whole) % 4096 ≡ 0 = rw (length-append read whole) (let a = g.blocks still in let b = reads.blocks k.still in omega arith) in
    let front : whole_blocks (read ++ further) ≡ read ++ whole = ap whole_blocks (sym (append_assoc read whole part)) ∙ whole_blocks-part (read ++ whole) part blocks k.lost.short in
    let text : text_of_dead (read ++ further) ≡ g.used =
    ap full_lines (front ∙ ap (λ b. b ++ whole) g.parts ∙ append_assoc g.used old.hand whole) ∙ g.full still (old.hand ++ whole)
    ∙ ap (λ b. g.used ++ full_lines b) line ∙ ap (λ b. g.used ++ b) (full_lines-none cnew.line k.goes.clean) ∙ append-nil g.used in
    let lines : lines_of (text_of_dead (read ++ further)) ≡ g.lines ++ [] = ap lines_of (text ∙ sym (append-nil g.used)) ∙ g.split still [] in
    record {
      further = further;
      quiet = λ e. absurd (cc);
      empty = λ e. absurd (cc);
      stands = λ _. lost_stands first is (read ++ further) packets new (gave_twice first was is read further h.reaches.gave (gave_twice was k.mid is whole part reads.gave k.lost.gave))
          (k.lost.unended ∙ reads.unended k.still ∙ h.reaches.unended still) (sym (reads.alive ∙ h.reaches.alive) ∙ k.lost.live) k.lost.dead (ended ∙ k.still) (has_ended g (text_of_dead (read ++ further)) lines)
          (needed_last g still true whole part (reads.blocks k.still) (let s = k.lost.short in omega arith) (λ e. absurd (cc)) (λ _. k.lost.short) (rw line k.goes.clean) (rw line k.few));
    }

-- no line yet
pub finds_none : (first : InView) (read : List ℕ) (packets : List (List ℕ)) (view : LinesView) (place : InView) → Seeks first read packets view place → Finds found.Empty first read packets view view place
finds_none first read packets view place h = record { further = []; quiet = λ e. (refl, e); empty = λ _. rw (append-nil read) h; stands = λ f. absurd (f refl) }

-- empty lines, and what was found behind them
pub finds_then : (r : Found) (first : InView) (read : List ℕ) (packets : List (List ℕ)) (a b c : LinesView) (p q : InView) → (h : Finds found.Empty first read packets a b p)
    → (Seeks first (read ++ h.further) packets b p → Finds r first (read ++ h.further) packets b c q) → Finds r first read packets a c q
finds_then r first read packets a b c p q h more =
    let k = more (h.empty refl) in
    let e : (read ++ h.further) ++ k.further ≡ read ++ (h.further ++ k.further) = append_assoc read h.further k.further in
    record {
      further = h.further ++ k.further;
      quiet = λ f. (let u = h.quiet f in let v = k.quiet u.1 in (rw (u.0, v.0) refl, v.1));
      empty = λ f. rw (← e) (k.empty f);
      stands = λ f. rw (← e) (k.stands f);
    }
