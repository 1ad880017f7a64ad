-- Where the lines of a place stand, from one answer to the next.
use Rattle.std.proofs.Common.{◌≡◌, ◌≢◌, ◌<◌, ◌≤◌, ◌+◌, ◌-◌, ◌%◌, inl, ℕ, Bool, true, false, if◌then◌else◌, List, [], ◌∷◌, ◌++◌, length, length-append, take, zero, suc, arith, refl, sym, ap, subst, ◌∙◌, append_assoc, append-nil}
use Rattle.port_base.specs.Views.{InView, Live, Dead}
use Rattle.port_base.specs.Given.{Gave, DiedUnended}
use Rattle.port_base.proofs.GivenLaws.{dead_not_live, gave_none}
use Rattle.packet_text.specs.TextLines.{lines_of, full_lines, text_of_dead}
use Rattle.packet_text.specs.PacketText.{Ended, packets_of, packets_behind, empty_lines, shows_bad}
use Rattle.packet_text.specs.LinesStand.{LinesView, Begins, GoesOnWith, HasBad, may_be, GoesOn, read_short, asked_for, ReadAsNeeded, LinesStand, TakeStands, fresh_lines, given_by, is_packet}
use Rattle.packet_text.specs.Steps.Finding.{Reaches, Seeks, Finds, answer_of, with_answer}
use Rattle.packet_text.specs.declared.line.Line.{Line}
use Rattle.packet_text.specs.declared.line.Line.TheVariants as line
use Rattle.packet_text.specs.declared.found.Found.{Found}
use Rattle.packet_text.specs.declared.found.Found.TheVariants as found
use Rattle.packet_text.proofs.AsNeeded.{more_asked}
use Rattle.packet_text.proofs.Texts.{full_lines-front, full_lines-more, whole_blocks-more}

-- nothing was read yet
fresh_goes : GoesOn [] [] fresh_lines
unfolding lines_of packets_behind empty_lines
fresh_goes = record {
  lines = [];
  used = [];
  parts = refl;
  split = λ _ rest. refl;
  full = λ _ rest. refl;
  over = λ e. absurd (cc);
  sound = λ later. refl;
  number = refl;
  empty = refl;
  blocks = λ _. refl;
}

-- the packets so far are the first ones of each text that there may be
pub goes_told : (read : List ℕ) (packets : List (List ℕ)) (view : LinesView) → GoesOn read packets view → (text : List ℕ) → may_be view.ended line.Packet read text → GoesOnWith packets (packets_of text)
unfolding packets_of
goes_told read packets view h text may = by_flag view.ended refl may
  where
    by_lines : (ls : List (List ℕ)) → lines_of text ≡ h.lines ++ ls → GoesOnWith packets (packets_behind [] (lines_of text))
    by_lines ls e = record { later = packets_behind h.lines ls; parts = ap (packets_behind []) e ∙ h.sound ls }

    by_flag : (t : Bool) → view.ended ≡ t → may_be t line.Packet read text → GoesOnWith packets (packets_behind [] (lines_of text))
    by_flag true e is = by_lines (lines_of view.hand) (ap lines_of is ∙ h.over e)
    by_flag false e begins =
        let used : full_lines read ≡ h.used ++ full_lines view.hand = ap full_lines h.parts ∙ h.full e view.hand in
        let rest = full_lines view.hand ++ begins.rest in
        by_lines (lines_of rest) (ap lines_of (begins.parts ∙ ap (λ b. b ++ begins.rest) used ∙ append_assoc h.used (full_lines view.hand) begins.rest) ∙ h.split e rest)

fresh_read : ReadAsNeeded false 0 []
unfolding lines_of full_lines packets_of packets_behind
fresh_read = record { before = []; last = []; parts = refl; blocks = refl; most = omega arith; whole = λ _. refl; part = λ e. absurd (cc); needed = refl; fewer = inl refl }

pub fresh_stands : (first : InView) (view : LinesView) → view ≡ fresh_lines → LinesStand first first [] [] view
fresh_stands first view e = rw e (record {
  gave = gave_none first;
  over = λ f. absurd (cc);
  unended = λ _. refl;
  alive = λ _. refl;
  ended = λ f. absurd (cc);
  lost = λ f. absurd (cc);
  goes = λ _. fresh_goes;
  told = λ text may. goes_told [] [] fresh_lines fresh_goes text may;
  shown = λ n f still. absurd (cc);
  needed = fresh_read;
  near = λ _. omega arith;
})

-- the answer is no part of what goes on
same_goes : (read : List ℕ) (packets : List (List ℕ)) (view : LinesView) (r : Found) → GoesOn read packets view → GoesOn read packets (with_answer r view)
same_goes read packets view r h = record {
  lines = h.lines;
  used = h.used;
  parts = h.parts;
  split = h.split;
  full = h.full;
  over = h.over;
  sound = h.sound;
  number = h.number;
  empty = h.empty;
  blocks = h.blocks;
}

-- a text that there may be after an answer there might be before
earlier_begins : (read further text : List ℕ) → Begins (read ++ further) text → Begins (full_lines read) text
earlier_begins read further text b =
    let f = full_lines-front read in
    record { rest = f.rest ++ (further ++ b.rest); parts = b.parts ∙ append_assoc read further b.rest ∙ ap (λ bytes. bytes ++ (further ++ b.rest)) f.parts ∙ append_assoc (full_lines read) f.rest (further ++ b.rest) }

earlier_full : (read further text : List ℕ) → Begins (full_lines (read ++ further)) text → Begins (full_lines read) text
earlier_full read further text b =
    let f = full_lines-more read further in
    record { rest = f.rest ++ b.rest; parts = b.parts ∙ ap (λ bytes. bytes ++ b.rest) f.parts ∙ append_assoc (full_lines read) f.rest b.rest }

earlier_dead : (read further text : List ℕ) → length read % 4096 ≡ 0 → text ≡ text_of_dead (read ++ further) → Begins (full_lines read) text
earlier_dead read further text blocks e =
    let w = whole_blocks-more read further blocks in
    let f = full_lines-more read w.rest in
    record { rest = f.rest; parts = e ∙ ap full_lines w.parts ∙ f.parts }

earlier_open : (read further text : List ℕ) (ended : Bool) (a : Line) → (a ≡ line.End → ended ≡ true) → length read % 4096 ≡ 0 → may_be ended a (read ++ further) text → Begins (full_lines read) text
earlier_open read further text true a f blocks may = earlier_begins read further text (record { rest = []; parts = may ∙ sym (append-nil (read ++ further)) })
earlier_open read further text false line.Packet f blocks may = earlier_full read further text may
earlier_open read further text false (line.Bad n) f blocks may = earlier_begins read further text may
earlier_open read further text false line.End f blocks may = absurd (let e = f refl in cc)
earlier_open read further text false line.Lost f blocks may = earlier_dead read further text blocks may

same_text : (b : Bool) (a : Line) (read further text : List ℕ) → b ≡ true → further ≡ [] → may_be b a (read ++ further) text → text ≡ read
same_text true a read further text e none may = may ∙ ap (λ bytes. read ++ bytes) none ∙ append-nil read
same_text false a read further text e none may = absurd (cc)

before_open : (ended : Bool) (read text : List ℕ) → (ended ≡ true → text ≡ read) → (ended ≡ false → Begins (full_lines read) text) → may_be ended line.Packet read text
before_open true read text f g = f refl
before_open false read text f g = g refl

-- less than a block is in hand
take_few : (n : ℕ) (xs : List ℕ) → length (take n xs) ≤ n
take_few zero xs = omega arith
take_few (suc n) [] = omega arith
take_few (suc n) (x ∷ xs) = let h = take_few n xs in omega arith

pub near_hand : (at end : ℕ) (bytes : List ℕ) → end < at + 4096 → length (take (end - at) bytes) < 4096
near_hand at end bytes less = let few = take_few (end - at) bytes in omega arith

-- a packet, a bad line, the end and the place's death make the answer
pub packet_stands : (first is : InView) (all : List ℕ) (packets : List (List ℕ)) (new : LinesView) → Reaches first all (length packets + 1) new.ended is → GoesOn all (packets ++ new.packet ∷ []) new
    → length new.hand < 4096 → LinesStand first is all (packets ++ new.packet ∷ []) (with_answer found.Packet new)
packet_stands first is all packets new r g near = record {
  gave = r.gave;
  over = r.over;
  unended = r.unended;
  alive = λ _. r.alive;
  ended = λ e. absurd (cc);
  lost = λ e. absurd (cc);
  goes = λ _. same_goes all (packets ++ new.packet ∷ []) new found.Packet g;
  told = λ text may. goes_told all (packets ++ new.packet ∷ []) new g text may;
  shown = λ n e still. absurd (cc);
  needed = rw (length-append packets (new.packet ∷ [])) r.needed;
  near = λ _. near;
}

pub bad_stands : (first is : InView) (all : List ℕ) (packets : List (List ℕ)) (new : LinesView) → Reaches first all (length packets + 1) new.ended is
    → ((text : List ℕ) → (new.ended ≡ true → text ≡ all) → Begins all text → HasBad packets new.number (packets_of text)) → (new.ended ≡ false → shows_bad all ≡ true)
    → LinesStand first is all (packets ++ []) (with_answer found.Bad new)
bad_stands first is all packets new r bad shows = rw (append-nil packets) (record {
  gave = r.gave;
  over = r.over;
  unended = r.unended;
  alive = λ _. r.alive;
  ended = λ e. absurd (cc);
  lost = λ e. absurd (cc);
  goes = λ e. absurd (cc);
  told = λ text may. bad text (whole new.ended text may) (begins new.ended text may);
  shown = λ n e still. shows still;
  needed = r.needed;
  near = λ e. absurd (cc);
})
  where
    whole : (b : Bool) (text : List ℕ) → may_be b (line.Bad new.number) all text → b ≡ true → text ≡ all
    whole true text may e = may
    whole false text may e = absurd (cc)

    begins : (b : Bool) (text : List ℕ) → may_be b (line.Bad new.number) all text → Begins all text
    begins true text may = record { rest = []; parts = may ∙ sym (append-nil all) }
    begins false text may = may

pub end_stands : (first is : InView) (all : List ℕ) (packets : List (List ℕ)) (new : LinesView) → Reaches first all (length packets + 1) new.ended is → new.ended ≡ true
    → packets_of all ≡ record { packets = packets; ending = Ended } → LinesStand first is all (packets ++ []) (with_answer found.End new)
end_stands first is all packets new r over whole = rw (append-nil packets) (record {
  gave = r.gave;
  over = r.over;
  unended = r.unended;
  alive = λ _. r.alive;
  ended = λ _. over;
  lost = λ e. absurd (cc);
  goes = λ e. absurd (cc);
  told = λ text may. ap packets_of (all_ended new.ended text may) ∙ whole;
  shown = λ n e still. absurd (cc);
  needed = r.needed;
  near = λ e. absurd (cc);
})
  where
    all_ended : (b : Bool) (text : List ℕ) → may_be b line.End all text → text ≡ all
    all_ended true text may = may
    all_ended false text may = may

pub lost_stands : (first is : InView) (all : List ℕ) (packets : List (List ℕ)) (new : LinesView) → Gave first all is → is.ended ≡ first.ended → first.state ≡ Live → is.state ≡ Dead → new.ended ≡ false
    → packets_of (text_of_dead all) ≡ record { packets = packets; ending = Ended } → ReadAsNeeded true (length packets + 1) all → LinesStand first is all (packets ++ []) (with_answer found.Lost new)
lost_stands first is all packets new gave same live dead still whole needed = rw (append-nil packets) (record {
  gave = gave;
  over = λ e. absurd (cc);
  unended = λ _. same;
  alive = λ f. absurd (f refl);
  ended = λ e. absurd (cc);
  lost = λ _. (still, dead, live);
  goes = λ e. absurd (cc);
  told = λ text may. ap packets_of (all_lost new.ended still text may) ∙ whole;
  shown = λ n e open_yet. absurd (cc);
  needed = needed;
  near = λ e. absurd (cc);
})
  where
    all_lost : (b : Bool) → b ≡ false → (text : List ℕ) → may_be b line.Lost all text → text ≡ text_of_dead all
    all_lost true e text may = absurd (cc)
    all_lost false e text may = may

-- behind an answer Packet one packet more is sought
seeks_on : {first was : InView} {read : List ℕ} {packets : List (List ℕ)} {old : LinesView} → old.answer ≡ line.Packet → LinesStand first was read packets old → Seeks first read packets old was
seeks_on {read = read} {packets = packets} {old = old} going h =
    let P : Line → Type 0 = λ a. ReadAsNeeded (read_short old.ended a) (asked_for a (length packets)) read in
    let needed : ReadAsNeeded old.ended (length packets) read = subst P going h.needed in
    record {
      reaches = record { gave = h.gave; over = h.over; unended = h.unended; alive = h.alive (λ e. let p = going in cc); needed = more_asked old.ended (length packets) (length packets + 1) read (omega arith) needed };
      goes = h.goes going;
    }

-- what was found makes the answer
pub take_stands : (r : Found) (first : InView) (read : List ℕ) (packets : List (List ℕ)) (old mid : LinesView) (was is : InView) → old.answer ≡ line.Packet → r ≢ found.Empty
    → (Seeks first read packets old was → Finds r first read packets old mid is) → LinesStand first was read packets old → TakeStands first read packets old (with_answer r mid) is
take_stands r first read packets old mid was is going counts finds h =
    let f = finds (seeks_on going h) in
    let further = f.further in
    let stands = f.stands counts in
    let P : Line → Type 0 = λ a. LinesStand first is (read ++ further) (packets ++ (if is_packet a then given_by (answer_of r mid.number) mid.packet else [])) (with_answer r mid) in
    record {
      further = further;
      stands = subst P (sym going) stands;
      earlier = λ text may. (let Q : Line → Type 0 = λ a. may_be old.ended a read text in subst Q (sym going) (before_open old.ended read text
          (λ e. let q = f.quiet e in same_text mid.ended (answer_of r mid.number) read further text q.1 q.0 may)
          (λ e. earlier_open read further text mid.ended (answer_of r mid.number) stands.ended ((h.goes going).blocks e) may)));
    }

-- a place that is dead has answered no end
pub died_unended : (first now : InView) (read : List ℕ) (packets : List (List ℕ)) (view : LinesView) → LinesStand first now read packets view → DiedUnended first now
died_unended first now read packets view h dead = by_answer view.answer refl
  where
    stays : view.answer ≢ line.Lost → now.ended ≡ first.ended
    stays other = ap (λ place. place.ended) (h.gave.idle (λ live. dead_not_live (sym dead ∙ h.alive other ∙ live))).0

    by_answer : (a : Line) → view.answer ≡ a → now.ended ≡ first.ended
    by_answer line.Packet e = stays (λ lost. let k = sym e ∙ lost in cc)
    by_answer line.End e = stays (λ lost. let k = sym e ∙ lost in cc)
    by_answer (line.Bad n) e = stays (λ lost. let k = sym e ∙ lost in cc)
    by_answer line.Lost e = h.unended (h.lost e).0

-- the last answer is given again
pub still_stands : (first now : InView) (read : List ℕ) (packets : List (List ℕ)) (view : LinesView) → view.answer ≢ line.Packet → LinesStand first now read packets view → TakeStands first read packets view view now
still_stands first now read packets view over h = record {
  further = [];
  stands = rw (by_answer view.answer over, append-nil read, append-nil packets) h;
  earlier = λ text may. rw (append-nil read) at may;
}
  where
    by_answer : (a : Line) → a ≢ line.Packet → is_packet a ≡ false
    by_answer line.Packet f = absurd (f refl)
    by_answer line.End f = refl
    by_answer (line.Bad n) f = refl
    by_answer line.Lost f = refl
