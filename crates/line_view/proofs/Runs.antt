-- The turns of a view, and how it ends.
use Rattle.std.proofs.Common.{◌≡◌, ◌≢◌, ◌<◌, ◌≤◌, ◌+◌, ◌*◌, ◌∙◌, ◌⊎◌, ℕ, suc, Bool, true, false, List, [], ◌++◌, length, refl, sym, ap, subst, arith, append-nil, append_assoc}
use Rattle.std.specs.Prelude.{IsTrue, ◌==◌, if◌then◌else◌, min}
use Rattle.std.specs.List.{flat_map, range_with_len}
use Rattle.std.proofs.lemmas.Bool.Decides.{nat_tests}
use Rattle.std.proofs.lemmas.Grind.{flat_map-append}
use Rattle.port_base.proofs.GivenLaws.{gave_none}
use Rattle.port_base.specs.PortViews.{SinkView, SinkWrites}
use Rattle.port_base.specs.Views.{InView}
use Rattle.port_base.specs.declared.drain.Written.{Written}
use Rattle.port_base.specs.declared.drain.Written.TheVariants as written
use Rattle.port_base.specs.declared.ended.Ended.{Ended}
use Rattle.port_base.specs.declared.ended.Ended.TheVariants.{Done, Unfinished, Cut, ReportFault, Memory}
use Rattle.line_side.proofs.Frames.{length_parts}
use Rattle.line_side.specs.LineFile.{mfas_of}
use Rattle.line_side.specs.LineForm.{LineForm, size_of, through_mask}
use Rattle.line_side.specs.MayBe.{MayBe}
use Rattle.line_side.specs.Reader.{ReaderView, rest_of}
use Rattle.line_side.specs.declared.ending.Ending.{Ending}
use Rattle.line_side.specs.declared.ending.Ending.TheVariants.{Open, Seen, Died}
use Rattle.multiframe.specs.LineTurns.{line_state, has_ended, wanted}
use Rattle.device_model.specs.LineAsked.{is_seen}
use Rattle.tributary_line.proofs.LineEndings.{line_ends, line_stops, some_frames}
use Rattle.tributary_line.proofs.TurnsDone.{turns_first, turns_all, turns_count, turns_least}
use Rattle.tributary_line.proofs.Wanting.{TookFrames, none_by_turns, took_least, took_turns}
use Rattle.tributary_line.specs.TurnsDone.{turns_of}
use Rattle.tributary_line.specs.Walking.{after_by, EndsWith, TurnHolds, Walked, TurnWalked, WalkDone, WalkLost, WalkEnds}
use Rattle.line_view.specs.ViewRuns.{ViewEnded, text_part, turn_count, written_of}
use Rattle.line_view.specs.Steps.ViewRuns.{IsNew, ViewHolds, ViewLost, form_in, lines_of, shows_in}
use Rattle.line_view.specs.Steps.Viewing.{ViewStands, TurnMoves}
use Rattle.line_view.specs.ViewText.{Showing, head_line, end_line, turn_text, text_until, view_text}
use Rattle.line_view.specs.declared.told.TurnSeen.{TurnSeen}
use Rattle.line_view.specs.declared.viewing.Viewing.{Viewing}
use Rattle.line_view.proofs.Texts.{writes_none, writes_twice, part_of_more, lines_are, turns-more}

-- all that was taken is what a line may have
itself : (scrambled : Bool) (ending : Ending) (read : List ℕ) → MayBe scrambled ending read (through_mask scrambled (read ++ []))
itself scrambled ending read = record { rest = []; over = λ _. refl; parts = refl }

-- a line's end was seen, by its answer
pub end_is : (b : Bool) (e : Ending) → (IsTrue b → e ≡ Seen) × (e ≡ Seen → IsTrue b) → b ≡ is_seen e
end_is true Seen h = refl
end_is true Open h = absurd (let e : Open ≡ Seen = h.0 refl in cc)
end_is true Died h = absurd (let e : Died ≡ Seen = h.0 refl in cc)
end_is false Seen h = absurd (let e : false ≡ true = h.1 refl in cc)
end_is false Open h = refl
end_is false Died h = refl

-- ---- before the first turn, behind the line of the line

pub view_starts : (viewing : Viewing) (first : InView) (old new : SinkView) → IsNew viewing → viewing.line.pieces ≡ 0
    → SinkWrites written.Whole old (head_line viewing.kind viewing.scrambled) new → Walked (form_in viewing) first first [] 0 viewing.line (ViewHolds viewing viewing old new)
view_starts viewing first old new is_new between wrote = record {
  stands = (is_new first).line_is;
  between = between;
  holds = λ available may. record {
    step = (is_new first).step;
    sinks = (is_new first).sinks available may;
    msi = (is_new first).msi_is available may;
    shows = refl;
    wrote = subst (λ xs. SinkWrites written.Whole old xs new) (sym (append-nil (head_line viewing.kind viewing.scrambled))) wrote;
  };
}

-- ---- a turn

-- the lines of one turn more
text_more : (form : LineForm) (shows : List Showing) (available : List ℕ) (t : ℕ)
    → text_until form shows available t ++ turn_text form shows available t ≡ text_until form shows available (t + 1)
text_more form shows available t =
    let head = head_line form.kind form.scrambled in
    let turns = flat_map (turn_text form shows available) (range_with_len 0 t) in
    append_assoc head turns (turn_text form shows available t)
    ∙ ap (λ xs. head ++ xs) (sym (turns-more (turn_text form shows available) t))

-- how the line and its sinks stand
pub view_stands : (origin now : Viewing) (was is : SinkView) (first place : InView) (read : List ℕ) (t : ℕ) → Walked (form_in origin) first place read t now.line (ViewHolds origin now was is)
    → ViewStands (form_in origin) first place read t now.line now.watched.items []
view_stands origin now was is first place read t h = record {
  line_is = h.stands;
  step = (h.holds (through_mask origin.scrambled (read ++ [])) (itself origin.scrambled now.line.reader.ending read)).step;
  sinks = λ available may. (h.holds available may).sinks;
  msi_is = λ available may. (h.holds available may).msi;
}

pub turn_walked : (result : Written) (origin old new : Viewing) (was mid is : SinkView) (first place now : InView) (read : List ℕ) (t : ℕ) (seen : TurnSeen) (msi : List (ℕ × ℕ))
    → Walked (form_in origin) first place read t old.line (ViewHolds origin old was mid)
    → TurnMoves (form_in origin) first now read t old.line new.line old.watched.items new.watched.items seen msi → new.line.pieces ≡ 0
    → SinkWrites result mid (lines_of t seen msi new.watched.items) is
    → TurnWalked (after_by result seen.ended) (form_in origin) first now read t old.line new.line (ViewHolds origin new was is) (ViewLost origin new was is)
turn_walked result origin old new was mid is first place now read t seen msi h m between wrote = record {
  further = m.further;
  stands = m.stands.line_is;
  between = between;
  earlier = m.earlier;
  holds = λ available may. by_answer result seen.ended wrote available may (h.holds available (m.earlier available may));
  ended = λ available may. by_end result seen.ended (ap (λ (s : TurnSeen). s.ended) (m.seen_is available may));
}
  where
    form : LineForm
    form = form_in origin

    shows : List Showing
    shows = shows_in origin

    -- the lines are what the definition says
    lines : (available : List ℕ) → MayBe origin.scrambled new.line.reader.ending (read ++ m.further) available → shows_in old ≡ shows → lines_of t seen msi new.watched.items ≡ turn_text form shows available t
    lines available may same =
        lines_are form available t new.watched.items seen msi (m.seen_is available may) (m.msi_is available may) (m.told available may) (λ i one at. (m.stands.step i one at).port)
        ∙ ap (λ os. turn_text form os available t) (m.shows ∙ same)

    goes : SinkWrites written.Whole mid (lines_of t seen msi new.watched.items) is → (available : List ℕ) → MayBe origin.scrambled new.line.reader.ending (read ++ m.further) available
        → ViewHolds origin old was mid available t → ViewHolds origin new was is available (t + 1)
    goes w available may k = record {
      step = m.stands.step;
      sinks = m.stands.sinks available may;
      msi = m.stands.msi_is available may;
      shows = m.shows ∙ k.shows;
      wrote = subst (λ xs. SinkWrites written.Whole was xs is) (ap (λ xs. text_until form shows available t ++ xs) (lines available may k.shows) ∙ text_more form shows available t)
          (writes_twice written.Whole was mid is (text_until form shows available t) (lines_of t seen msi new.watched.items) k.wrote w);
    }

    by_answer : (r : Written) (e : Bool) → SinkWrites r mid (lines_of t seen msi new.watched.items) is → (available : List ℕ)
        → MayBe origin.scrambled new.line.reader.ending (read ++ m.further) available
        → ViewHolds origin old was mid available t → TurnHolds (after_by r e) (ViewHolds origin new was is) (ViewLost origin new was is) available t
    by_answer written.Whole true w available may k = goes w available may k
    by_answer written.Whole false w available may k = goes w available may k
    by_answer written.Lost e w available may k = record {
      between = mid;
      wrote = k.wrote;
      lost = subst (λ xs. SinkWrites written.Lost mid xs is) (lines available may k.shows) w;
    }

    by_end : (r : Written) (e : Bool) {b : Bool} → e ≡ b → EndsWith (after_by r e) b
    by_end written.Whole true same = sym same
    by_end written.Whole false same = sym same
    by_end written.Lost e same = tt

-- ---- how it ends

-- the first lines of the text
text_first : (form : LineForm) (shows : List Showing) (ending : Ending) (available : List ℕ) (n : ℕ) → n ≤ 16384
    → ((s : ℕ) → s < n → has_ended (line_state (size_of form) (mfas_of available) s) ≡ false)
    → (rest : List ℕ) × (text_until form shows available n ++ rest ≡ view_text form shows ending available)
unfolding view_text
text_first form shows ending available n few going =
    let turns = turns_first (size_of form) (mfas_of available) n few going in
    let head = head_line form.kind form.scrambled in
    let end = end_line (length (turns_of (size_of form) (mfas_of available))) (rest_of ending available) in
    let some = flat_map (turn_text form shows available) (range_with_len 0 n) in
    let more = flat_map (turn_text form shows available) turns.0 in (
      more ++ end,
      append_assoc head some (more ++ end) ∙ ap (λ xs. head ++ xs) (sym (append_assoc some more end))
          ∙ ap (λ xs. head ++ (xs ++ end)) (sym (flat_map-append (turn_text form shows available) (range_with_len 0 n) turns.0))
          ∙ ap (λ ts. head ++ (flat_map (turn_text form shows available) ts ++ end)) (sym turns.1),
    )

-- and the whole text
text_all : (form : LineForm) (shows : List Showing) (ending : Ending) (available : List ℕ) (n : ℕ) → n ≤ 16384
    → ((s : ℕ) → s < n → has_ended (line_state (size_of form) (mfas_of available) s) ≡ false) → (has_ended (line_state (size_of form) (mfas_of available) n) ≡ true) ⊎ (n ≡ 16384)
    → text_until form shows available n ++ end_line n (rest_of ending available) ≡ view_text form shows ending available
unfolding view_text
text_all form shows ending available n few going last =
    let head = head_line form.kind form.scrambled in
    let some = flat_map (turn_text form shows available) (range_with_len 0 n) in
    append_assoc head some (end_line n (rest_of ending available))
    ∙ ap (λ ts. head ++ (flat_map (turn_text form shows available) ts ++ end_line n (rest_of ending available))) (sym (turns_all (size_of form) (mfas_of available) n few going last))
    ∙ ap (λ k. head ++ (flat_map (turn_text form shows available) (turns_of (size_of form) (mfas_of available)) ++ end_line k (rest_of ending available)))
    (sym (turns_count (size_of form) (mfas_of available) n few going last))

-- ---- a write that failed

nothing_taken : (available : List ℕ) (size : ℕ) → wanted size (mfas_of available) 0 ≡ 0 → 0 ≡ min (length available) (16320 * wanted size (mfas_of available) (min 0 (turn_count size available)))
nothing_taken available size none =
    let few : min 0 (turn_count size available) ≡ 0 = omega arith in
    let zero_frames : wanted size (mfas_of available) (min 0 (turn_count size available)) ≡ 0 = ap (wanted size (mfas_of available)) few ∙ none in
    omega (arith, zero_frames)

-- as many bytes as the turns up to this one want
taken_by : (size : ℕ) (available read : List ℕ) (t n part : ℕ) (r : ReaderView) → length read ≤ length available → TookFrames (wanted size (mfas_of available) n) available read r
    → n ≡ min part (turn_count size available) → length read ≡ min (length available) (16320 * wanted size (mfas_of available) (min part (turn_count size available)))
taken_by size available read t n part r few took same =
    took_least (wanted size (mfas_of available) n) available read r few took ∙ ap (λ k. min (length available) (16320 * wanted size (mfas_of available) k)) same

-- the part of a turn that is not the last line
part_of_turn : (form : LineForm) (shows : List Showing) (ending : Ending) (available : List ℕ) (t : ℕ) → t < turn_count (size_of form) available → turn_text form shows available t ≡ text_part form shows ending available (suc t)
part_of_turn form shows ending available t less =
    let other : (t == turn_count (size_of form) available) ≡ false = grind (arith, nat_tests) in
    sym (ap (λ b. if b then end_line t (rest_of ending available) else turn_text form shows available t) other)

-- and the last line
part_of_end : (form : LineForm) (shows : List Showing) (ending : Ending) (available : List ℕ) (t : ℕ) → t ≡ turn_count (size_of form) available → end_line t (rest_of ending available) ≡ text_part form shows ending available (suc t)
part_of_end form shows ending available t same =
    let here : (t == turn_count (size_of form) available) ≡ true = grind (arith, nat_tests) in
    sym (ap (λ b. if b then end_line t (rest_of ending available) else turn_text form shows available t) here)

-- all that was taken may stand in the line
within_given : (scrambled : Bool) (read rest : List ℕ) → length read ≤ length (through_mask scrambled (read ++ rest))
within_given scrambled read rest = let long = length_parts scrambled read [] rest in omega (arith, long)

-- with a write of the head that failed
pub head_lost : (form : LineForm) (shows : List Showing) (first : InView) (old new : SinkView) → SinkWrites written.Lost old (head_line form.kind form.scrambled) new
    → ViewEnded form shows first first old new ReportFault
head_lost form shows first old new wrote = record {
  read = [];
  gave = gave_none first;
  more = true;
  over = λ e. absurd (cc);
  ending = Open;
  ended_as = λ no. absurd (no refl);
  report = λ rest follow.
      let available = through_mask form.scrambled ([] ++ rest) in
      let text = text_first form shows Open available 0 (omega arith) (λ s less. absurd (omega (arith, less))) in
      subst (λ xs. SinkWrites written.Lost old xs new) text.1
      (part_of_more old new (text_until form shows available 0) text.0
      (subst (λ xs. SinkWrites written.Lost old xs new) (sym (append-nil (head_line form.kind form.scrambled))) wrote));
  ends = tt;
  took = λ no. absurd (no refl);
  failed = λ e rest follow. record {
    part = 0;
    few = omega arith;
    took = let none = none_by_turns (size_of form) (mfas_of (through_mask form.scrambled rest)) in nothing_taken (through_mask form.scrambled rest) (size_of form) none;
    between = old;
    wrote = writes_none old;
    lost = wrote;
  };
}

-- with a write of a turn that failed
pub view_stops : (origin last : Viewing) (was is : SinkView) (first now : InView) → (h : WalkLost (form_in origin) first now last.line (ViewLost origin last was is))
    → ViewEnded (form_in origin) (shows_in origin) first now was is ReportFault
view_stops origin last was is first now h =
    let form = form_in origin in
    let shows = shows_in origin in
    let left = line_stops form first now h.read (h.t + 1) last.line h.stands in
    let few : h.t + 1 ≤ 16384 = (let less = h.few in omega (arith, less)) in
    record {
      read = left.read;
      gave = left.gave;
      more = left.more;
      over = left.over;
      ending = last.line.reader.ending;
      ended_as = left.ended_as;
      report = λ rest follow.
          let available = through_mask form.scrambled (left.read ++ rest) in
          let may = left.may rest follow in
          let k = h.lost available may in
          let text = text_first form shows last.line.reader.ending available (h.t + 1) few (h.unended available may) in
          subst (λ xs. SinkWrites written.Lost was xs is) text.1
          (part_of_more was is (text_until form shows available (h.t + 1)) text.0
          (subst (λ xs. SinkWrites written.Lost was xs is) (text_more form shows available h.t)
          (writes_twice written.Lost was k.between is (text_until form shows available h.t) (turn_text form shows available h.t) k.wrote k.lost)));
      ends = tt;
      took = λ other. absurd (other refl);
      failed = λ e rest follow.
          let available = through_mask form.scrambled (left.read ++ rest) in
          let may = left.may rest follow in
          let k = h.lost available may in
          let count : h.t + 1 ≤ turn_count (size_of form) available = turns_least (size_of form) (mfas_of available) (h.t + 1) few (h.unended available may) in
          record {
            part = suc h.t;
            few = omega (arith, count);
            took = ap length (left.same refl) ∙ taken_by (size_of form) available h.read h.t (h.t + 1) (suc h.t) last.line.reader
                (subst (λ xs. length xs ≤ length available) (left.same refl) (within_given form.scrambled left.read rest))
                (took_turns (size_of form) available h.read (h.t + 1) last.line (some_frames form.kind) (h.stands.is_line available may) h.between) (omega (arith, count));
            between = k.between;
            wrote = k.wrote;
            lost = subst (λ xs. SinkWrites written.Lost k.between xs is) (part_of_turn form shows last.line.reader.ending available h.t (omega (arith, count))) k.lost;
          };
    }

-- the last line is written, or a part of it
last_line : (result : Written) (origin last : Viewing) (was mid is : SinkView) (first place : InView) (t : ℕ) → (h : WalkDone (form_in origin) first place t last.line (ViewHolds origin last was mid))
    → SinkWrites result mid (end_line t last.line.reader.rest) is → (available : List ℕ) → MayBe origin.scrambled last.line.reader.ending h.read available
    → SinkWrites result was (view_text (form_in origin) (shows_in origin) last.line.reader.ending available) is
last_line result origin last was mid is first place t h wrote available may =
    subst (λ xs. SinkWrites result was xs is) (text_all (form_in origin) (shows_in origin) last.line.reader.ending available t h.few (h.unended available may) (h.last available may))
    (writes_twice result was mid is (text_until (form_in origin) (shows_in origin) available t) (end_line t (rest_of last.line.reader.ending available)) (h.walked.holds available may).wrote
    (subst (λ r. SinkWrites result mid (end_line t r) is) (h.walked.stands.is_line available may).read.rest wrote))

-- with a write of the last line that failed
pub end_lost : (origin last : Viewing) (was mid is : SinkView) (first now : InView) (t : ℕ) → WalkDone (form_in origin) first now t last.line (ViewHolds origin last was mid)
    → SinkWrites written.Lost mid (end_line t last.line.reader.rest) is → ViewEnded (form_in origin) (shows_in origin) first now was is ReportFault
end_lost origin last was mid is first now t h wrote =
    let form = form_in origin in
    let shows = shows_in origin in
    let left = line_stops form first now h.read t last.line h.walked.stands in
    record {
      read = left.read;
      gave = left.gave;
      more = left.more;
      over = left.over;
      ending = last.line.reader.ending;
      ended_as = left.ended_as;
      report = λ rest follow. last_line written.Lost origin last was mid is first now t h wrote (through_mask form.scrambled (left.read ++ rest)) (left.may rest follow);
      ends = tt;
      took = λ other. absurd (other refl);
      failed = λ e rest follow.
          let available = through_mask form.scrambled (left.read ++ rest) in
          let may = left.may rest follow in
          let at = h.walked.stands.is_line available may in
          let count : turn_count (size_of form) available ≡ t = turns_count (size_of form) (mfas_of available) t h.few (h.unended available may) (h.last available may) in
          record {
            part = suc t;
            few = omega (arith, count);
            took = ap length (left.same refl) ∙ taken_by (size_of form) available h.read t t (suc t) last.line.reader
                (subst (λ xs. length xs ≤ length available) (left.same refl) (within_given form.scrambled left.read rest))
                (took_turns (size_of form) available h.read t last.line (some_frames form.kind) at h.walked.between) (omega (arith, count));
            between = mid;
            wrote = (h.walked.holds available may).wrote;
            lost = subst (λ xs. SinkWrites written.Lost mid xs is) (ap (end_line t) at.read.rest ∙ part_of_end form shows last.line.reader.ending available t (sym count)) wrote;
          };
    }

whole_is : (ended : Ended) → ended ≢ ReportFault → written_of ended ≡ written.Whole
whole_is Done other = refl
whole_is Unfinished other = refl
whole_is Cut other = refl
whole_is ReportFault other = absurd (other refl)
whole_is Memory other = refl

-- after the last line
pub view_ends : (ended : Ended) (origin last : Viewing) (was mid is : SinkView) (first place now : InView) (t : ℕ)
    → WalkDone (form_in origin) first place t last.line (ViewHolds origin last was mid) → SinkWrites written.Whole mid (end_line t last.line.reader.rest) is
    → WalkEnds (is_seen last.line.reader.ending) last.line.reader.rest place now ended → ended ≢ ReportFault → ViewEnded (form_in origin) (shows_in origin) first now was is ended
view_ends ended origin last was mid is first place now t h wrote w other =
    let form = form_in origin in
    let left = line_ends form first place now t last.line (ViewHolds origin last was mid) ended h w in
    record {
      read = left.read;
      gave = left.gave;
      more = left.more;
      over = left.over;
      ending = last.line.reader.ending;
      ended_as = left.ended_as;
      report = λ rest follow.
          let available = through_mask form.scrambled (left.read ++ rest) in
          subst (λ r. SinkWrites r was (view_text form (shows_in origin) last.line.reader.ending available) is) (sym (whole_is ended other))
          (last_line written.Whole origin last was mid is first place t h wrote available (left.may rest follow));
      ends = left.ends;
      took = left.took;
      failed = λ e. absurd (other e);
    }
