-- The end of the command.
use Rattle.std.proofs.Common.{◌≡◌, ◌≢◌, ◌⊎◌, inl, inr, ◌<◌, ◌+◌, ◌*◌, ℕ, zero, suc, Bool, true, false, List, [], ◌∷◌, ◌++◌, length, refl, sym, subst, ◌∙◌, length-append, add-one, arith, ◌↔◌, ap}
use Rattle.std.specs.Prelude.{not, ◌||◌}
use Rattle.port_base.specs.PortViews.{SinkView, SinkGot}
use Rattle.port_base.specs.Views.{State, Empty, Live, Dead, is_dead, InView, OutView, BaysView}
use Rattle.port_base.proofs.GivenLaws.{dead_of}
use Rattle.line_side.specs.LineForm.{plain_otu2}
use Rattle.line_side.specs.LineStands.{LineView}
use Rattle.line_side.specs.MayBe.{MayBe}
use Rattle.line_side.proofs.Exits.{took_is}
use Rattle.line_side.proofs.Standing.{died_unended}
use Rattle.line_side.specs.declared.ending.Ending.{Ending}
use Rattle.line_side.specs.declared.ending.Ending.TheVariants.{Open, Seen, Died}
use Rattle.tributary_model.specs.Places.{Tributary}
use Rattle.port_base.proofs.PortLaws.{sink_got_none}
use Rattle.port_base.specs.declared.drain.Written.TheVariants as written
use Rattle.tributary_line.specs.TapTurn.{TapView, TapStands}
use Rattle.tributary_line.specs.TributaryFile.{AreTributaryFrames}
use Rattle.tributary_line.proofs.FeedTurns.{file_sent}
use Rattle.tributary_line.specs.FeedTurn.{FeedView, FeedStands}
use Rattle.tributary_line.specs.Settling.{ended_by}
use Rattle.tributary_line.proofs.Endings.{ends_by}
use Rattle.port_base.specs.Asked.{ByteAnswer, has_come}
use Rattle.device_model.specs.LineAsked.{is_seen, MayHave, InputLeft}
use Rattle.device_model.specs.Moments.{line_read}
use Rattle.device_model.proofs.SettledLines.{may_at_end, end_of_line, line_left, EndOfLine}
use Rattle.port_base.specs.declared.ended.Ended.{Ended}
use Rattle.port_base.specs.declared.ended.Ended.TheVariants.{ReportFault}
use Rattle.protect_selector.specs.declared.protecting.Protecting.{Protecting}
use Rattle.protect_selector.specs.Selector.{HasChosen}
use Rattle.protect_selector.specs.OfLines.{turns_before, due_at, due_before, switch_text}
use Rattle.protect_selector.specs.Protecting.{Ends, OnlyProtected, ends_of}
use Rattle.protect_selector.specs.Steps.Protecting.{Stands, StandsLost, TurnGone, TurnsGone, SettledAs, AreReady, has_dead}
use Rattle.protect_selector.specs.ProtectLeft.{IsCut, AllDone, LeftSo, ProtectRan}
use Rattle.tributary_line.specs.TurnsLeft.{HasMore, OutputDue}
use Rattle.protect_selector.proofs.ProtectTurns.{SeenOf}

-- ---- what was asked

pub settled_by : (parts : Protecting) (was mid is : BaysView) (report : SinkView) (x y x' y' : InView) (line line' : LineView) (answer answer' dead more : Bool) (ended : Ended) → SeenOf was mid is x y x' y'
    → line ≡ parts.working.line → line' ≡ parts.protection.line → ByteAnswer (not (is_seen line.reader.ending)) x x' answer → ByteAnswer (not (is_seen line'.reader.ending)) y y' answer'
    → dead ≡ has_dead (ends_of is report) → more ≡ (answer || answer') → ended ≡ ended_by dead more → SettledAs parts (ends_of was report) (ends_of is report) ended
settled_by parts was mid is report x y x' y' line line' answer answer' dead more ended seen l l' one two d m e = record {
  working_further = one.further;
  working_asked = rw (seen.working_was, seen.working_is, sym l) one.asked;
  protection_further = two.further;
  protection_asked = rw (seen.protection_was, seen.protection_is, sym l') two.asked;
  output = seen.output;
  report = refl;
  answer = e ∙ rw (d, m, one.tells, two.tells) refl;
}

-- ---- how the command ended

dead_if : (s : State) (b : Bool) → is_dead s ≡ b → s ≡ Dead → b ≡ true
dead_if Dead b e d = sym e
dead_if Live b e d = absurd (cc)
dead_if Empty b e d = absurd (cc)

is_cut : (last : Ends) → has_dead last ≡ true → IsCut last
is_cut last e = by_parts (is_dead last.working.state) refl (is_dead last.protection.state) refl (is_dead last.output.state) refl e
  where
    by_parts : (a : Bool) → is_dead last.working.state ≡ a → (b : Bool) → is_dead last.protection.state ≡ b → (c : Bool) → is_dead last.output.state ≡ c → (a || b || c) ≡ true → IsCut last
    by_parts true h b k c l e = inl (dead_of last.working.state h)
    by_parts false h true k c l e = inr (inl (dead_of last.protection.state k))
    by_parts false h false k true l e = inr (inr (dead_of last.output.state l))
    by_parts false h false k false l e = absurd (cc)

cut_is : (last : Ends) → IsCut last → has_dead last ≡ true
cut_is last (inl e) = rw (dead_if last.working.state _ refl e) refl
cut_is last (inr (inl e)) = rw (dead_if last.protection.state _ refl e) (or_true (is_dead last.working.state))
  where
    or_true : (a : Bool) → (a || true || is_dead last.output.state) ≡ true
    or_true true = refl
    or_true false = refl
cut_is last (inr (inr e)) = rw (dead_if last.output.state _ refl e) (or_true (is_dead last.working.state) (is_dead last.protection.state))
  where
    or_true : (a b : Bool) → (a || b || true) ≡ true
    or_true true b = refl
    or_true false true = refl
    or_true false false = refl

-- whether more was there
more_there : (turns : ℕ) (w p taken_w taken_p came_w came_p : List ℕ) → EndOfLine plain_otu2 taken_w came_w w turns → EndOfLine plain_otu2 taken_p came_p p turns
    → (has_come came_w || has_come came_p) ≡ true → HasMore turns w ⊎ HasMore turns p
more_there turns w p taken_w taken_p came_w came_p one two e = by_parts (has_come came_w) refl (has_come came_p) refl e
  where
    by_parts : (a : Bool) → has_come came_w ≡ a → (b : Bool) → has_come came_p ≡ b → (a || b) ≡ true → HasMore turns w ⊎ HasMore turns p
    by_parts true h b k e = inl (one.more h)
    by_parts false h true k e = inr (two.more k)
    by_parts false h false k e = absurd (cc)

there_more : (turns : ℕ) (w p taken_w taken_p came_w came_p : List ℕ) → EndOfLine plain_otu2 taken_w came_w w turns → EndOfLine plain_otu2 taken_p came_p p turns
    → HasMore turns w ⊎ HasMore turns p → (has_come came_w || has_come came_p) ≡ true
there_more turns w p taken_w taken_p came_w came_p one two (inl more) = by_part (has_come came_w) refl
  where
    by_part : (a : Bool) → has_come came_w ≡ a → (a || has_come came_p) ≡ true
    by_part true h = refl
    by_part false h = absurd (let none = one.none h in omega arith)
there_more turns w p taken_w taken_p came_w came_p one two (inr more) = by_parts (has_come came_w) (has_come came_p) refl
  where
    by_parts : (a b : Bool) → has_come came_p ≡ b → (a || b) ≡ true
    by_parts true b k = refl
    by_parts false true k = refl
    by_parts false false k = absurd (let none = two.none k in omega arith)

-- ---- what was due to the output

pub given_many : (own : Tributary) (n : ℕ) (w p : List ℕ) (t : ℕ) → length (due_before own n w p t) ≡ t
unfolding due_before
given_many own n w p zero = refl
given_many own n w p (suc t) = let before = given_many own n w p t in omega (arith, length-append (due_before own n w p t) (due_at own n w p t ∷ []))

output_due : (own : Tributary) (n : ℕ) (w p : List ℕ) (t : ℕ) (first last : Ends) (feed : FeedView) → FeedStands own first.output last.output (due_before own n w p t) feed
    → OutputDue own (due_before own n w p t) t first.output last.output
output_due own n w p t first last feed fed =
    let has = fed.has in
    record {
      frames = has.made.made;
      file = record {
        puts = has.puts;
        are_put = subst (λ k. AreTributaryFrames own (due_before own n w p t) (8 * k) has.puts) (given_many own n w p t) has.are_put;
        are_frames = has.made.are_frames;
      };
      sent = file_sent own first.output last.output (due_before own n w p t) feed fed;
    }

-- ---- the last turn

so_left : (dead more : Bool) (own : Tributary) (turns n t : ℕ) (first last : Ends) (working protection w p : List ℕ) → AllDone own turns n first last (ended_by dead more) working protection w p
    → LeftSo (ended_by dead more) own turns n t first last working protection w p
so_left true more own turns n t first last working protection w p h = h
so_left false true own turns n t first last working protection w p h = h
so_left false false own turns n t first last working protection w p h = h

pub all_done : (own : Tributary) (turns n : ℕ) (first mid last : Ends) (parts : Protecting) (ended : Ended) → AreReady parts → TurnsGone own n first mid turns parts → SettledAs parts mid last ended
    → ProtectRan own turns n first last ended
all_done own turns n first mid last parts ended ready gone settled =
    let on_w = gone.stands.on_working.line in
    let on_p = gone.stands.on_protection.line in
    let came_w = settled.working_further in
    let came_p = settled.protection_further in
    record {
      working = gone.working ++ came_w;
      protection = gone.protection ++ came_p;
      working_more = has_come came_w;
      protection_more = has_come came_p;
      working_left = line_left plain_otu2 first.working mid.working last.working gone.working came_w turns parts.working.line on_w settled.working_asked;
      protection_left = line_left plain_otu2 first.protection mid.protection last.protection gone.protection came_p turns parts.protection.line on_p settled.protection_asked;
      stopped = 0;
      left = λ w p mw mp.
          let may_w = may_at_end plain_otu2 first.working mid.working last.working gone.working came_w w w turns parts.working.line on_w settled.working_asked mw refl in
          let may_p = may_at_end plain_otu2 first.protection mid.protection last.protection gone.protection came_p p p turns parts.protection.line on_p settled.protection_asked mp refl in
          let agrees = gone.stands.holds w p may_w may_p in
          let end_w = end_of_line plain_otu2 first.working mid.working last.working gone.working came_w w w turns parts.working.line on_w ready.working.pieces settled.working_asked mw refl in
          let end_p = end_of_line plain_otu2 first.protection mid.protection last.protection gone.protection came_p p p turns parts.protection.line on_p ready.protection.pieces settled.protection_asked mp refl in
          let ends = ends_by (has_dead last) (has_come came_w || has_come came_p) (IsCut last) (HasMore turns w ⊎ HasMore turns p) (is_cut last) (cut_is last)
          (more_there turns w p gone.working gone.protection came_w came_p end_w end_p) (there_more turns w p gone.working gone.protection came_w came_p end_w end_p) in
          rw settled.answer
          (so_left (has_dead last) (has_come came_w || has_come came_p) own turns n 0 first last (gone.working ++ came_w) (gone.protection ++ came_p) w p (record {
            output = output_due own n w p turns first last parts.feed (subst (λ out. FeedStands own first.output out (due_before own n w p turns) parts.feed) (sym settled.output) agrees.fed);
            report = subst (SinkGot first.report (switch_text own n w p turns)) (sym settled.report) agrees.told;
            working_took = end_w.took;
            protection_took = end_p.took;
            cut = ends.cut;
            unfinished = ends.unfinished;
          }));
    }

-- ---- a turn in which the report failed

-- whether more may stand behind what was taken of a line
abbrev more_of : Ending → State → Bool
more_of Open Live = true
more_of Open Empty = false
more_of Open Dead = false
more_of Seen state = false
more_of Died state = false

more_live : (e : Ending) (s : State) → more_of e s ≡ true → s ≡ Live
more_live Open Live h = refl
more_live Open Empty h = absurd (cc)
more_live Open Dead h = absurd (cc)
more_live Seen s h = absurd (cc)
more_live Died s h = absurd (cc)

none_closed : (e : Ending) (s : State) → more_of e s ≡ false → s ≡ Live → e ≢ Open
none_closed Open Live h live = absurd (cc)
none_closed Open Empty h live = absurd (cc)
none_closed Open Dead h live = absurd (cc)
none_closed Seen s h live = λ o. cc
none_closed Died s h live = λ o. cc

closed_none : (e : Ending) (s : State) → e ≢ Open → more_of e s ≡ false
closed_none Open s closed = absurd (closed refl)
closed_none Seen s closed = refl
closed_none Died s closed = refl

left_open : (own : Tributary) (first now : InView) (read : List ℕ) (t : ℕ) (tap : TapView) → TapStands own first now read t tap → InputLeft first now read (more_of tap.line.reader.ending now.state)
left_open own first now read t tap h = record {
  gave = h.line.gave;
  live = more_live tap.line.reader.ending now.state;
  over = λ none live. h.line.over (none_closed tap.line.reader.ending now.state none live) live;
  died = died_unended plain_otu2 first now read t tap.line h.line;
}

may_open : (e : Ending) (s : State) (read available : List ℕ) → MayHave (more_of e s) read available → MayBe false e read available
may_open e s read available may = record { rest = may.rest; over = λ closed. may.over (closed_none e s closed); parts = may.parts }

pub stopped_at : (own : Tributary) (turns n t : ℕ) (first last : Ends) (working protection : List ℕ) (parts : Protecting) → AreReady parts → t < turns → StandsLost own n first last working protection t parts
    → ProtectRan own turns n first last ReportFault
stopped_at own turns n t first last working protection parts ready less stands = record {
  working = working;
  protection = protection;
  working_more = more_of parts.working.line.reader.ending last.working.state;
  protection_more = more_of parts.protection.line.reader.ending last.protection.state;
  working_left = left_open own first.working last.working working (suc t) parts.working stands.on_working;
  protection_left = left_open own first.protection last.protection protection (suc t) parts.protection stands.on_protection;
  stopped = t;
  left = λ w p mw mp.
      let may_w = may_open parts.working.line.reader.ending last.working.state working w mw in
      let may_p = may_open parts.protection.line.reader.ending last.protection.state protection p mp in
      let agrees = stands.holds w p may_w may_p in (
        less,
        record {
          output = output_due own n w p t first last parts.feed agrees.fed;
          written = agrees.sent;
          part = agrees.part;
          report = agrees.told;
        },
        record {
          of_working = took_is plain_otu2 first.working last.working working w (suc t) parts.working.line stands.on_working.line may_w ∙ ap (line_read plain_otu2 w (suc t)) ready.working.pieces;
          of_protection = took_is plain_otu2 first.protection last.protection protection p (suc t) parts.protection.line stands.on_protection.line may_p ∙ ap (line_read plain_otu2 p (suc t)) ready.protection.pieces;
        },
      );
}

-- ---- the turns

-- before the first turn
pub begins : (own : Tributary) (n : ℕ) (parts : Protecting) → ((first : InView) → TapStands own first first [] 0 parts.working) → ((first : InView) → TapStands own first first [] 0 parts.protection)
    → HasChosen (length own.slots) n [] parts.selector → ((first : OutView) → FeedStands own first first [] parts.feed) → (first : Ends) → TurnsGone own n first first 0 parts
unfolding turns_before due_before switch_text
begins own n parts on_w on_p chosen fed first = record {
  working = [];
  protection = [];
  stands = record {
    on_working = on_w first.working;
    on_protection = on_p first.protection;
    holds = λ w p mw mp. record { chosen = chosen; fed = fed first.output; told = sink_got_none first.report };
  };
}

pub one_more : (own : Tributary) (n t : ℕ) (first was is : Ends) (old new : Protecting)
    → ((working protection : List ℕ) → Stands own n first was working protection t old → TurnGone written.Whole own n first is working protection t new)
    → TurnsGone own n first was t old → TurnsGone own n first is (t + 1) new
one_more own n t first was is old new turn gone =
    let sent = turn gone.working gone.protection gone.stands in
    rw (add-one t) (record { working = gone.working ++ sent.working_further; protection = gone.protection ++ sent.protection_further; stands = sent.left })

pub one_lost : (own : Tributary) (turns n t : ℕ) (first was is : Ends) (old new : Protecting) → AreReady new → t < turns
    → ((working protection : List ℕ) → Stands own n first was working protection t old → TurnGone written.Lost own n first is working protection t new)
    → TurnsGone own n first was t old → ProtectRan own turns n first is ReportFault
one_lost own turns n t first was is old new ready less turn gone =
    let sent = turn gone.working gone.protection gone.stands in
    stopped_at own turns n t first is (gone.working ++ sent.working_further) (gone.protection ++ sent.protection_further) new ready less sent.left

-- ---- the other places

pub only_none : (bays : BaysView) → OnlyProtected bays bays
only_none bays = record { line_in = λ a zero one. refl; line_out = λ b zero. refl; client_in = refl; client_out = refl }

pub only_twice : (first mid last : BaysView) → OnlyProtected first mid → OnlyProtected mid last → OnlyProtected first last
only_twice first mid last one two = record {
  line_in = λ a zero one'. two.line_in a zero one' ∙ one.line_in a zero one';
  line_out = λ b zero. two.line_out b zero ∙ one.line_out b zero;
  client_in = two.client_in ∙ one.client_in;
  client_out = two.client_out ∙ one.client_out;
}
