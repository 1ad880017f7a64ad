-- The turns of `pull`, and how it ends.
use Rattle.std.proofs.Common.{◌≡◌, ◌≢◌, ◌<◌, ◌≤◌, ◌+◌, ◌*◌, ◌/◌, ◌%◌, ◌∙◌, ℕ, Bool, true, false, List, [], ◌++◌, Option, Some, None, length, min, refl, sym, ap, subst, arith, append-nil, length-append}
use Rattle.std.proofs.lemmas.List.{take-append-le}
use Rattle.port_base.proofs.TakenTwice.{after-after}
use Rattle.port_base.specs.Bytes.{after}
use Rattle.port_base.specs.PortViews.{SinkView}
use Rattle.port_base.specs.Writes.{Gains}
use Rattle.port_base.specs.Views.{InView, Empty}
use Rattle.port_base.specs.declared.ended.Ended.{Ended}
use Rattle.port_base.specs.declared.ended.Ended.TheVariants.{Done, Unfinished, Cut, ReportFault, Memory}
use Rattle.line_side.proofs.Mfas.{length_mfas}
use Rattle.line_side.specs.LineFile.{mfas_of}
use Rattle.line_side.specs.LineForm.{plain_otu2}
use Rattle.line_side.specs.MayBe.{MayBe}
use Rattle.multiframe.specs.LineTurns.{wanted}
use Rattle.line_side.specs.declared.ending.Ending.{Ending}
use Rattle.line_side.specs.declared.ending.Ending.TheVariants.{Open, Seen, Died}
use Rattle.std.specs.Prelude.{IsTrue}
use Rattle.tributary_model.specs.Places.{Tributary}
use Rattle.command_base.proofs.Reports.{report_same, report_more}
use Rattle.command_base.proofs.Rows.{flat_map-range_more}
use Rattle.command_base.specs.AnswerWords.{Reports}
use Rattle.command_base.specs.Ends.{ReportAfter, line_status}
use Rattle.command_base.specs.Gains.{GainsPart}
use Rattle.device_model.specs.LineAsked.{is_seen}
use Rattle.device_model.specs.LineViews.{emitted_at}
use Rattle.tributary_line.proofs.LineEndings.{line_ends, line_stops}
use Rattle.tributary_line.proofs.Wanting.{took_least, took_turns}
use Rattle.tributary_line.specs.TapTurn.{TapStands, TurnMoves}
use Rattle.tributary_line.specs.TurnsDone.{MayFollow, bytes_read, frames_wanted}
use Rattle.tributary_line.specs.Walking.{after_by, EndsWith, TurnHolds, Walked, TurnWalked, WalkDone, WalkLost, WalkEnds, LeftAs}
use Rattle.port_base.specs.declared.drain.Written.{Written}
use Rattle.port_base.specs.declared.drain.Written.TheVariants as written
use Rattle.command_base.specs.Steps.Ends.{step_of}
use Rattle.line_commands.specs.PullReport.{emitted_until, pull_report}
use Rattle.line_commands.specs.PullRuns.{PullEnded, PullEnds}
use Rattle.line_commands.specs.Steps.PullRuns.{IsNew, PullHolds, PullLost, own_of}
use Rattle.line_commands.specs.declared.pull.Pulling.{Pulling}
use Rattle.line_commands.proofs.PullTurns.{written_first, written_all}
use Rattle.line_commands.proofs.SlotLoop.{after-none, part_after}

-- all that was taken is what a line may have
itself : (ending : Ending) (read : List ℕ) → MayBe false ending read read
itself ending read = record { rest = []; over = λ _. refl; parts = sym (append-nil read) }

-- a line's end was seen, by its answer
pub seen_is : (b : Bool) (e : Ending) → (IsTrue b → e ≡ Seen) × (e ≡ Seen → IsTrue b) → b ≡ is_seen e
seen_is true Seen h = refl
seen_is true Open h = absurd (let e : Open ≡ Seen = h.0 refl in cc)
seen_is true Died h = absurd (let e : Died ≡ Seen = h.0 refl in cc)
seen_is false Seen h = absurd (let e : false ≡ true = h.1 refl in cc)
seen_is false Open h = refl
seen_is false Died h = refl

-- ---- before the first turn

own_is : (own : Tributary) (pulling : Pulling) → ((first : InView) → TapStands own first first [] 0 pulling.tap) → (first : InView) → own_of pulling ≡ own
own_is own pulling stands first = sym ((stands first).sink [] (itself pulling.tap.line.reader.ending [])).own_is

-- whatever its line
pub own_first : (own : Tributary) (pulling : Pulling) → ((first : InView) → TapStands own first first [] 0 pulling.tap) → own_of pulling ≡ own
own_first own pulling stands = own_is own pulling stands no_view
  where
    no_view : InView
    no_view = record { state = Empty; boxed = false; left = None; faults = 0; number = 0; ended = false }

pub new_stands : (own : Tributary) (pulling : Pulling) → ((first : InView) → TapStands own first first [] 0 pulling.tap) → IsNew pulling
new_stands own pulling stands first = subst (λ o. TapStands o first first [] 0 pulling.tap) (sym (own_is own pulling stands first)) (stands first)

pub pull_begins : (pulling : Pulling) (first : InView) (got : SinkView) → IsNew pulling → pulling.tap.line.pieces ≡ 0
    → Walked plain_otu2 first first [] 0 pulling.tap.line (PullHolds pulling pulling got got)
pull_begins pulling first got new between = record {
  stands = (new first).line;
  between = between;
  holds = λ available may. record {
    size = (new first).size;
    sink = (new first).sink available may;
    wrote = after-none got.got;
    report = report_same got;
  };
}

-- ---- a turn

-- how the sink stands
pub tap_stands : (origin now : Pulling) (was is : SinkView) (first place : InView) (read : List ℕ) (t : ℕ) → Walked plain_otu2 first place read t now.tap.line (PullHolds origin now was is)
    → TapStands (own_of origin) first place read t now.tap
tap_stands origin now was is first place read t h = record {
  size = (h.holds read (itself now.tap.line.reader.ending read)).size;
  line = h.stands;
  sink = λ available may. (h.holds available may).sink;
}

-- what a turn emits is written behind the rest
emitted_more : (own : Tributary) (available : List ℕ) (t : ℕ) → emitted_until own available (t + 1) ≡ emitted_until own available t ++ emitted_at own available t
emitted_more own available t =
    let last : 0 + t ≡ t = omega arith in
    flat_map-range_more (emitted_at own available) 0 t ∙ ap (λ s. emitted_until own available t ++ emitted_at own available s) last

pub turn_walked : (result : Written) (origin old new : Pulling) (was mid is : SinkView) (first place now : InView) (read : List ℕ) (t : ℕ) (emitted : List ℕ)
    → Walked plain_otu2 first place read t old.tap.line (PullHolds origin old was mid)
    → TurnMoves (own_of origin) first now read t old.tap new.tap emitted → new.tap.line.pieces ≡ 0 → Gains result mid.got emitted is.got → ReportAfter (step_of result) mid is
    → TurnWalked (after_by result new.tap.line.ended) plain_otu2 first now read t old.tap.line new.tap.line (PullHolds origin new was is) (PullLost origin new was is)
turn_walked result origin old new was mid is first place now read t emitted h m between gains report = record {
  further = m.further;
  stands = m.stands.line;
  between = between;
  earlier = m.earlier;
  holds = λ available may. by_answer result new.tap.line.ended gains report available may (h.holds available (m.earlier available may));
  ended = λ available may. by_end result new.tap.line.ended (m.ended available may);
}
  where
    goes : (is.got ≡ after mid.got emitted) → ReportAfter None mid is → (available : List ℕ)
        → MayBe false new.tap.line.reader.ending (read ++ m.further) available → PullHolds origin old was mid available t → PullHolds origin new was is available (t + 1)
    goes got report available may k = record {
      size = k.size;
      sink = m.stands.sink available may;
      wrote = got ∙ ap (λ r. after r emitted) k.wrote ∙ after-after was.got (emitted_until (own_of origin) available t) emitted
          ∙ ap (λ xs. after was.got (emitted_until (own_of origin) available t ++ xs)) (m.emits available may) ∙ ap (after was.got) (sym (emitted_more (own_of origin) available t));
      report = report_more None was mid is k.report report;
    }

    by_answer : (r : Written) (e : Bool) → Gains r mid.got emitted is.got → ReportAfter (step_of r) mid is → (available : List ℕ) → MayBe false new.tap.line.reader.ending (read ++ m.further) available
        → PullHolds origin old was mid available t → TurnHolds (after_by r e) (PullHolds origin new was is) (PullLost origin new was is) available t
    by_answer written.Whole true g report available may k = goes g report available may k
    by_answer written.Whole false g report available may k = goes g report available may k
    by_answer written.Lost e g report available may k = record {
      wrote = subst (λ r. GainsPart r is.got (emitted_at (own_of origin) available t)) k.wrote
          (subst (GainsPart mid.got is.got) (m.emits available may) (record { written = g.0; part = g.1; gained = g.2 }));
      report = report_more (Some ReportFault) was mid is k.report report;
    }

    by_end : (r : Written) (e : Bool) {b : Bool} → e ≡ b → EndsWith (after_by r e) b
    by_end written.Whole true same = sym same
    by_end written.Whole false same = sym same
    by_end written.Lost e same = tt

-- ---- how it ends

-- a part of the first bytes is a part of all
part_before : (old new : Option (List ℕ)) (bytes rest : List ℕ) → GainsPart old new bytes → GainsPart old new (bytes ++ rest)
part_before old new bytes rest h =
    let within : h.written ≤ length bytes = omega (arith, h.part) in
    record {
      written = h.written;
      part = omega (arith, h.part, length-append bytes rest);
      gained = h.gained ∙ ap (after old) (sym (take-append-le h.written bytes rest within));
    }

within : (read rest : List ℕ) → length read ≤ length (read ++ rest)
within read rest = let long = length-append read rest in omega (arith, long)

-- with a write that failed
pub pull_stops : (origin last : Pulling) (was is : SinkView) (first now : InView) → (h : WalkLost plain_otu2 first now last.tap.line (PullLost origin last was is))
    → PullEnded (own_of origin) first now was.got is.got ReportFault
pull_stops origin last was is first now h =
    let own = own_of origin in
    let left = line_stops plain_otu2 first now h.read (h.t + 1) last.tap.line h.stands in
    record {
      read = left.read;
      gave = left.gave;
      more = left.more;
      over = left.over;
      died = left.died;
      report = λ rest follow.
          let available = left.read ++ rest in
          let may = left.may rest follow in
          let turn = part_after was.got (after was.got (emitted_until own available h.t)) is.got (emitted_until own available h.t) (emitted_at own available h.t) refl (h.lost available may).wrote in
          let all = written_first own available (h.t + 1) (let few = h.few in omega (arith, few)) (h.unended available may) in
          subst (GainsPart was.got is.got) (sym all.1) (part_before was.got is.got (emitted_until own available (h.t + 1)) all.0 (subst (GainsPart was.got is.got) (sym (emitted_more own available h.t)) turn));
      ends = tt;
      took = λ other. absurd (other refl);
      stopped = λ _. (
        h.t,
        λ rest follow.
            let available = left.read ++ rest in
            let may = left.may rest follow in
            record {
              few = h.few;
              unended = λ s within. h.unended available may s (omega (arith, within));
              last = ap length (left.same refl) ∙ took_least (wanted 8 (mfas_of available) (h.t + 1)) available h.read last.tap.line.reader (subst (λ xs. length xs ≤ length available) (left.same refl) (within left.read rest)) (took_turns 8 available h.read (h.t + 1) last.tap.line (omega arith) (h.stands.is_line available may) h.between);
              gained = (h.lost available may).wrote;
            },
      );
    }

-- bytes are left or not, by how many were taken
none_left : (n w m : ℕ) → n % 16320 ≡ 0 → n ≡ min n (16320 * w + 1) → m ≡ n / 16320 → 16320 * min m w < n → ⊥
none_left n w m a b c less = omega (arith, a, b, c, less)

some_left : (n l w m : ℕ) → 0 < n % 16320 → n ≡ min l (16320 * w + 1) → m ≡ l / 16320 → 16320 * min m w < l
some_left n l w m a b c = omega (arith, a, b, c)

ends_as : (ended : Ended) (ending : Ending) (more : Bool) (read : List ℕ) (now : InView) → LeftAs ended ending more read now
    → (ended ≢ ReportFault → (rest : List ℕ) → MayFollow more rest → length read ≡ bytes_read 8 (read ++ rest)) → PullEnds ended more read now
ends_as Done ending more read now h took =
    let all : length read ≡ bytes_read 8 read = subst (λ xs. length read ≡ bytes_read 8 xs) (append-nil read) (took (λ e. cc) [] (subst (λ b. MayFollow b []) (sym h.1) refl)) in
    (h.0, h.1, none_left (length read) (frames_wanted 8 read) (length (mfas_of read)) h.2 all (length_mfas read), h.2)
ends_as Unfinished ending more read now h took = (
  h.0,
  λ rest follow. some_left (length read) (length (read ++ rest)) (frames_wanted 8 (read ++ rest)) (length (mfas_of (read ++ rest))) h.1 (took (λ e. cc) rest follow) (length_mfas (read ++ rest)),
  h.1,
)
ends_as Cut ending more read now h took = h
ends_as ReportFault ending more read now h took = tt
ends_as Memory ending more read now h took = h

reports : (ended : Ended) (old new : Option (List ℕ)) (bytes : List ℕ) → ended ≢ ReportFault → new ≡ after old bytes → Reports (line_status ended) old new bytes
reports Done old new bytes other e = e
reports Unfinished old new bytes other e = e
reports Cut old new bytes other e = e
reports ReportFault old new bytes other e = absurd (other refl)
reports Memory old new bytes other e = e

-- after the last turn
pub pull_ends : (ended : Ended) (origin last : Pulling) (was is : SinkView) (first place now : InView) (t : ℕ) → (h : WalkDone plain_otu2 first place t last.tap.line (PullHolds origin last was is))
    → WalkEnds (is_seen last.tap.line.reader.ending) last.tap.line.reader.rest place now ended → ended ≢ ReportFault → PullEnded (own_of origin) first now was.got is.got ended
pull_ends ended origin last was is first place now t h w other =
    let left = line_ends plain_otu2 first place now t last.tap.line (PullHolds origin last was is) ended h w in
    record {
      read = left.read;
      gave = left.gave;
      more = left.more;
      over = left.over;
      died = left.died;
      report = λ rest follow.
          let available = left.read ++ rest in
          let may = left.may rest follow in
          reports ended was.got is.got (pull_report (own_of origin) available) other
          ((h.walked.holds available may).wrote ∙ ap (after was.got) (sym (written_all (own_of origin) available t h.few (h.unended available may) (h.last available may))));
      ends = ends_as ended last.tap.line.reader.ending left.more left.read now left.ends left.took;
      took = left.took;
      stopped = λ e. absurd (other e);
    }

-- ---- the report

pub report_kept : (origin last : Pulling) (was is : SinkView) (first place : InView) (t : ℕ) → (h : WalkDone plain_otu2 first place t last.tap.line (PullHolds origin last was is)) → ReportAfter None was is
report_kept origin last was is first place t h = (h.walked.holds h.read (itself last.tap.line.reader.ending h.read)).report

pub report_lost : (origin last : Pulling) (was is : SinkView) (first now : InView) → (h : WalkLost plain_otu2 first now last.tap.line (PullLost origin last was is)) → ReportAfter (Some ReportFault) was is
report_lost origin last was is first now h = (h.lost h.read (itself last.tap.line.reader.ending h.read)).report

-- the last answer is no write
pub never_written : (answer : Ended) (old new : SinkView) → answer ≢ ReportFault → ReportAfter None old new → ReportAfter (Some answer) old new
never_written Done old new other h = record { later = h.later; faults = h.faults }
never_written Unfinished old new other h = record { later = h.later; faults = h.faults }
never_written Cut old new other h = record { later = h.later; faults = h.faults }
never_written ReportFault old new other h = absurd (other refl)
never_written Memory old new other h = record { later = h.later; faults = h.faults }
