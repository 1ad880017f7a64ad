-- What is left of a line after a walk.
use Rattle.std.proofs.Common.{◌≡◌, ◌≢◌, ◌<◌, ◌≤◌, ◌+◌, ◌*◌, ◌%◌, ◌∙◌, ℕ, Bool, true, false, List, [], ◌∷◌, ◌++◌, length, refl, sym, ap, subst, arith, append-nil, append_assoc, length-append}
use Rattle.std.specs.Prelude.{nat_lt, not, ◌||◌}
use Rattle.otn_base.specs.LineSlots.{slots_of}
use Rattle.otn_base.specs.declared.line_kind.LineKind.{LineKind}
use Rattle.otn_base.specs.declared.line_kind.LineKind.TheVariants.{Otu2, Otu3}
use Rattle.port_base.proofs.GivenLaws.{gave_twice}
use Rattle.port_base.specs.Asked.{has_come}
use Rattle.port_base.specs.Given.{Gave, DiedUnended}
use Rattle.port_base.specs.Reads.{HasEnded}
use Rattle.port_base.specs.Views.{State, Empty, Live, Dead, InView, is_dead}
use Rattle.port_base.specs.declared.ended.Ended.{Ended}
use Rattle.port_base.specs.declared.ended.Ended.TheVariants.{Done, Unfinished, Cut, ReportFault}
use Rattle.line_side.proofs.Frames.{length_parts}
use Rattle.line_side.proofs.Standing.{died_unended}
use Rattle.line_side.specs.LineFile.{mfas_of}
use Rattle.line_side.specs.LineForm.{LineForm, size_of, through_mask}
use Rattle.line_side.specs.LineStands.{LineView, LineStands}
use Rattle.line_side.specs.MayBe.{MayBe}
use Rattle.std.proofs.lemmas.Bool.{ltb-true, ltb-false}
use Rattle.multiframe.specs.LineTurns.{line_state, used_in, wanted_so_far}
use Rattle.line_side.specs.Reader.{EndedAs, HasRead, rest_of}
use Rattle.line_side.specs.declared.ending.Ending.{Ending}
use Rattle.line_side.specs.declared.ending.Ending.TheVariants.{Open, Seen, Died}
use Rattle.device_model.specs.LineAsked.{is_seen}
use Rattle.tributary_line.specs.Settling.{ended_by}
use Rattle.tributary_line.specs.TurnsDone.{MayFollow, frames_wanted, bytes_read}
use Rattle.tributary_line.specs.Walking.{OfTurns, WalkDone, WalkEnds, LeftAs, LineLeft}
use Rattle.tributary_line.proofs.TurnsDone.{turns_count}
use Rattle.tributary_line.proofs.Wanting.{TookFrames, took_wanted, closed_least, open_least, more_least}

pub some_frames : (kind : LineKind) → 1 ≤ slots_of kind
some_frames Otu2 = omega arith
some_frames Otu3 = omega arith

-- ---- where a write failed, or nothing was asked

-- whether more may come of a line
abbrev pub may_come : Ending → Bool
may_come Open = true
may_come Seen = false
may_come Died = false

follows : (scrambled : Bool) (ending : Ending) (read rest : List ℕ) → MayFollow (may_come ending) rest → MayBe scrambled ending read (through_mask scrambled (read ++ rest))
follows scrambled Open read rest follow = record { rest = rest; over = λ closed. absurd (closed refl); parts = refl }
follows scrambled Seen read rest follow = record { rest = rest; over = λ closed. follow; parts = refl }
follows scrambled Died read rest follow = record { rest = rest; over = λ closed. follow; parts = refl }

closed_is : (ending : Ending) → may_come ending ≡ false → ending ≢ Open
closed_is Open e = absurd (cc)
closed_is Seen e = λ f. cc
closed_is Died e = λ f. cc

-- a write failed behind what was taken so far
pub line_stops : (form : LineForm) (first now : InView) (read : List ℕ) (t : ℕ) (line : LineView) → LineStands form first now read t line → LineLeft form first now line.reader.ending read ReportFault
line_stops form first now read t line h = record {
  read = read;
  gave = h.gave;
  same = λ _. refl;
  more = may_come line.reader.ending;
  over = λ none live. h.over (closed_is line.reader.ending none) live;
  died = died_unended form first now read t line h;
  ended_as = λ no. absurd (no refl);
  may = follows form.scrambled line.reader.ending read;
  ends = tt;
  took = λ no. absurd (no refl);
}

-- ---- after the last turn

-- how many bytes were taken after all turns
took_all : (form : LineForm) (first was : InView) (t : ℕ) (line : LineView) (Holds : OfTurns) → (h : WalkDone form first was t line Holds)
    → (available : List ℕ) → MayBe form.scrambled line.reader.ending h.read available → TookFrames (frames_wanted (size_of form) available) available h.read line.reader
took_all form first was t line Holds h available may =
    took_wanted (size_of form) available h.read t line (some_frames form.kind) (h.walked.stands.is_line available may) h.walked.between
    (turns_count (size_of form) (mfas_of available) t h.few (h.unended available may) (h.last available may))

alone : (scrambled : Bool) (ending : Ending) (read rest : List ℕ) → rest ≡ [] → MayBe scrambled ending read (through_mask scrambled (read ++ rest))
alone scrambled ending read rest none = record { rest = rest; over = λ _. none; parts = refl }

-- nothing is behind it
took_alone : (form : LineForm) (first was : InView) (t : ℕ) (line : LineView) (Holds : OfTurns) → (h : WalkDone form first was t line Holds)
    → (rest : List ℕ) → rest ≡ [] → length h.read ≡ bytes_read (size_of form) (through_mask form.scrambled (h.read ++ rest))
took_alone form first was t line Holds h rest none = by_ending line.reader.ending refl
  where
    available : List ℕ
    available = through_mask form.scrambled (h.read ++ rest)

    took : TookFrames (frames_wanted (size_of form) available) available h.read line.reader
    took = took_all form first was t line Holds h available (alone form.scrambled line.reader.ending h.read rest none)

    closed : line.reader.ending ≢ Open → length h.read ≡ bytes_read (size_of form) available
    closed ended = let o = took.over ended in closed_least (length h.read) (length available) (frames_wanted (size_of form) available) o.0 o.1

    by_ending : (e : Ending) → line.reader.ending ≡ e → length h.read ≡ bytes_read (size_of form) available
    by_ending Open e =
        let long = length_parts form.scrambled h.read [] rest in
        let none_more : length rest ≡ 0 = ap length none in
        open_least (length h.read) (length available) (frames_wanted (size_of form) available) (took.still e) (omega (arith, long, none_more))
    by_ending Seen e = closed (λ f. cc)
    by_ending Died e = closed (λ f. cc)

-- no byte more came
left_alone : (form : LineForm) (first was now : InView) (t : ℕ) (line : LineView) (Holds : OfTurns) (further : List ℕ) (ended : Ended) → (h : WalkDone form first was t line Holds)
    → Gave was further now → further ≡ [] → (now.state ≡ Live → HasEnded now.left now.ended) → DiedUnended first now → EndedAs line.reader.ending now
    → LeftAs ended line.reader.ending false h.read now → LineLeft form first now line.reader.ending h.read ended
left_alone form first was now t line Holds further ended h gave none over died place ends = record {
  read = h.read;
  gave = subst (λ xs. Gave first xs now) (ap (λ xs. h.read ++ xs) none ∙ append-nil h.read) (gave_twice first was now h.read further h.walked.stands.gave gave);
  same = λ _. refl;
  more = false;
  over = λ _. over;
  died = died;
  ended_as = λ _. place;
  may = alone form.scrambled line.reader.ending h.read;
  ends = ends;
  took = λ _. took_alone form first was t line Holds h;
}

one_more : (n m k : ℕ) → n ≡ 16320 * k → m ≡ n + 1 → 0 < m % 16320
one_more n m k a b = omega (arith, a, b)

whole_only : (n k : ℕ) → n ≡ 16320 * k → n % 16320 ≡ 0
whole_only n k a = omega (arith, a)

open_ends : (ending : Ending) (now : InView) → ending ≡ Open → EndedAs ending now
open_ends ending now e = record { died = λ f. absurd (let g : Open ≡ Died = sym e ∙ f in cc); seen = λ f. absurd (let g : Open ≡ Seen = sym e ∙ f in cc) }

-- one came: the line goes on behind what the turns wanted
left_behind : (form : LineForm) (first was now : InView) (t : ℕ) (line : LineView) (Holds : OfTurns) (further : List ℕ) → (h : WalkDone form first was t line Holds)
    → Gave was further now → length further ≡ 1 → now.state ≡ Live → line.reader.ending ≡ Open → LineLeft form first now line.reader.ending h.read Unfinished
left_behind form first was now t line Holds further h gave one live open_now =
    let size : length (h.read ++ further) ≡ length h.read + 1 = length-append h.read further ∙ ap (λ n. length h.read + n) one in
    let alive : now.state ≢ Dead = λ dead. let e : Live ≡ Dead = sym live ∙ dead in cc in
    let may : (rest : List ℕ) → MayBe form.scrambled line.reader.ending h.read (through_mask form.scrambled ((h.read ++ further) ++ rest)) = λ rest. record {
      rest = further ++ rest;
      over = λ closed. absurd (closed open_now);
      parts = ap (through_mask form.scrambled) (append_assoc h.read further rest);
    } in
    let still = (took_all form first was t line Holds h (through_mask form.scrambled ((h.read ++ further) ++ [])) (may [])).still open_now in
    record {
      read = h.read ++ further;
      gave = gave_twice first was now h.read further h.walked.stands.gave gave;
      same = λ e. absurd (cc);
      more = true;
      over = λ e. absurd (cc);
      died = λ dead. absurd (alive dead);
      ended_as = λ _. open_ends line.reader.ending now open_now;
      may = λ rest follow. may rest;
      ends = (alive, one_more (length h.read) (length (h.read ++ further)) (frames_wanted (size_of form) (through_mask form.scrambled ((h.read ++ further) ++ []))) still size, open_now);
      took = λ _ rest follow.
          let available = through_mask form.scrambled ((h.read ++ further) ++ rest) in
          let long = length_parts form.scrambled (h.read ++ further) [] rest in
          more_least (length h.read) (length (h.read ++ further)) (length available) (frames_wanted (size_of form) available)
          ((took_all form first was t line Holds h available (may rest)).still open_now) size (omega (arith, long));
    }

one_byte : (byte : ℕ) (further : List ℕ) → length (byte ∷ further) ≤ 1 → length (byte ∷ further) ≡ 1
one_byte byte further most = omega (arith, most)

dead_is : (s : State) → is_dead s ≡ true → s ≡ Dead
dead_is Empty e = absurd (cc)
dead_is Live e = absurd (cc)
dead_is Dead e = refl

alive_is : (s : State) → is_dead s ≡ false → s ≢ Dead
alive_is Empty e = λ f. cc
alive_is Live e = λ f. cc
alive_is Dead e = absurd (cc)

-- a place that was dead, and asked, is so
stays_dead : (was now : InView) (further : List ℕ) → Gave was further now → was.state ≡ Dead → (now.state ≡ Dead) × (further ≡ [])
stays_dead was now further gave dead =
    let idle = gave.idle (λ live. let e : Dead ≡ Live = sym dead ∙ live in absurd (cc)) in
    (ap (λ (v : InView). v.state) idle.0 ∙ dead, idle.1)

not_dead : (s : State) → s ≢ Dead → is_dead s ≡ false
not_dead Empty alive = refl
not_dead Live alive = refl
not_dead Dead alive = absurd (alive refl)

none_came : (further : List ℕ) → has_come further ≡ false → further ≡ []
none_came [] e = refl
none_came (byte ∷ further) e = absurd (cc)

one_came : (further : List ℕ) → has_come further ≡ true → length further ≤ 1 → length further ≡ 1
one_came [] e most = absurd (cc)
one_came (byte ∷ further) e most = one_byte byte further most

-- what its place says of how its bytes ended
died_ends : (ending : Ending) (now : InView) → ending ≡ Died → now.state ≡ Dead → EndedAs ending now
died_ends ending now e dead = record { died = λ _. dead; seen = λ f. absurd (let g : Died ≡ Seen = sym e ∙ f in cc) }

seen_ends : (ending : Ending) (now : InView) → ending ≡ Seen → now.state ≢ Dead → EndedAs ending now
seen_ends ending now e alive = record { died = λ f. absurd (let g : Seen ≡ Died = sym e ∙ f in cc); seen = λ _. alive }

-- what is left of a line after its last turn, by the answer
pub line_ends : (form : LineForm) (first was now : InView) (t : ℕ) (line : LineView) (Holds : OfTurns) (ended : Ended) → (h : WalkDone form first was t line Holds)
    → WalkEnds (is_seen line.reader.ending) line.reader.rest was now ended → LineLeft form first now line.reader.ending h.read ended
line_ends form first was now t line Holds ended h w = by_ending line.reader.ending refl
  where
    Left : Ended → Type 0
    Left e = LineLeft form first now line.reader.ending h.read e

    -- the line as it would be with nothing behind it
    frames : List ℕ
    frames = mfas_of (through_mask form.scrambled (h.read ++ []))

    read : HasRead (through_mask form.scrambled (h.read ++ [])) (length h.read) (used_in (size_of form) frames (line_state (size_of form) frames t) line.pieces)
        (wanted_so_far (size_of form) frames t line.pieces) line.reader
    read = (h.walked.stands.is_line (through_mask form.scrambled (h.read ++ [])) (alone form.scrambled line.reader.ending h.read [] refl)).read

    no_rest : line.reader.ending ≢ Seen → line.reader.rest ≡ 0
    no_rest other = read.rest ∙ none line.reader.ending other
      where
        none : (e : Ending) → e ≢ Seen → rest_of e (through_mask form.scrambled (h.read ++ [])) ≡ 0
        none Open other = refl
        none Seen other = absurd (other refl)
        none Died other = refl

    choose : (dead come more : Bool) → is_dead now.state ≡ dead → has_come w.further ≡ come → nat_lt 0 line.reader.rest ≡ more → Left (ended_by dead (come || more)) → Left ended
    choose dead come more a b c left =
        subst Left (sym (w.answer ∙ ap (λ d. ended_by d (has_come w.further || nat_lt 0 line.reader.rest)) a
        ∙ ap (λ x. ended_by dead (x || nat_lt 0 line.reader.rest)) b ∙ ap (λ x. ended_by dead (come || x)) c)) left

    unended : line.reader.ending ≢ Seen → DiedUnended first now
    unended other dead = w.asked.died dead ∙ h.walked.stands.unended other

    seen : line.reader.ending ≡ Seen → Left ended
    seen e = by_rest (nat_lt 0 line.reader.rest) refl
      where
        quiet : (now ≡ was) × (w.further ≡ [])
        quiet = w.asked.quiet (ap (λ x. not (is_seen x)) e)

        alive : now.state ≢ Dead
        alive dead = h.walked.stands.ending.seen e (sym (ap (λ (v : InView). v.state) quiet.0) ∙ dead)

        closed : line.reader.ending ≢ Open
        closed f = let g : Seen ≡ Open = sym e ∙ f in cc

        over : now.state ≡ Live → HasEnded now.left now.ended
        over live = subst (λ (v : InView). HasEnded v.left v.ended) (sym quiet.0) (h.walked.stands.over closed (sym (ap (λ (v : InView). v.state) quiet.0) ∙ live))

        rest_is : line.reader.rest ≡ length h.read % 16320
        rest_is = read.rest ∙ ap (λ x. rest_of x (through_mask form.scrambled (h.read ++ []))) e ∙ ap (λ n. n % 16320) (sym (read.over closed).1)

        left : (answer : Ended) → LeftAs answer line.reader.ending false h.read now → Left answer
        left answer ends = left_alone form first was now t line Holds w.further answer h w.asked.gave quiet.1 over (λ dead. absurd (alive dead)) (seen_ends line.reader.ending now e alive) ends

        by_rest : (b : Bool) → nat_lt 0 line.reader.rest ≡ b → Left ended
        by_rest true some = choose false false true (not_dead now.state alive) (ap has_come quiet.1) some (left Unfinished (alive, subst (λ n. 0 < n) rest_is (ltb-true 0 line.reader.rest some), e))
        by_rest false none =
            let zero_rest = ltb-false 0 line.reader.rest none in
            choose false false false (not_dead now.state alive) (ap has_come quiet.1) none (left Done (alive, refl, omega (arith, zero_rest, rest_is)))

    died : line.reader.ending ≡ Died → Left ended
    died e =
        let dead = stays_dead was now w.further w.asked.gave (h.walked.stands.ending.died e) in
        let other : line.reader.ending ≢ Seen = λ f. let g : Died ≡ Seen = sym e ∙ f in cc in
        let none : nat_lt 0 line.reader.rest ≡ false = ap (nat_lt 0) (no_rest other) in
        choose true false false (ap is_dead dead.0) (ap has_come dead.1) none
        (left_alone form first was now t line Holds w.further Cut h w.asked.gave dead.1 (λ live. absurd (let g : Dead ≡ Live = sym dead.0 ∙ live in cc)) (unended other)
        (died_ends line.reader.ending now e dead.0) dead.0)

    open_now : line.reader.ending ≡ Open → Left ended
    open_now e = by_place (is_dead now.state) (has_come w.further) refl refl
      where
        other : line.reader.ending ≢ Seen
        other f = let g : Open ≡ Seen = sym e ∙ f in cc

        none : nat_lt 0 line.reader.rest ≡ false
        none = ap (nat_lt 0) (no_rest other)

        asks : not (is_seen line.reader.ending) ≡ true
        asks = ap (λ x. not (is_seen x)) e

        by_place : (d c : Bool) → is_dead now.state ≡ d → has_come w.further ≡ c → Left ended
        by_place d true a b =
            let live = w.asked.lives b in
            choose false true false (ap is_dead live) b none (left_behind form first was now t line Holds w.further h w.asked.gave (one_came w.further b w.asked.most) live e)
        by_place true false a b =
            let dead = dead_is now.state a in
            choose true false false a b none
            (left_alone form first was now t line Holds w.further Cut h w.asked.gave (none_came w.further b) (λ live. absurd (let g : Dead ≡ Live = sym dead ∙ live in cc)) (unended other)
            (open_ends line.reader.ending now e) dead)
        by_place false false a b =
            choose false false false a b none
            (left_alone form first was now t line Holds w.further Done h w.asked.gave (none_came w.further b) (w.asked.over asks b) (unended other)
            (open_ends line.reader.ending now e) (
              alive_is now.state a,
              refl,
              whole_only (length h.read) (frames_wanted (size_of form) (through_mask form.scrambled (h.read ++ [])))
                  ((took_all form first was t line Holds h (through_mask form.scrambled (h.read ++ [])) (alone form.scrambled line.reader.ending h.read [] refl)).still e),
            ))

    by_ending : (x : Ending) → line.reader.ending ≡ x → Left ended
    by_ending Open e = open_now e
    by_ending Seen e = seen e
    by_ending Died e = died e
