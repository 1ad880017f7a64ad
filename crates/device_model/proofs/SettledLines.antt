-- What the end of a run makes of an input line: what was taken of it, whether more is there, and how it ended.
use Rattle.std.proofs.Common.{◌≡◌, ◌≢◌, ◌<◌, ◌≤◌, ◌+◌, ◌∙◌, ℕ, zero, suc, Bool, true, false, cond, List, [], ◌∷◌, ◌++◌, Option, Some, None, length, min, max, refl, sym, ap, subst, append_assoc, length-append, arith}
use Rattle.std.specs.Prelude.{nat_le, nat_lt, slice_index, not}
use Rattle.std.proofs.lemmas.Bool.Decides.{nat_tests}
use Rattle.otn_base.specs.LineSlots.{slots_of}
use Rattle.otn_base.specs.declared.line_kind.LineKind.{LineKind}
use Rattle.otn_base.specs.declared.line_kind.LineKind.TheVariants.{Otu2, Otu3}
use Rattle.port_base.specs.Reads.{HasEnded}
use Rattle.port_base.specs.Views.{State, Empty, Live, Dead, InView}
use Rattle.port_base.proofs.GivenLaws.{gave_twice, dead_not_live}
use Rattle.line_side.specs.LineForm.{LineForm, size_of, through_mask}
use Rattle.line_side.specs.LineFile.{mfas_of}
use Rattle.line_side.specs.LineStands.{LineView, LineStands, IsLine}
use Rattle.line_side.specs.MayBe.{MayBe}
use Rattle.line_side.specs.Reader.{rest_of}
use Rattle.line_side.specs.declared.ending.Ending.{Ending}
use Rattle.line_side.specs.declared.ending.Ending.TheVariants.{Open, Seen, Died}
use Rattle.line_side.proofs.Exits.{took_is}
use Rattle.line_side.proofs.Frames.{length_parts}
use Rattle.line_side.proofs.Mfas.{length_mfas}
use Rattle.multiframe.specs.LineTurns.{Lock, LineState, Hunting, Locked, Ended, Outcome, CutShort, Lost, Whole, lock_from, least_start, outcome_of, after_outcome, after_hunt, after_turn, line_state, wanted, wanted_in, wanted_from, wanted_so_far}
use Rattle.device_model.specs.Moments.{line_read}
use Rattle.device_model.specs.Numbers.{ending_of, line_ending}
use Rattle.port_base.specs.Asked.{ByteAsked, has_come}
use Rattle.device_model.specs.LineAsked.{is_seen, MayHave, InputLeft}

-- ---- between turns nothing more is wanted than by the turns before

after_locked : (ms : List ℕ) (p : ℕ) (lock : Lock) (outcome : Outcome) → wanted_in (suc p) ms (after_outcome (suc p) lock outcome) 0 ≤ lock.frame + suc p
after_locked ms p lock CutShort = omega arith
after_locked ms p lock Lost = omega arith
after_locked ms p lock Whole = omega arith

after_none : (ms : List ℕ) (p i n : ℕ) (more : Bool) → wanted_in (suc p) ms (cond more (Hunting (i + suc p)) Ended) 0 ≤ n
after_none ms p i n true = omega arith
after_none ms p i n false = omega arith

after_hunting : (ms : List ℕ) (p i : ℕ) (least : Option ℕ) → wanted_in (suc p) ms (after_hunt (suc p) ms i (lock_from ms i least)) 0 ≤ wanted_from (suc p) ms i least (suc p)
after_hunting ms p i None = after_none ms p i (wanted_from (suc p) ms i None (suc p)) (nat_le (i + suc p) (length ms))
after_hunting ms p i (Some n) =
    let lock : Lock = lock_at i n in
    let h = after_locked ms p lock (outcome_of (suc p) ms lock) in
    omega (arith, h)
  where
    lock_at : (i n : ℕ) → Lock
    lock_at i n = record { frame = i + n; expected = slice_index ms (i + n) }

after_any : (ms : List ℕ) (p : ℕ) (st : LineState) → wanted_in (suc p) ms (after_turn (suc p) ms st) 0 ≤ wanted_in (suc p) ms st (suc p)
after_any ms p (Hunting i) = after_hunting ms p i (least_start (suc p) ms i (suc p))
after_any ms p (Locked lock) = after_locked ms p lock (outcome_of (suc p) ms lock)
after_any ms p Ended = omega arith

wanted_more : (size : ℕ) (ms : List ℕ) (t : ℕ) → wanted size ms (suc t) ≡ max (wanted size ms t) (wanted_in size ms (line_state size ms t) size)
unfolding wanted
wanted_more size ms t = refl

line_state_more : (size : ℕ) (ms : List ℕ) (t : ℕ) → line_state size ms (suc t) ≡ after_turn size ms (line_state size ms t)
unfolding line_state
line_state_more size ms t = refl

line_state_first : (size : ℕ) (ms : List ℕ) → line_state size ms 0 ≡ Hunting 0
unfolding line_state
line_state_first size ms = refl

none_wanted : (p : ℕ) (ms : List ℕ) (t : ℕ) → wanted_in (suc p) ms (line_state (suc p) ms t) 0 ≤ wanted (suc p) ms t
none_wanted p ms zero = subst (λ s. wanted_in (suc p) ms s 0 ≤ wanted (suc p) ms 0) (sym (line_state_first (suc p) ms)) (omega arith)
none_wanted p ms (suc t) =
    let after = subst (λ s. wanted_in (suc p) ms s 0 ≤ wanted_in (suc p) ms (line_state (suc p) ms t) (suc p)) (sym (line_state_more (suc p) ms t)) (after_any ms p (line_state (suc p) ms t)) in
    omega (arith, after, wanted_more (suc p) ms t)

between_turns : (p : ℕ) (ms : List ℕ) (t : ℕ) → wanted_so_far (suc p) ms t 0 ≡ wanted (suc p) ms t
between_turns p ms t = let none = none_wanted p ms t in omega (arith, none)

pub between : (kind : LineKind) (ms : List ℕ) (t : ℕ) → wanted_so_far (slots_of kind) ms t 0 ≡ wanted (slots_of kind) ms t
between Otu2 ms t = between_turns 7 ms t
between Otu3 ms t = between_turns 31 ms t

-- ---- the byte that was asked for

none_came : (further : List ℕ) → has_come further ≡ false → further ≡ []
none_came [] e = refl
none_came (byte ∷ bytes) e = absurd (cc)

one_came : (further : List ℕ) → length further ≤ 1 → has_come further ≡ true → length further ≡ 1
one_came [] most e = absurd (cc)
one_came (byte ∷ []) most e = refl
one_came (byte ∷ (next ∷ bytes)) most e = absurd (omega arith)

-- a place that is not live is as it was, and no byte of it came
idle_asked : (asks : Bool) (was is : InView) (further : List ℕ) → ByteAsked asks was is further → was.state ≢ Live → (is ≡ was) × (further ≡ [])
idle_asked asks was is further h idle = h.gave.idle idle

-- where a line has ended no byte came, and its place is as it was
ended_asked : (form : LineForm) (first was is : InView) (read further : List ℕ) (t : ℕ) (line : LineView) → LineStands form first was read t line → ByteAsked (not (is_seen line.reader.ending)) was is further
    → (e : Ending) → line.reader.ending ≡ e → e ≢ Open → (is ≡ was) × (further ≡ [])
ended_asked form first was is read further t line h asked Open e closed = absurd (closed refl)
ended_asked form first was is read further t line h asked Seen e closed = asked.quiet (ap (λ d. not (is_seen d)) e)
ended_asked form first was is read further t line h asked Died e closed = asked.gave.idle (λ live. dead_not_live (sym (h.ending.died e) ∙ live))

-- what a line may turn out to be at the end it might be before
pub may_at_end : (form : LineForm) (first was is : InView) (read further raw available : List ℕ) (t : ℕ) (line : LineView) → LineStands form first was read t line → ByteAsked (not (is_seen line.reader.ending)) was is further
    → MayHave (has_come further) (read ++ further) raw → available ≡ through_mask form.scrambled raw → MayBe form.scrambled line.reader.ending read available
may_at_end form first was is read further raw available t line h asked may e = record {
  rest = further ++ may.rest;
  over = λ closed. (let none = (ended_asked form first was is read further t line h asked line.reader.ending refl closed).1 in
      ap (λ bytes. bytes ++ may.rest) none ∙ may.over (ap has_come none));
  parts = e ∙ ap (through_mask form.scrambled) (may.parts ∙ append_assoc read further may.rest);
}

-- how many bytes there are
length_at_end : (form : LineForm) (read further raw available : List ℕ) → (may : MayHave (has_come further) (read ++ further) raw) → available ≡ through_mask form.scrambled raw
    → length available ≡ length read + length further + length may.rest
length_at_end form read further raw available may e =
    ap length (e ∙ ap (through_mask form.scrambled) (may.parts ∙ append_assoc read further may.rest)) ∙ length_parts form.scrambled read further may.rest

-- Of the line was taken what its turns want, and one byte more, or all that there is; and more was there exactly where
-- that byte came.
pub record EndOfLine (form : LineForm) (read further available : List ℕ) (t : ℕ) : Type 0 where
  pub took : length (read ++ further) ≡ min (length available) (suc (line_read form available t 0))
  pub more : has_come further ≡ true → line_read form available t 0 < length available
  pub none : has_come further ≡ false → length available ≤ line_read form available t 0

end_by : (form : LineForm) (read further rest available : List ℕ) (t : ℕ) (b : Bool) → has_come further ≡ b → length further ≤ 1 → (b ≡ false → rest ≡ []) → length available ≡ length read + length further + length rest
    → length (read ++ further) ≡ length read + length further → length read ≡ line_read form available t 0 → EndOfLine form read further available t
end_by form read further rest available t true e most over parts sum took =
    let one = one_came further most e in
    record { took = omega (arith, one, parts, sum, took); more = λ _. omega (arith, one, parts, took); none = λ f. absurd (cc) }
end_by form read further rest available t false e most over parts sum took =
    let none : length further ≡ 0 = ap length (none_came further e) in
    let nothing : length rest ≡ 0 = ap length (over refl) in
    record { took = omega (arith, none, nothing, parts, sum, took); more = λ f. absurd (cc); none = λ _. omega (arith, none, nothing, parts, took) }

pub end_of_line : (form : LineForm) (first was is : InView) (read further raw available : List ℕ) (t : ℕ) (line : LineView) → LineStands form first was read t line → line.pieces ≡ 0
    → ByteAsked (not (is_seen line.reader.ending)) was is further → MayHave (has_come further) (read ++ further) raw → available ≡ through_mask form.scrambled raw → EndOfLine form read further available t
end_of_line form first was is read further raw available t line h none asked may e =
    end_by form read further may.rest available t (has_come further) refl asked.most may.over (length_at_end form read further raw available may e) (length-append read further)
    (took_is form first was read available t line h (may_at_end form first was is read further raw available t line h asked may e) ∙ ap (line_read form available t) none)

-- ---- the place

-- what was taken of its place, and whether more may stand behind that
pub line_left : (form : LineForm) (first was is : InView) (read further : List ℕ) (t : ℕ) (line : LineView) → LineStands form first was read t line → ByteAsked (not (is_seen line.reader.ending)) was is further
    → InputLeft first is (read ++ further) (has_come further)
line_left form first was is read further t line h asked = record {
  gave = gave_twice first was is read further h.gave asked.gave;
  live = asked.lives;
  over = λ none live. by_ending line.reader.ending refl none live;
  died = λ dead. died_by line.reader.ending refl dead;
}
  where
    died_by : (e : Ending) → line.reader.ending ≡ e → is.state ≡ Dead → is.ended ≡ first.ended
    died_by Open e dead = asked.died dead ∙ h.unended (λ seen. (let f = sym e ∙ seen in cc))
    died_by Seen e dead = let same = (ended_asked form first was is read further t line h asked Seen e (λ o. cc)).0 in absurd (h.ending.seen e (sym (ap (λ (v : InView). v.state) same) ∙ dead))
    died_by Died e dead = asked.died dead ∙ h.unended (λ seen. (let f = sym e ∙ seen in cc))

    by_closed : (e : Ending) → line.reader.ending ≡ e → e ≢ Open → is.state ≡ Live → HasEnded is.left is.ended
    by_closed e at closed live =
        let same = (ended_asked form first was is read further t line h asked e at closed).0 in
        subst (λ (v : InView). HasEnded v.left v.ended) (sym same) (h.over (λ o. closed (sym at ∙ o)) (sym (ap (λ (v : InView). v.state) same) ∙ live))

    by_ending : (e : Ending) → line.reader.ending ≡ e → has_come further ≡ false → is.state ≡ Live → HasEnded is.left is.ended
    by_ending Open e none live = asked.over (ap (λ d. not (is_seen d)) e) none live
    by_ending Seen e none live = by_closed Seen e (λ o. cc) live
    by_ending Died e none live = by_closed Died e (λ o. cc) live

-- ---- how the line ended

-- the frames that its turns wanted are whole, while its end was not seen; once it was, they are not
wanted_whole : (form : LineForm) (available : List ℕ) (n t : ℕ) (line : LineView) → IsLine (size_of form) available n t line → line.pieces ≡ 0 → line.reader.ending ≡ Open
    → nat_lt (length (mfas_of available)) (wanted (size_of form) (mfas_of available) t) ≡ false
wanted_whole form available n t line h none e =
    let s = (h.read.still e).1 in
    let within = h.read.within in
    let count = length_mfas available in
    let turns : wanted_so_far (size_of form) (mfas_of available) t line.pieces ≡ wanted (size_of form) (mfas_of available) t = ap (wanted_so_far (size_of form) (mfas_of available) t) none ∙ between form.kind (mfas_of available) t in
    not_less _ _ (omega (arith, s, within, count, turns))
  where
    not_less : (a b : ℕ) → b ≤ a → nat_lt a b ≡ false
    not_less a b le = grind (arith, nat_tests)

wanted_more_than_whole : (form : LineForm) (available : List ℕ) (n t : ℕ) (line : LineView) → IsLine (size_of form) available n t line → line.pieces ≡ 0 → line.reader.ending ≢ Open
    → nat_lt (length (mfas_of available)) (wanted (size_of form) (mfas_of available) t) ≡ true
wanted_more_than_whole form available n t line h none closed =
    let over = (h.read.over closed).2 in
    let count = length_mfas available in
    let turns : wanted_so_far (size_of form) (mfas_of available) t line.pieces ≡ wanted (size_of form) (mfas_of available) t = ap (wanted_so_far (size_of form) (mfas_of available) t) none ∙ between form.kind (mfas_of available) t in
    less _ _ (omega (arith, over, count, turns))
  where
    less : (a b : ℕ) → a < b → nat_lt a b ≡ true
    less a b lt = grind (arith, nat_tests)

rest_open : (s : State) (available : List ℕ) (a b : ℕ) → nat_lt a b ≡ false → 0 ≡ rest_of (ending_of s a b) available
rest_open Dead available a b e = refl
rest_open Live available a b e = rw e refl
rest_open Empty available a b e = rw e refl

rest_seen : (s : State) (available : List ℕ) (a b : ℕ) → s ≢ Dead → nat_lt a b ≡ true → rest_of Seen available ≡ rest_of (ending_of s a b) available
rest_seen Dead available a b alive e = absurd (alive refl)
rest_seen Live available a b alive e = rw e refl
rest_seen Empty available a b alive e = rw e refl

rest_died : (s : State) (available : List ℕ) (a b : ℕ) → s ≡ Dead → rest_of Died available ≡ rest_of (ending_of s a b) available
rest_died Dead available a b e = refl
rest_died Live available a b e = absurd (cc)
rest_died Empty available a b e = absurd (cc)

-- The bytes after the last whole frame are counted as the line's place and its turns have it in the end.
pub rest_settled : (form : LineForm) (first was is : InView) (read further available : List ℕ) (t : ℕ) (line : LineView) → LineStands form first was read t line → line.pieces ≡ 0
    → ByteAsked (not (is_seen line.reader.ending)) was is further → MayBe form.scrambled line.reader.ending read available → rest_of line.reader.ending available ≡ rest_of (line_ending is.state form available t) available
rest_settled form first was is read further available t line h none asked may = by_ending line.reader.ending refl
  where
    whole : ℕ
    whole = length (mfas_of available)

    wants : ℕ
    wants = wanted (size_of form) (mfas_of available) t

    stays : (e : Ending) → line.reader.ending ≡ e → e ≢ Open → is.state ≡ was.state
    stays e at closed = ap (λ (v : InView). v.state) (ended_asked form first was is read further t line h asked e at closed).0

    by_ending : (e : Ending) → line.reader.ending ≡ e → rest_of line.reader.ending available ≡ rest_of (ending_of is.state whole wants) available
    by_ending Open e = ap (λ d. rest_of d available) e ∙ rest_open is.state available whole wants (wanted_whole form available (length read) t line (h.is_line available may) none e)
    by_ending Seen e = ap (λ d. rest_of d available) e ∙ rest_seen is.state available whole wants (λ dead. h.ending.seen e (sym (stays Seen e (λ o. cc)) ∙ dead))
        (wanted_more_than_whole form available (length read) t line (h.is_line available may) none (λ o. (let f = sym e ∙ o in cc)))
    by_ending Died e = ap (λ d. rest_of d available) e ∙ rest_died is.state available whole wants (stays Died e (λ o. cc) ∙ h.ending.died e)
