-- The answers of `slot`, and what it wrote, by what its line gave.
use Rattle.std.proofs.Common.{◌≡◌, ◌≢◌, ◌<◌, ◌≤◌, ◌+◌, ◌-◌, ◌*◌, ◌^◌, ◌∙◌, ◌⊎◌, ◌↔◌, ℕ, Bool, zero, suc, List, [], ◌++◌, Option, Some, IfSome, length, min, take, refl, sym, ap, subst, inl, inr, arith, append-nil, append_assoc, length-append}
use Rattle.std.proofs.lemmas.List.{take-append-le}
use Rattle.port_base.proofs.GivenLaws.{Beyond, given_of_gave}
use Rattle.port_base.specs.Bytes.{after, raised}
use Rattle.port_base.specs.Given.{HadToGive}
use Rattle.port_base.specs.Reads.{HasEnded}
use Rattle.port_base.specs.Views.{State, Empty, Live, Dead, InView}
use Rattle.line_commands.specs.LineAnswers.{LineAnswers, SlotRan}
use Rattle.command_base.specs.Device.{Device, line_zero}
use Rattle.command_base.specs.Ends.{line_status}
use Rattle.command_base.specs.AnswerWords.{Reports, IsWell}
use Rattle.line_commands.specs.SlotReport.{HasBytesBehind}
use Rattle.line_side.specs.LineFile.{frame_at}
use Rattle.line_commands.specs.SlotReport.{slot_bytes, slot_bytes_until, slot_report, whole_frames_used}
use Rattle.line_commands.specs.SlotRuns.{SlotEnded}
use Rattle.line_commands.specs.SlotReport.{StoppedInFrame}
use Rattle.command_base.specs.Gains.{GainsPart}
use Rattle.port_base.specs.declared.ended.Ended.{Ended}
use Rattle.port_base.specs.declared.ended.Ended.TheVariants.{Done, Unfinished, Cut, ReportFault, Memory}
use Rattle.command_base.specs.declared.status.Status.{Status}
use Rattle.command_base.specs.declared.status.Status.TheVariants as status
use Rattle.command_base.proofs.Lives.{is_dead, is_report_fault, still_alive}
use Rattle.line_commands.proofs.LineFrames.{frame_at-append, until-append, until-more}
use Rattle.line_commands.proofs.SlotLoop.{part_of_report}

-- the first frames and then some more
until-add : (slot : ℕ) (bytes : List ℕ) (n k : ℕ) → (rest : List ℕ) × (slot_bytes_until slot bytes (n + k) ≡ slot_bytes_until slot bytes n ++ rest)
until-add slot bytes n zero = ([], ap (slot_bytes_until slot bytes) (omega arith) ∙ sym (append-nil (slot_bytes_until slot bytes n)))
until-add slot bytes n (suc k) =
    let so_far = until-add slot bytes n k in
    let order : n + suc k ≡ n + k + 1 = omega arith in
    let last = slot_bytes slot (frame_at bytes (n + k)) in (
      so_far.0 ++ last,
      ap (slot_bytes_until slot bytes) order ∙ until-more slot bytes (n + k) ∙ ap (λ xs. xs ++ last) so_far.1
          ∙ append_assoc (slot_bytes_until slot bytes n) so_far.0 last,
    )

-- the used frames are whole, and more bytes have no fewer of them
used-whole : (n : ℕ) → whole_frames_used n * 16320 ≤ n
unfolding whole_frames_used
used-whole n = omega arith

used-more : (n more : ℕ) → whole_frames_used n ≤ whole_frames_used (n + more)
unfolding whole_frames_used
used-more n more = omega arith

used-most : (n : ℕ) → 131072 * 16320 ≤ n → whole_frames_used n ≡ 131072
unfolding whole_frames_used
used-most n many = omega arith

-- what is written of a line's first bytes comes first
report_prefix : (slot : ℕ) (bytes more : List ℕ) → (rest : List ℕ) × (slot_report slot (bytes ++ more) ≡ slot_report slot bytes ++ rest)
unfolding slot_report
report_prefix slot bytes more =
    let n = whole_frames_used (length bytes) in
    let m = whole_frames_used (length (bytes ++ more)) in
    let fewer : n ≤ m = subst (λ k. n ≤ whole_frames_used k) (sym (length-append bytes more)) (used-more (length bytes) (length more)) in
    let parts : m ≡ n + (m - n) = omega arith in
    let added = until-add slot (bytes ++ more) n (m - n) in (
      added.0,
      ap (slot_bytes_until slot (bytes ++ more)) parts ∙ added.1
          ∙ ap (λ xs. xs ++ added.0) (until-append slot bytes more n (used-whole (length bytes))),
    )

-- once the most frames are there, more bytes change nothing
report_most : (slot : ℕ) (bytes more : List ℕ) → 131072 * 16320 ≤ length bytes → slot_report slot (bytes ++ more) ≡ slot_report slot bytes
unfolding slot_report
report_most slot bytes more many =
    let all : whole_frames_used (length (bytes ++ more)) ≡ 131072 = used-most (length (bytes ++ more)) (omega (arith, length-append bytes more)) in
    let same : whole_frames_used (length bytes) ≡ 131072 = used-most (length bytes) many in
    ap (slot_bytes_until slot (bytes ++ more)) (all ∙ sym same) ∙ until-append slot bytes more (whole_frames_used (length bytes)) (used-whole (length bytes))

-- a part of what is written of the first bytes is a part of what is written of all
part_of_more : (slot : ℕ) (bytes more : List ℕ) (old new : Option (List ℕ)) → GainsPart old new (slot_report slot bytes) → GainsPart old new (slot_report slot (bytes ++ more))
part_of_more slot bytes more old new h =
    let longer = report_prefix slot bytes more in
    let within : h.written ≤ length (slot_report slot bytes) = omega (arith, h.part) in
    record {
      written = h.written;
      part = omega (arith, ap length longer.1, length-append (slot_report slot bytes) longer.0, h.part);
      gained = h.gained ∙ ap (after old) (sym (ap (take h.written) longer.1 ∙ take-append-le h.written (slot_report slot bytes) longer.0 within));
    }

-- an ended line has nothing beyond what was taken
ended_given : (s : State) (left : Option (List ℕ)) (answered : Bool) (rest : List ℕ) → (s ≡ Live → left ≡ Some rest) → (s ≢ Live → rest ≡ []) → HasEnded left answered → rest ≡ []
ended_given Live left answered rest live other ended = let h : IfSome (Some rest) (λ bytes. bytes ≡ []) = subst (λ l. IfSome l (λ bytes. bytes ≡ [])) (live refl) ended.nothing in h
ended_given Empty left answered rest live other ended = other (λ e. cc)
ended_given Dead left answered rest live other ended = other (λ e. cc)

all_given : (first now : InView) (read available : List ℕ) → Beyond read available now.state now.left → HasEnded now.left now.ended → available ≡ read
all_given first now read available h ended =
    h.parts ∙ ap (λ xs. read ++ xs) (ended_given now.state now.left now.ended h.rest h.live h.other ended) ∙ append-nil read

dead_given : (first now : InView) (read available : List ℕ) → Beyond read available now.state now.left → now.state ≡ Dead → available ≡ read
dead_given first now read available h dead =
    let no : now.state ≢ Live = λ live. let e : Dead ≡ Live = sym dead ∙ live in absurd (cc) in
    h.parts ∙ ap (λ xs. read ++ xs) (h.other no) ∙ append-nil read

-- a report fault comes after bytes were taken, so the line was not dead
fault_alive : (slot : ℕ) (first now : InView) (old new : Option (List ℕ)) → SlotEnded slot first now old new ReportFault → now.state ≢ Dead
fault_alive slot first now old new h dead =
    let before : first.state ≡ Dead = sym h.ends.1 ∙ dead in
    let no : first.state ≢ Live = λ live. let e : Dead ≡ Live = sym before ∙ live in absurd (cc) in
    let none : length h.read ≡ 0 = ap length (h.gave.idle no).1 in
    omega (arith, none, h.ends.0.last)

-- ---- what `slot` answers for

pub slot_ran : (ended : Ended) (slot : ℕ) (old new : Device) → SlotEnded slot (line_zero old) (line_zero new) old.report.got new.report.got ended → SlotRan slot old new (line_status ended)
slot_ran Done slot old new h = record {
  read = h.read;
  gave = h.gave;
  died = h.died;
  wrote = h.ends.0;
  stopped = λ e. absurd (cc);
  cut = (λ e. absurd (cc), λ dead. absurd (h.ends.1 dead));
  unfinished = λ _. (λ e. absurd (cc), λ x. let more : whole_frames_used (length h.read) * 16320 < length h.read = x.1 in absurd (omega (arith, h.ends.3, more)));
  most = h.ends.4;
  all = λ _ _. inl h.ends.2;
}
slot_ran Unfinished slot old new h = record {
  read = h.read;
  gave = h.gave;
  died = h.died;
  wrote = h.ends.0;
  stopped = λ e. absurd (cc);
  cut = (λ e. absurd (cc), λ dead. absurd (h.ends.1 dead));
  unfinished = λ _. (λ _. (h.ends.1, h.ends.2), λ _. refl);
  most = h.ends.4;
  all = λ _ _. h.ends.3;
}
slot_ran Cut slot old new h = record {
  read = h.read;
  gave = h.gave;
  died = h.died;
  wrote = h.ends.0;
  stopped = λ e. absurd (cc);
  cut = (λ _. h.ends.1, λ _. refl);
  unfinished = λ _. (λ e. absurd (cc), λ x. absurd (x.0 h.ends.1));
  most = h.ends.2;
  all = λ _ alive. absurd (alive h.ends.1);
}
slot_ran ReportFault slot old new h = record {
  read = h.read;
  gave = h.gave;
  died = h.died;
  wrote = part_of_report slot h.read old.report.got new.report.got h.ends.2 h.ends.0;
  stopped = λ _. h.ends.0;
  cut = (λ e. absurd (cc), λ dead. absurd (fault_alive slot (line_zero old) (line_zero new) old.report.got new.report.got h dead));
  unfinished = λ no. absurd (no refl);
  most = h.ends.2;
  all = λ no. absurd (no refl);
}
slot_ran Memory slot old new h = absurd h.ends

-- ---- by Given

-- what Given has beyond the bytes taken: nothing, or the most were taken
abbrev pub IsAllOrMost : (read available : List ℕ) → Type 0
IsAllOrMost read available = (available ≡ read) ⊎ (length read ≡ 131072 * 16320 + 1)

pub all_or_most : (slot : ℕ) (old new : Device) (answer : Status) (available : List ℕ) (h : SlotRan slot old new answer) → answer ≢ status.ReportFault
    → Beyond h.read available (line_zero new).state (line_zero new).left → IsAllOrMost h.read available
all_or_most slot old new answer available h other b = by_life (is_dead (line_zero new).state)
  where
    by_end : HasEnded (line_zero new).left (line_zero new).ended ⊎ (length h.read ≡ 131072 * 16320 + 1) → IsAllOrMost h.read available
    by_end (inl ended) = inl (all_given (line_zero old) (line_zero new) h.read available b ended)
    by_end (inr many) = inr many

    by_life : ((line_zero new).state ≡ Dead) ⊎ ((line_zero new).state ≢ Dead) → IsAllOrMost h.read available
    by_life (inl dead) = inl (dead_given (line_zero old) (line_zero new) h.read available b dead)
    by_life (inr alive) = by_end (h.all other alive)

-- what is written
pub slot_reports : (slot : ℕ) (old new : Device) (answer : Status) (available : List ℕ) → SlotRan slot old new answer
    → HadToGive (line_zero old) (line_zero new) available → Reports answer old.report.got new.report.got (slot_report slot available)
slot_reports slot old new answer available h is = by_answer (is_report_fault answer)
  where
    b : Beyond h.read available (line_zero new).state (line_zero new).left
    b = given_of_gave (line_zero old) (line_zero new) h.read available h.gave is

    same : IsAllOrMost h.read available → slot_report slot h.read ≡ slot_report slot available
    same (inl all) = ap (slot_report slot) (sym all)
    same (inr many) = sym (ap (slot_report slot) b.parts ∙ report_most slot h.read b.rest (omega (arith, many)))

    by_answer : (answer ≡ status.ReportFault) ⊎ (answer ≢ status.ReportFault) → Reports answer old.report.got new.report.got (slot_report slot available)
    by_answer (inl fault) =
        let part : GainsPart old.report.got new.report.got (slot_report slot h.read) = subst (λ s. Reports s old.report.got new.report.got (slot_report slot h.read)) fault h.wrote in
        let more = subst (λ xs. GainsPart old.report.got new.report.got (slot_report slot xs)) (sym b.parts) (part_of_more slot h.read b.rest old.report.got new.report.got part) in
        subst (λ s. Reports s old.report.got new.report.got (slot_report slot available)) (sym fault) more
    by_answer (inr other) =
        subst (Reports answer old.report.got new.report.got) (same (all_or_most slot old new answer available h other b)) h.wrote

-- how many bytes were taken, by the place's number
counted : (old new n : ℕ) → new ≡ raised old n → new < 2 ^ 64 - 1 → new - old ≡ n
counted old new n e below = omega arith

-- how it stopped
pub slot_stopped : (slot : ℕ) (old new : Device) (available : List ℕ) → SlotRan slot old new status.ReportFault → HadToGive (line_zero old) (line_zero new) available
    → (line_zero new).number < 2 ^ 64 - 1 → StoppedInFrame slot available ((line_zero new).number - (line_zero old).number) old.report.got new.report.got
slot_stopped slot old new available h is below =
    let b = given_of_gave (line_zero old) (line_zero new) h.read available h.gave is in
    let n = counted (line_zero old).number (line_zero new).number (length h.read) h.gave.takes.number below in
    let k = h.stopped refl in
    let until = until-append slot h.read b.rest k.f (omega (arith, k.last)) in
    let frame = frame_at-append h.read b.rest k.f (omega (arith, k.last)) in
    subst (λ xs. StoppedInFrame slot xs ((line_zero new).number - (line_zero old).number) old.report.got new.report.got) (sym b.parts)
    (record {
      f = k.f;
      last = n ∙ k.last;
      gained = subst (λ xs. GainsPart (after old.report.got xs) new.report.got (slot_bytes slot (frame_at (h.read ++ b.rest) k.f))) (sym until)
          (subst (λ xs. GainsPart (after old.report.got (slot_bytes_until slot h.read k.f)) new.report.got (slot_bytes slot xs)) (sym frame) k.gained);
    })

-- bytes stand behind the whole frames that are used, of what was taken just where of what was given
same_rest : (read available : List ℕ) (rest : List ℕ) → available ≡ read ++ rest → IsAllOrMost read available → HasBytesBehind (length read) ↔ HasBytesBehind (length available)
same_rest read available rest parts (inl all) = (subst (λ xs. HasBytesBehind (length xs)) (sym all), subst (λ xs. HasBytesBehind (length xs)) all)
same_rest read available rest parts (inr many) =
    let size : length available ≡ length read + length rest = ap length parts ∙ length-append read rest in
    let most : whole_frames_used (length available) ≡ 131072 = used-most (length available) (omega (arith, size, many)) in
    let here : whole_frames_used (length read) ≡ 131072 = used-most (length read) (omega (arith, many)) in
    (λ _. omega (arith, size, many, most), λ _. omega (arith, many, here))

pub slot_unfinished : (slot : ℕ) (old new : Device) (answer : Status) (available : List ℕ) → SlotRan slot old new answer → answer ≢ status.ReportFault
    → HadToGive (line_zero old) (line_zero new) available → (answer ≡ status.Unfinished) ↔ (((line_zero new).state ≢ Dead) × HasBytesBehind (length available))
slot_unfinished slot old new answer available h other is =
    let b = given_of_gave (line_zero old) (line_zero new) h.read available h.gave is in
    let same = same_rest h.read available b.rest b.parts (all_or_most slot old new answer available h other b) in
    let u = h.unfinished other in
    (λ e. let x = u.0 e in (x.0, same.0 x.1), λ x. u.1 (x.0, same.1 x.1))

pub slot_counted : (slot : ℕ) (old new : Device) (answer : Status) → SlotRan slot old new answer → answer ≢ status.ReportFault
    → (line_zero new).number < 2 ^ 64 - 1
    → (answer ≡ status.Unfinished) ↔ (((line_zero new).state ≢ Dead) × HasBytesBehind ((line_zero new).number - (line_zero old).number))
slot_counted slot old new answer h other below =
    let n = counted (line_zero old).number (line_zero new).number (length h.read) h.gave.takes.number below in
    subst (λ k. (answer ≡ status.Unfinished) ↔ (((line_zero new).state ≢ Dead) × HasBytesBehind k)) (sym n) (h.unfinished other)

-- as many as there are, but of the most frames and one byte more at most
least_of : (read available rest : List ℕ) → available ≡ read ++ rest → length read ≤ 131072 * 16320 + 1 → IsAllOrMost read available
    → length read ≡ min (length available) (131072 * 16320 + 1)
least_of read available rest parts few (inl all) = omega (arith, ap length all, few)
least_of read available rest parts few (inr many) = omega (arith, ap length parts ∙ length-append read rest, many)

pub slot_took : (slot : ℕ) (old new : Device) (answer : Status) (available : List ℕ) → SlotRan slot old new answer → answer ≢ status.ReportFault
    → HadToGive (line_zero old) (line_zero new) available → (line_zero new).number < 2 ^ 64 - 1
    → (line_zero new).number - (line_zero old).number ≡ min (length available) (131072 * 16320 + 1)
slot_took slot old new answer available h other is below =
    let b = given_of_gave (line_zero old) (line_zero new) h.read available h.gave is in
    counted (line_zero old).number (line_zero new).number (length h.read) h.gave.takes.number below
    ∙ least_of h.read available b.rest b.parts h.most (all_or_most slot old new answer available h other b)

-- ---- without faults

pub slot_complete : (answer : Status) (slot : ℕ) (old new : Device) → LineAnswers (SlotRan slot) old new answer → IsWell old.report.faults new.report.faults
    → IsWell (line_zero old).faults (line_zero new).faults → (line_zero old).state ≢ Dead
    → (answer ≡ status.Done) ⊎ (answer ≡ status.Unfinished) ⊎ (answer ≡ status.Memory)
slot_complete status.Done slot old new h report line alive = inl refl
slot_complete status.Unfinished slot old new h report line alive = inr (inl refl)
slot_complete status.Memory slot old new h report line alive = inr (inr refl)
slot_complete status.ReportFault slot old new h report line alive = absurd (report (h.counts.fault refl))
slot_complete status.Cut slot old new h report line alive =
    let ran = h.ran (λ e. cc) in
    absurd (still_alive (line_zero old) (line_zero new) ran.gave.state line alive (ran.cut.0 refl))
slot_complete status.Words slot old new h report line alive = absurd h.answer
slot_complete status.PlanFault slot old new h report line alive = absurd h.answer
slot_complete (status.Plan error place) slot old new h report line alive = absurd h.answer
