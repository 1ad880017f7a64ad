-- The answers of `pull`, and what it wrote, by what its line gave.
use Rattle.std.proofs.Common.{◌≡◌, ◌≢◌, ◌<◌, ◌-◌, ◌%◌, ◌^◌, ◌∙◌, ◌⊎◌, ◌↔◌, ℕ, Bool, true, false, List, [], ◌++◌, Option, Some, IfSome, length, sym, ap, subst, inl, inr, refl, arith, append-nil}
use Rattle.port_base.proofs.GivenLaws.{Beyond, given_of_gave, taken_counted}
use Rattle.port_base.specs.Given.{Gave, HadToGive}
use Rattle.port_base.specs.Reads.{HasEnded}
use Rattle.port_base.specs.Views.{State, Empty, Live, Dead, InView}
use Rattle.tributary_model.specs.Places.{Tributary}
use Rattle.line_commands.specs.LineAnswers.{LineAnswers, PullRan}
use Rattle.command_base.specs.Device.{Device, line_zero}
use Rattle.command_base.specs.Ends.{line_status}
use Rattle.line_commands.specs.PullReport.{LeavesBytes, pull_report}
use Rattle.line_commands.specs.PullRuns.{PullEnded}
use Rattle.line_commands.specs.PullReport.{StoppedInTurn}
use Rattle.tributary_line.specs.TurnsDone.{MayFollow, bytes_read}
use Rattle.command_base.specs.AnswerWords.{IsWell, Reports}
use Rattle.port_base.specs.declared.ended.Ended.{Ended}
use Rattle.port_base.specs.declared.ended.Ended.TheVariants.{Done, Unfinished, Cut, ReportFault, Memory}
use Rattle.command_base.specs.declared.status.Status.{Status}
use Rattle.command_base.specs.declared.status.Status.TheVariants as status
use Rattle.command_base.proofs.Lives.{still_alive}

-- nothing is beyond the bytes taken of a line that has ended or is not live
none_beyond : (s : State) (left : Option (List ℕ)) (answered : Bool) (rest : List ℕ) → (s ≡ Live → HasEnded left answered) → (s ≡ Live → left ≡ Some rest) → (s ≢ Live → rest ≡ []) → rest ≡ []
none_beyond Live left answered rest ended live other = let h : IfSome (Some rest) (λ bytes. bytes ≡ []) = subst (λ l. IfSome l (λ bytes. bytes ≡ [])) (live refl) (ended refl).nothing in h
none_beyond Empty left answered rest ended live other = other (λ e. cc)
none_beyond Dead left answered rest ended live other = other (λ e. cc)

-- what Given has beyond the bytes taken may follow them
beyond_follows : (more : Bool) (read available : List ℕ) (s : State) (left : Option (List ℕ)) (answered : Bool) → (more ≡ false → s ≡ Live → HasEnded left answered)
    → (b : Beyond read available s left) → MayFollow more b.rest
beyond_follows true read available s left answered over b = tt
beyond_follows false read available s left answered over b = none_beyond s left answered b.rest (over refl) b.live b.other

-- Given is what was taken, and bytes that may follow it
record Followed (more : Bool) (read available : List ℕ) : Type 0 where
  pub rest : List ℕ
  pub parts : available ≡ read ++ rest
  pub follows : MayFollow more rest

-- nothing stands behind the bytes taken
nothing_more : (more : Bool) (read rest : List ℕ) → more ≡ false → MayFollow more rest → read ++ rest ≡ read
nothing_more more read rest over follow =
    let none : rest ≡ [] = subst (λ m. MayFollow m rest) over follow in
    ap (λ xs. read ++ xs) none ∙ append-nil read

-- what Given has of a run of `pull`
followed : (own : Tributary) (old new : Device) (answer : Status) (available : List ℕ) (h : PullRan own old new answer)
    → HadToGive (line_zero old) (line_zero new) available → Followed h.more h.read available
followed own old new answer available h is =
    let b = given_of_gave (line_zero old) (line_zero new) h.read available h.gave is in
    record { rest = b.rest; parts = b.parts; follows = beyond_follows h.more h.read available (line_zero new).state (line_zero new).left (line_zero new).ended h.over b }

-- ---- what `pull` answers for

pub pull_ran : (ended : Ended) (own : Tributary) (old new : Device) → PullEnded own (line_zero old) (line_zero new) old.report.got new.report.got ended → PullRan own old new (line_status ended)
pull_ran Done own old new h = record {
  read = h.read;
  gave = h.gave;
  more = h.more;
  over = h.over;
  died = h.died;
  wrote = h.report;
  cut = λ _. (λ e. absurd (cc), λ dead. absurd (h.ends.0 dead));
  unfinished = λ _ rest follow. (λ e. absurd (cc), λ x. absurd (h.ends.2 (subst LeavesBytes (nothing_more h.more h.read rest h.ends.1 follow) x.1)));
  counted = λ _. (λ e. absurd (cc), λ x. let none : length h.read % 16320 ≡ 0 = h.ends.3 in let some : 0 < length h.read % 16320 = x.1 in absurd (omega (arith, none, some)));
  took = λ _. h.took (λ e. cc);
  stopped = λ e. absurd (cc);
}
pull_ran Unfinished own old new h = record {
  read = h.read;
  gave = h.gave;
  more = h.more;
  over = h.over;
  died = h.died;
  wrote = h.report;
  cut = λ _. (λ e. absurd (cc), λ dead. absurd (h.ends.0 dead));
  unfinished = λ _ rest follow. (λ _. (h.ends.0, h.ends.1 rest follow), λ _. refl);
  counted = λ _. (λ _. (h.ends.0, h.ends.2), λ _. refl);
  took = λ _. h.took (λ e. cc);
  stopped = λ e. absurd (cc);
}
pull_ran Cut own old new h = record {
  read = h.read;
  gave = h.gave;
  more = h.more;
  over = h.over;
  died = h.died;
  wrote = h.report;
  cut = λ _. (λ _. h.ends, λ _. refl);
  unfinished = λ _ rest follow. (λ e. absurd (cc), λ x. absurd (x.0 h.ends));
  counted = λ _. (λ e. absurd (cc), λ x. absurd (x.0 h.ends));
  took = λ _. h.took (λ e. cc);
  stopped = λ e. absurd (cc);
}
pull_ran ReportFault own old new h = record {
  read = h.read;
  gave = h.gave;
  more = h.more;
  over = h.over;
  died = h.died;
  wrote = h.report;
  cut = λ no. absurd (no refl);
  unfinished = λ no. absurd (no refl);
  counted = λ no. absurd (no refl);
  took = λ no. absurd (no refl);
  stopped = λ _. h.stopped refl;
}
pull_ran Memory own old new h = absurd h.ends

-- ---- by Given

-- what is written
pub pull_reports : (own : Tributary) (old new : Device) (answer : Status) (available : List ℕ) → PullRan own old new answer
    → HadToGive (line_zero old) (line_zero new) available → Reports answer old.report.got new.report.got (pull_report own available)
pull_reports own old new answer available h is =
    let f = followed own old new answer available h is in
    subst (λ xs. Reports answer old.report.got new.report.got (pull_report own xs)) (sym f.parts) (h.wrote f.rest f.follows)

-- Unfinished comes just where the line is not dead and bytes stand after the frames that are used
pub pull_unfinished : (own : Tributary) (old new : Device) (answer : Status) (available : List ℕ) → PullRan own old new answer → answer ≢ status.ReportFault
    → HadToGive (line_zero old) (line_zero new) available → (answer ≡ status.Unfinished) ↔ (((line_zero new).state ≢ Dead) × LeavesBytes available)
pull_unfinished own old new answer available h other is =
    let f = followed own old new answer available h is in
    subst (λ xs. (answer ≡ status.Unfinished) ↔ (((line_zero new).state ≢ Dead) × LeavesBytes xs)) (sym f.parts) (h.unfinished other f.rest f.follows)

-- how many bytes were taken, by the place's number
pub taken_by_number : (first now : InView) (read : List ℕ) → Gave first read now → now.number < 2 ^ 64 - 1 → now.number - first.number ≡ length read
taken_by_number first now read gave below = let n = taken_counted first now read gave below in omega (arith, n)

-- the same, by the place's number of bytes, also where the line does not tell them
pub pull_counted : (own : Tributary) (old new : Device) (answer : Status) → PullRan own old new answer → answer ≢ status.ReportFault
    → (line_zero new).number < 2 ^ 64 - 1
    → (answer ≡ status.Unfinished) ↔ (((line_zero new).state ≢ Dead) × (0 < ((line_zero new).number - (line_zero old).number) % 16320))
pull_counted own old new answer h other below =
    subst (λ n. (answer ≡ status.Unfinished) ↔ (((line_zero new).state ≢ Dead) × (0 < n % 16320)))
    (sym (taken_by_number (line_zero old) (line_zero new) h.read h.gave below))
    (h.counted other)

-- how many bytes were taken, by Given
pub pull_took : (own : Tributary) (old new : Device) (answer : Status) (available : List ℕ) → PullRan own old new answer → answer ≢ status.ReportFault
    → HadToGive (line_zero old) (line_zero new) available → (line_zero new).number < 2 ^ 64 - 1 → (line_zero new).number - (line_zero old).number ≡ bytes_read 8 available
pull_took own old new answer available h other is below =
    let f = followed own old new answer available h is in
    taken_by_number (line_zero old) (line_zero new) h.read h.gave below ∙ h.took other f.rest f.follows ∙ ap (bytes_read 8) (sym f.parts)

-- how it stopped, by Given
pub pull_stopped : (own : Tributary) (old new : Device) (available : List ℕ) → PullRan own old new status.ReportFault → HadToGive (line_zero old) (line_zero new) available
    → (line_zero new).number < 2 ^ 64 - 1
    → (t : ℕ) × StoppedInTurn own available ((line_zero new).number - (line_zero old).number) t old.report.got new.report.got
pull_stopped own old new available h is below =
    let f = followed own old new status.ReportFault available h is in
    let k = h.stopped refl in
    let n = taken_by_number (line_zero old) (line_zero new) h.read h.gave below in (
      k.0,
      subst (λ count. StoppedInTurn own available count k.0 old.report.got new.report.got) (sym n)
          (subst (λ xs. StoppedInTurn own xs (length h.read) k.0 old.report.got new.report.got) (sym f.parts) (k.1 f.rest f.follows)),
    )

-- ---- without faults

pub pull_complete : (answer : Status) (own : Tributary) (old new : Device) → LineAnswers (PullRan own) old new answer → IsWell old.report.faults new.report.faults
    → IsWell (line_zero old).faults (line_zero new).faults → (line_zero old).state ≢ Dead
    → (answer ≡ status.Done) ⊎ (answer ≡ status.Unfinished) ⊎ (answer ≡ status.Memory)
pull_complete status.Done own old new h report line alive = inl refl
pull_complete status.Unfinished own old new h report line alive = inr (inl refl)
pull_complete status.Memory own old new h report line alive = inr (inr refl)
pull_complete status.ReportFault own old new h report line alive = absurd (report (h.counts.fault refl))
pull_complete status.Cut own old new h report line alive =
    let ran = h.ran (λ e. cc) in
    absurd (still_alive (line_zero old) (line_zero new) ran.gave.state line alive ((ran.cut (λ e. cc)).0 refl))
pull_complete status.Words own old new h report line alive = absurd h.answer
pull_complete status.PlanFault own old new h report line alive = absurd h.answer
pull_complete (status.Plan error place) own old new h report line alive = absurd h.answer
