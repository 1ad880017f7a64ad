-- What `check` answers to the text of a source that tells it.
use Rattle.std.proofs.Common.{◌≡◌, ◌≢◌, ◌<◌, ◌+◌, ◌∙◌, ◌⊎◌, ℕ, Bool, false, List, [], ◌++◌, Option, Some, None, Result, Ok, Err, length, nat_le, refl, sym, ap, subst, inl, inr, arith, append-nil, length-append}
use Rattle.std.specs.Prelude.{unwrap_or}
use Rattle.std.proofs.lemmas.Bool.Decides.{nat_tests}
use Rattle.port_base.specs.Bytes.{before}
use Rattle.port_base.specs.Reads.{HasEnded}
use Rattle.plan_file.specs.Answer.{plan_of_text}
use Rattle.plan_file.specs.Meaning.{table_of_text}
use Rattle.plan_file.proofs.Texts.{same_table}
use Rattle.otn_base.specs.declared.memory.Memory.{Memory as NoMemory}
use Rattle.plan_file.specs.declared.error.PlanError.{PlanError}
use Rattle.plan_file.specs.declared.plan.Plan.{Plan}
use Rattle.check_command.specs.PlanCheck.{CheckAnswers, check_status, CheckRun, CheckEnds}
use Rattle.check_command.specs.Steps.PlanCheck.{PlanTold}
use Rattle.port_base.specs.PortViews.{SourceView, SinkView, SinkLater}
use Rattle.command_base.specs.Device.{Device}
use Rattle.check_command.specs.PlanReading.{IsAll, PlanReading, WasRead, most_read}
use Rattle.command_base.specs.AnswerWords.{CountsBy, IsRefusal, IsWell}
use Rattle.check_command.specs.declared.check.Checked.{Checked}
use Rattle.check_command.specs.declared.check.Checked.TheVariants as checked
use Rattle.check_command.specs.declared.plan_text.Planned.TheVariants as planned
use Rattle.command_base.specs.declared.status.Status.{Status}
use Rattle.command_base.specs.declared.status.Status.TheVariants as status

-- a text that is too long is no table
too_long : (text : List ℕ) → 1048576 < length text → table_of_text text ≡ None
unfolding table_of_text
too_long text long =
    let no_room : nat_le (length text) 1048576 ≡ false = grind (arith, nat_tests) in
    rw no_room refl

-- the answer to all that came is that to the whole text
same_text : (text read : List ℕ) (left : Option (List ℕ)) (ended : Bool) → Some text ≡ before read left → HasEnded left ended ⊎ (length read ≡ most_read) → plan_of_text read ≡ plan_of_text text
same_text text read None answered e all = absurd (cc)
same_text text read (Some rest) answered e (inl ended) =
    let whole : text ≡ read ++ rest = ap (λ t. unwrap_or t []) e in
    let none : rest ≡ [] = ended.nothing in
    ap plan_of_text (sym (whole ∙ ap (λ xs. read ++ xs) none ∙ append-nil read))
same_text text read (Some rest) answered e (inr long) =
    let whole : text ≡ read ++ rest = ap (λ t. unwrap_or t []) e in
    let size : length text ≡ length read + length rest = ap length whole ∙ length-append read rest in
    same_table read text (too_long read (omega (arith, long)) ∙ sym (too_long text (omega (arith, long, size))))

pub same_plan : (text read : List ℕ) (has : SourceView) → Some text ≡ before read has.left → IsAll read has → plan_of_text read ≡ plan_of_text text
same_plan text read has e all = same_text text read has.left has.ended e all

-- by the whole text
pub check_told : (answer : Status) (text : List ℕ) (has : SourceView) (had : SourceView) (old new : SinkView) → CheckRun had has old new answer → had.left ≡ Some text
    → answer ≢ status.Memory → answer ≢ status.PlanFault → CheckEnds answer text old.got new.got
check_told status.Done text has had old new h told a b =
    let e = same_plan text h.text has (sym told ∙ h.read) h.all in
    (h.ends.0, (sym e ∙ h.ends.1.0, h.ends.1.1))
check_told status.ReportFault text has had old new h told a b =
    let e = same_plan text h.text has (sym told ∙ h.read) h.all in
    (h.ends.0, (sym e ∙ h.ends.1.0, h.ends.1.1))
check_told (status.Plan error place) text has had old new h told a b =
    let e = same_plan text h.text has (sym told ∙ h.read) h.all in
    (sym e ∙ h.ends.0, h.ends.1)
check_told status.Memory text has had old new h told a b = absurd (a refl)
check_told status.PlanFault text has had old new h told a b = absurd (b refl)
check_told status.Words text has had old new h told a b = absurd h.ends
check_told status.Cut text has had old new h told a b = absurd h.ends
check_told status.Unfinished text has had old new h told a b = absurd h.ends

-- nothing is written where it is refused
pub check_refused : (answer : Status) (had has : SourceView) (old new : SinkView) → CheckRun had has old new answer → IsRefusal answer → new.got ≡ old.got
check_refused status.Done had has old new h refusal = absurd refusal
check_refused status.ReportFault had has old new h refusal = absurd refusal
check_refused (status.Plan error place) had has old new h refusal = h.ends.1
check_refused status.Memory had has old new h refusal = h.ends
check_refused status.PlanFault had has old new h refusal = h.ends
check_refused status.Words had has old new h refusal = absurd h.ends
check_refused status.Cut had has old new h refusal = absurd refusal
check_refused status.Unfinished had has old new h refusal = absurd refusal

-- `check` never answers that the words are none
pub check_never_words : (answer : Status) (had has : SourceView) (old new : SinkView) → CheckRun had has old new answer → answer ≢ status.Words
check_never_words answer had has old new h e = subst (λ s. CheckEnds s h.text old.got new.got) e h.ends

-- with no fault it is Done or Plan, or there was no memory
pub check_complete : (answer : Status) (old new : Device) → CheckAnswers old new answer → IsWell old.report.faults new.report.faults → IsWell old.plan.faults new.plan.faults
    → (answer ≡ status.Done) ⊎ ((error : PlanError) × (place : ℕ) × (answer ≡ status.Plan error place)) ⊎ (answer ≡ status.Memory)
check_complete status.Done old new h report plan = inl refl
check_complete (status.Plan error place) old new h report plan = inr (inl (error, place, refl))
check_complete status.Memory old new h report plan = inr (inr refl)
check_complete status.ReportFault old new h report plan = absurd (report (h.report_counts.fault refl))
check_complete status.PlanFault old new h report plan = absurd (plan (h.plan_counts.fault refl))
check_complete status.Words old new h report plan = absurd h.ends
check_complete status.Cut old new h report plan = absurd h.ends
check_complete status.Unfinished old new h report plan = absurd h.ends

-- ---- of a plan that is accepted

told_ends : (plan : Plan) (text : List ℕ) (answer : Result Checked NoMemory) (old new : Option (List ℕ)) → plan_of_text text ≡ Ok plan → PlanTold (check_status answer) plan old new → CheckEnds (check_status answer) text old new
told_ends plan text (Ok checked.Told) old new says told = (plan, (says, told))
told_ends plan text (Ok checked.ReportFault) old new says told = (plan, (says, told))
told_ends plan text (Ok (checked.Refused error place)) old new says told = absurd told
told_ends plan text (Ok checked.PlanFault) old new says told = absurd told
told_ends plan text (Err memory) old new says told = told

told_read : (plan : Plan) (text : List ℕ) (had source : SourceView) (answer : Result Checked NoMemory) (old new : Option (List ℕ)) → PlanTold (check_status answer) plan old new → IsAll text source
    → WasRead (check_status answer) text had source
told_read plan text had source (Ok checked.Told) old new told all = all
told_read plan text had source (Ok checked.ReportFault) old new told all = all
told_read plan text had source (Ok (checked.Refused error place)) old new told all = all
told_read plan text had source (Ok checked.PlanFault) old new told all = absurd told
told_read plan text had source (Err memory) old new told all = inr all

never_plan_fault : (plan : Plan) (answer : Result Checked NoMemory) (old new : Option (List ℕ)) → PlanTold (check_status answer) plan old new → check_status answer ≢ status.PlanFault
never_plan_fault plan (Ok checked.Told) old new told e = cc
never_plan_fault plan (Ok checked.ReportFault) old new told e = cc
never_plan_fault plan (Ok (checked.Refused error place)) old new told e = cc
never_plan_fault plan (Ok checked.PlanFault) old new told e = absurd told
never_plan_fault plan (Err memory) old new told e = cc

-- it is told, whole or in part, or there was no memory for that
pub accepted_check : (plan : Plan) (had has : SourceView) (old new : SinkView) (answer : Result Checked NoMemory) → PlanReading (Ok (planned.Accepted plan)) had has → PlanTold (check_status answer) plan old.got new.got
    → SinkLater old new → CountsBy status.ReportFault (check_status answer) old.faults new.faults → CheckRun had has old new (check_status answer)
accepted_check plan had has old new answer r told later counts = record {
  text = r.text;
  read = r.read;
  most = r.most;
  all = told_read plan r.text had has answer old.got new.got told r.all;
  ends = told_ends plan r.text answer old.got new.got r.says.0 told;
  plan = r.later;
  plan_counts = record { fault = λ e. absurd (never_plan_fault plan answer old.got new.got told e); calm = λ _. r.counts.calm done_is_none };
  report = later;
  report_counts = counts;
}
  where
    done_is_none : status.Done ≢ status.PlanFault
    done_is_none e = cc
