-- How a plan that was carried ended, by how the write of its report went.
use Rattle.std.proofs.Common.{◌≡◌, ◌≢◌, ◌<◌, ℕ, List, Option, length, take, refl, sym, ap, subst, Result, Ok, Err, IfOk, IfErr, inr}
use Rattle.port_base.specs.Bytes.{after, raised, HasFailed}
use Rattle.otn_base.specs.declared.memory.Memory.{Memory as NoMemory}
use Rattle.port_base.specs.PortViews.{SourceView, SinkGot, SinkLater, SinkView}
use Rattle.port_base.specs.Views.{BaysView}
use Rattle.port_base.proofs.PortLaws.{sink_later_none}
use Rattle.plan_file.specs.Answer.{plan_of_text}
use Rattle.plan_file.specs.declared.plan.Plan.{Plan}
use Rattle.device_model.specs.Report.{Numbers, report_text}
use Rattle.device_model.specs.declared.outcome.Outcome.{Outcome}
use Rattle.device_model.specs.declared.outcome.Outcome.TheVariants as outcome
use Rattle.device_model.specs.RunLeft.{Takings, RunLeft}
use Rattle.check_command.specs.PlanReading.{WasRead}
use Rattle.command_base.specs.Device.{Device, Stays}
use Rattle.check_command.specs.PlanReading.{PlanReading}
use Rattle.run_command.specs.PlanRuns.{run_status}
use Rattle.run_command.specs.Steps.PlanRuns.{PlanCarried}
use Rattle.run_command.specs.RunAnswers.{PlanRan, RunAnswers, TextRan, outcome_status, pieces_in_all}
use Rattle.command_base.specs.AnswerWords.{IsRefusal, Reports}
use Rattle.run_command.specs.declared.plan_run.Ran.{Ran}
use Rattle.run_command.specs.declared.plan_run.Ran.TheVariants as ran
use Rattle.check_command.specs.declared.plan_text.Planned.TheVariants as planned
use Rattle.command_base.specs.declared.status.Status.TheVariants as status

-- no outcome is that a write of the report failed
never_fault : (o : Outcome) → outcome_status o ≢ status.ReportFault
never_fault outcome.Done e = cc
never_fault outcome.Unfinished e = cc
never_fault outcome.Cut e = cc

whole : (o : Outcome) (old new : Option (List ℕ)) (bytes : List ℕ) → new ≡ after old bytes → Reports (outcome_status o) old new bytes
whole outcome.Done old new bytes h = h
whole outcome.Unfinished old new bytes h = h
whole outcome.Cut old new bytes h = h

pub carried_whole : (plan : Plan) (first last : BaysView) (old new : SinkView) (asked now : ℕ) (takings : Takings) (numbers : Numbers) → RunLeft plan first last takings numbers
    → SinkGot old (report_text plan numbers last) new × (new.faults ≡ old.faults) → now ≡ raised asked (pieces_in_all plan) → PlanCarried plan first last old new asked now (ran.Carried numbers.outcome)
carried_whole plan first last old new asked now takings numbers left wrote each = record {
  takings = takings;
  numbers = numbers;
  left = left;
  wrote = whole numbers.outcome old.got new.got (report_text plan numbers last) wrote.0.got;
  later = (report_text plan numbers last, wrote.0);
  counts = record { fault = λ e. absurd (never_fault numbers.outcome e); calm = λ _. wrote.1 };
  ends = refl;
  asked_each = each;
}

pub carried_lost : (plan : Plan) (first last : BaysView) (old new : SinkView) (asked now : ℕ) (takings : Takings) (numbers : Numbers) → RunLeft plan first last takings numbers
    → (n : ℕ) × (n < length (report_text plan numbers last)) × SinkGot old (take n (report_text plan numbers last)) new × HasFailed old.faults new.faults → now ≡ raised asked (pieces_in_all plan)
    → PlanCarried plan first last old new asked now ran.ReportFault
carried_lost plan first last old new asked now takings numbers left wrote each = record {
  takings = takings;
  numbers = numbers;
  left = left;
  wrote = record { written = wrote.0; part = wrote.1; gained = wrote.2.got };
  later = (take wrote.0 (report_text plan numbers last), wrote.2);
  counts = record { fault = λ e. wrote.3; calm = λ no. absurd (no refl) };
  ends = tt;
  asked_each = each;
}

-- ---- a run whose plan was accepted

plan_ran : (plan : Plan) (old new : Device) (asked now : ℕ) (answer : Ran) → (h : PlanCarried plan old.bays new.bays old.report new.report asked now answer)
    → (run_status (Ok answer) ≢ status.ReportFault → run_status (Ok answer) ≡ outcome_status h.numbers.outcome) → PlanRan plan old new asked now (run_status (Ok answer))
plan_ran plan old new asked now answer h ends = record { takings = h.takings; numbers = h.numbers; left = h.left; wrote = h.wrote; answer = ends; asked_each = h.asked_each }

text_ran : (plan : Plan) (text : List ℕ) (old new : Device) (asked now : ℕ) (answer : Ran) → plan_of_text text ≡ Ok plan → PlanCarried plan old.bays new.bays old.report new.report asked now answer
    → TextRan (run_status (Ok answer)) text old new asked now
text_ran plan text old new asked now (ran.Carried outcome.Done) says h = (plan, says, plan_ran plan old new asked now (ran.Carried outcome.Done) h (λ _. ap outcome_status h.ends))
text_ran plan text old new asked now (ran.Carried outcome.Unfinished) says h = (plan, says, plan_ran plan old new asked now (ran.Carried outcome.Unfinished) h (λ _. ap outcome_status h.ends))
text_ran plan text old new asked now (ran.Carried outcome.Cut) says h = (plan, says, plan_ran plan old new asked now (ran.Carried outcome.Cut) h (λ _. ap outcome_status h.ends))
text_ran plan text old new asked now ran.ReportFault says h = (plan, says, plan_ran plan old new asked now ran.ReportFault h (λ no. absurd (no refl)))
text_ran plan text old new asked now (ran.Refused error place) says h = absurd h.ends
text_ran plan text old new asked now ran.PlanFault says h = absurd h.ends

-- all that there is was read
was_read : (outcome : Outcome) (text : List ℕ) (had source : SourceView) → WasRead status.Done text had source → WasRead (outcome_status outcome) text had source
was_read outcome.Done text had source h = h
was_read outcome.Unfinished text had source h = h
was_read outcome.Cut text had source h = h

read_for : (plan : Plan) (old new : SinkView) (first last : BaysView) (asked now : ℕ) (answer : Ran) (text : List ℕ) (had source : SourceView) → PlanCarried plan first last old new asked now answer
    → WasRead status.Done text had source → WasRead (run_status (Ok answer)) text had source
read_for plan old new first last asked now (ran.Carried outcome) text had source h all = was_read outcome text had source all
read_for plan old new first last asked now ran.ReportFault text had source h all = all
read_for plan old new first last asked now (ran.Refused error place) text had source h all = absurd h.ends
read_for plan old new first last asked now ran.PlanFault text had source h all = absurd h.ends

no_plan_fault : (plan : Plan) (old new : SinkView) (first last : BaysView) (asked now : ℕ) (answer : Ran) → PlanCarried plan first last old new asked now answer → run_status (Ok answer) ≢ status.PlanFault
no_plan_fault plan old new first last asked now (ran.Carried outcome.Done) h e = cc
no_plan_fault plan old new first last asked now (ran.Carried outcome.Unfinished) h e = cc
no_plan_fault plan old new first last asked now (ran.Carried outcome.Cut) h e = cc
no_plan_fault plan old new first last asked now ran.ReportFault h e = cc
no_plan_fault plan old new first last asked now (ran.Refused error place) h e = absurd h.ends
no_plan_fault plan old new first last asked now ran.PlanFault h e = absurd h.ends

no_refusal : (plan : Plan) (old new : SinkView) (first last : BaysView) (asked now : ℕ) (answer : Ran) → PlanCarried plan first last old new asked now answer → IsRefusal (run_status (Ok answer)) → ⊥
no_refusal plan old new first last asked now (ran.Carried outcome.Done) h refusal = refusal
no_refusal plan old new first last asked now (ran.Carried outcome.Unfinished) h refusal = refusal
no_refusal plan old new first last asked now (ran.Carried outcome.Cut) h refusal = refusal
no_refusal plan old new first last asked now ran.ReportFault h refusal = refusal
no_refusal plan old new first last asked now (ran.Refused error place) h refusal = h.ends
no_refusal plan old new first last asked now ran.PlanFault h refusal = h.ends

done_is_none : status.Done ≢ status.PlanFault
done_is_none e = cc

pub accepted_ran : (plan : Plan) (old new : Device) (asked now : ℕ) (result : Result Ran NoMemory) → PlanReading (Ok (planned.Accepted plan)) old.plan new.plan
    → IfErr result (λ _. (new.report ≡ old.report) × (now ≡ asked))
    → IfOk result (PlanCarried plan old.bays new.bays old.report new.report asked now) → RunAnswers old new asked now (run_status result)
accepted_ran plan old new asked now (Ok answer) r same h = record {
  text = r.text;
  read = r.read;
  most = r.most;
  all = read_for plan old.report new.report old.bays new.bays asked now answer r.text old.plan new.plan h r.all;
  ran = text_ran plan r.text old new asked now answer r.says.0 h;
  plan_counts = record { fault = λ e. absurd (no_plan_fault plan old.report new.report old.bays new.bays asked now answer h e); calm = λ _. r.counts.calm done_is_none };
  report_counts = h.counts;
  unasked = λ refusal. absurd (no_refusal plan old.report new.report old.bays new.bays asked now answer h refusal);
}
accepted_ran plan old new asked now (Err memory) r same h = record {
  text = r.text;
  read = r.read;
  most = r.most;
  all = inr r.all;
  ran = tt;
  plan_counts = record { fault = λ e. absurd (cc); calm = λ _. r.counts.calm done_is_none };
  report_counts = record { fault = λ e. absurd (cc); calm = λ _. ap (λ (v : SinkView). v.faults) same.0 };
  unasked = λ _. same.1;
}

pub accepted_stays : (plan : Plan) (old new : Device) (asked now : ℕ) (result : Result Ran NoMemory) → PlanReading (Ok (planned.Accepted plan)) old.plan new.plan
    → IfErr result (λ _. (new.report ≡ old.report) × (now ≡ asked))
    → IfOk result (PlanCarried plan old.bays new.bays old.report new.report asked now) → Stays old new
accepted_stays plan old new asked now (Ok answer) r same h = record { plan = r.later; report = h.later }
accepted_stays plan old new asked now (Err memory) r same h = record { plan = r.later; report = subst (SinkLater old.report) (sym same.0) (sink_later_none old.report) }
