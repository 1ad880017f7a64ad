-- The headline, by what is seen of the places before and after a call.
use Rattle.std.proofs.Common.{◌≡◌, ℕ, false, List, Ok, ap, ◌∙◌, refl, subst}
use Rattle.std.specs.List.{Contains}
use Rattle.otn_base.specs.declared.kind.PortName.{PortName}
use Rattle.port_base.specs.PortViews.{SourceView}
use Rattle.plan_file.specs.Answer.{plan_of_text}
use Rattle.plan_file.specs.declared.connection.Connection.{Connection}
use Rattle.plan_file.specs.declared.plan.Plan.{Plan}
use Rattle.device_model.specs.Moments.{uses}
use Rattle.device_model.specs.RunLeft.{RunLeft, SamePlace}
use Rattle.run_laws.specs.SeenRuns.{Run, IsRun, ShareInput, SameOutput, ShareInputUpTo, SameOutputUpTo, PutThrough, CarriesOver}
use Rattle.run_laws.proofs.SeenRuns.{seen_alike, not_ahead as seen_not_ahead, puts_through, carries_over}
use Rattle.command_base.specs.Device.{Device}
use Rattle.check_command.specs.PlanReading.{IsAll, WasRead}
use Rattle.run_command.specs.Headline.{Ran}
use Rattle.run_command.specs.RunAnswers.{PlanRan, RunAnswers}
use Rattle.run_command.specs.RunCalls.{CarriesPlan}
use Rattle.command_base.specs.declared.status.Status.{Status}
use Rattle.command_base.specs.declared.status.Status.TheVariants as status
use Rattle.run_command.proofs.RunCalls.{accepted_plan, run_carries, same_answer}

-- ---- a call of a plan

-- all of the source was read
pub all_read : (reply : Status) (text : List ℕ) (old new : SourceView) → CarriesPlan reply → WasRead reply text old new → IsAll text new
all_read status.Done text old new carries was = was
all_read status.Unfinished text old new carries was = was
all_read status.Cut text old new carries was = was
all_read status.ReportFault text old new carries was = was
all_read status.Words text old new carries was = absurd carries
all_read status.PlanFault text old new carries was = absurd carries
all_read (status.Plan error place) text old new carries was = absurd carries
all_read status.Memory text old new carries was = absurd carries

-- a call of the plan of the text that it read
abbrev pub ran_of : (plan : Plan) (reply : Status) (old new : Device) (asked now : ℕ) → (answers : RunAnswers old new asked now reply) → CarriesPlan reply → plan_of_text answers.text ≡ Ok plan
    → Ran (record { plan = plan; before = old.bays; after = new.bays })
ran_of plan reply old new asked now answers carries is_plan = record {
  old = old;
  new = new;
  was = refl;
  is = refl;
  text = answers.text;
  read = answers.read;
  whole = all_read reply answers.text old.plan new.plan carries answers.all;
  is_plan = is_plan;
  reply = reply;
  carries = carries;
  asked = asked;
  asked_now = now;
  answers = answers;
  of_text = refl;
}

pub of_a_plan : (reply : Status) (old new : Device) (asked now : ℕ) → (answers : RunAnswers old new asked now reply) → CarriesPlan reply
    → (plan : Plan) × (ran : Ran (record { plan = plan; before = old.bays; after = new.bays })) × (ran.old ≡ old) × (ran.new ≡ new) × (ran.text ≡ answers.text)
of_a_plan reply old new asked now answers carries =
    let r = run_carries reply old new asked now answers carries in
    (r.0, ran_of r.0 reply old new asked now answers carries r.2, refl, refl, refl)

-- the text for which it answers is the one that was read
one_text : (run : Run) (r : Ran run) → r.answers.text ≡ r.text
one_text run r = cc

-- so the plan that this means is the one that it carried
pub carried_it : (run : Run) (r : Ran run) → PlanRan run.plan r.old r.new r.asked r.asked_now r.reply
carried_it run r =
    let p = run_carries r.reply r.old r.new r.asked r.asked_now r.answers r.carries in
    let same : p.0 ≡ run.plan = same_answer (plan_of_text r.answers.text) p.0 run.plan p.2 (ap plan_of_text (one_text run r) ∙ r.is_plan) in
    subst (λ plan. PlanRan plan r.old r.new r.asked r.asked_now r.reply) same p.1

-- what it left
pub left_by : (run : Run) (r : Ran run) → IsRun run
left_by run r =
    let ran = carried_it run r in
    record {
      accepted = accepted_plan r.text run.plan r.is_plan;
      takings = ran.takings;
      numbers = ran.numbers;
      left = subst (λ bays. RunLeft run.plan run.before bays ran.takings ran.numbers) r.is (subst (λ bays. RunLeft run.plan bays r.new.bays ran.takings ran.numbers) r.was ran.left);
    }

-- ---- what left

pub isolated : (one other : Run) (x : Connection) → Ran one → Ran other → ShareInput one other x → SameOutput one other x
isolated one other x first second share = seen_alike one other x (left_by one first) (left_by other second) share

pub not_ahead : (n : ℕ) (one other : Run) (x : Connection) → Ran one → Ran other → ShareInputUpTo n one other x → SameOutputUpTo n one other x
not_ahead n one other x first second share = seen_not_ahead n one other x (left_by one first) (left_by other second) share

pub is_through : (run : Run) (x : Connection) → Ran run → Contains run.plan.connections x → PutThrough run x
is_through run x ran has = puts_through run x (left_by run ran) has

pub is_carried : (run : Run) (x : Connection) → Ran run → Contains run.plan.connections x → CarriesOver run x
is_carried run x ran has = carries_over run x (left_by run ran) has

pub leaves_others : (run : Run) (name : PortName) → Ran run → uses run.plan name ≡ false → SamePlace name run.before run.after
leaves_others run name ran unused = (left_by run ran).left.idle name unused
