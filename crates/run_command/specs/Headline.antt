-- Believed: the headline, of each connection of a plan that `run` carried, by what is seen of the places before and
-- after the call: no connection touches another, and where its bytes come unharmed they leave the same.
use Rattle.std.specs.Prelude.{◌≡◌, ℕ, false, List, Ok}
use Rattle.std.specs.List.{Contains}
use Rattle.otn_base.specs.declared.kind.PortName.{PortName}
use Rattle.port_base.specs.Bytes.{before}
use Rattle.plan_file.specs.Answer.{plan_of_text}
use Rattle.plan_file.specs.declared.connection.Connection.{Connection}
use Rattle.plan_file.specs.declared.plan.Plan.{Plan}
use Rattle.device_model.specs.Moments.{uses}
use Rattle.device_model.specs.RunLeft.{SamePlace}
use Rattle.run_laws.specs.SeenRuns.{Run, ShareInput, SameOutput, ShareInputUpTo, SameOutputUpTo, PutThrough, CarriesOver}
use Rattle.command_base.specs.Device.{Device}
use Rattle.check_command.specs.PlanReading.{IsAll}
use Rattle.run_command.specs.RunAnswers.{PlanRan, RunAnswers}
use Rattle.run_command.specs.RunCalls.{CarriesPlan}
use Rattle.command_base.specs.declared.status.Status.{Status}

-- A call of `run` that carried this plan, over places that were seen so before it and after it. The plan is what the
-- text means that was read of its source, all of it. What else the call answers for (`answers`) is `run`'s own clause
-- of that name, which all its calls meet: nothing here looks into it.
pub record Ran (run : Run) : Type 0 where
  pub old : Device
  pub new : Device
  pub was : old.bays ≡ run.before
  pub is : new.bays ≡ run.after
  -- the text of the plan
  pub text : List ℕ
  pub read : old.plan.left ≡ before text new.plan.left
  pub whole : IsAll text new.plan
  pub is_plan : plan_of_text text ≡ Ok run.plan
  -- the answer, and all that is answered for
  pub reply : Status
  pub carries : CarriesPlan reply
  pub asked : ℕ
  pub asked_now : ℕ
  pub answers : RunAnswers old new asked asked_now reply
  pub of_text : answers.text ≡ text

-- Each call of `run` that answered Done, Unfinished, Cut or ReportFault is one, of the plan that the text means that
-- was read of its source: of the very text for which the call answers, also where the source tells nothing.
abbrev pub IsOfAPlan : Type 0
IsOfAPlan = (old new : Device) (asked now : ℕ) (reply : Status) → (answers : RunAnswers old new asked now reply)
    → CarriesPlan reply
    → (plan : Plan) × (ran : Ran (record { plan = plan; before = old.bays; after = new.bays })) × (ran.old ≡ old)
    × (ran.new ≡ new) × (ran.text ≡ answers.text)

-- Of one plan: the plan that the text means is the one that the call carried, and by which it wrote its report.
abbrev pub HasCarriedIt : Type 0
HasCarriedIt = (run : Run) (ran : Ran run) → PlanRan run.plan ran.old ran.new ran.asked ran.asked_now ran.reply

-- Isolated: where two calls share a connection (with its stop and its lines' kinds), and agree on what it comes from,
-- the same leaves on it as far as both have gone, whatever other connections, slots, ports, bytes, faults and orders
-- there are.
abbrev pub IsIsolated : Type 0
IsIsolated = (one other : Run) (x : Connection) → Ran one → Ran other → ShareInput one other x → SameOutput one other x

-- Not ahead: where they agree on it in the connection's first n own turns alone, the same leaves on its line up to the
-- frames of own turn n, from 0, and to its client where it has at most n + 1 own turns. So what a line brings behind
-- the connection's stop, and whether it dies there, changes nothing of either.
abbrev pub LooksNotAhead : Type 0
LooksNotAhead = (n : ℕ) (one other : Run) (x : Connection) → Ran one → Ran other → ShareInputUpTo n one other x
    → SameOutputUpTo n one other x

-- Through: to a client went the text that its own entry puts through it of its own input, to a line the line's file:
-- from the front, and all where its place has lived.
abbrev pub IsThrough : Type 0
IsThrough = (run : Run) (x : Connection) → Ran run → Contains run.plan.connections x → PutThrough run x

-- Carried: where its bytes come unharmed they leave the same, three turns later, and of packets exactly those that came
-- whole.
abbrev pub IsCarried : Type 0
IsCarried = (run : Run) (x : Connection) → Ran run → Contains run.plan.connections x → CarriesOver run x

-- Left alone: the place of each port that the plan does not use is seen as it was.
abbrev pub LeavesOthers : Type 0
LeavesOthers = (run : Run) (name : PortName) → Ran run → uses run.plan name ≡ false
    → SamePlace name run.before run.after
