-- What calls of `run` left, whatever their inputs may have been.
use Rattle.std.proofs.Common.{◌≡◌, ℕ, List, None, Ok, Result}
use Rattle.std.specs.List.{Contains}
use Rattle.plan_file.specs.Answer.{fault_in, plan_of_text}
use Rattle.plan_file.specs.declared.connection.Connection.{Connection}
use Rattle.plan_file.specs.declared.error.NoPlan.{NoPlan}
use Rattle.plan_file.specs.declared.plan.Plan.{Plan}
use Rattle.plan_file.proofs.Sounds.{accepted_text}
use Rattle.device_model.specs.Inputs.{AreInputs}
use Rattle.device_model.specs.Through.{Inputs}
use Rattle.run_laws.specs.GivenRuns.{TellsAvailable}
use Rattle.device_model.specs.RunLeft.{MayBeInputs}
use Rattle.run_laws.specs.RunsAlike.{IsWorld, ShareOne, LeftAlike}
use Rattle.run_laws.specs.RunsThrough.{LeftThrough, CarriedIn}
use Rattle.run_laws.proofs.GivenRuns.{given_inputs}
use Rattle.run_laws.proofs.RunsAlike.{left_alike}
use Rattle.run_laws.proofs.RunsThrough.{left_through, carried_in}
use Rattle.command_base.specs.Device.{Device}
use Rattle.run_command.specs.RunCalls.{Call, HasCarried, CarriesPlan, world_of, bytes_of_call}
use Rattle.run_command.specs.RunAnswers.{PlanRan, RunAnswers}
use Rattle.command_base.specs.declared.status.Status.{Status}
use Rattle.command_base.specs.declared.status.Status.TheVariants as status

-- ---- the plan is accepted

pub accepted_plan : (text : List ℕ) (plan : Plan) → plan_of_text text ≡ Ok plan → fault_in plan ≡ None
accepted_plan text plan e = accepted_text text plan e

unfoldable pub is_world : (call : Call) (has : HasCarried call) → IsWorld (world_of call has)
is_world call has = record { accepted = accepted_plan call.text call.plan has.is_plan; left = has.ran.left; may_be = has.may_be }

-- an answer is of one plan
pub same_answer : (answer : Result Plan NoPlan) (one other : Plan) → answer ≡ Ok one → answer ≡ Ok other → one ≡ other
same_answer answer one other e f = cc

-- ---- what was carried

carried_plan : (text : List ℕ) (plan : Plan) (old new : Device) (asked now : ℕ) (reply : Status) → plan_of_text text ≡ Ok plan → PlanRan plan old new asked now reply
    → (planned : Plan) × (ran : PlanRan planned old new asked now reply) × (plan_of_text text ≡ Ok planned)
    × ((inputs : Inputs) → TellsAvailable planned old.bays new.bays → AreInputs planned old.bays new.bays inputs → MayBeInputs planned old.bays new.bays ran.takings inputs)
carried_plan text plan old new asked now reply is ran =
    (plan, ran, is, λ inputs has are. given_inputs plan old.bays new.bays ran.takings ran.numbers inputs ran.left has are)

pub run_carries : (reply : Status) (old new : Device) (asked now : ℕ) → (answers : RunAnswers old new asked now reply) → CarriesPlan reply
    → (plan : Plan) × (ran : PlanRan plan old new asked now reply) × (plan_of_text answers.text ≡ Ok plan)
    × ((inputs : Inputs) → TellsAvailable plan old.bays new.bays → AreInputs plan old.bays new.bays inputs → MayBeInputs plan old.bays new.bays ran.takings inputs)
run_carries status.Done old new asked now h is = carried_plan h.text h.ran.0 old new asked now status.Done h.ran.1 h.ran.2
run_carries status.Unfinished old new asked now h is = carried_plan h.text h.ran.0 old new asked now status.Unfinished h.ran.1 h.ran.2
run_carries status.Cut old new asked now h is = carried_plan h.text h.ran.0 old new asked now status.Cut h.ran.1 h.ran.2
run_carries status.ReportFault old new asked now h is = carried_plan h.text h.ran.0 old new asked now status.ReportFault h.ran.1 h.ran.2
run_carries status.Words old new asked now h is = absurd is
run_carries status.PlanFault old new asked now h is = absurd is
run_carries (status.Plan error place) old new asked now h is = absurd is
run_carries status.Memory old new asked now h is = absurd is

-- ---- what left

pub isolated : (one other : Call) (x : Connection) (first : HasCarried one) (second : HasCarried other) → ShareOne (world_of one first) (world_of other second) x
    → LeftAlike (world_of one first) (world_of other second) (bytes_of_call one first) (bytes_of_call other second) x
unfolding is_world
isolated one other x first second share = left_alike (world_of one first) (world_of other second) x (is_world one first) (is_world other second) share

pub is_through : (call : Call) (x : Connection) (has : HasCarried call) → Contains call.plan.connections x → LeftThrough (world_of call has) (bytes_of_call call has) x
unfolding is_world
is_through call x has of = left_through (world_of call has) x (is_world call has) of

pub is_carried : (call : Call) (x : Connection) (has : HasCarried call) → Contains call.plan.connections x → CarriedIn (world_of call has) (bytes_of_call call has) x
unfolding is_world
is_carried call x has of = carried_in (world_of call has) x (is_world call has) of
