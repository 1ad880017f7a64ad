-- Believed: calls of `run` that carried a plan, whatever their inputs may have been, also where no port tells its
-- bytes: what went to their outputs, by what the calls themselves say of it. `Headline` says the same by what is seen
-- of the places.
use Rattle.std.specs.Prelude.{◌≡◌, ℕ, List, Ok}
use Rattle.std.specs.List.{Contains}
use Rattle.plan_file.specs.Answer.{plan_of_text}
use Rattle.plan_file.specs.declared.connection.Connection.{Connection}
use Rattle.plan_file.specs.declared.plan.Plan.{Plan}
use Rattle.device_model.specs.Inputs.{AreInputs}
use Rattle.device_model.specs.Numbers.{OutputBytes}
use Rattle.device_model.specs.Through.{Inputs}
use Rattle.run_laws.specs.GivenRuns.{TellsAvailable}
use Rattle.device_model.specs.RunLeft.{MayBeInputs}
use Rattle.run_laws.specs.RunsAlike.{World, ShareOne, LeftAlike}
use Rattle.run_laws.specs.RunsThrough.{LeftThrough, CarriedIn}
use Rattle.command_base.specs.Device.{Device}
use Rattle.run_command.specs.RunAnswers.{PlanRan, RunAnswers}
use Rattle.command_base.specs.declared.status.Status.{Status}
use Rattle.command_base.specs.declared.status.Status.TheVariants as status

-- ---- calls

-- a call of `run`: the text of its plan and the plan, all that it was handed before and after, how often its chooser
-- had been asked before and after, its answer, and what its inputs may have been
pub record Call : Type 0 where
  pub text : List ℕ
  pub plan : Plan
  pub old : Device
  pub new : Device
  pub asked : ℕ
  pub asked_now : ℕ
  pub reply : Status
  pub inputs : Inputs

-- it carried the plan, which is that of its text, and its inputs may be these
pub record HasCarried (call : Call) : Type 0 where
  pub is_plan : plan_of_text call.text ≡ Ok call.plan
  pub ran : PlanRan call.plan call.old call.new call.asked call.asked_now call.reply
  pub may_be : MayBeInputs call.plan call.old.bays call.new.bays ran.takings call.inputs

-- the answers after which a plan was carried
abbrev pub CarriesPlan : Status → Type 0
CarriesPlan status.Done = Unit {0}
CarriesPlan status.Unfinished = Unit {0}
CarriesPlan status.Cut = Unit {0}
CarriesPlan status.ReportFault = Unit {0}
CarriesPlan status.Words = ⊥
CarriesPlan status.PlanFault = ⊥
CarriesPlan (status.Plan error place) = ⊥
CarriesPlan status.Memory = ⊥

-- After these `run` has carried the plan of the text that was read, and where its inputs tell their bytes, what they
-- gave is among what they may have been.
abbrev pub HasRunItsPlan : Type 0
HasRunItsPlan = (old new : Device) (asked now : ℕ) (reply : Status) → (answers : RunAnswers old new asked now reply)
    → CarriesPlan reply
    → (plan : Plan) × (ran : PlanRan plan old new asked now reply) × (plan_of_text answers.text ≡ Ok plan)
    × ((inputs : Inputs) → TellsAvailable plan old.bays new.bays → AreInputs plan old.bays new.bays inputs
    → MayBeInputs plan old.bays new.bays ran.takings inputs)

-- ---- what they left

-- the run of a call, and what went to its outputs
abbrev pub world_of : (call : Call) → HasCarried call → World
world_of call has = record {
  plan = call.plan;
  first = call.old.bays;
  last = call.new.bays;
  takings = has.ran.takings;
  numbers = has.ran.numbers;
  inputs = call.inputs;
}

abbrev pub bytes_of_call : (call : Call) → HasCarried call → OutputBytes
bytes_of_call call has = (has.ran.left.of_inputs call.inputs has.may_be).written

-- Isolated: where two calls share a connection, and their inputs agree on what it comes from, what leaves on it is the
-- same as far as both have gone, whatever other connections, slots, ports, faults and orders there are.
abbrev pub CallsAreIsolated : Type 0
CallsAreIsolated = (one other : Call) (x : Connection) (first : HasCarried one)
    (second : HasCarried other) → ShareOne (world_of one first) (world_of other second) x
    → LeftAlike (world_of one first) (world_of other second) (bytes_of_call one first) (bytes_of_call other second) x

-- Through: to a client went the text that its own entry puts through it of its own input, to a line the line's file:
-- from the front, and all where its place has lived.
abbrev pub CallsPutThrough : Type 0
CallsPutThrough = (call : Call) (x : Connection) (has : HasCarried call) → Contains call.plan.connections x
    → LeftThrough (world_of call has) (bytes_of_call call has) x

-- Carried: where its bytes come unharmed they leave the same, three turns later, and of packets exactly those that came
-- whole.
abbrev pub CallsCarry : Type 0
CallsCarry = (call : Call) (x : Connection) (has : HasCarried call) → Contains call.plan.connections x
    → CarriedIn (world_of call has) (bytes_of_call call has) x
