-- API: how `run` goes, and what the top call then answers.
use Rattle.std.specs.Prelude.{Result, Ok, Err}
use Rattle.otn_base.specs.declared.memory.Memory.{Memory as NoMemory}
use Rattle.plan_file.specs.declared.plan.Plan.{Plan}
use Rattle.run_command.specs.RunAnswers.{outcome_status}
use Rattle.run_command.specs.declared.plan_run.Ran.{Ran}
use Rattle.run_command.specs.declared.plan_run.Ran.TheVariants as ran
use Rattle.command_base.specs.declared.status.Status.{Status}
use Rattle.command_base.specs.declared.status.Status.TheVariants as status

-- the answer of each ending, and of want of memory
abbrev pub run_status : Result Ran NoMemory → Status
run_status (Ok (ran.Carried outcome)) = outcome_status outcome
run_status (Ok (ran.Refused error place)) = status.Plan error place
run_status (Ok ran.PlanFault) = status.PlanFault
run_status (Ok ran.ReportFault) = status.ReportFault
run_status (Err memory) = status.Memory
