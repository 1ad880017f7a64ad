-- Believed: the numbers that the program ends with.
use Rattle.std.specs.Prelude.{ℕ}
use Rattle.command_base.specs.declared.status.Status.{Status}
use Rattle.command_base.specs.declared.status.Status.TheVariants.{Done, Unfinished, Words, Plan, PlanFault, ReportFault, Cut, Memory}

-- the exit status of each answer
abbrev pub code_of : Status → ℕ
code_of Done = 0
code_of Unfinished = 1
code_of Words = 2
code_of (Plan error place) = 3
code_of PlanFault = 4
code_of ReportFault = 5
code_of Cut = 6
code_of Memory = 7
