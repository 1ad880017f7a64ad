-- API: the words of an answer, as programs complain of it.
use Rattle.std.specs.Prelude.{ℕ, List, ◌++◌, codes}
use Rattle.std.specs.Fmt.{decimal}
use Rattle.plan_file.specs.Code as rule
use Rattle.command_base.specs.declared.status.Status.{Status}
use Rattle.command_base.specs.declared.status.Status.TheVariants.{Done, Unfinished, Words, Plan, PlanFault, ReportFault, Cut, Memory}

-- of a refused plan the rule that is broken first, by its number, and its place
abbrev pub status_text : Status → List ℕ
status_text Done = codes "done"
status_text Unfinished = codes "unfinished"
status_text Words = codes "words"
status_text (Plan error place) = codes "plan " ++ (decimal (rule.code_of error) ++ (codes " at " ++ decimal place))
status_text PlanFault = codes "plan fault"
status_text ReportFault = codes "report fault"
status_text Cut = codes "cut"
status_text Memory = codes "memory"
