-- API: how the program ends: with a status, and with a line on standard error where that is not 0.
use Rattle.std.specs.Prelude.{ℕ, List, ◌++◌, codes, string_bytes}
use Rattle.command_base.specs.Codes.{code_of}
use Rattle.command_base.specs.StatusText.{status_text}
use Rattle.otn_view.specs.declared.outcome.Outcome.{Outcome}
use Rattle.otn_view.specs.declared.outcome.Outcome.TheVariants.{Ended, NoFile}

-- the exit status: that of a command, and one of its own where there is no such file
abbrev pub outcome_code : Outcome → ℕ
outcome_code (Ended status) = code_of status
outcome_code (NoFile name) = 8

-- what is complained of: a file that is not there by its name
abbrev pub outcome_text : Outcome → List ℕ
outcome_text (Ended status) = status_text status
outcome_text (NoFile name) = string_bytes name ++ codes ": no such file"
