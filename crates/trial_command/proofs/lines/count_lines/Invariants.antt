use Rattle.std.proofs.Common.{◌≡◌, ◌≤◌, take}
use Rattle.trial_command.specs.Steps.TrialReport.{lines_in}
use Rattle.trial_command.proofs.lines.count_lines.Given as goal

abbrev pub invariant-loop-i : goal.invariant-loop-i
invariant-loop-i l = record { count : l.count ≡ lines_in (take l.i l.text); few : l.count ≤ l.i }
