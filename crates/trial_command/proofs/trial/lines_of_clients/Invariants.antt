use Rattle.std.specs.Prelude.{string_bytes}
use Rattle.trial_command.specs.Steps.TrialRuns.{ClientsTold}
use Rattle.trial_command.proofs.TrialPlaces.{text_sink, view}
use Rattle.trial_command.proofs.trial.lines_of_clients.Given as goal

abbrev pub invariant-loop-c : goal.invariant-loop-c
invariant-loop-c l = ClientsTold l.c (view text_sink l.bays) (string_bytes l.lines)
