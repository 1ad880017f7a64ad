use Rattle.trial_command.proofs.TrialPlaces.{LastUpTo, text_sink, view}
use Rattle.trial_command.proofs.places.last_places.Given as goal

abbrev pub invariant-loop-c : goal.invariant-loop-c
invariant-loop-c l = LastUpTo l.fn.file.items l.c (view text_sink l.bays)
