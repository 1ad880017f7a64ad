use Rattle.std.proofs.Common.{◌≡◌}
use Rattle.number_order.specs.NumberOrder.{generator_after, order_word}
use Rattle.trial_plans.specs.TrialDraw.{client_place}
use Rattle.trial_command.proofs.TrialPlaces.{FirstUpTo, file_sink, view}
use Rattle.trial_command.proofs.places.first_places.Given as goal

abbrev pub invariant-loop-c : goal.invariant-loop-c
invariant-loop-c l = record {
  drawn : l.generator ≡ generator_after l.number (client_place (order_word l.number) l.c);
  stand : FirstUpTo l.number l.c (view file_sink l.bays);
}
