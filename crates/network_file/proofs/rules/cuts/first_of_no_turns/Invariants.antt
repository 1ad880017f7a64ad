use Rattle.std.proofs.Common.{◌≡◌, ◌+◌, drop}
use Rattle.plan_file.specs.Places.{places, places_from}
use Rattle.network_file.specs.Rules.{breaks_turns}
use Rattle.network_file.proofs.rules.cuts.first_of_no_turns.Given as goal

abbrev pub invariant-loop-i : goal.invariant-loop-i
invariant-loop-i l = places breaks_turns l.cuts ≡ places_from (l.i + 1) breaks_turns (drop l.i l.cuts)
