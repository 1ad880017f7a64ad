use Rattle.std.proofs.Common.{◌≡◌, ◌+◌, drop}
use Rattle.plan_file.specs.Places.{places, places_from}
use Rattle.network_file.specs.Rules.{lacks_fibre}
use Rattle.network_file.proofs.rules.cuts.first_without_fibre.Given as goal

abbrev pub invariant-loop-i : goal.invariant-loop-i
invariant-loop-i l = places (lacks_fibre l.count) l.cuts ≡ places_from (l.i + 1) (lacks_fibre l.count) (drop l.i l.cuts)
