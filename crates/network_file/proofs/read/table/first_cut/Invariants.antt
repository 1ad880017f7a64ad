use Rattle.std.proofs.Common.{◌≡◌, ◌+◌, drop, map}
use Rattle.toml.specs.View.{view}
use Rattle.plan_file.specs.Places.{places, places_from}
use Rattle.network_file.specs.Refusal.{breaks_cut}
use Rattle.network_file.proofs.read.table.first_cut.Given as goal

abbrev pub invariant-loop-i : goal.invariant-loop-i
invariant-loop-i l =
    places (breaks_cut l.rule) (map view l.cuts) ≡ places_from (l.i + 1) (breaks_cut l.rule) (drop l.i (map view l.cuts))
