use Rattle.std.proofs.Common.{◌≡◌, drop}
use Rattle.toml.specs.View.{table_view}
use Rattle.network_file.specs.Places.{first_broken}
use Rattle.network_file.specs.Refusal.{table_place}
use Rattle.network_file.proofs.read.table.first_of.Given as goal

abbrev pub invariant-loop-rule : goal.invariant-loop-rule
invariant-loop-rule l =
    first_broken (table_place (table_view l.top)) l.rules ≡ first_broken (table_place (table_view l.top)) (drop l.rule-index l.rules)
