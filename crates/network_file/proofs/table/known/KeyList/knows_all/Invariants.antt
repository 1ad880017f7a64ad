use Rattle.std.proofs.Common.{◌≡◌}
use Rattle.toml.specs.View.{members_view}
use Rattle.plan_table.specs.Keys.{knows_all}
use Rattle.network_file.specs.Steps.KeyList.{keys_in}
use Rattle.network_file.proofs.table.known.KeyList.knows_all.Given as goal

abbrev pub invariant-loop-key : goal.invariant-loop-key
invariant-loop-key l =
    (goal.iterator-loop-key).can_next l.key-iterator ×
    (goal.iterator-loop-key).is_finite l.key-iterator ×
    (knows_all (keys_in l.self) (members_view l.table.entries) ≡ knows_all (keys_in l.self) (members_view l.key-iterator))
