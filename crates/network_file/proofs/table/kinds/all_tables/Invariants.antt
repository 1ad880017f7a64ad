use Rattle.std.proofs.Common.{◌≡◌, drop}
use Rattle.toml.specs.View.{items_view}
use Rattle.plan_table.specs.Ends.{is_table}
use Rattle.plan_table.specs.Kinds.{each_item}
use Rattle.network_file.proofs.table.kinds.all_tables.Given as goal

abbrev pub invariant-loop-value : goal.invariant-loop-value
invariant-loop-value l = each_item is_table (items_view l.values) ≡ each_item is_table (items_view (drop l.value-index l.values))
