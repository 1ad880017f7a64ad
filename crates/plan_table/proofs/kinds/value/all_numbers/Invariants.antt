use Rattle.std.proofs.Common.{◌≡◌, drop}
use Rattle.toml.specs.View.{items_view}
use Rattle.plan_table.specs.Kinds.{is_number, each_item}
use Rattle.plan_table.proofs.kinds.value.all_numbers.Given as goal

abbrev pub invariant-loop-value : goal.invariant-loop-value
invariant-loop-value l = each_item is_number (items_view l.values) ≡ each_item is_number (items_view (drop l.value-index l.values))
