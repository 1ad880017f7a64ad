use Rattle.toml.specs.View.{table_view}
use Rattle.plan_file.specs.Steps.Seen.{top_in}
use Rattle.plan_file.proofs.Sounds.{table_seen}
use Rattle.plan_file.proofs.outline.whole.Outline.of_table.Goals as goal

pub returns : goal.returns
returns c = table_seen (table_view c.args.table.now) (top_in c.of_table-top.result) c.connections.result.now c.of_table-top.ensures c.connections.ensures
