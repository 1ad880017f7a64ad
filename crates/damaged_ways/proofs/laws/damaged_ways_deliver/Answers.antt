use Rattle.damaged_ways.proofs.Delivered.{delivered}
use Rattle.damaged_ways.proofs.laws.damaged_ways_deliver.Goals as goal

pub returns : goal.returns
returns c = delivered
