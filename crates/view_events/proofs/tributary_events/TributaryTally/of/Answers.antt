use Rattle.std.proofs.Common.{[], ◌∙◌}
use Rattle.view_events.proofs.tributary_events.TributaryTally.of.Goals as goal

pub returns : goal.returns
returns c = record {
  counts = c.take.ensures.counts [] c.new-tally.ensures.counts;
  first = c.take.ensures.first ∙ c.new-tally.ensures.first;
}
