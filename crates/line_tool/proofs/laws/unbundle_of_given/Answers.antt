use Rattle.line_tool.proofs.UnbundleTable.{what_was_unbundled}
use Rattle.line_tool.proofs.laws.unbundle_of_given.Goals as goal

pub returns : goal.returns
returns c = what_was_unbundled
