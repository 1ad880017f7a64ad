use Rattle.line_tool.proofs.BundleTable.{what_was_bundled}
use Rattle.line_tool.proofs.laws.bundle_of_given.Goals as goal

pub returns : goal.returns
returns c = what_was_bundled
