use Rattle.line_tool.proofs.ProtectTable.{what_was_given}
use Rattle.line_tool.proofs.laws.protect_of_given.Goals as goal

pub returns : goal.returns
returns c = what_was_given
