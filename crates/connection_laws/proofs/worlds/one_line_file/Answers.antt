use Rattle.std.proofs.Common.{rules}
use Rattle.connection_laws.proofs.OneFile.{one_file, one_file_for_its_inputs}
use Rattle.connection_laws.proofs.worlds.one_line_file.Goals as goal

pub returns-clause-plan : goal.returns-clause-plan
returns-clause-plan c = search (rules, one_file)

pub returns-clause-inputs : goal.returns-clause-inputs
returns-clause-inputs c = search (rules, one_file_for_its_inputs)
