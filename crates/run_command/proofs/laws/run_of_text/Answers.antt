use Rattle.run_command.proofs.RunLaws.{run_told}
use Rattle.run_command.proofs.laws.run_of_text.Goals as goal

pub returns : goal.returns
returns c = λ text old new asked now reply. run_told reply text old new asked now
