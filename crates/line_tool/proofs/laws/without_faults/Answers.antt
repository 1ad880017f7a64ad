use Rattle.check_command.proofs.PlanChecks.{check_complete}
use Rattle.line_tool.proofs.ProtectTable.{protect_complete}
use Rattle.line_commands.proofs.PullTable.{pull_complete}
use Rattle.run_command.proofs.RunLaws.{run_complete, run_ends}
use Rattle.line_commands.proofs.SlotTable.{slot_complete}
use Rattle.line_tool.proofs.TrialEnds.{trial_complete}
use Rattle.line_tool.proofs.BundleTable.{bundle_complete}
use Rattle.line_tool.proofs.UnbundleTable.{unbundle_complete}
use Rattle.line_tool.proofs.laws.without_faults.Goals as goal

pub returns-clause-slot : goal.returns-clause-slot
returns-clause-slot c = λ slot old new answer. slot_complete answer slot old new

pub returns-clause-pull : goal.returns-clause-pull
returns-clause-pull c = λ own old new answer. pull_complete answer own old new

pub returns-clause-check : goal.returns-clause-check
returns-clause-check c = λ old new answer. check_complete answer old new

pub returns-clause-run : goal.returns-clause-run
returns-clause-run c = λ old new asked now reply. run_complete reply old new asked now

pub returns-clause-ends : goal.returns-clause-ends
returns-clause-ends c = run_ends

pub returns-clause-protect : goal.returns-clause-protect
returns-clause-protect c = protect_complete

pub returns-clause-bundle : goal.returns-clause-bundle
returns-clause-bundle c = bundle_complete

pub returns-clause-unbundle : goal.returns-clause-unbundle
returns-clause-unbundle c = unbundle_complete

pub returns-clause-trial : goal.returns-clause-trial
returns-clause-trial c = λ number old new asked now answer. trial_complete answer number old new asked now
