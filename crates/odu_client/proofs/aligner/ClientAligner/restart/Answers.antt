use Rattle.std.proofs.Common.{rules}
use Rattle.odu_client.proofs.Aligning.{fresh_aligned}
use Rattle.odu_client.proofs.aligner.ClientAligner.restart.Goals as goal

pub returns-clause-aligned : goal.returns-clause-aligned
returns-clause-aligned c = fresh_aligned _ (search rules)
