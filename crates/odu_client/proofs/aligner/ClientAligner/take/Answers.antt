use Rattle.odu_client.proofs.Aligning.{aligns}
use Rattle.odu_client.proofs.aligner.ClientAligner.take.Goals as goal

pub returns-then-self-clause-aligned : goal.returns-then-self-clause-aligned
returns-then-self-clause-aligned c = λ read h. aligns read _ _ _ _ _ c.search.ensures.goes h

pub returns-clause-aligned : goal.returns-clause-aligned
returns-clause-aligned c = λ read h. aligns read _ _ _ _ _ c.go_on.ensures.goes h
