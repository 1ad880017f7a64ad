use Rattle.std.proofs.Common.{refl}
use Rattle.odu_client.proofs.Making.{none_made}
use Rattle.odu_client.proofs.client_overhead.ClientOverhead.new.Goals as goal

pub returns-clause-sent : goal.returns-clause-sent
returns-clause-sent c = c.new.ensures 3824

pub returns-clause-made : goal.returns-clause-made
returns-clause-made c = λ sapi. none_made sapi (record { path = c.new.result; mfas = 0 }) (c.new.ensures 3824) refl
