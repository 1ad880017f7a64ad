use Rattle.channel_laws.proofs.ComesOut.{arrives_as_bundled, comes_out, first_come_out}
use Rattle.channel_laws.proofs.Carried.{inputs_are_carried}
use Rattle.channel_laws.proofs.laws.bundled_comes_out.Goals as goal

pub returns-clause-arrives : goal.returns-clause-arrives
returns-clause-arrives c = arrives_as_bundled

pub returns-clause-out : goal.returns-clause-out
returns-clause-out c = comes_out

pub returns-clause-first : goal.returns-clause-first
returns-clause-first c = first_come_out

pub returns-clause-carried : goal.returns-clause-carried
returns-clause-carried c = inputs_are_carried
