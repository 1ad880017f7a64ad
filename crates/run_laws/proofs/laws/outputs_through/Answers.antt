use Rattle.std.proofs.Common.{rules}
use Rattle.run_laws.proofs.RunsThrough.{left_through}
use Rattle.run_laws.proofs.laws.outputs_through.Goals as goal

pub returns : goal.returns
returns c = search (rules, left_through)
