use Rattle.std.proofs.Common.{rules}
use Rattle.run_laws.proofs.RunsThrough.{carried_in}
use Rattle.run_laws.proofs.laws.runs_carry.Goals as goal

pub returns : goal.returns
returns c = search (rules, carried_in)
