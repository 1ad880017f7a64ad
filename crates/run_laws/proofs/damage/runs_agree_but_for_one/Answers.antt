use Rattle.std.proofs.Common.{rules}
use Rattle.run_laws.proofs.RunsDamaged.{agree_but_for_one}
use Rattle.run_laws.proofs.damage.runs_agree_but_for_one.Goals as goal

pub returns : goal.returns
returns c = search (rules, agree_but_for_one)
