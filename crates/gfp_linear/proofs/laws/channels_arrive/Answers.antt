use Rattle.gfp_linear.proofs.Arriving.{channels_arrive, each_arrives, first_arrive, others_make_none}
use Rattle.gfp_linear.proofs.laws.channels_arrive.Goals as goal

pub returns-clause-all : goal.returns-clause-all
returns-clause-all c = channels_arrive

pub returns-clause-each : goal.returns-clause-each
returns-clause-each c = each_arrives

pub returns-clause-first : goal.returns-clause-first
returns-clause-first c = first_arrive

pub returns-clause-alone : goal.returns-clause-alone
returns-clause-alone c = others_make_none
