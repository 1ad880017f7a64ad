use Rattle.std.proofs.Common.{[]}
use Rattle.gfp_scrambler.proofs.Rules.{sent_on, plain_on, none_sent, none_taken}
use Rattle.gfp_scrambler.proofs.laws.is_the_bit_rule.Goals as goal

pub returns-clause-sent : goal.returns-clause-sent
returns-clause-sent c = λ plain bytes. (sent_on [] [] plain 0 none_sent bytes).rule

pub returns-clause-plain : goal.returns-clause-plain
returns-clause-plain c = λ got bytes. (plain_on [] [] got 0 none_taken bytes).rule
