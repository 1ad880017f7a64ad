use Rattle.std.proofs.Common.{arith}
use Rattle.gfp_scrambler.proofs.NextWord.{scrambled_next}
use Rattle.gfp_scrambler.proofs.scrambler.scramble_next.Goals as goal

pub returns-clause-bytes : goal.returns-clause-bytes
returns-clause-bytes c = (scrambled_next c.args.last c.args.word c.args.next (omega arith) (omega arith)).bytes

pub returns-clause-register : goal.returns-clause-register
returns-clause-register c = (scrambled_next c.args.last c.args.word c.args.next (omega arith) (omega arith)).last
