use Rattle.std.proofs.Common.{arith}
use Rattle.gfp_scrambler.proofs.NextWord.{scrambled_after}
use Rattle.gfp_scrambler.proofs.scrambler.scramble_word.Goals as goal

pub returns-clause-bytes : goal.returns-clause-bytes
returns-clause-bytes c = (scrambled_after c.args.last c.args.word (omega arith)).bytes

pub returns-clause-register : goal.returns-clause-register
returns-clause-register c = (scrambled_after c.args.last c.args.word (omega arith)).last
