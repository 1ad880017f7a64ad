use Rattle.std.proofs.Common.{arith}
use Rattle.gfp_scrambler.proofs.EightBytes.{descrambled_word}
use Rattle.gfp_scrambler.proofs.descrambler.descramble_word.Goals as goal

pub returns-clause-bytes : goal.returns-clause-bytes
returns-clause-bytes c = (descrambled_word c.args.register c.args.word c.requires (omega arith)).bytes

pub returns-clause-register : goal.returns-clause-register
returns-clause-register c = (descrambled_word c.args.register c.args.word c.requires (omega arith)).last
