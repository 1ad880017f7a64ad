use Rattle.std.proofs.Common.{◌∙◌, arith}
use Rattle.crc_small.proofs.Words.{word_looked_up}
use Rattle.crc_small.proofs.steps.word32.Goals as goal

pub returns : goal.returns
returns c = c.look_up.ensures ∙ word_looked_up c.args.register c.args.word (omega arith) (omega arith)
