use Rattle.network_file.proofs.Sounds.{are_at_lines, are_in_range}
use Rattle.network_file.proofs.read.file.sound_file.Goals as goal

pub numbered-requires-clause-lines : goal.numbered-requires-clause-lines
numbered-requires-clause-lines c = are_at_lines c.args.outline.now c.requires

pub numbered-requires-clause-cuts : goal.numbered-requires-clause-cuts
numbered-requires-clause-cuts c = are_in_range c.args.outline.now c.requires
