use Rattle.cross_matrix.proofs.build.taking_part.Goals as goal

pub new-requires-clause-low : goal.new-requires-clause-low
new-requires-clause-low c = (c.requires.fit.port c.in-Line.field-0 c.in-Line.port c.in-Line.slots c.in-Line.is).0
