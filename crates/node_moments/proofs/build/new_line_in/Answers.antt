use Rattle.node_moments.proofs.build.new_line_in.Goals as goal

pub returns-clause-stands : goal.returns-clause-stands
returns-clause-stands c = rw (c.kind_by-kind.ensures, c.as_slice.ensures, c.has_number-scrambled.ensures, c.as_slice-2.ensures) at c.new.ensures.stands
