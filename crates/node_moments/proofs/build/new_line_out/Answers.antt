use Rattle.node_moments.proofs.build.new_line_out.Goals as goal

pub returns : goal.returns
returns c = rw (c.kind_by-kind.ensures, c.as_slice.ensures, c.has_number-scrambled.ensures, c.as_slice-2.ensures) at c.new.ensures
