use Rattle.odu_path.proofs.check.PathCheck.new.Goals as goal

pub returns : goal.returns
returns c = λ cols. c.new.ensures cols 3 11
