use Rattle.std.proofs.Common.{refl, arith}
use Rattle.std.proofs.lemmas.Option.{slice_get_read}
use Rattle.port_base.proofs.SameRack.{same_rack}
use Rattle.port_base.proofs.bays.Rack.line_in_mut.Goals as goal

pub returns : goal.returns
returns g c = ((refl, λ w. same_rack _ _ _ _ _ _), record { writes_back = tt; value = slice_get_read _ 4 _ _ (grind arith) c.requires c.index_mut.ensures.value })
