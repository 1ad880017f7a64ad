use Rattle.gfp_linear.proofs.Arriving.{stays}
use Rattle.gfp_linear.proofs.laws.arrivals_stay.Goals as goal

pub returns : goal.returns
returns c = stays
