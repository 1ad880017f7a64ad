use Rattle.live_laws.proofs.MayCome.{handed_may_give}
use Rattle.live_laws.proofs.laws.handed_may_give.Goals as goal

pub returns : goal.returns
returns c = handed_may_give
