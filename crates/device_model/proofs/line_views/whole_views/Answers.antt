use Rattle.std.proofs.Common.{rules}
use Rattle.device_model.proofs.LineViews.{whole_at}
use Rattle.device_model.proofs.line_views.whole_views.Goals as goal

pub returns : goal.returns
returns c = search (rules, whole_at)
