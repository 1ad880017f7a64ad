use Rattle.std.proofs.Common.{rules}
use Rattle.device_model.proofs.LineViews.{same_view, same_emitted}
use Rattle.device_model.proofs.line_views.same_views.Goals as goal

pub returns : goal.returns
returns c = λ own one other t is agree. (search (rules, same_view), search (rules, same_emitted))
