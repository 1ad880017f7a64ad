use Rattle.protect_selector.proofs.Carried.{is_apart}
use Rattle.protect_selector.proofs.laws.selected_is_apart.Goals as goal

pub returns : goal.returns
returns c = is_apart
