use Rattle.protect_selector.proofs.Carried.{stays_while_carried, carries_two_later}
use Rattle.protect_selector.proofs.laws.protects_what_is_carried.Goals as goal

pub returns-clause-stays : goal.returns-clause-stays
returns-clause-stays c = stays_while_carried

pub returns-clause-carries : goal.returns-clause-carries
returns-clause-carries c = carries_two_later
