use Rattle.unbundle_command.proofs.Apart.{arrived_apart}
use Rattle.unbundle_command.proofs.laws.unbundled_is_apart.Goals as goal

pub returns : goal.returns
returns c = arrived_apart
