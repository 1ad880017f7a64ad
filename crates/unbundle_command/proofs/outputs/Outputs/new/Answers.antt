use Rattle.unbundle_command.proofs.Holding.{outputs_none}
use Rattle.unbundle_command.proofs.outputs.Outputs.new.Goals as goal

pub returns : goal.returns
returns c = λ first. outputs_none first c.in_ok-new_channels.field-0.items c.in_ok-new_channels.ensures
