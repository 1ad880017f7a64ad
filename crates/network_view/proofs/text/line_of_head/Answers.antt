use Rattle.std.proofs.Common.{append_assoc}
use Rattle.network_view.specs.NetworkText.{head_line}
use Rattle.network_view.proofs.text.line_of_head.Goals as goal

pub returns : goal.returns
unfolding head_line
returns c = rw (c.in_ok-format.ensures.ok, c.plans.ensures, c.fibres.ensures, c.requires) (simp append_assoc)
