use Rattle.std.proofs.Common.{◌∙◌}
use Rattle.port_base.specs.Racks.{line_outs}
use Rattle.live_node.proofs.Handing.{kept_of}
use Rattle.live_node.proofs.places.line_kept.Goals as goal

pub returns : goal.returns
returns c = c.kept.ensures ∙ kept_of (line_outs c.args.bays.now) c.args.b c.line_out.result.now c.line_out.ensures
