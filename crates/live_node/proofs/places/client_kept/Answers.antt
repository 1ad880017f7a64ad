use Rattle.std.proofs.Common.{◌∙◌}
use Rattle.port_base.specs.Racks.{client_outs}
use Rattle.live_node.proofs.Handing.{kept_of}
use Rattle.live_node.proofs.places.client_kept.Goals as goal

pub returns : goal.returns
returns c = c.kept.ensures ∙ kept_of (client_outs c.args.bays.now) c.args.n c.client_out.result.now c.client_out.ensures
