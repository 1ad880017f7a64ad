use Rattle.std.proofs.Common.{◌∙◌}
use Rattle.otn_base.specs.declared.kind.PortName.TheVariants as port
use Rattle.port_base.specs.Racks.{bays_view}
use Rattle.network_core.proofs.Growth.{grows_twice, leads_twice}
use Rattle.live_node.proofs.serving.serve_outputs.Goals as goal

pub returns : goal.returns
returns g c =
    let one = c.serve_lines.ensures in
    let two = c.serve_clients.ensures in
    record {
      stands = leads_twice c.args.node.now c.serve_lines.new.node c.serve_clients.new.node (bays_view g.P.Source g.K.Sink c.args.bays.now)
          (bays_view g.P.Source g.K.Sink c.serve_lines.new.bays) (bays_view g.P.Source g.K.Sink c.serve_clients.new.bays) one.stands two.stands;
      turns = two.turns ∙ one.turns;
      past = two.past ∙ one.past;
      grows = grows_twice (bays_view g.P.Source g.K.Sink c.args.bays.now) (bays_view g.P.Source g.K.Sink c.serve_lines.new.bays)
          (bays_view g.P.Source g.K.Sink c.serve_clients.new.bays) one.grows two.grows;
      node = two.node;
      served = record {
        line_out = λ b few. two.kept (port.LineOut b) (one.served b few);
        client_out = two.served;
      };
    }
