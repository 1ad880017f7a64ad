use Rattle.std.proofs.Common.{refl}
use Rattle.port_base.specs.Racks.{bays_view}
use Rattle.odu_client.specs.AlignedRuns.{payload_of}
use Rattle.bundle_command.proofs.Frames.{frame_made}
use Rattle.bundle_command.proofs.Given.{stands_ready}
use Rattle.bundle_command.proofs.framing.Framing.make_frame.Goals as goal

pub fill_payload-requires : goal.fill_payload-requires
fill_payload-requires g c =
    let r = c.requires.ready in
    record {
      ready = record {
        clients = r.clients;
        first = r.first;
        emitted = r.ready.emitted;
        ready = stands_ready r.clients r.first (bays_view g.I.Source g.O.Sink c.args.bays.now) r.ready.emitted c.args.self.now.weaving r.ready.weaving;
      };
    }

pub returns-clause-stands : goal.returns-clause-stands
returns-clause-stands g c = λ clients first due h.
    frame_made clients first (bays_view g.I.Source g.O.Sink c.args.bays.now) (bays_view g.I.Source g.O.Sink c.fill_payload.new.bays) due (payload_of c.fill_payload.new.frame) c.args.self.now _
    c.requires.gone c.args.self.now.size refl refl c.fill_payload.ensures.size (λ emitted w. c.fill_payload.ensures.stands clients first emitted w) (λ count emitted m. c.write.ensures.made count emitted m c.fill_payload.ensures.size) h
