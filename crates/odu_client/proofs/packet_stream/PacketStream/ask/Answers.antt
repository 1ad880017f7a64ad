use Rattle.std.proofs.Common.{rules, ◌≢◌, ap, ◌∙◌}
use Rattle.packet_text.specs.declared.line.Line.TheVariants.{Packet}
use Rattle.gfp_frames.specs.Area.{client_area}
use Rattle.gfp_frames.specs.Maker.{made_frame}
use Rattle.odu_client.proofs.Streaming.{stays_ready, packet_asked, none_asked, some_framed}
use Rattle.odu_client.proofs.packet_stream.PacketStream.ask.Goals as goal

pub returns-then-not-idle-clause-ready : goal.returns-then-not-idle-clause-ready
returns-then-not-idle-clause-ready g c = λ first read emitted packets t h.
    stays_ready first _ read emitted packets _ _ (λ _. search rules) t h

pub returns-then-ne-clause-ready : goal.returns-then-ne-clause-ready
returns-then-ne-clause-ready g c = λ first read emitted packets t h.
    let other : c.args.self.now.answer ≢ Packet = search rules in
    stays_ready first _ read emitted packets _ _ (λ e. absurd (other e)) t h

pub returns-then-eq-clause-some : goal.returns-then-eq-clause-some
returns-then-eq-clause-some g c = λ _. some_framed _ _ _ c.offer.ensures.frame

pub returns-then-eq-clause-ready : goal.returns-then-eq-clause-ready
returns-then-eq-clause-ready g c = λ first read emitted packets t h.
    packet_asked first _ _ read emitted packets _ _ _ _ (search rules) (search rules) (c.take-self-inside.ensures.stands first read packets) c.take-self-inside.ensures.answer (search rules) (search rules)
    (c.offer.ensures.frame ∙ ap (λ p. made_frame (client_area p c.self.inside.fcs) c.self.inside.maker.register) c.packet.ensures ∙ search rules) (search rules) t h

pub returns-else-eq-clause-ready : goal.returns-else-eq-clause-ready
returns-else-eq-clause-ready g c = λ first read emitted packets t h.
    none_asked first _ _ read emitted packets _ _ _ _ (search rules) (search rules) (c.take-self-inside.ensures.stands first read packets) c.take-self-inside.ensures.answer (search rules) (search rules) (search rules) (search rules) t h
