use Rattle.std.proofs.Common.{rules, ◌≡◌, ◌≢◌, ◌∙◌, ◌++◌, ap, length, subst, arith}
use Rattle.packet_text.specs.declared.line.Line.TheVariants.{Packet}
use Rattle.gfp_frames.specs.Maker.{MakerState, HasMade, idles_begun, idle_bytes}
use Rattle.gfp_frames.specs.GfpText.{stream_frames}
use Rattle.odu_client.proofs.Streaming.{emitted_all, idles_all}
use Rattle.odu_client.proofs.packet_stream.PacketStream.give.Goals as goal

pub returns-clause-made : goal.returns-clause-made
returns-clause-made c = λ packets emitted h.
    let other : c.args.self.now.answer ≢ Packet = search rules in
    let same : c.args.self.now.maker ≡ c.self.inside.maker = search rules in
    let P : MakerState → Type 0 = λ m. HasMade (stream_frames packets c.args.self.now.fcs h.idles) emitted m in
    emitted_all packets emitted c.fill.new.into _ c.args.self.now _ (omega arith) (search rules) (search rules) (search rules) (λ e. absurd (other e)) h
    (c.fill.ensures.made (stream_frames packets c.args.self.now.fcs h.idles) emitted (subst P same h.made))

pub returns-then-eq-clause-idle : goal.returns-then-eq-clause-idle
returns-then-eq-clause-idle c = record { so = λ other. absurd (other (search rules)) }

pub returns-clause-idle : goal.returns-clause-idle
returns-clause-idle c =
    let same : c.self.inside.maker ≡ c.args.self.now.maker = search rules in
    let n = idles_begun c.self.inside.maker.hand (length c.args.into.now) in
    idles_all _ _ _ (record { so = λ other. (n, c.fill.ensures.bytes ∙ ap (λ (m : MakerState). m.hand ++ idle_bytes n) same) })
