use Rattle.std.proofs.Common.{◌≡◌, ◌≢◌, sym, ap, ◌∙◌, length}
use Rattle.packet_text.specs.declared.line.Line.TheVariants.{Packet}
use Rattle.odu_client.proofs.PayloadRows.{payload_filled, rows_size}
use Rattle.odu_client.proofs.Streaming.{streams_both, streams_same, idles_both, idles_same}
use Rattle.odu_client.proofs.packet_stream.PacketStream.fill_rows.Goals as goal

pub returns-clause-size : goal.returns-clause-size
returns-clause-size g c =
    let s1 = c.fill.ensures.size ∙ c.payload_row_mut.ensures.size in
    let s2 = c.fill-2.ensures.size ∙ c.payload_row_mut-2.ensures.size in
    let s3 = c.fill-3.ensures.size ∙ c.payload_row_mut-3.ensures.size in
    let s4 = c.fill-4.ensures.size ∙ c.payload_row_mut-4.ensures.size in
    ap length (payload_filled c.args.frame.now c.fill.new.into c.fill-2.new.into c.fill-3.new.into c.fill-4.new.into c.payload_row_mut.ensures.frame s1 s2 s3 s4)
    ∙ rows_size c.fill.new.into c.fill-2.new.into c.fill-3.new.into c.fill-4.new.into s1 s2 s3 s4

pub returns-clause-goes : goal.returns-clause-goes
returns-clause-goes g c =
    let s1 = c.fill.ensures.size ∙ c.payload_row_mut.ensures.size in
    let s2 = c.fill-2.ensures.size ∙ c.payload_row_mut-2.ensures.size in
    let s3 = c.fill-3.ensures.size ∙ c.payload_row_mut-3.ensures.size in
    let s4 = c.fill-4.ensures.size ∙ c.payload_row_mut-4.ensures.size in
    streams_same _ _ _ _ _ _ _ _
    (sym (payload_filled c.args.frame.now c.fill.new.into c.fill-2.new.into c.fill-3.new.into c.fill-4.new.into c.payload_row_mut.ensures.frame s1 s2 s3 s4))
    (streams_both _ _ _ _ _ _ _ _ _ _ _ (streams_both _ _ _ _ _ _ _ _ _ _ _ (streams_both _ _ _ _ _ _ _ _ _ _ _ c.fill.ensures.goes c.fill-2.ensures.goes) c.fill-3.ensures.goes) c.fill-4.ensures.goes)

pub returns-clause-over : goal.returns-clause-over
returns-clause-over g c = λ other.
    let a = c.fill.ensures.over other in
    let b = c.fill-2.ensures.over (λ e. other (sym a.2 ∙ e)) in
    let d = c.fill-3.ensures.over (λ e. other (sym a.2 ∙ sym b.2 ∙ e)) in
    let e = c.fill-4.ensures.over (λ f. other (sym a.2 ∙ sym b.2 ∙ sym d.2 ∙ f)) in
    (e.0 ∙ d.0 ∙ b.0 ∙ a.0, e.1 ∙ d.1 ∙ b.1 ∙ a.1, e.2 ∙ d.2 ∙ b.2 ∙ a.2)

pub returns-clause-idle : goal.returns-clause-idle
returns-clause-idle g c =
    let s1 = c.fill.ensures.size ∙ c.payload_row_mut.ensures.size in
    let s2 = c.fill-2.ensures.size ∙ c.payload_row_mut-2.ensures.size in
    let s3 = c.fill-3.ensures.size ∙ c.payload_row_mut-3.ensures.size in
    let s4 = c.fill-4.ensures.size ∙ c.payload_row_mut-4.ensures.size in
    let two : c.args.self.now.answer ≢ Packet → c.fill-2.new.self.answer ≡ c.args.self.now.answer = λ other. (c.fill-2.ensures.over (λ e. other (sym (c.fill.ensures.over other).2 ∙ e))).2 ∙ (c.fill.ensures.over other).2 in
    let three : c.args.self.now.answer ≢ Packet → c.fill-3.new.self.answer ≡ c.args.self.now.answer = λ other. (c.fill-3.ensures.over (λ e. other (sym (two other) ∙ e))).2 ∙ two other in
    idles_same _ _ _ _
    (sym (payload_filled c.args.frame.now c.fill.new.into c.fill-2.new.into c.fill-3.new.into c.fill-4.new.into c.payload_row_mut.ensures.frame s1 s2 s3 s4))
    (idles_both _ _ _ _ _ three (idles_both _ _ _ _ _ two (idles_both _ _ _ _ _ (λ other. (c.fill.ensures.over other).2) c.fill.ensures.idle c.fill-2.ensures.idle) c.fill-3.ensures.idle) c.fill-4.ensures.idle)
