use Rattle.std.proofs.Common.{rules, ap, sym, ◌∙◌}
use Rattle.odu_client.specs.Framing.{StreamState}
use Rattle.odu_client.proofs.Streaming.{repeats_from}
use Rattle.odu_client.proofs.packet_stream.PacketStream.fill_payload.Goals.{then-over, else-over}
use Rattle.odu_client.proofs.packet_stream.PacketStream.fill_payload.Goals as goal

pub returns-clause-again : goal.returns-clause-again
returns-clause-again g c = λ yes. elim c.if-over.branch [
  | then-over w ↦
      let other = c.goes_on-over.ensures.no (search rules) in
      let before = c.hand.ensures ∙ ap (λ (s : StreamState). s.maker.hand) c.self.view_is in
      let after = sym (ap (λ (s : StreamState). s.maker.hand) c.self-2.view_is) ∙ sym w.hand-then-over.ensures in
      let again = w.is_again.ensures (sym w.result-is ∙ yes) _ c.keep_few-count.ensures.kept in
      repeats_from _ _ _ other (c.fill_rows.ensures.over other).2 c.fill_rows.ensures.size c.fill_rows.ensures.idle (after ∙ again ∙ before)
  | else-over w ↦ absurd (let bad : ⊥ = cc in bad)
]
