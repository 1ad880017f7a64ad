use Rattle.std.proofs.Common.{length, ap, sym, ◌∙◌, refl, arith}
use Rattle.std.specs.Prelude.{slice_set}
use Rattle.frame_geometry.specs.Places.{place_of}
use Rattle.frame_geometry.specs.PayloadParity.{payload_parity_of}
use Rattle.line_side.specs.LineOutput.{LineOutView}
use Rattle.line_side.proofs.Made.{made_more, psi_beside_payload}
use Rattle.line_side.proofs.line_out.LineOut.finish_with.Goals as goal

pub returns-clause-made : goal.returns-clause-made
returns-clause-made g c = rw (← c.self.view_is) (λ n form first puts h.
    let inside = c.self.inside in
    let put = c.set.ensures.written ∙ ap (λ byte. slice_set inside.frame (place_of 4080 4 15) byte) c.psi_byte.ensures in
    let sized = ap length (sym c.as_bytes.ensures.bytes) ∙ c.as_bytes.ensures.size in
    let joins = rw c.as_bytes.ensures.bytes at c.join-counts.ensures.joins in
    let path = c.write_with.ensures in
    let section = c.write_with-2.ensures in
    made_more n form _ first _ _ puts _ _ c.set.new.self c.write_with.new.frame c.write_with-2.new.frame c.apply.new.frame c.join-counts.result refl put path.frame path.sent section.frame section.sent
    (path.parity ∙ sym section.parity) c.apply.ensures sized joins c.saturating_add-self-inside.ensures refl refl h)

-- the PSI byte leaves the payload as it was
pub parity_with-parity-requires : goal.parity_with-parity-requires
parity_with-parity-requires g c = (
  omega arith,
  c.requires.payload ∙ ap (λ (line : LineOutView). payload_parity_of 4080 line.frame) (sym c.self.view_is)
      ∙ sym (psi_beside_payload c.self.inside.frame c.set.new.self c.psi_byte.result c.set.ensures.written c.set.ensures.size),
)
