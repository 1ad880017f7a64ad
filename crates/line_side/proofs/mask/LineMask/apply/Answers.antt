use Rattle.std.proofs.Common.{◌≡◌, true, length, ap, sym, ◌∙◌}
use Rattle.std.specs.Prelude.{is_some}
use Rattle.frame_geometry.specs.Loans.{after_loan-whole}
use Rattle.line_side.specs.LineForm.{through_mask}
use Rattle.line_side.proofs.Masks.{length_mask, masked_by}
use Rattle.line_side.proofs.mask.LineMask.apply.Goals as goal

pub xor_mask-requires : goal.xor_mask-requires
xor_mask-requires c = ap length (c.deref.ensures.value ∙ c.self.invariant _ c.in-Some.is) ∙ length_mask true ∙ sym c.as_bytes_mut.ensures.size

pub returns : goal.returns
returns c =
    let lent = c.as_bytes_mut.ensures in
    let size : length c.args.frame.now ≡ 16320 = sym (ap length lent.bytes) ∙ lent.size in
    let kept : length c.xor_mask.new.bytes ≡ length c.args.frame.now = c.xor_mask.auto.bytes ∙ ap length lent.bytes in
    let m = c.deref.ensures.value ∙ c.self.invariant _ c.in-Some.is in
    let each = rw lent.bytes at c.xor_mask.ensures in
    let scrambled : true ≡ c.args.self.now = sym (ap is_some c.in-Some.is) ∙ c.self.view_is in
    rw (after_loan-whole 4080 c.args.frame.now c.xor_mask.new.bytes (kept ∙ size))
    (masked_by c.args.frame.now c.xor_mask.new.bytes c.deref.result.now m size kept each ∙ ap (λ s. through_mask s c.args.frame.now) scrambled)
