use Rattle.std.proofs.Common.{◌≡◌, ℕ, ◌+◌, ◌*◌, ◌^◌, ◌<◌, slice_index, ap, ◌∙◌, sym, subst, arith}
use Rattle.std.specs.Int.Bits.{xor_zero_l}
use Rattle.crc_small.specs.declared.long_message.Window.{Window}
use Rattle.crc_small.specs.Steps.Folding.{after_some, pending}
use Rattle.crc_small.specs.Steps.Window.{IsWindow, window_byte}
use Rattle.crc_small.proofs.Folding.{some-lt}
use Rattle.crc_small.proofs.Words.{both}
use Rattle.crc_small.proofs.Vectors.{IsEmptied, emptied_none, emptied_on, emptied_all, zeros_pushed, unfold_step}
use Rattle.crc_small.proofs.long_message.unfold.Goals as goal

pub loop-part-init : goal.loop-part-init
unfolding after_some
loop-part-init c = (c.requires.window, emptied_none c.args.window c.requires.window, sym (xor_zero_l (pending (window_byte c.args.window) 0)), omega arith)

pub loop-part-preserved : goal.loop-part-preserved
loop-part-preserved c =
    let w = c.loop-part.left in
    let h = c.loop-part.invariant.0 in
    let at = c.args.at in
    let n = 16 * c.loop-part.part in
    let b = λ (j : ℕ). slice_index c.args.bytes.now (at + j) in
    let s = pending (window_byte c.args.window) 0 in
    let back = sym c.push-left.ensures in
    let more : n + 16 ≡ 16 * (c.loop-part.part + 1) = omega arith in
    let read : (j : ℕ) → j < 16 → slice_index c.load.result j ≡ b (n + j) = λ j l.
    c.load.ensures.bytes j l ∙ (let e : at + n + j ≡ at + (n + j) = omega arith in ap (slice_index c.args.bytes.now) e) in (
      subst IsWindow back (zeros_pushed w h),
      subst (λ k. IsEmptied k c.push-left.result) more (subst (IsEmptied (n + 16)) back (emptied_on n w h c.loop-part.invariant.1)),
      ap (λ k. after_some b 0 k s) (sym more)
          ∙ unfold_step w c.fold-sum.result c.load.result b n c.loop-part.register s h c.fold-sum.ensures.vector read c.fold-sum.ensures.bytes c.loop-part.invariant.3 c.loop-part.invariant.2
          ∙ both (sym c.sixteen32-register.ensures) (ap (λ (v : Window). pending (window_byte v) 0) back),
      subst (λ y. y < 2 ^ 32) (sym c.sixteen32-register.ensures) (some-lt (slice_index c.fold-sum.result) 0 16 c.loop-part.register c.fold-sum.ensures.vector.bytes c.loop-part.invariant.3),
    )

pub returns : goal.returns
returns c =
    let n = 16 * c.loop-part.part in
    let b = λ (j : ℕ). slice_index c.args.bytes.now (c.args.at + j) in
    let s = pending (window_byte c.args.window) 0 in
    let all : n ≡ 96 = omega arith in
    sym (ap (λ k. after_some b 0 k s) (sym all)
    ∙ c.loop-part.invariant.2
    ∙ emptied_all c.loop-part.left c.loop-part.register (subst (λ k. IsEmptied k c.loop-part.left) all c.loop-part.invariant.1))
