use Rattle.std.proofs.Common.{◌≡◌, ◌+◌, slice_index, ap, ◌∙◌, sym, subst, arith}
use Rattle.crc_small.specs.declared.long_message.Window.{Window}
use Rattle.crc_small.specs.Steps.Folding.{after_some, pending}
use Rattle.crc_small.specs.Steps.Window.{IsWindow, window_byte}
use Rattle.crc_small.proofs.Folding.{some_split}
use Rattle.crc_small.proofs.Vectors.{pushed_window, fold_step}
use Rattle.crc_small.proofs.long_message.front32.Goals as goal

pub loop-at-init : goal.loop-at-init
unfolding after_some
loop-at-init c = (omega arith, c.start-window.ensures.window, c.start-window.ensures.ones)

pub loop-at-preserved : goal.loop-at-preserved
loop-at-preserved c =
    let b = slice_index c.args.bytes.now in
    let at = c.loop-at.at in
    let w = c.loop-at.window in
    let h = c.loop-at.invariant.1 in
    let w1 = c.push-after_one.result in
    let back1 = sym c.push-after_one.ensures in
    let back2 = sym c.push-window.ensures in
    let h1 : IsWindow w1 = subst IsWindow back1 (pushed_window w c.fold-one.result h c.fold-one.ensures.vector) in
    let is1 : pending (window_byte w1) 0 ≡ after_some b 0 (at + 16) 0xFFFFFFFF =
    ap (λ (v : Window). pending (window_byte v) 0) (sym back1)
    ∙ fold_step w c.fold-one.result c.load.result b at 0xFFFFFFFF h c.fold-one.ensures.vector c.load.ensures.bytes c.fold-one.ensures.bytes c.loop-at.invariant.2 in
    let is2 : pending (window_byte c.push-window.result) 0 ≡ after_some b 0 (at + 16 + 16) 0xFFFFFFFF =
    ap (λ (v : Window). pending (window_byte v) 0) (sym back2)
    ∙ fold_step w1 c.fold-two.result c.load-in-loop-at.result b (at + 16) 0xFFFFFFFF h1 c.fold-two.ensures.vector c.load-in-loop-at.ensures.bytes c.fold-two.ensures.bytes is1 in
    let e : at + 16 + 16 ≡ at + 32 = omega arith in (
      omega arith,
      subst IsWindow back2 (pushed_window w1 c.fold-two.result h1 c.fold-two.ensures.vector),
      is2 ∙ ap (λ n. after_some b 0 n 0xFFFFFFFF) e,
    )

pub returns-clause-register : goal.returns-clause-register
returns-clause-register c =
    let b = slice_index c.args.bytes.now in
    let at = c.loop-at.at in
    c.unfold-register.ensures
    ∙ ap (after_some (λ j. b (at + j)) 0 96) c.loop-at.invariant.2
    ∙ sym (some_split b at 96 0xFFFFFFFF)
