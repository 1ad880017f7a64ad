use Rattle.std.proofs.Common.{◌≡◌, ◌+◌, ◌/◌, ◌++◌, take, drop, ap, sym, ◌∙◌, refl, arith}
use Rattle.std.proofs.Math.Seq.{take-add}
use Rattle.gfp_frames.specs.CoreHeader.{core_header, four_bytes}
use Rattle.gfp_frames.specs.Maker.{idle_bytes}
use Rattle.gfp_frames.proofs.Idles.{idle_frame, idle_more}
use Rattle.gfp_frames.proofs.reader.idles_before.Goals as goal

pub loop-at-preserved : goal.loop-at-preserved
loop-at-preserved c =
    let at = c.loop-at.at in
    let bytes = c.args.bytes.now in
    let next : take 4 (drop at bytes) ≡ core_header 0 = sym c.header_at.ensures ∙ ap four_bytes c.if-header_at.true ∙ sym idle_frame in
    record {
      within = omega arith;
      frames = omega arith;
      idle =
          take-add at 4 bytes ∙ ap (λ y. y ++ take 4 (drop at bytes)) c.loop-at.invariant.idle
          ∙ ap (λ y. idle_bytes (at / 4) ++ y) next ∙ idle_more at (at + 4) c.loop-at.invariant.frames refl;
    }
