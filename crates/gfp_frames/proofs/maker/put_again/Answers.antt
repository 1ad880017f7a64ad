use Rattle.std.proofs.Common.{ℕ, ◌≡◌, ◌+◌, ◌-◌, get_or, ap, ◌∙◌, arith}
use Rattle.gfp_frames.proofs.Idles.{idles_again}
use Rattle.gfp_frames.proofs.maker.put_again.Goals as goal

pub returns-clause-size : goal.returns-clause-size
returns-clause-size c = c.copy_within.ensures.len

pub returns-clause-idle : goal.returns-clause-idle
returns-clause-idle c =
    let old = c.args.into.now in
    let at = c.args.at in
    idles_again old c.copy_within.new.self at c.args.count c.requires.count c.requires.room c.requires.whole c.requires.frames c.requires.idle c.copy_within.ensures.len
    (λ k d low high. c.copy_within.ensures.by_index.0 k d low (omega arith) ∙ (let e : 0 + (k - at) ≡ k - at = omega arith in ap (λ (i : ℕ). get_or old i d) e))
    c.copy_within.ensures.by_index.1
