use Rattle.std.proofs.Common.{◌%◌, ◌^◌, map, cond, eqb, replicate, ap, ◌∙◌, arith, w8}
use Rattle.std.proofs.lemmas.List.{take_all}
use Rattle.std.proofs.lemmas.Simd.{bitmask_splat}
use lib.Lanes.{zip2, mask_l, top}
use Rattle.packet_text.proofs.line_feed.lf_lanes.Goals as goal

pub returns : goal.returns
returns c =
    let piece = c.args.piece.now in
    ap (λ v. mask_l (map (top 7) (zip2 (λ a b. cond (eqb a b) 255 0) v (replicate 64 10))) % 2 ^ 64) (take_all 64 piece (omega (arith, c.requires)))
    ∙ bitmask_splat w8 eqb piece 64 10 c.requires (omega arith)
