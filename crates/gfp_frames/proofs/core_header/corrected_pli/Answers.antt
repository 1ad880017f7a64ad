use Rattle.std.proofs.Common.{◌<◌, ◌^◌, sym, refl, arith}
use Rattle.gfp_frames.proofs.Near.{near_is, near_none}
use Rattle.gfp_frames.proofs.core_header.corrected_pli.Goals as goal

pub returns-in-Some-clause-value : goal.returns-in-Some-clause-value
returns-in-Some-clause-value c =
    let small : c.args.header < 2 ^ 32 = omega arith in
    sym (near_is c.args.header c.in-Some.fixed small c.in-Some.ensures.right c.in-Some.ensures.near c.in-Some.ensures.at_most_one)

pub returns-in-None-clause-value : goal.returns-in-None-clause-value
returns-in-None-clause-value c =
    let small : c.args.header < 2 ^ 32 = omega arith in
    sym (near_none c.args.header small (c.in-None.ensures.none.0 refl))
