use Rattle.std.proofs.Common.{◌≡◌, ◌+◌, ◌*◌, arith, ap}
use Rattle.lane_kernels.specs.declared.block.Block.{Block}
use Rattle.lane_kernels.specs.Steps.Blocks.{by_groups, puts}
use Rattle.lane_kernels.proofs.block.Block.store_groups.Goals as goal

pub returns : goal.returns
unfolding by_groups puts
returns c = λ f e.
    let at = c.args.at in
    let step = c.args.step in
    let p : at ≡ at + step * 0 = omega arith in
    let q : at + step ≡ at + step * 1 = omega arith in
    let e0 = ap (λ (x : Block). x.v0) e in
    let e1 = ap (λ (x : Block). x.v1) e in
    let e2 = ap (λ (x : Block). x.v2) e in
    let e3 = ap (λ (x : Block). x.v3) e in
    let e4 = ap (λ (x : Block). x.v4) e in
    let e5 = ap (λ (x : Block). x.v5) e in
    let e6 = ap (λ (x : Block). x.v6) e in
    let e7 = ap (λ (x : Block). x.v7) e in
    let s0 = c.store_two.ensures (f 0) (f 1) e0 in
    let s1 = c.store_two-2.ensures (f 2) (f 3) e1 in
    let s2 = c.store_two-3.ensures (f 4) (f 5) e2 in
    let s3 = c.store_two-4.ensures (f 6) (f 7) e3 in
    let s4 = c.store_two-5.ensures (f 8) (f 9) e4 in
    let s5 = c.store_two-6.ensures (f 10) (f 11) e5 in
    let s6 = c.store_two-7.ensures (f 12) (f 13) e6 in
    let s7 = c.store_two-8.ensures (f 14) (f 15) e7 in
    cc
