use Rattle.std.proofs.Common.{◌≡◌, ◌+◌, ◌*◌, arith, ap}
use Rattle.lane_kernels.specs.declared.block.Block.{Block}
use Rattle.lane_kernels.specs.Steps.Blocks.{by_bytes, puts}
use Rattle.lane_kernels.proofs.block.Block.store_bytes.Goals as goal

pub returns : goal.returns
unfolding by_bytes puts
returns c = λ f e.
    let at = c.args.at in
    let step = c.args.step in
    let p : at ≡ at + step * 0 = omega arith in
    let q : at + step ≡ at + step * 1 = omega arith in
    let e0 = ap (λ (x : Block). x.v0) e in
    let e1 = ap (λ (x : Block). x.v1) e in
    let e2 = ap (λ (x : Block). x.v2) e in
    let e3 = ap (λ (x : Block). x.v3) e in
    let e4 = ap (λ (x : Block). x.v4) e in
    let e5 = ap (λ (x : Block). x.v5) e in
    let e6 = ap (λ (x : Block). x.v6) e in
    let e7 = ap (λ (x : Block). x.v7) e in
    cc
