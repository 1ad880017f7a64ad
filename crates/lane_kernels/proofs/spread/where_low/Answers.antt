use Rattle.std.proofs.Common.{ℕ, false, cond, ltb, length, get_or, replicate, ap, ◌∙◌, arith, w8}
use lib.Lanes.{zip2, sel_l}
use Rattle.std.proofs.lemmas.Simd.{tops_compared, length-zip2, length-sel_l, get_or-sel_l, get_or-zip2, length-replicate, get_or-replicate}
use Rattle.lane_kernels.proofs.spread.where_low.Goals as goal

pub returns : goal.returns
returns c =
    let a = c.args.lanes in
    let b = replicate 16 128 in
    let long = length-zip2 ltb a b (omega (arith, length-replicate {A = ℕ} 16 128)) in
    let is = ap (λ ms. sel_l ms c.args.new c.args.old) (tops_compared w8 ltb a b) in
    record {
      long = ap length is ∙ omega (arith, length-sel_l (zip2 ltb a b) c.args.new c.args.old (omega arith) (omega arith));
      each = λ i lt. ap (λ l. get_or l i 0) is ∙ get_or-sel_l (zip2 ltb a b) c.args.new c.args.old i 0 (omega arith) (omega arith) (omega arith)
          ∙ ap (λ t. cond t (get_or c.args.new i 0) (get_or c.args.old i 0)) (get_or-zip2 ltb a b i 0 0 false (omega arith) (omega (arith, length-replicate {A = ℕ} 16 128)) ∙ ap (ltb (get_or a i 0)) (get_or-replicate {A = ℕ} 16 i 128 0 lt));
    }
