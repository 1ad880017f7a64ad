use Rattle.std.proofs.Common.{rules, ◌≡◌, ◌≤◌, true, false, length, arith, refl, ap, ◌∙◌, sym}
use Rattle.packet_text.specs.declared.cutter.Cut.TheVariants.{Line, Long}
use Rattle.packet_text.proofs.Cuts.{goes_none, few_none, goes_all, goes_block, cuts_by, cuts_close, loses, left_less}
use Rattle.packet_text.proofs.cutter.Cutter.next.Goals as goal

pub loop-self-init : goal.loop-self-init
loop-self-init g c = record { goes = goes_none _ _ _ _ c.clear.ensures.items; short = few_none _ c.clear.ensures.items; quiet = λ e. (refl, e) }

pub loop-self-preserved : goal.loop-self-preserved
loop-self-preserved g c =
    let no_lf = c.if-go_on.false in
    let e = c.go_on.ensures.goes in
    let i = c.loop-self.invariant in
    let short : length c.go_on.new.self.line.items ≤ 131055 = omega arith in
    let lives : c.read_block.result ≡ true = search rules in
    record {
      goes = goes_block (e.all no_lf).1 c.if-self.false short (c.read_block.ensures.block lives) (goes_all no_lf e i.goes);
      short = (let l = ap length (c.read_block.ensures.block lives).line in omega (arith, short, l));
      quiet = λ ended. absurd (let was = e.ended ∙ (i.quiet ended).1 in let is = c.if-self.false in cc);
    }

pub loop-self-smaller : goal.loop-self-smaller
loop-self-smaller g c =
    let short : length c.go_on.new.self.line.items ≤ 131055 = omega arith in
    let lives : c.read_block.result ≡ true = search rules in
    left_less c.if-go_on.false c.go_on.ensures.goes c.if-self.false short (c.read_block.ensures.block lives)

pub returns-then-go_on-clause-cuts : goal.returns-then-go_on-clause-cuts
returns-then-go_on-clause-cuts g c = λ _.
    let e = c.go_on.ensures.goes in
    let h = c.loop-self.invariant.goes in
    cuts_by Line e h (h.all ∙ e.lf c.if-go_on.true)

pub returns-then-len-gt-MOST_LINE-clause-cuts : goal.returns-then-len-gt-MOST_LINE-clause-cuts
returns-then-len-gt-MOST_LINE-clause-cuts g c = λ _.
    let e = c.go_on.ensures.goes in
    let h = c.loop-self.invariant.goes in
    let all = e.all c.if-go_on.false in
    cuts_by Long e h (h.all ∙ sym all.0, all.1, omega arith)

pub returns-then-self-clause-cuts : goal.returns-then-self-clause-cuts
returns-then-self-clause-cuts g c = λ _.
    cuts_close _ c.if-go_on.false c.go_on.ensures.goes c.loop-self.invariant.goes c.if-self.true c.close.ensures.last c.close.ensures.end

pub returns-then-not-read_block-clause-lost : goal.returns-then-not-read_block-clause-lost
returns-then-not-read_block-clause-lost g c = λ _.
    let no_lf = c.if-go_on.false in
    let e = c.go_on.ensures.goes in
    let short : length c.go_on.new.self.line.items ≤ 131055 = omega arith in
    let dies : c.read_block.result ≡ false = search rules in
    loses (c.read_block.ensures.rests dies) (e.all no_lf).1 c.if-self.false short (c.read_block.ensures.lost dies) (goes_all no_lf e c.loop-self.invariant.goes)
