use Rattle.std.proofs.Common.{◌≡◌, ◌∙◌, suc, sym, ap, arith}
use Rattle.view_events.specs.Steps.Words.{nth_word}
use Rattle.view_events.proofs.words.word_of.Goals as goal

pub loop-init : goal.loop-init
loop-init c k all = ap (λ n. nth_word n c.args.line.now) (let e : c.args.n ≡ k = omega (arith, all) in e)

pub loop-preserved : goal.loop-preserved
loop-preserved c k all = c.loop.invariant (suc k) (omega (arith, all)) ∙ ap (nth_word k) (sym c.after_word-rest.ensures)

pub returns : goal.returns
returns c = c.first_word.ensures ∙ sym (c.loop.invariant 0 (omega arith))
