use Rattle.std.proofs.Common.{◌==◌, sym, get_or, length, arith}
use Rattle.std.proofs.lemmas.Bool.{eq-eqb}
use Rattle.std.proofs.lemmas.List.Sums.{position_or_len_is}
use Rattle.number_lists.proofs.list.comma_in.Goals as goal

pub returns-then-text-at-eq44-clause-comma : goal.returns-then-text-at-eq44-clause-comma
returns-then-text-at-eq44-clause-comma c =
    let text = c.args.text.now in
    let at = c.loop-at.at in
    let here = c.loop-at-test.true in
    sym (position_or_len_is (λ byte. byte == 44) text at 0 (omega arith) c.loop-at.invariant (λ _. eq-eqb (get_or text at 0) 44 c.if-text-at-eq44.true))

pub returns-clause-comma : goal.returns-clause-comma
returns-clause-comma c =
    let text = c.args.text.now in
    let done = c.loop-at-test.false in
    let most = c.loop-at.auto.at-end in
    sym (position_or_len_is (λ byte. byte == 44) text (length text) 0 (omega arith) (λ k less. c.loop-at.invariant k (omega (arith, done, less))) (λ less. absurd (omega (arith, less))))
