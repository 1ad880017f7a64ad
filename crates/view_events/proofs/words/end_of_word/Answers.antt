use Rattle.std.proofs.Common.{◌∙◌, sym, length, arith}
use Rattle.std.proofs.lemmas.List.Sums.{position_or_len_is}
use Rattle.view_events.specs.ViewLines.{ends_word}
use Rattle.view_events.proofs.words.end_of_word.Goals as goal

pub returns-then-is_end-clause-end : goal.returns-then-is_end-clause-end
returns-then-is_end-clause-end c =
    let line = c.args.line.now in
    let here = c.loop-n-test.true in
    sym (position_or_len_is ends_word line c.loop-n.n 0 (omega arith) c.loop-n.invariant (λ _. sym c.is_end.ensures ∙ c.if-is_end.true))

pub returns-clause-end : goal.returns-clause-end
returns-clause-end c =
    let line = c.args.line.now in
    let done = c.loop-n-test.false in
    let most = c.loop-n.auto.n-end in
    sym (position_or_len_is ends_word line (length line) 0 (omega arith) (λ k less. c.loop-n.invariant k (omega (arith, done, less))) (λ less. absurd (omega (arith, less))))
