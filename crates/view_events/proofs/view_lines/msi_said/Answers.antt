use Rattle.std.proofs.Common.{◌∙◌, ap, arith}
use Rattle.view_events.proofs.Reading.{msi_word}
use Rattle.view_events.proofs.view_lines.msi_said.Goals as goal

pub returns-clause-said : goal.returns-clause-said
returns-clause-said c slot byte low few is =
    let line = c.args.line.now in
    let one = c.slot_at-slot.ensures.slot slot low (msi_word slot byte low few line is 1 (omega arith)) in
    let two = c.byte_of-byte.ensures byte few (c.word_of.ensures ∙ msi_word slot byte low few line is 2 (omega arith)) in
    ap (λ n. record { turn = c.args.turn; slot = n; byte = c.byte_of-byte.result }) one ∙ ap (λ n. record { turn = c.args.turn; slot = slot; byte = n }) two
