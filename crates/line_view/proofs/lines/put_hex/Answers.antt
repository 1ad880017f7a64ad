use Rattle.std.proofs.Common.{◌++◌, ◌∷◌, ◌/◌, ◌∙◌, ap, append_assoc}
use Rattle.line_view.specs.ViewText.{hex_digit, hex_text}
use Rattle.line_view.proofs.lines.put_hex.Goals as goal

pub returns-clause-text : goal.returns-clause-text
unfolding hex_text
returns-clause-text c =
    let old = c.args.text.now.bytes in
    let one = c.hex_word.result.now in
    let two = c.hex_word-2.result.now in
    c.push_str-2.ensures.bytes ∙ ap (λ xs. xs ++ two) c.push_str.ensures.bytes ∙ append_assoc old one two ∙ ap (λ xs. old ++ (xs ++ two)) c.hex_word.ensures.word
    ∙ ap (λ xs. old ++ (hex_digit (c.args.byte / 16) ∷ xs)) c.hex_word-2.ensures.word
