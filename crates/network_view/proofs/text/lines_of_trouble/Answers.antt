use Rattle.std.proofs.Common.{◌∙◌, ◌++◌, length, ap, arith}
use Rattle.std.specs.Prelude.{string_bytes}
use Rattle.network_view.specs.NetworkText.{trouble_line}
use Rattle.network_view.proofs.Lists.{known_item, flat_more}
use Rattle.network_view.proofs.text.lines_of_trouble.Goals as goal

pub loop-leg-preserved : goal.loop-leg-preserved
loop-leg-preserved c =
    let all = c.args.legs.now in
    let i = c.loop-leg.leg-index in
    let x = c.leg-item.result in
    flat_more (trouble_line c.args.named.now (length all) c.args.trouble) all i x (string_bytes c.loop-leg.text) (string_bytes c.in_ok-line.line)
    (string_bytes c.push_str.new.self)
    (known_item all i x (let less = c.loop-leg-test.true in omega arith) c.leg-item.is) c.loop-leg.invariant c.in_ok-line.ensures
    (c.in_ok-push_str.ensures.bytes ∙ ap (λ s. string_bytes c.loop-leg.text ++ s) c.deref.ensures)
