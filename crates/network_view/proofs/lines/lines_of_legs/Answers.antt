use Rattle.std.proofs.Common.{◌≡◌, ◌∙◌, ◌+◌, ◌++◌, ap, sym, arith}
use Rattle.std.specs.Prelude.{string_bytes}
use Rattle.network_view.specs.NetworkText.{leg_line}
use Rattle.network_view.proofs.Lists.{known_item, numbered_more, numbered_none}
use Rattle.network_view.proofs.lines.lines_of_legs.Goals as goal

pub loop-i-init : goal.loop-i-init
loop-i-init c = c.new-text.ensures.bytes ∙ sym (numbered_none (leg_line c.args.named.now c.args.way) 1)

pub loop-i-preserved : goal.loop-i-preserved
loop-i-preserved c =
    let all = c.args.legs.now in
    let i = c.loop-i.i in
    let x = c.index-legs-i.result in
    let line : string_bytes c.in_ok-line.line ≡ leg_line c.args.named.now c.args.way (i + 1) x =
    let said = c.in_ok-line.ensures in let is = c.index-legs-i.is in cc in
    numbered_more (leg_line c.args.named.now c.args.way) all i x (string_bytes c.loop-i.text) (string_bytes c.in_ok-line.line)
    (string_bytes c.push_str.new.self)
    (known_item all i x (let less = c.loop-i-test.true in omega arith) c.index-legs-i.is) c.loop-i.invariant line
    (c.in_ok-push_str.ensures.bytes ∙ ap (λ s. string_bytes c.loop-i.text ++ s) c.deref.ensures)
