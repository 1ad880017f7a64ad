use Rattle.std.proofs.Common.{◌≡◌, ◌∙◌, sym, arith}
use Rattle.std.proofs.lemmas.Fmt.{decimal_injective}
use Rattle.otn_view.proofs.SlotTexts.{most_slots}
use Rattle.otn_view.proofs.tributary.port_of.Goals as goal
use Rattle.otn_view.proofs.tributary.port_of.Goals.{then-port-lt1-via-then-port-lt1, then-port-lt1-via-else-port-lt1+then-port-slots}

pub returns-then-port-lt1-clause-none : goal.returns-then-port-lt1-clause-none
returns-then-port-lt1-clause-none c = λ port text low high.
    let n = c.in_ok-port.port in
    let few = c.in_ok-port.ensures.number.1 in
    let most = most_slots c.args.kind in
    let same : n ≡ port = decimal_injective n port (omega (arith, few)) (omega (arith, high, most)) (sym c.in_ok-port.ensures.number.0 ∙ text) in
    elim c.then-port-lt1.branch [
      | then-port-lt1-via-then-port-lt1 w ↦ let less = w.if-port-lt1.true in let bad : ⊥ = omega (arith, less, same, low) in bad
      | then-port-lt1-via-else-port-lt1+then-port-slots w ↦ let more = w.if-port-slots.true in let bound = w.slots.ensures in let bad : ⊥ = omega (arith, more, bound, same, high) in bad
    ]
