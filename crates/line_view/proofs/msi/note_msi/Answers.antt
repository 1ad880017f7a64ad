use Rattle.std.proofs.Common.{◌-◌, ◌++◌, ◌∷◌, [], ◌∙◌, ap, sym, arith}
use Rattle.otn_base.specs.LineSlots.{slots_of}
use Rattle.line_view.proofs.MsiBytes.{msi_one}
use Rattle.line_view.proofs.msi.note_msi.Goals as goal

pub returns-clause-bytes : goal.returns-clause-bytes
returns-clause-bytes g c =
    let low = c.if-expected-lt2.false in
    let high = c.if-expected-slots.false in
    let many = c.slots.ensures.slots in
    let one = msi_one 1 (slots_of c.args.kind) (c.args.expected - 1) c.args.expected (g.F.TakeFrame.bytes c.args.frame.now) (omega (arith, low)) (omega (arith, high, many)) (omega (arith, low)) in
    c.push.ensures.items ∙ ap (λ b. c.args.msi.now.items ++ (c.args.expected - 1, b) ∷ []) c.psi.ensures ∙ sym (ap (λ xs. c.args.msi.now.items ++ xs) one)
