use Rattle.std.proofs.Common.{◌≡◌, ◌∙◌, sym, arith, ◌≤◌}
use Rattle.jc_codec.proofs.Hears.{accepted_in_range}
use Rattle.jc_codec.proofs.OneRow.{one_fits}
use Rattle.jc_codec.proofs.listener.Listener.hear.Goals as goal

pub invariant_of-self : goal.invariant_of-self
invariant_of-self c = λ x e.
    let same : c.in-Accepted.cm ≡ x = cc in
    let small : c.in-Accepted.cm ≤ 15232 = accepted_in_range _ _ _ _ _ _ (sym c.heard_after-heard.ensures.heard ∙ c.in-Accepted.is) in
    omega arith

pub returns-in-Accepted-clause-one_byte_changed : goal.returns-in-Accepted-clause-one_byte_changed
returns-in-Accepted-clause-one_byte_changed c = λ a b ha hb changed. sym c.in-Accepted.is ∙ c.heard_after-heard.ensures.one_byte_changed a b ha hb changed

pub returns-in-Accepted-clause-one_row : goal.returns-in-Accepted-clause-one_row
returns-in-Accepted-clause-one_row c = λ former bits ii di h. one_fits former bits ii di (omega arith)

pub returns-in-Damaged-clause-one_row : goal.returns-in-Damaged-clause-one_row
returns-in-Damaged-clause-one_row c = λ former bits ii di h. one_fits former bits ii di (omega arith)

pub returns-in-BaseLost-clause-one_byte_changed : goal.returns-in-BaseLost-clause-one_byte_changed
returns-in-BaseLost-clause-one_byte_changed c = λ a b ha hb changed. c.heard_after-heard.ensures.one_byte_changed a b ha hb changed

pub returns-in-BaseLost-clause-one_row : goal.returns-in-BaseLost-clause-one_row
returns-in-BaseLost-clause-one_row c = λ former bits ii di h. one_fits former bits ii di (omega arith)
