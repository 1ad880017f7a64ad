use Rattle.std.proofs.Common.{◌≡◌, ◌⊎◌, inl, inr, ℕ, ◌+◌, ◌-◌, ◌*◌, ◌<◌, ◌≤◌, get_or, ap, sym, ◌∙◌, arith}
use Rattle.odtu_columns.proofs.Rows.{payload_byte}
use Rattle.odtu_columns.proofs.slot_payload.split_row.Goals as goal

pub returns-clause-here : goal.returns-clause-here
returns-clause-here c = λ k j lk lj.
    let x = 8 * j + k in
    c.split8_among.ensures.here k j lk lj
    ∙ ap (λ xs. get_or xs x 0) c.payload_row.ensures.bytes
    ∙ payload_byte c.args.row x c.args.frame.now (omega arith)

beside : (row other j : ℕ) → 1 ≤ row → 1 ≤ other → j < 476 → (other < row) ⊎ (row < other) → (476 * (other - 1) + j < 476 * (row - 1)) ⊎ (476 * (row - 1) + 476 ≤ 476 * (other - 1) + j)
beside row other j low first lj (inl l) = inl (omega arith)
beside row other j low first lj (inr l) = inr (omega arith)

pub returns-clause-others : goal.returns-clause-others
returns-clause-others c = λ k other j lk first last apart lj.
    let y = 476 * (other - 1) + j in
    let e : 1904 * k + 476 * (other - 1) + j ≡ 1904 * k + y = omega arith in
    ap (λ n. get_or c.split8_among.new.into n 0) e
    ∙ c.split8_among.ensures.others k y lk (omega arith) (beside c.args.row other j c.requires.low first lj apart)
    ∙ ap (λ n. get_or c.args.into.now n 0) (sym e)
