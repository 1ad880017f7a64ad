-- Data groups one after the other: each lowers the remainder by the same.
use Rattle.std.proofs.Common.{◌≡◌, ℕ, zero, suc, ◌+◌, ◌-◌, ◌*◌, ◌%◌, ◌<◌, ◌≤◌, ap, sym, ◌∙◌, arith}
use Rattle.gmp_rule.specs.DataRule.{IsData}

-- the remainder behind a data group
lower : (n stuff x r : ℕ) → n + stuff ≡ 15232 → r ≡ x % 15232 → stuff ≤ r → (x + n) % 15232 ≡ r - stuff
lower n stuff x r all is h = grind arith

-- the remainder behind i of them
lowered : (n stuff asked r i : ℕ) → n + stuff ≡ 15232 → r ≡ (asked * n) % 15232 → i * stuff ≤ r → ((asked + i) * n) % 15232 ≡ r - i * stuff
lowered n stuff asked r zero all is h = (let e : (asked + 0) * n ≡ asked * n = omega arith in rw e (omega arith))
lowered n stuff asked r (suc i) all is h =
    let before : ((asked + i) * n) % 15232 ≡ r - i * stuff = lowered n stuff asked r i all is (omega arith) in
    let next : (asked + suc i) * n ≡ (asked + i) * n + n = omega arith in
    rw next (lower n stuff ((asked + i) * n) (r - i * stuff) all (sym before) (omega arith) ∙ omega arith)

-- a group that the remainder reaches is data
pub reached : (n stuff asked r run i : ℕ) → n + stuff ≡ 15232 → r ≡ (asked * n) % 15232 → run * stuff ≤ r → i < run → IsData n (asked + i + 1)
reached n stuff asked r run i all is h below =
    let inside : i * stuff + stuff ≤ run * stuff = within stuff i run below in
    let here : ((asked + i) * n) % 15232 ≡ r - i * stuff = lowered n stuff asked r i all is (omega arith) in
    let next : (asked + i + 1) * n ≡ (asked + i) * n + n = omega arith in
    let left : ((asked + i) * n + n) % 15232 ≡ r - i * stuff - stuff = lower n stuff ((asked + i) * n) (r - i * stuff) all (sym here) (omega arith) in
    rw next (omega arith)
  where
    within : (stuff i run : ℕ) → i < run → i * stuff + stuff ≤ run * stuff
    within stuff i run below =
        let e : run ≡ i + 1 + (run - i - 1) = omega arith in
        let f : run * stuff ≡ (i + 1 + (run - i - 1)) * stuff = ap (λ k. k * stuff) e in
        omega arith
