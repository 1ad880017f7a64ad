-- Among the groups 1 to j there are j * c / 15232 data groups.
use Rattle.std.proofs.Common.{◌≡◌, ℕ, ◌+◌, ◌*◌, ◌/◌, ◌%◌, ◌≤◌, cond, ◌∙◌, arith, zero, suc}
use Rattle.std.specs.Prelude.{nat_lt}
use Rattle.std.proofs.lemmas.Bool.Decides.{nat_tests}
use Rattle.gmp_rule.specs.DataRule.{data_count}

-- from the product at one group to that at the next, the quotient grows by one exactly where the remainder is below the
-- number
quotient_step : (c a b : ℕ) → c ≤ 15232 → b ≡ a + c → b / 15232 ≡ a / 15232 + cond (nat_lt (b % 15232) c) 1 0
quotient_step c a b h e = grind (arith, nat_tests)

pub data_count_is : (c j : ℕ) → c ≤ 15232 → data_count c j ≡ (j * c) / 15232
data_count_is c zero h = omega arith
data_count_is c (suc j) h =
    let step : (suc j * c) / 15232 ≡ (j * c) / 15232 + cond (nat_lt ((suc j * c) % 15232) c) 1 0 = quotient_step c (j * c) (suc j * c) h (omega arith) in
    let before : data_count c j ≡ (j * c) / 15232 = data_count_is c j h in
    cc

-- All 15,232 groups have as many data groups as the number says.
pub data_count_all : (c : ℕ) → c ≤ 15232 → data_count c 15232 ≡ c
data_count_all c h = data_count_is c 15232 h ∙ omega arith

pub ruleset count_law = (data_count_is)
