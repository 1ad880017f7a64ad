-- The first rule of an outline that is broken.
use Rattle.std.proofs.Common.{◌≡◌, ℕ, ◌≤◌, true, false, [], length, Some, nat_lt, refl, arith}
use Rattle.std.proofs.lemmas.Bool.Decides.{nat_tests}
use Rattle.plan_file.specs.Refusal.{fault_of}
use Rattle.plan_file.specs.declared.error.PlanError.{PlanError}
use Rattle.plan_file.specs.declared.error.PlanError.TheVariants.{Turns, TooMany}
use Rattle.plan_file.specs.Entry.{Entry, Outline}
use Rattle.plan_file.specs.Places.{first_broken}
use Rattle.plan_file.specs.PlanRules.{breaks_whole, breaks_alone, clashes, connection_rules, plan_places}
use Rattle.plan_file.proofs.Places.{places_never, later_never}

-- a rule of the whole alone
whole_kept : (rule : PlanError) (o : Outline) → breaks_whole rule o ≡ false → ((e : Entry) → breaks_alone rule o.top e ≡ false) → ((e f : Entry) → clashes rule e f ≡ false) → plan_places o rule ≡ []
whole_kept rule o kept alone pairs = rw (kept, places_never (breaks_alone rule o.top) 1 o.entries alone, later_never [] (clashes rule) o.entries pairs)

-- where the numbers of turns and of connections are in range, the rules of the connections decide
pub fault_of_within : (o : Outline) → breaks_whole Turns o ≡ false → breaks_whole TooMany o ≡ false → fault_of o ≡ first_broken (plan_places o) connection_rules
fault_of_within o turns many =
    rw (whole_kept Turns o turns (λ e. refl) (λ e f. refl), whole_kept TooMany o many (λ e. refl) (λ e f. refl))

-- where the number of turns is in range, too many connections decide
pub fault_of_many : (o : Outline) → breaks_whole Turns o ≡ false → breaks_whole TooMany o ≡ true → fault_of o ≡ Some (TooMany, 0)
fault_of_many o turns many = rw (whole_kept Turns o turns (λ e. refl) (λ e f. refl), many)

-- and there are few connections
few : (n : ℕ) → nat_lt 48 n ≡ false → n ≤ 48
few n h = grind (arith, nat_tests)

pub few_entries : (o : Outline) → breaks_whole TooMany o ≡ false → length o.entries ≤ 48
few_entries o h = few (length o.entries) h
