-- The plans of the trial break no rule.
use Rattle.std.proofs.Common.{◌≡◌, ◌<◌, ◌+◌, ℕ, zero, suc, List, [], ◌∷◌, ◌++◌, None, map, refl, sym, ap, ◌∙◌, arith}
use Rattle.std.specs.List.{range_with_len}
use Rattle.std.proofs.lemmas.List.FromFn.{map-range_with_len_more}
use Rattle.plan_file.specs.Answer.{fault_in}
use Rattle.plan_file.specs.declared.connection.Connection.{Connection}
use Rattle.trial_plans.specs.TrialPlans.{trial_connection, trial_plan}

pub first_accepted : fault_in (trial_plan 0) ≡ None
unfolding fault_in
first_accepted = refl

pub second_accepted : fault_in (trial_plan 1) ≡ None
unfolding fault_in
second_accepted = refl

pub third_accepted : fault_in (trial_plan 2) ≡ None
unfolding fault_in
third_accepted = refl

pub fourth_accepted : fault_in (trial_plan 3) ≡ None
unfolding fault_in
fourth_accepted = refl

pub each_accepted : (run : ℕ) → run < 4 → fault_in (trial_plan run) ≡ None
each_accepted zero h = first_accepted
each_accepted (suc zero) h = second_accepted
each_accepted (suc (suc zero)) h = third_accepted
each_accepted (suc (suc (suc zero))) h = fourth_accepted
each_accepted (suc (suc (suc (suc n)))) h = absurd (omega arith)

-- ---- its connections, one after another

pub one_more : (run c : ℕ) (list new : List Connection) (x : Connection) → list ≡ map (trial_connection run) (range_with_len 0 c) → x ≡ trial_connection run c → new ≡ list ++ x ∷ []
    → new ≡ map (trial_connection run) (range_with_len 0 (c + 1))
one_more run c list new x is same push =
    push
    ∙ ap (λ xs. xs ++ x ∷ []) is
    ∙ ap (λ y. map (trial_connection run) (range_with_len 0 c) ++ y ∷ []) same
    ∙ sym (map-range_with_len_more (trial_connection run) 0 c c (omega arith))
