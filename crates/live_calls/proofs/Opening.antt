-- A node that was opened, and a run that was settled.
use Rattle.std.proofs.Common.{◌≡◌, ◌≢◌, ◌≤◌, ◌<◌, ℕ, List, Option, None, Some, Result, Ok, Err, true, refl, subst, arith}
use Rattle.std.specs.Prelude.{IfOk, MatchOption, MatchResult, is_some}
use Rattle.plan_file.specs.Answer.{plan_of_text}
use Rattle.plan_file.specs.declared.error.NoPlan.{NoPlan}
use Rattle.plan_file.specs.declared.error.NoPlan.TheVariants.{Memory}
use Rattle.plan_file.specs.declared.plan.Plan.{Plan}
use Rattle.device_model.specs.declared.numbers.RunNumbers.{RunNumbers}
use Rattle.live_calls.specs.Held.{Opened, OpenedPlan}
use Rattle.live_calls.specs.declared.held.HeldNode.{HeldNode}

-- a node of the plan that a text says
pub opened_of : (text : List ℕ) (plan : Plan) (made : Result HeldNode NoPlan) → plan_of_text text ≡ Ok plan
    → MatchResult made (OpenedPlan plan) (λ broken. broken ≡ Memory) → IfOk made (Opened text)
opened_of text plan (Ok held) is h = record { plan = plan; is_plan = is; opened = h }
opened_of text plan (Err broken) is h = tt

-- of a plan no other refusal than want of memory is left
pub not_refused : (P : Type 0) (plan : Plan) (made : Result HeldNode NoPlan) (broken : NoPlan)
    → MatchResult made (OpenedPlan plan) (λ it. it ≡ Memory) → made ≡ Err broken → broken ≢ Memory → P
not_refused P plan (Ok held) broken h e not = cc
not_refused P plan (Err it) broken h e not = absurd (not cc)

-- the numbers of a run that is over
pub numbers_left : (Q : RunNumbers → Type 0) (turns past : ℕ) (ended : Option RunNumbers) (numbers : RunNumbers)
    → MatchOption ended (past < turns) Q → ended ≡ Some numbers → Q numbers
numbers_left Q turns past None numbers h e = cc
numbers_left Q turns past (Some it) numbers h e = subst (λ (o : Option RunNumbers). MatchOption o (past < turns) Q) e h

-- there are some
pub numbers_there : (Q : RunNumbers → Type 0) (turns past : ℕ) (ended : Option RunNumbers) → MatchOption ended (past < turns) Q → turns ≤ past
    → is_some ended ≡ true
numbers_there Q turns past None h over = absurd (let less : past < turns = h in omega arith)
numbers_there Q turns past (Some it) h over = refl
