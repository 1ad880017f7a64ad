-- API: what is told of a text that is refused.
use Rattle.std.specs.Prelude.{◌≡◌, Option, Some, None, Result, Ok, Err}
use Rattle.plan_file.specs.declared.error.NoPlan.{NoPlan}
use Rattle.plan_file.specs.declared.error.NoPlan.TheVariants.{Refused, Memory}
use Rattle.plan_file.specs.declared.plan.Plan.{Plan}
use Rattle.plan_reasons.specs.declared.refusal.Refusal.{Refusal}

-- nothing is told of an accepted plan, and of any other the rule that it breaks first, and its place
abbrev pub IsToldOf : Result Plan NoPlan → Option Refusal → Type 0
IsToldOf (Ok plan) None = Unit {0}
IsToldOf (Ok plan) (Some refusal) = ⊥
IsToldOf (Err (Refused rule place)) None = ⊥
IsToldOf (Err (Refused rule place)) (Some refusal) = (refusal.rule ≡ rule) × (refusal.place ≡ place)
IsToldOf (Err Memory) refusal = Unit {0}
