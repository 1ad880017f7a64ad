-- Believed: the answer to a text: the first rule that it breaks, or else the plan that it means. And that to a plan:
-- the first rule that it breaks.
use Rattle.std.specs.Prelude.{ℕ, List, Option, Some, None, Result, Ok, Err}
use Rattle.plan_file.specs.declared.error.PlanError.{PlanError}
use Rattle.plan_file.specs.declared.error.NoPlan.{NoPlan}
use Rattle.plan_file.specs.declared.error.NoPlan.TheVariants.{Refused}
use Rattle.plan_file.specs.declared.plan.Plan.{Plan}
use Rattle.plan_file.specs.Entry.{outline}
pub use Rattle.plan_file.specs.Meaning.{table_of_text, meaning_of}
pub use Rattle.plan_file.specs.Refusal.{fault_of, refusal_of}

-- this rule, at this place, where one is broken; else the plan: its numbers then fit the types of a plan
abbrev pub accepted_or : Plan → Option (PlanError × ℕ) → Result Plan NoPlan
accepted_or plan None = Ok plan
accepted_or plan (Some broken) = Err (Refused broken.0 broken.1)

-- the plan that a text means, or the first rule that it breaks
abbrev pub plan_of_text : List ℕ → Result Plan NoPlan
plan_of_text text = accepted_or (meaning_of text) (refusal_of text)

-- the first rule that the plan breaks
unfoldable pub fault_in : Plan → Option (PlanError × ℕ)
fault_in plan = fault_of (outline plan)
