-- Steps of `tell_plan`: what private contracts alone cite, beside the definitions of `PlanCheck`.
use Rattle.std.specs.Prelude.{◌≡◌, ℕ, List, Option}
use Rattle.port_base.specs.Bytes.{after}
use Rattle.plan_file.specs.declared.plan.Plan.{Plan}
use Rattle.command_base.specs.Gains.{GainsPart}
use Rattle.command_base.specs.declared.status.Status.{Status}
use Rattle.command_base.specs.declared.status.Status.TheVariants as status
use Rattle.check_command.specs.PlanCheck.{plan_text}

-- the answer once a plan is accepted
abbrev pub PlanTold : Status → Plan → (old new : Option (List ℕ)) → Type 0
PlanTold status.Done plan old new = new ≡ after old (plan_text plan)
PlanTold status.ReportFault plan old new = GainsPart old new (plan_text plan)
PlanTold status.Memory plan old new = new ≡ old
PlanTold other plan old new = ⊥
