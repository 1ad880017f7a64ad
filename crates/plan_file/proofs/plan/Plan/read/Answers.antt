use Rattle.std.proofs.Common.{◌≡◌, None, Some, ◌∙◌}
use Rattle.toml.specs.View.{table_view}
use Rattle.plan_file.specs.Meaning.{table_of_text}
use Rattle.plan_file.proofs.Sounds.{accepted_without_fault}
use Rattle.plan_file.proofs.Texts.{answer_of}
use Rattle.plan_file.proofs.plan.Plan.read.Goals as goal

pub returns-in-Ok-Some-clause-plan : goal.returns-in-Ok-Some-clause-plan
returns-in-Ok-Some-clause-plan c = λ others.
    let is : Some (table_view c.in-Ok-Some.top) ≡ table_of_text c.args.text.now = rw c.in-Ok-Some.field-0-is at c.in-Ok-Some.ensures in
    (c.plan.ensures others) ∙ answer_of c.args.text.now (Some (table_view c.in-Ok-Some.top)) is

pub returns-in-Ok-Some-clause-accepted : goal.returns-in-Ok-Some-clause-accepted
returns-in-Ok-Some-clause-accepted c = accepted_without_fault (table_view c.in-Ok-Some.top) c.plan.result c.plan.ensures

pub returns-in-Ok-None-clause-plan : goal.returns-in-Ok-None-clause-plan
returns-in-Ok-None-clause-plan c = λ others.
    let is : None ≡ table_of_text c.args.text.now = rw c.in-Ok-None.field-0-is at c.in-Ok-None.ensures in
    answer_of c.args.text.now None is
