use Rattle.std.proofs.Common.{◌≡◌, ◌∙◌, sym, ap, None, Ok}
use Rattle.toml.specs.View.{table_view}
use Rattle.plan_file.specs.Answer.{accepted_or}
use Rattle.plan_file.specs.Entry.{Outline, plan_of}
use Rattle.plan_file.specs.Refusal.{fault_of}
use Rattle.plan_file.specs.Table.{outline_at}
use Rattle.plan_file.proofs.Sounds.{outline_sound}
use Rattle.plan_file.proofs.read.plan.plan_of_values.Goals as goal

pub sound_plan-requires : goal.sound_plan-requires
sound_plan-requires c =
    let table = table_view c.args.top.now in
    let none : fault_of (outline_at table) ≡ None = sym (c.in-None.ensures ∙ ap fault_of c.of_table-outline.ensures) in
    rw c.of_table-outline.ensures (outline_sound table none)

pub returns-in-None : goal.returns-in-None
returns-in-None c = λ others.
    let table = table_view c.args.top.now in
    let none : fault_of (outline_at table) ≡ None = sym (c.in-None.ensures ∙ ap fault_of c.of_table-outline.ensures) in
    (c.sound_plan.ensures others) ∙ ap (λ (o : Outline). Ok (plan_of o)) c.of_table-outline.ensures ∙ sym (ap (accepted_or (plan_of (outline_at table))) none)
