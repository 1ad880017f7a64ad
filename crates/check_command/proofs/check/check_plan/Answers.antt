use Rattle.std.proofs.Common.{◌∙◌, Ok, ap, subst}
use Rattle.port_base.specs.PortViews.{sink_view, source_view}
use Rattle.check_command.specs.PlanReading.{PlanReading}
use Rattle.check_command.proofs.PlanChecks.{accepted_check}
use Rattle.check_command.proofs.check.check_plan.Goals as goal

pub returns-in-Accepted-clause-run : goal.returns-in-Accepted-clause-run
returns-in-Accepted-clause-run g c =
    let had = source_view g.P.Source c.args.plan.now in
    let has = source_view g.P.Source c.read_plan.new.plan in
    let reading = subst (λ result. PlanReading result had has) (c.in_ok-plan.was ∙ ap Ok c.in-Accepted.is) c.read_plan.ensures in
    accepted_check c.in-Accepted.plan had has (sink_view g.K.Sink c.args.report.now) (sink_view g.K.Sink c.tell_plan.new.report) c.tell_plan.result reading c.tell_plan.ensures.told c.tell_plan.ensures.later c.tell_plan.ensures.counts
