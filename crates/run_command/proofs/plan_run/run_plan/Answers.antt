use Rattle.std.proofs.Common.{◌∙◌, Result, Ok, Err, IfErr, ap, subst}
use Rattle.otn_base.specs.declared.memory.Memory.{Memory as NoMemory}
use Rattle.port_base.specs.PortViews.{sink_view, source_view}
use Rattle.command_base.specs.Device.{device}
use Rattle.check_command.specs.PlanReading.{PlanReading}
use Rattle.run_command.specs.declared.plan_run.Ran.{Ran}
use Rattle.run_command.proofs.CarriedPlans.{accepted_ran, accepted_stays}
use Rattle.run_command.proofs.plan_run.run_plan.Goals as goal

second : (result : Result Ran NoMemory) (A B C : Type 0) → IfErr result (λ _. A × B × C) → IfErr result (λ _. B)
second (Ok ran) A B C h = tt
second (Err memory) A B C h = h.1

map_err : (result : Result Ran NoMemory) (A B : Type 0) → (A → B) → IfErr result (λ _. A) → IfErr result (λ _. B)
map_err (Ok ran) A B f h = tt
map_err (Err memory) A B f h = f h

pub returns-in-Accepted-clause-ran : goal.returns-in-Accepted-clause-ran
returns-in-Accepted-clause-ran g c =
    let old = device g.P.Source g.K.Sink g.I.Source g.O.Sink c.args.plan.now c.args.bays.now c.args.report.now in
    let new = device g.P.Source g.K.Sink g.I.Source g.O.Sink c.read_plan.new.plan c.carry_plan.new.bays c.carry_plan.new.report in
    let reading = subst (λ result. PlanReading result (source_view g.P.Source c.args.plan.now) (source_view g.P.Source c.read_plan.new.plan)) (c.in_ok-plan.was ∙ ap Ok c.in-Accepted.is) c.read_plan.ensures in
    let same = map_err c.carry_plan.result _ _ (λ e. (ap (sink_view g.K.Sink) e.1, ap g.C.Chooser.asked e.2)) c.carry_plan.ensures.memory in
    accepted_ran c.in-Accepted.plan old new (g.C.Chooser.asked c.args.chooser.now) (g.C.Chooser.asked c.carry_plan.new.chooser) c.carry_plan.result reading same c.carry_plan.ensures.ran

pub returns-in-Accepted-clause-stays : goal.returns-in-Accepted-clause-stays
returns-in-Accepted-clause-stays g c =
    let old = device g.P.Source g.K.Sink g.I.Source g.O.Sink c.args.plan.now c.args.bays.now c.args.report.now in
    let new = device g.P.Source g.K.Sink g.I.Source g.O.Sink c.read_plan.new.plan c.carry_plan.new.bays c.carry_plan.new.report in
    let reading = subst (λ result. PlanReading result (source_view g.P.Source c.args.plan.now) (source_view g.P.Source c.read_plan.new.plan)) (c.in_ok-plan.was ∙ ap Ok c.in-Accepted.is) c.read_plan.ensures in
    let same = map_err c.carry_plan.result _ _ (λ e. (ap (sink_view g.K.Sink) e.1, ap g.C.Chooser.asked e.2)) c.carry_plan.ensures.memory in
    accepted_stays c.in-Accepted.plan old new (g.C.Chooser.asked c.args.chooser.now) (g.C.Chooser.asked c.carry_plan.new.chooser) c.carry_plan.result reading same c.carry_plan.ensures.ran
