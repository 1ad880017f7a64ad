use Rattle.otn_c.proofs.LineBytes.{pull_over_bytes, slot_over_bytes}
use Rattle.otn_c.proofs.PlanBytes.{plan_over_bytes}
use Rattle.otn_c.proofs.otn_run.Goals as goal

pub returns-clause-slot : goal.returns-clause-slot
returns-clause-slot c =
    slot_over_bytes c.slot_of_given.ensures.report c.args.words.now c.args.plan.now c.args.inputs.now c.args.ends.now c.args.present.now c.answer_call.result
    c.answer_call.new.told c.answer_call.new.outputs c.answer_call.new.output_ends c.answer_call.new.report c.answer_call.ensures.called

pub returns-clause-pull : goal.returns-clause-pull
returns-clause-pull c =
    pull_over_bytes c.pull_of_given.ensures.report c.args.words.now c.args.plan.now c.args.inputs.now c.args.ends.now c.args.present.now c.answer_call.result
    c.answer_call.new.told c.answer_call.new.outputs c.answer_call.new.output_ends c.answer_call.new.report c.answer_call.ensures.called

pub returns-clause-plan : goal.returns-clause-plan
returns-clause-plan c =
    plan_over_bytes c.check_of_text.ensures c.run_of_text.ensures c.args.words.now c.args.plan.now c.args.inputs.now c.args.ends.now c.args.present.now c.answer_call.result
    c.answer_call.new.told c.answer_call.new.outputs c.answer_call.new.output_ends c.answer_call.new.report c.answer_call.ensures.called
