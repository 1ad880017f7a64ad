use Rattle.std.proofs.Common.{◌∙◌, sym}
use Rattle.plan_file.specs.Steps.Seen.{outline_in}
use Rattle.plan_file.proofs.Faults.{fault_of_within, fault_of_many, few_entries}
use Rattle.plan_file.proofs.rules.fault.fault.Goals as goal

pub first_of-requires : goal.first_of-requires
first_of-requires c = few_entries (outline_in c.args.outline.now) (sym c.if-breaks_whole-2.ensures)

pub returns-then-breaks_whole-2 : goal.returns-then-breaks_whole-2
returns-then-breaks_whole-2 c = sym (fault_of_many (outline_in c.args.outline.now) (sym c.if-breaks_whole.ensures) (sym c.if-breaks_whole-2.ensures))

pub returns : goal.returns
returns c = c.first_of.ensures ∙ sym (fault_of_within (outline_in c.args.outline.now) (sym c.if-breaks_whole.ensures) (sym c.if-breaks_whole-2.ensures))
