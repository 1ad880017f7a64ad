use Rattle.std.proofs.Common.{◌∙◌}
use Rattle.odtu_columns.proofs.JoinRows.{all_beside}
use Rattle.odtu_columns.proofs.slot_frame.clear_between_rows.Goals as goal

pub returns : goal.returns
returns c =
    let first = c.clear_run.ensures in
    let second = c.clear_run-2.ensures in
    let third = c.clear_run-3.ensures in
    let fourth = c.clear_run-4.ensures in
    let last = c.clear_run-5.ensures in
    all_beside c.args.bytes.now c.clear_run.new.bytes c.clear_run-2.new.bytes c.clear_run-3.new.bytes c.clear_run-4.new.bytes c.clear_run-5.new.bytes
    (c.clear_run-5.auto.bytes ∙ c.clear_run-4.auto.bytes ∙ c.clear_run-3.auto.bytes ∙ c.clear_run-2.auto.bytes ∙ c.clear_run.auto.bytes ∙ c.requires)
    first.zero first.kept second.zero second.kept third.zero third.kept fourth.zero fourth.kept last.zero last.kept
