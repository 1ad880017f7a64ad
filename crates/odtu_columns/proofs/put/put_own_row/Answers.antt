use Rattle.std.proofs.Common.{◌+◌, ◌-◌, ◌*◌, ◌∙◌, arith}
use Rattle.odtu_columns.proofs.PutSlot.{own_part}
use Rattle.odtu_columns.proofs.put.put_own_row.Goals as goal

pub returns-clause-put : goal.returns-clause-put
returns-clause-put c = λ cycle l.
    c.put_slot_row.ensures.put.put cycle 0 l (omega arith)
    ∙ own_part c.args.bytes.now (476 * (c.args.row - 1)) (476 * (c.args.row - 1) + 476) cycle (omega arith) l
