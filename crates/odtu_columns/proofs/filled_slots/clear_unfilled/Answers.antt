use Rattle.std.proofs.Common.{◌∙◌, inr, arith}
use Rattle.odtu_columns.proofs.FilledSlots.{more_cleared}
use Rattle.odtu_columns.proofs.filled_slots.clear_unfilled.Goals as goal

pub loop-k-preserved : goal.loop-k-preserved
loop-k-preserved c =
    let loop = c.loop-k in
    let cleared = c.clear_slot.ensures in record {
      size = cleared.size;
      done = more_cleared loop.k c.args.filled.now c.args.bytes.now loop.bytes c.clear_slot.new.bytes cleared.here cleared.others loop.invariant.done loop.invariant.rest;
      rest = λ n past. cleared.others n (inr (omega arith)) ∙ loop.invariant.rest n (omega arith);
    }

pub returns-clause-cleared : goal.returns-clause-cleared
returns-clause-cleared c = λ n h.
    let past = c.loop-k-test.false in
    c.loop-k.invariant.done n (omega arith)
