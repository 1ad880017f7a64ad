use Rattle.std.proofs.Common.{◌≡◌, ◌+◌, ◌-◌, ◌*◌, length, get_or, ap, sym, ◌∙◌, arith}
use Rattle.otn_base.specs.LineSlots.{slots_of}
use Rattle.odtu_columns.proofs.AllSlots.{whole_place, whole_columns}
use Rattle.odtu_columns.proofs.LineCycles.{number_of, some_slots}
use Rattle.odtu_columns.proofs.put.lay_groups.Goals as goal

pub returns-then-slots-clause-put : goal.returns-then-slots-clause-put
returns-then-slots-clause-put g c = λ cycle i l h.
    let slots = c.args.slots.now in
    let line = slots_of c.args.kind in
    let all : length slots ≡ line = omega arith in
    ap (λ xs. get_or xs (line * cycle + (get_or slots i 0 - 1)) 0) c.lay.ensures
    ∙ sym (ap (λ k. get_or (g.G.RowGroups.groups c.args.groups.now) k 0) (whole_place line slots c.requires.list all cycle i h))

pub returns-then-slots-clause-kept : goal.returns-then-slots-clause-kept
returns-then-slots-clause-kept g c = λ n none.
    let slots = c.args.slots.now in
    let line = slots_of c.args.kind in
    let all : length slots ≡ line = omega arith in
    absurd (whole_columns line slots c.requires.list all (some_slots line (number_of c.args.kind)) n none)
