use Rattle.std.proofs.Common.{◌≡◌, ◌+◌, ◌*◌, length, get_or, ap, ◌∙◌, arith}
use Rattle.otn_base.specs.LineSlots.{slots_of}
use Rattle.odtu_columns.proofs.AllSlots.{whole_place}
use Rattle.odtu_columns.proofs.groups.gather.Goals as goal

pub returns-then-slots : goal.returns-then-slots
returns-then-slots c = λ j p lj lp.
    let slots = c.args.slots.now in
    let line = slots_of c.args.kind in
    let all : length slots ≡ line = omega arith in
    ap (λ xs. get_or xs (length slots * j + p) 0) c.copy_from_slice.ensures.after
    ∙ ap (λ k. get_or c.args.cycles.now k 0) (whole_place line slots c.requires.slots all j p lp)
