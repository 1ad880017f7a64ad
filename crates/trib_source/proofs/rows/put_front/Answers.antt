use Rattle.std.proofs.Common.{◌≡◌, ◌*◌, ◌<◌, ◌≤◌, ◌∙◌, take, drop, length, ap, subst, sym, arith}
use Rattle.std.proofs.lemmas.List.{get_or-take, length-take-le}
use Rattle.std.proofs.Math.Nat.{mul-le-mul_left}
use Rattle.otn_base.specs.LineSlots.{slots_of}
use Rattle.trib_source.specs.Rows.{groups_in_row}
use Rattle.trib_source.specs.Steps.Rows.{data_bytes, byte_laid}
use Rattle.trib_source.proofs.RowsPut.{front_byte, front_is, taken_is, taken_enough, rows_same}
use Rattle.trib_source.proofs.rows.put_front.Goals as goal

pub fill_rows-requires-clause-fresh : goal.fill_rows-requires-clause-fresh
fill_rows-requires-clause-fresh g c =
    let count = c.args.m * c.data_between.result in
    let front = c.front-front.result.now in
    length-take-le count front c.if-count-front.true
    ∙ taken_is c.args.m c.args.cm c.args.asked c.args.cycles c.data_between.result c.data_between.ensures.count
    ∙ ap (data_bytes c.args.m c.args.cm c.args.asked) c.requires.cycles

pub returns-then-count-front-clause-rows : goal.returns-then-count-front-clause-rows
returns-then-count-front-clause-rows g c =
    let m = c.args.m in
    let count = m * c.data_between.result in
    let front = c.front-front.result.now in
    let items = c.args.backlog.now.items in
    let slots = c.args.slots.now in
    let w = groups_in_row (slots_of slots.kind) in
    let many : count ≡ data_bytes m c.args.cm c.args.asked (4 * w) =
    taken_is m c.args.cm c.args.asked c.args.cycles c.data_between.result c.data_between.ensures.count ∙ ap (data_bytes m c.args.cm c.args.asked) c.requires.cycles in
    rows_same (slots_of slots.kind) slots.list _ _ (byte_laid m c.args.cm c.args.asked (take count front)) (byte_laid m c.args.cm c.args.asked items) 4
    (λ x i l h. front_byte m c.args.cm c.args.asked (4 * w) x i items (take count front)
    (λ k inside. front_is front items count k c.front-front.ensures c.if-count-front.true (subst (λ j. k < j) (sym many) inside)) l (subst (λ j. i < j) (sym c.requires.m) h))
    c.fill_rows.ensures

pub drop_front-requires : goal.drop_front-requires
drop_front-requires g c =
    taken_enough c.args.m c.args.cm c.args.asked c.args.cycles c.data_between.result c.args.backlog.now c.data_between.ensures.count c.requires.most c.requires.high c.requires.enough

pub read_front-requires-clause-enough : goal.read_front-requires-clause-enough
read_front-requires-clause-enough g c =
    taken_enough c.args.m c.args.cm c.args.asked c.args.cycles c.data_between.result c.args.backlog.now c.data_between.ensures.count c.requires.most c.requires.high c.requires.enough

pub fill_rows-requires-2-clause-fresh : goal.fill_rows-requires-2-clause-fresh
fill_rows-requires-2-clause-fresh g c =
    let count = c.args.m * c.data_between.result in
    let few : count ≤ c.args.m * c.args.cycles = mul-le-mul_left c.args.m c.data_between.ensures.few in
    let room : length c.read_front.new.into ≡ c.args.m * c.args.cycles = c.read_front.auto.into ∙ c.requires.fresh in
    length-take-le count c.read_front.new.into (let k : count ≤ length c.read_front.new.into = omega (arith, few, room) in k)
    ∙ taken_is c.args.m c.args.cm c.args.asked c.args.cycles c.data_between.result c.data_between.ensures.count
    ∙ ap (data_bytes c.args.m c.args.cm c.args.asked) c.requires.cycles

pub returns-clause-rows : goal.returns-clause-rows
returns-clause-rows g c =
    let m = c.args.m in
    let count = m * c.data_between.result in
    let read = c.read_front.new.into in
    let items = c.args.backlog.now.items in
    let slots = c.args.slots.now in
    let w = groups_in_row (slots_of slots.kind) in
    let many : count ≡ data_bytes m c.args.cm c.args.asked (4 * w) =
    taken_is m c.args.cm c.args.asked c.args.cycles c.data_between.result c.data_between.ensures.count ∙ ap (data_bytes m c.args.cm c.args.asked) c.requires.cycles in
    rows_same (slots_of slots.kind) slots.list _ _ (byte_laid m c.args.cm c.args.asked (take count read)) (byte_laid m c.args.cm c.args.asked items) 4
    (λ x i l h. front_byte m c.args.cm c.args.asked (4 * w) x i items (take count read)
    (λ k inside. (let within : k < count = subst (λ j. k < j) (sym many) inside in get_or-take count read k 0 within ∙ c.read_front.ensures.bytes k within)) l (subst (λ j. i < j) (sym c.requires.m) h))
    c.fill_rows-2.ensures

pub returns-clause-backlog : goal.returns-clause-backlog
returns-clause-backlog g c =
    c.read_front.ensures.state
    ∙ ap (λ k. record c.args.backlog.now { items = drop k c.args.backlog.now.items }) (taken_is c.args.m c.args.cm c.args.asked c.args.cycles c.data_between.result c.data_between.ensures.count)
