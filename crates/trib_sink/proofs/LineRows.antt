-- The groups of the rows and frames of a line of either kind, counted.
use Rattle.std.proofs.Common.{◌≡◌, ℕ, suc, ◌+◌, ◌*◌, ◌<◌, ◌≤◌, List, get_or, arith}
use Rattle.std.specs.Prelude.{All}
use Rattle.std.proofs.Math.Nat.{mul-le-mul_left}
use Rattle.std.proofs.lemmas.List.{get_or_default}
use Rattle.otn_base.specs.declared.line_kind.LineKind.{LineKind}
use Rattle.otn_base.specs.declared.line_kind.LineKind.TheVariants.{Otu2, Otu3}
use Rattle.otn_base.specs.LineSlots.{slots_of}
use Rattle.otn_base.specs.SlotList.{IsSlotList}
use Rattle.tributary_model.proofs.OnLine.{few_of_kind}
use Rattle.trib_sink.specs.Rows.{row_cycles}

-- the groups of a frame more are no more than those of a multiframe
pub frame_fits : (kind : LineKind) (asked taken : ℕ) → asked ≡ 4 * row_cycles kind * taken → taken < slots_of kind → asked + 4 * row_cycles kind ≤ 15232
frame_fits Otu2 asked taken e l = omega arith
frame_fits Otu3 asked taken e l = omega arith

-- so many are asked after it
pub frame_asked : (kind : LineKind) (asked taken : ℕ) → asked ≡ 4 * row_cycles kind * taken
    → asked + row_cycles kind + row_cycles kind + row_cycles kind + row_cycles kind ≡ 4 * row_cycles kind * (taken + 1)
frame_asked Otu2 asked taken e = omega arith
frame_asked Otu3 asked taken e = omega arith

-- the groups of a frame and those of the frames behind it
pub frames_asked : (kind : LineKind) (here later taken : ℕ) → here ≡ 4 * row_cycles kind → later ≡ 4 * row_cycles kind * taken → here + later ≡ 4 * row_cycles kind * suc taken
frames_asked Otu2 here later taken e f = omega arith
frames_asked Otu3 here later taken e f = omega arith

-- so high is each slot of a list
pub slots_inside : (kind : LineKind) (slots : List ℕ) → IsSlotList (slots_of kind) slots → All (λ k. (1 ≤ k) × (k ≤ 32)) slots
slots_inside kind slots list k d h =
    let same : get_or slots k d ≡ get_or slots k 0 = get_or_default slots k d 0 h in
    let low = list.low k h in
    let high = list.high k h in
    let line = few_of_kind kind in
    (omega arith, omega arith)

-- behind the bytes of some cycles, which stand behind others, there is room for those of further ones
pub room_behind : (m at end cycle run groups room : ℕ) → end ≤ at + m * cycle → cycle + run ≤ groups → at + m * groups ≤ room → end + m * run ≤ room
room_behind m at end cycle run groups room e l h =
    let wide : m * (cycle + run) ≤ m * groups = mul-le-mul_left m l in
    let apart : m * (cycle + run) ≡ m * cycle + m * run = omega arith in
    omega arith

-- behind the bytes of this turn there is room for the groups of a row more
pub row_room : (m asked n end room : ℕ) → end ≤ m * asked → asked + n ≤ 15232 → room ≡ m * 15233 → end + m * n ≤ room
row_room m asked n end room few fits is =
    let wide : m * (asked + n) ≤ m * 15233 = mul-le-mul_left m (let less : asked + n ≤ 15233 = omega arith in less) in
    let apart : m * (asked + n) ≡ m * asked + m * n = omega arith in
    omega arith

-- and there are no more then
pub row_after : (m asked n end now : ℕ) → end ≤ m * asked → now ≤ end + m * n → now ≤ m * (asked + n)
row_after m asked n end now few more =
    let apart : m * (asked + n) ≡ m * asked + m * n = omega arith in
    omega arith
