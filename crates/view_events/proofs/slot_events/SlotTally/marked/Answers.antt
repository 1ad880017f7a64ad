use Rattle.std.proofs.Common.{◌≡◌, ◌+◌, ◌∙◌, ℕ, Bool, true, false, Some, drop, get_or, sym, ap, rules, arith}
use Rattle.std.specs.Prelude.{if◌then◌else◌}
use Rattle.std.specs.List.{find}
use Rattle.view_events.specs.SlotEvents.{msi_bytes, is_wrong_twice}
use Rattle.std.proofs.lemmas.Option.{slice_get-get_or}
use Rattle.view_events.proofs.Slots.{find_step, find_past}
use Rattle.view_events.proofs.slot_events.SlotTally.marked.Goals as goal

pub loop-slot-preserved : goal.loop-slot-preserved
loop-slot-preserved c past stands =
    let p : ℕ → Bool = λ slot. is_wrong_twice (msi_bytes slot past) c.args.first c.args.right in
    let all = c.args.slots.now in
    let i = c.loop-slot.slot-index in
    let one = get_or all i 0 in
    let known = slice_get-get_or all i 0 (let test = c.loop-slot-test.true in omega arith) in
    let wrong : c.is_wrong_twice.result ≡ false = search rules in
    c.loop-slot.invariant past stands ∙ find_step p all i one known
    ∙ ap (λ b. if b then Some one else find p (drop (i + 1) all)) (sym (c.is_wrong_twice.ensures past stands) ∙ wrong)

pub returns-then-is_wrong_twice : goal.returns-then-is_wrong_twice
returns-then-is_wrong_twice c past stands =
    let p : ℕ → Bool = λ slot. is_wrong_twice (msi_bytes slot past) c.args.first c.args.right in
    let all = c.args.slots.now in
    let i = c.loop-slot.slot-index in
    let one = get_or all i 0 in
    let known = slice_get-get_or all i 0 (let test = c.loop-slot-test.true in omega arith) in
    let wrong : c.is_wrong_twice.result ≡ true = search rules in
    sym (c.loop-slot.invariant past stands ∙ find_step p all i one known
    ∙ ap (λ b. if b then Some one else find p (drop (i + 1) all)) (sym (c.is_wrong_twice.ensures past stands) ∙ wrong))

pub returns : goal.returns
returns c past stands =
    let p : ℕ → Bool = λ slot. is_wrong_twice (msi_bytes slot past) c.args.first c.args.right in
    sym (c.loop-slot.invariant past stands ∙ find_past p c.args.slots.now c.loop-slot.slot-index (let test = c.loop-slot-test.false in omega arith))
