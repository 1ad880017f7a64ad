use Rattle.std.proofs.Common.{◌≡◌, ◌≢◌, ◌⊎◌, inl, inr, ℕ, ◌+◌, ◌*◌, ◌-◌, ◌/◌, ◌%◌, ◌<◌, ◌≤◌, ◌∙◌, sym, ap, get_or, arith}
use Rattle.std.proofs.lemmas.List.{with_items_is}
use Rattle.std.specs.Vec.{with_items}
use Rattle.odtu_columns.specs.BySlots.{filled_slots}
use Rattle.odtu_columns.proofs.FilledSlots.{full, seen, full_slots}
use Rattle.odtu_columns.proofs.filled_slots.FilledSlots.split_row.Goals as goal

pub returns-clause-here : goal.returns-clause-here
returns-clause-here c = λ x h.
    let i = c.self.inside in
    let n = 1904 * (x % 8) + 476 * (c.args.row - 1) + x / 8 in
    let low = c.requires.row_low in
    let high = c.requires.row_high in
    let new = c.split8_among.new.into in
    let cleared = with_items i.bytes c.clear_unfilled.new.bytes in
    let whole : (with_items cleared new).items ≡ new = with_items_is cleared new (c.split8_among.auto.into ∙ c.deref_mut-2.ensures.len) in
    ap (λ xs. get_or (filled_slots full xs) n 0) whole
    ∙ full_slots new n (omega arith)
    ∙ c.split8_among.ensures.here (x % 8) (x / 8) (omega arith) (omega arith)
    ∙ ap (λ m. get_or c.args.payload.now m 0) (let e : 8 * (x / 8) + x % 8 ≡ x = omega arith in e)

beside : (row other j : ℕ) → 1 ≤ row → other ≢ row - 1 → j < 476 → (476 * other + j < 476 * (row - 1)) ⊎ (476 * (row - 1) + 476 ≤ 476 * other + j)
beside row other j low apart lj = go (order other (row - 1))
  where
    order : (a b : ℕ) → (a < b) ⊎ (b ≤ a)
    order a b = grind arith

    go : (other < row - 1) ⊎ (row - 1 ≤ other) → (476 * other + j < 476 * (row - 1)) ⊎ (476 * (row - 1) + 476 ≤ 476 * other + j)
    go (inl l) = inl (omega arith)
    go (inr g) = inr (let above : row ≤ other = omega arith in omega arith)

pub returns-clause-others : goal.returns-clause-others
returns-clause-others c = λ other x lo apart h.
    let i = c.self.inside in
    let y = 476 * other + x / 8 in
    let n = 1904 * (x % 8) + 476 * other + x / 8 in
    let e : n ≡ 1904 * (x % 8) + y = omega arith in
    let new = c.split8_among.new.into in
    let mid = c.clear_unfilled.new.bytes in
    let cleared = with_items i.bytes mid in
    let whole : (with_items cleared new).items ≡ new = with_items_is cleared new (c.split8_among.auto.into ∙ c.deref_mut-2.ensures.len) in
    let some : cleared.items ≡ mid = with_items_is i.bytes mid (c.clear_unfilled.ensures.size ∙ sym c.self.invariant ∙ sym i.bytes.ok.0) in
    ap (λ xs. get_or (filled_slots full xs) n 0) whole
    ∙ full_slots new n (omega arith)
    ∙ ap (λ m. get_or new m 0) e
    ∙ c.split8_among.ensures.others (x % 8) y (omega arith) (omega arith) (beside c.args.row other (x / 8) c.requires.row_low apart (omega arith))
    ∙ ap (λ m. get_or c.deref_mut-2.result.now m 0) (sym e)
    ∙ ap (λ xs. get_or xs n 0) (c.deref_mut-2.ensures.value ∙ some)
    ∙ c.clear_unfilled.ensures.cleared n (omega arith)
    ∙ sym (seen i.filled c.deref_mut.result.now n (omega arith))
    ∙ ap (λ xs. get_or (filled_slots i.filled xs) n 0) c.deref_mut.ensures.value
    ∙ ap (λ slots. get_or slots n 0) c.self.view_is
