use Rattle.std.proofs.Common.{◌≡◌, ℕ, ◌+◌, ◌-◌, ◌*◌, ◌/◌, List, ◌++◌, length, take, drop, arith, ap, ◌∙◌, sym, rules}
use Rattle.std.specs.List.{refill}
use Rattle.std.proofs.lemmas.List.{drop-drop}
use Rattle.lane_kernels.specs.Loans.{after_slot_loan}
use Rattle.lane_kernels.proofs.slot_rows.SlotRows.slot_mut.Goals as goal

-- the bytes of all slots, with these left behind the loan of a slot's, as the `Vec` gives them
lent : (size slots slot : ℕ) (items rows bytes : List ℕ) → items ≡ rows → size ≡ 3808
    → (let start = 3808 / slots * (slot - 1) in refill size items (take start items ++ (bytes ++ drop (length bytes) (drop start items)))) ≡ after_slot_loan slots slot rows bytes
unfolding after_slot_loan
lent size slots slot items rows bytes e n =
    let start = 3808 / slots * (slot - 1) in
    ap (λ rest. refill size items (take start items ++ (bytes ++ rest))) (drop-drop (length bytes) start items)
    ∙ ap (λ all. refill size all (take start all ++ (bytes ++ drop (start + length bytes) all))) e
    ∙ ap (λ n. refill n rows (take start rows ++ (bytes ++ drop (start + length bytes) rows))) n

pub returns : goal.returns
returns g c =
    let n = 3808 / g.row.SLOTS in
    let start = n * (c.args.k - 1) in
    let columns : start + n - start ≡ n = omega arith in
    let size : c.self.inside.bytes.len ≡ 3808 = omega arith in
    let bytes_are = c.slice_mut.ensures.value ∙ ap (λ n. take n (drop start c.self.inside.bytes.items)) columns in (
      (search rules, λ w. lent c.self.inside.bytes.len g.row.SLOTS c.args.k c.self.inside.bytes.items c.args.self.now w c.self.view_is size),
      record {
        writes_back = tt;
        bytes = bytes_are ∙ ap (λ bytes. take n (drop start bytes)) c.self.view_is;
        size = c.slice_mut.ensures.len ∙ columns;
        all = ap length (sym c.self.view_is) ∙ c.self.invariant.0;
        slots = c.self.invariant.1;
      },
    )
