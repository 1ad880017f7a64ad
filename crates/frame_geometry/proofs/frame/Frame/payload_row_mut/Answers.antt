use Rattle.std.proofs.Common.{◌≡◌, ℕ, ◌+◌, ◌-◌, ◌*◌, List, ◌++◌, length, take, drop, arith, ap, ◌∙◌, sym, rules}
use Rattle.std.specs.List.{refill}
use Rattle.std.proofs.lemmas.List.{drop-drop}
use Rattle.std.specs.Vec.{with_items_from}
use Rattle.frame_geometry.specs.Loans.{after_row_loan}
use Rattle.std.specs.Prelude.{unwrap_or}
use Rattle.frame_geometry.proofs.frame.Frame.payload_row_mut.Goals as goal

-- the bytes of the frame, with these left behind the loan of its payload columns, as the `Vec` gives them
lent : (size cols row : ℕ) (items frame payload : List ℕ) → items ≡ frame → size ≡ 4 * cols
    → (let start = cols * (row - 1) + 16 in refill size items (take start items ++ (payload ++ drop (length payload) (drop start items)))) ≡ after_row_loan cols row frame payload
unfolding after_row_loan
lent size cols row items frame payload e n =
    let start = cols * (row - 1) + 16 in
    ap (λ rest. refill size items (take start items ++ (payload ++ rest))) (drop-drop (length payload) start items)
    ∙ ap (λ bytes. refill size bytes (take start bytes ++ (payload ++ drop (start + length payload) bytes))) e
    ∙ ap (λ n. refill n frame (take start frame ++ (payload ++ drop (start + length payload) frame))) n

pub returns : goal.returns
returns g c =
    let start = g.row.COLS * (c.args.row - 1) + 16 in
    let columns : start + 3808 - start ≡ 3808 = omega arith in
    let items = c.take_over.new.bytes.items in
    let same : items ≡ c.args.self.now = c.take_over.ensures.bytes ∙ c.self.view_is in
    let all : length items ≡ 4 * g.row.COLS = ap length same ∙ sym (ap length c.self.view_is) ∙ c.self.invariant.0 in
    let size : c.take_over.new.bytes.len ≡ 4 * g.row.COLS = omega (arith, all) in (
      (search rules, λ w. ap (λ s. unwrap_or s (with_items_from c.take_over.new.bytes start w).items) c.take_over.ensures.none ∙ lent c.take_over.new.bytes.len g.row.COLS c.args.row items c.args.self.now w same size),
      record {
        writes_back = tt;
        bytes = c.slice_mut.ensures.value ∙ ap (λ n. take n (drop start items)) columns ∙ ap (λ bytes. take 3808 (drop start bytes)) same;
        size = search rules;
        frame = ap length (sym c.self.view_is) ∙ c.self.invariant.0;
        width = c.self.invariant.1;
      },
    )
