-- The data groups of a row, cycle by cycle, and as groups of the multiframe.
use Rattle.std.proofs.Common.{◌≡◌, ℕ, ◌+◌, List, [], ◌++◌, cond, refl, ap, ◌∙◌, arith, append-nil}
use Rattle.std.specs.List.{range_with_len, flat_map}
use Rattle.std.proofs.lemmas.List.Concat.{flat_map-append}
use Rattle.gmp_rule.specs.DataRule.{is_data_at}
use Rattle.odtu_columns.specs.Payload.{payload_group}
use Rattle.odtu_columns.proofs.Cycles.{range-append}
use Rattle.trib_sink.specs.Steps.Rows.{row_data}

pub row_data-none : (line c before : ℕ) (payload slots : List ℕ) → row_data line c before payload slots 0 ≡ []
unfolding row_data
row_data-none line c before payload slots = refl

pub row_data-more : (line c before : ℕ) (payload slots : List ℕ) (x : ℕ)
    → row_data line c before payload slots (x + 1) ≡ row_data line c before payload slots x ++ cond (is_data_at c (before + x + 1)) (payload_group line payload slots x) []
unfolding row_data
row_data-more line c before payload slots x =
    let piece : ℕ → List ℕ = λ x. cond (is_data_at c (before + x + 1)) (payload_group line payload slots x) [] in
    ap (flat_map piece) (range-append 0 x 1)
    ∙ flat_map-append piece (range_with_len 0 x) (range_with_len (0 + x) 1)
    ∙ ap (λ xs. flat_map piece (range_with_len 0 x) ++ xs) (append-nil (piece (0 + x)) ∙ ap piece (let e : 0 + x ≡ x = omega arith in e))

pub ruleset row_steps = (row_data-none, row_data-more)
