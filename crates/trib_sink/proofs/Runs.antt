-- The bytes of some slots in a run of cycles, all of whose groups are data.
use Rattle.std.proofs.Common.{◌≡◌, ℕ, zero, suc, ◌+◌, ◌<◌, ◌≤◌, List, [], ◌++◌, cond, length, take, ap, subst, sym, ◌∙◌, arith, append-nil, append_assoc}
use Rattle.std.proofs.lemmas.Bool.Decides.{nat_tests}
use Rattle.gmp_rule.specs.DataRule.{IsData, is_data_at}
use Rattle.odtu_columns.specs.Payload.{payload_group, run_groups}
use Rattle.odtu_columns.proofs.RunGroups.{run_groups-none, run_groups-more}
use Rattle.std.proofs.lemmas.Slice.{take-put_mid}
use borrow.Rule.Slice.PartMut.{put_mid}
use Rattle.trib_sink.specs.Steps.Rows.{row_data}
use Rattle.trib_sink.proofs.Rows.{row_data-more}

-- a data group gives its bytes
emitted : (c j : ℕ) (xs : List ℕ) → IsData c j → cond (is_data_at c j) xs [] ≡ xs
emitted c j xs h = grind (arith, nat_tests)

-- behind the bytes of some cycles stand those of a run of data cycles
pub row_data-run : (line c before : ℕ) (payload slots : List ℕ) (x run : ℕ) → ((i : ℕ) → i < run → IsData c (before + x + i + 1))
    → row_data line c before payload slots (x + run) ≡ row_data line c before payload slots x ++ run_groups line payload slots x run
row_data-run line c before payload slots x zero h =
    ap (row_data line c before payload slots) (let e : x + 0 ≡ x = omega arith in e) ∙ sym (ap (λ ys. row_data line c before payload slots x ++ ys) (run_groups-none line payload slots x) ∙ append-nil (row_data line c before payload slots x))
row_data-run line c before payload slots x (suc n) h =
    let row : ℕ → List ℕ = row_data line c before payload slots in
    let group : ℕ → List ℕ = payload_group line payload slots in
    let here : IsData c (before + (x + n) + 1) = subst (IsData c) (let e : before + x + n + 1 ≡ before + (x + n) + 1 = omega arith in e) (h n (omega arith)) in
    ap row (let e : x + suc n ≡ x + n + 1 = omega arith in e)
    ∙ row_data-more line c before payload slots (x + n)
    ∙ ap (λ ys. row (x + n) ++ ys) (emitted c (before + (x + n) + 1) (group (x + n)) here)
    ∙ ap (λ ys. ys ++ group (x + n)) (row_data-run line c before payload slots x n (λ i l. h i (omega arith)))
    ∙ append_assoc (row x) (run_groups line payload slots x n) (group (x + n))
    ∙ ap (λ ys. row x ++ ys) (sym (run_groups-more line payload slots x n) ∙ ap (run_groups line payload slots x) (let e : n + 1 ≡ suc n = omega arith in e))

-- what was written behind the first bytes
pub behind : (into written : List ℕ) (at k end : ℕ) → at ≤ length into → end ≡ at + length written → take end (put_mid at k into written) ≡ take at into ++ written
behind into written at k end room e = take-put_mid at k into written end e room

-- behind some bytes and the first cycles of a row stand one that is data or not, and then a run of data cycles
pub row_more : (line c before : ℕ) (payload slots front into mid new : List ℕ) (end next last x run : ℕ) → take end into ≡ front ++ row_data line c before payload slots x
    → take next mid ≡ take end into ++ cond (is_data_at c (before + x + 1)) (payload_group line payload slots x) []
    → take last new ≡ take next mid ++ run_groups line payload slots (x + 1) run
    → ((i : ℕ) → i < run → IsData c (before + x + 1 + i + 1))
    → take last new ≡ front ++ row_data line c before payload slots (x + (run + 1))
row_more line c before payload slots front into mid new end next last x run first one rest each =
    let here = cond (is_data_at c (before + x + 1)) (payload_group line payload slots x) [] in
    let runs = run_groups line payload slots (x + 1) run in
    rest
    ∙ ap (λ ys. ys ++ runs) (one ∙ ap (λ ys. ys ++ here) first ∙ append_assoc front (row_data line c before payload slots x) here ∙ ap (λ ys. front ++ ys) (sym (row_data-more line c before payload slots x)))
    ∙ append_assoc front (row_data line c before payload slots (x + 1)) runs
    ∙ ap (λ ys. front ++ ys) (sym (row_data-run line c before payload slots (x + 1) run (λ i l. subst (IsData c) (let e : before + x + 1 + i + 1 ≡ before + (x + 1) + i + 1 = omega arith in e) (each i l)))
    ∙ ap (row_data line c before payload slots) (let e : x + 1 + run ≡ x + (run + 1) = omega arith in e))
