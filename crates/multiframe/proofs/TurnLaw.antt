-- A turn of the phase in which the frames of a line were taken is a turn of the line.
use Rattle.std.proofs.Common.{◌≡◌, ◌↔◌, ℕ, ◌+◌, ◌-◌, ◌/◌, ◌<◌, ◌≤◌, min, Bool, true, false, ltb, leb, eqb, List, length, take, drop, Some, refl, arith, ap, ◌∙◌, length-drop}
use Rattle.std.proofs.lemmas.List.{length-take}
use borrow.Author.Tests.{ltb-true}
use Rattle.std.proofs.lemmas.Bool.Decides.{nat_tests}
use Rattle.otn_base.specs.LineSlots.{slots_of}
use Rattle.otn_base.specs.declared.line_kind.LineKind.{LineKind}
use Rattle.otn_base.specs.declared.line_kind.LineKind.TheVariants.{Otu2, Otu3}
use Rattle.multiframe.specs.LineTurns.{Lock, Whole, outcome_of, after_outcome, wrong_count}
use Rattle.multiframe.specs.Alignment.{HasMultiframe, after_end, taken_of, IsAlignmentOf}

-- the turn's frames are all there, or not; at most half are wrong, or more
pub record TurnLaw (size : ℕ) (ms : List ℕ) (lock : Lock) : Type 0 where
  pub multiframe : HasMultiframe size (Some (taken_of size ms lock)) ↔ (outcome_of size ms lock ≡ Whole)
  pub after : IsAlignmentOf (after_outcome size lock (outcome_of size ms lock)) (after_end size (Some (taken_of size ms lock)))

-- by what is tested: whether the frames are not all there, and whether more than half are wrong
by_tests : (size : ℕ) (ms : List ℕ) (lock : Lock) (cut wrong : Bool)
    → ltb (length ms) (lock.frame + size) ≡ cut
    → ltb (size / 2) (wrong_count lock.expected (take size (drop lock.frame ms))) ≡ wrong
    → 0 < size
    → TurnLaw size ms lock
by_tests size ms lock true wrong e f pos =
    let n : length (take size (drop lock.frame ms)) ≡ min size (length ms - lock.frame) = length-take size (drop lock.frame ms) ∙ ap (min size) (length-drop lock.frame ms) in
    let below : length ms < lock.frame + size = ltb-true _ _ e in
    let short : eqb (length (take size (drop lock.frame ms))) size ≡ false = grind (arith, nat_tests) in
    record {
      multiframe = (λ h. absurd (let k = h.0 in omega arith), λ h. absurd (let no = rw e at h in cc));
      after = rw e tt;
    }
by_tests size ms lock false true e f pos =
    let n : length (take size (drop lock.frame ms)) ≡ min size (length ms - lock.frame) = length-take size (drop lock.frame ms) ∙ ap (min size) (length-drop lock.frame ms) in
    let there : lock.frame + size ≤ length ms = grind (arith, nat_tests) in
    let all : eqb (length (take size (drop lock.frame ms))) size ≡ true = grind (arith, nat_tests) in
    let more : size / 2 < wrong_count lock.expected (take size (drop lock.frame ms)) = ltb-true _ _ f in
    let test : leb (wrong_count lock.expected (take size (drop lock.frame ms))) (size / 2) ≡ false = grind (arith, nat_tests) in
    record {
      multiframe = (λ h. absurd (let k = h.1 in omega arith), λ h. absurd (let no = rw (e, f) at h in cc));
      after = rw (e, f, all, test) refl;
    }
by_tests size ms lock false false e f pos =
    let n : length (take size (drop lock.frame ms)) ≡ min size (length ms - lock.frame) = length-take size (drop lock.frame ms) ∙ ap (min size) (length-drop lock.frame ms) in
    let there : lock.frame + size ≤ length ms = grind (arith, nat_tests) in
    let full : length (take size (drop lock.frame ms)) ≡ size = omega arith in
    let all : eqb (length (take size (drop lock.frame ms))) size ≡ true = grind (arith, nat_tests) in
    let most : wrong_count lock.expected (take size (drop lock.frame ms)) ≤ size / 2 = grind (arith, nat_tests) in
    let test : leb (wrong_count lock.expected (take size (drop lock.frame ms))) (size / 2) ≡ true = grind (arith, nat_tests) in
    record {
      multiframe = (λ h. rw (e, f) refl, λ h. (full, most));
      after = rw (e, f, all, test) refl;
    }

pub turn_law : (size : ℕ) (ms : List ℕ) (lock : Lock) → 0 < size → TurnLaw size ms lock
turn_law size ms lock pos = by_tests size ms lock _ _ refl refl pos

-- a line of either kind has slots
pub some_slots : (kind : LineKind) → 0 < slots_of kind
some_slots Otu2 = omega arith
some_slots Otu3 = omega arith
