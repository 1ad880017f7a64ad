-- The fibres of a file that are whole: one after another, and the network that is left of them.
use Rattle.std.proofs.Common.{◌≡◌, ℕ, ◌+◌, ◌≤◌, Bool, true, false, List, [], ◌∷◌, ◌++◌, drop, length, cond, Some, slice_get, ap, sym, ◌∙◌, zero, suc}
use Rattle.std.specs.List.{Contains}
use Rattle.std.proofs.lemmas.List.{append_assoc, append-nil, at_drop_all}
use Rattle.plan_file.specs.declared.plan.Plan.{Plan}
use Rattle.plan_table.proofs.Steps.{step}
use Rattle.network_laws.specs.Networks.{FibreEnds, IsNetwork}
use Rattle.network_file.specs.Cuts.{is_cut, whole_from, whole_fibres, whole_network}
use Rattle.network_file.specs.Joining.{network_of}
use Rattle.network_file.specs.declared.cut.Cut.{Cut}
use Rattle.network_file.specs.declared.file.NetworkFile.{NetworkFile}
use Rattle.network_file.proofs.Places.{element_of, is_element}

-- ---- the steps of a loop that takes the whole ones

-- one fibre more
pub whole_go : (cuts : List Cut) (fibres more next : List FibreEnds) (i : ℕ) (f : FibreEnds) → slice_get fibres i ≡ Some f
    → next ≡ more ++ cond (is_cut cuts (i + 1)) [] (f ∷ []) → more ++ whole_from (i + 1) cuts (drop i fibres) ≡ whole_from 1 cuts fibres
    → next ++ whole_from (i + 1 + 1) cuts (drop (i + 1) fibres) ≡ whole_from 1 cuts fibres
whole_go cuts fibres more next i f known is so_far =
    ap (λ l. l ++ whole_from (i + 1 + 1) cuts (drop (i + 1) fibres)) is
    ∙ append_assoc more (cond (is_cut cuts (i + 1)) [] (f ∷ [])) (whole_from (i + 1 + 1) cuts (drop (i + 1) fibres))
    ∙ sym (step (λ rest. more ++ whole_from (i + 1) cuts rest) fibres i f known) ∙ so_far

-- where none is left, these are all
pub whole_done : (cuts : List Cut) (fibres more : List FibreEnds) (i : ℕ) → length fibres ≤ i
    → more ++ whole_from (i + 1) cuts (drop i fibres) ≡ whole_from 1 cuts fibres → more ≡ whole_from 1 cuts fibres
whole_done cuts fibres more i end so_far =
    sym (append-nil more) ∙ sym (at_drop_all (λ rest. more ++ whole_from (i + 1) cuts rest) fibres i end) ∙ so_far

-- ---- the network that is left

-- a fibre that is whole stands in the file
found : (cut : Bool) (number : ℕ) (cuts : List Cut) (f : FibreEnds) (fibres : List FibreEnds) (j : ℕ) (x : FibreEnds)
    → slice_get (cond cut [] (f ∷ []) ++ whole_from number cuts fibres) j ≡ Some x
    → ((k : ℕ) → slice_get (whole_from number cuts fibres) k ≡ Some x → Contains fibres x) → Contains (f ∷ fibres) x
found true number cuts f fibres j x at later =
    let has = later j at in is_element (f ∷ fibres) (suc has.0) x (element_of fibres x has)
found false number cuts f fibres zero x at later = is_element (f ∷ fibres) 0 x at
found false number cuts f fibres (suc j) x at later =
    let has = later j at in is_element (f ∷ fibres) (suc has.0) x (element_of fibres x has)

-- so each whole one
pub has_from : (number : ℕ) (cuts : List Cut) (fibres : List FibreEnds) (j : ℕ) (x : FibreEnds) → slice_get (whole_from number cuts fibres) j ≡ Some x
    → Contains fibres x
has_from number cuts [] j x at = cc
has_from number cuts (f ∷ fibres) j x at =
    found (is_cut cuts number) (number + 1) cuts f fibres j x at (λ k later. has_from (number + 1) cuts fibres k x later)

-- so one of the file
pub whole_has : (file : NetworkFile) (f : FibreEnds) → Contains (whole_fibres file) f → Contains file.fibres f
whole_has file f has = has_from 1 file.cuts file.fibres has.0 f (element_of (whole_fibres file) f has)

-- a network without some of its fibres is one
pub whole_is_network : (file : NetworkFile) (plans : List Plan) → IsNetwork (network_of file plans) → IsNetwork (whole_network file plans)
whole_is_network file plans is = record {
  accepted = is.accepted;
  ends = λ f has. is.ends f (whole_has file f has);
  forms = λ f plan next has here there out into. is.forms f plan next (whole_has file f has) here there out into;
  single = λ f g has has' there into. is.single f g (whole_has file f has) (whole_has file g has') there into;
}
