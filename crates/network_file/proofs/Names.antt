-- Nodes by their names.
use Rattle.std.proofs.Common.{◌≡◌, ℕ, ◌+◌, ◌<◌, ◌≤◌, Bool, true, false, ◌||◌, cond, List, [], ◌∷◌, drop, length, Some, slice_get, refl, sym, ◌∙◌, arith, suc}
use Rattle.std.specs.Str.{bytes_eq}
use Rattle.std.proofs.lemmas.List.{at_drop_all}
use Rattle.std.proofs.lemmas.Slice.Eq.{bytes_eq-Decides}
use Rattle.plan_table.proofs.Steps.{step}
use Rattle.network_file.specs.declared.node.NodeEntry.{NodeEntry}
use Rattle.network_file.specs.Outline.{index_of}
use Rattle.network_file.specs.Rules.{names}

pub same_name : (name other : List ℕ) → bytes_eq name other ≡ true → name ≡ other
same_name name other e = (bytes_eq-Decides name other).0 e

pub one_name : (name other : List ℕ) → name ≡ other → bytes_eq name other ≡ true
one_name name other same = (bytes_eq-Decides name other).1 same

inside_step : (x rest : Bool) (i n : ℕ) → (x || rest) ≡ true → (rest ≡ true → i < n) → cond x 0 (i + 1) < suc n
inside_step true rest i n h later = omega arith
inside_step false rest i n h later = let below = later h in omega arith

pub index_inside : (name : List ℕ) (nodes : List NodeEntry) → names nodes name ≡ true → index_of name nodes < length nodes
index_inside name [] h = cc
index_inside name (node ∷ nodes) h =
    inside_step (bytes_eq name node.name) (names nodes name) (index_of name nodes) (length nodes) h (index_inside name nodes)

index_step : (name other here : List ℕ) (rest rest' : Bool) (i j : ℕ) (x y : Bool) → bytes_eq name here ≡ x → bytes_eq other here ≡ y → (x || rest) ≡ true
    → (y || rest') ≡ true → cond x 0 (i + 1) ≡ cond y 0 (j + 1) → (rest ≡ true → rest' ≡ true → i ≡ j → name ≡ other) → name ≡ other
index_step name other here rest rest' i j true true is is' h h' e later = same_name name here is ∙ sym (same_name other here is')
index_step name other here rest rest' i j true false is is' h h' e later = absurd (omega arith)
index_step name other here rest rest' i j false true is is' h h' e later = absurd (omega arith)
index_step name other here rest rest' i j false false is is' h h' e later = later h h' (omega arith)

pub index_apart : (name other : List ℕ) (nodes : List NodeEntry) → names nodes name ≡ true → names nodes other ≡ true
    → index_of name nodes ≡ index_of other nodes → name ≡ other
index_apart name other [] h h' e = cc
index_apart name other (node ∷ nodes) h h' e =
    index_step name other node.name (names nodes name) (names nodes other) (index_of name nodes) (index_of other nodes) (bytes_eq name node.name)
    (bytes_eq other node.name) refl refl h h' e (index_apart name other nodes)

-- ---- the steps of a loop that looks for a name

pub index_go : (name : List ℕ) (nodes : List NodeEntry) (i : ℕ) (node : NodeEntry) → slice_get nodes i ≡ Some node → bytes_eq name node.name ≡ false
    → index_of name (drop i nodes) + i ≡ index_of name (drop (i + 1) nodes) + (i + 1)
index_go name nodes i node known fails = step (λ rest. index_of name rest + i) nodes i node known ∙ rw fails (omega arith)

pub index_stop : (name : List ℕ) (nodes : List NodeEntry) (i : ℕ) (node : NodeEntry) → slice_get nodes i ≡ Some node → bytes_eq name node.name ≡ true
    → index_of name (drop i nodes) + i ≡ i
index_stop name nodes i node known holds = step (λ rest. index_of name rest + i) nodes i node known ∙ rw holds (omega arith)

pub index_done : (name : List ℕ) (nodes : List NodeEntry) (i : ℕ) → length nodes ≤ i → index_of name (drop i nodes) + i ≡ i
index_done name nodes i end = at_drop_all (λ rest. index_of name rest + i) nodes i end ∙ (omega arith)

pub ruleset indices = (index_go, index_stop, index_done)
