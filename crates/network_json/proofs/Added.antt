-- Lists of values, one more at a time.
use Rattle.std.proofs.Common.{◌≡◌, ◌∙◌, ◌+◌, ℕ, Bool, false, List, [], ◌∷◌, ◌++◌, Some}
use Rattle.std.proofs.Common.{length, take, slice_get, refl, sym, ap, arith, append-nil, append_assoc}
use Rattle.std.specs.Prelude.{flat_map, map}
use Rattle.std.proofs.lemmas.List.{map-append}
use Rattle.plan_file.specs.declared.plan.Plan.{Plan}
use Rattle.serde_json.specs.Data.{Data}
use Rattle.serde_json.specs.View.{view}
use Rattle.serde_json.specs.declared.value.Value.{Value}
use Rattle.network_view.specs.Entries.{Named}
use Rattle.network_view.proofs.Lists.{flat_more, take_count, take_on}
use Rattle.network_json.specs.NetworkJson.{node_data, nodes_from, only_if}

-- a value at the end
pub pushed : (old new : List Value) (value : Value) (d : Data) → new ≡ old ++ value ∷ [] → view value ≡ d → map view new ≡ map view old ++ d ∷ []
pushed old new value d all is = ap (map view) all ∙ map-append view old (value ∷ []) ∙ ap (λ e. map view old ++ e ∷ []) is

-- a value for one item more
pub value_more : {A : Type 0} (f : A → Data) (xs : List A) (i : ℕ) (x : A) (old new : List Value) (value : Value) → slice_get xs i ≡ Some x
    → map view old ≡ map f (take i xs) → view value ≡ f x → new ≡ old ++ value ∷ [] → map view new ≡ map f (take (i + 1) xs)
value_more f xs i x old new value known so is all =
    pushed old new value (f x) all is ∙ ap (λ t. t ++ f x ∷ []) so ∙ sym (map-append f (take i xs) (x ∷ [])) ∙ ap (map f) (sym (take_on xs i x known))

-- ---- nodes

nodes_on : (named : Named) (node : ℕ) (plans : List Plan) (plan : Plan)
    → nodes_from named node (plans ++ plan ∷ []) ≡ nodes_from named node plans ++ node_data named (node + length plans) plan ∷ []
unfolding nodes_from
nodes_on named node [] plan = ap (λ n. node_data named n plan ∷ []) (let e : node ≡ node + 0 = omega arith in e)
nodes_on named node (p ∷ plans) plan =
    ap (λ t. node_data named node p ∷ t)
    (nodes_on named (node + 1) plans plan
    ∙ ap (λ n. nodes_from named (node + 1) plans ++ node_data named n plan ∷ [])
    (let e : node + 1 + length plans ≡ node + length (p ∷ plans) = omega arith in e))

-- no nodes
pub nodes_none : (named : Named) (node : ℕ) → nodes_from named node [] ≡ []
unfolding nodes_from
nodes_none named node = refl

-- a node more
pub node_more : (named : Named) (plans : List Plan) (i : ℕ) (plan : Plan) (old new : List Value) (value : Value) → slice_get plans i ≡ Some plan
    → map view old ≡ nodes_from named 0 (take i plans) → view value ≡ node_data named i plan → new ≡ old ++ value ∷ []
    → map view new ≡ nodes_from named 0 (take (i + 1) plans)
node_more named plans i plan old new value known so is all =
    let count : i ≡ 0 + length (take i plans) = let e = take_count plans i plan known in omega arith in
    pushed old new value (node_data named i plan) all is ∙ ap (λ t. t ++ node_data named i plan ∷ []) so
    ∙ ap (λ n. nodes_from named 0 (take i plans) ++ node_data named n plan ∷ []) count ∙ sym (nodes_on named 0 (take i plans) plan)
    ∙ ap (nodes_from named 0) (sym (take_on plans i plan known))

-- ---- lists one after another

map_flat : {A B C : Type 0} (g : B → C) (f : A → List B) (xs : List A) → map g (flat_map f xs) ≡ flat_map (λ x. map g (f x)) xs
map_flat g f [] = refl
map_flat g f (x ∷ xs) = map-append g (f x) (flat_map f xs) ∙ ap (λ t. map g (f x) ++ t) (map_flat g f xs)

-- the values of a list for each item, of one item more
pub values_more : {A B : Type 0} (g : B → Data) (f : A → List B) (xs : List A) (i : ℕ) (x : A) (old new : List Value) → slice_get xs i ≡ Some x
    → map view old ≡ map g (flat_map f (take i xs)) → map view new ≡ map view old ++ map g (f x) → map view new ≡ map g (flat_map f (take (i + 1) xs))
values_more g f xs i x old new known so all =
    flat_more (λ y. map g (f y)) xs i x (map view old) (map g (f x)) (map view new) known (so ∙ map_flat g f (take i xs)) refl all
    ∙ sym (map_flat g f (take (i + 1) xs))

-- the same, after what was there before
pub after_more : {A B : Type 0} (f : A → List B) (xs : List A) (i : ℕ) (x : A) (base old new : List B) → slice_get xs i ≡ Some x
    → old ≡ base ++ flat_map f (take i xs) → new ≡ old ++ f x → new ≡ base ++ flat_map f (take (i + 1) xs)
after_more f xs i x base old new known so is =
    is ∙ ap (λ t. t ++ f x) so ∙ append_assoc base (flat_map f (take i xs)) (f x)
    ∙ ap (λ t. base ++ t) (flat_more f xs i x (flat_map f (take i xs)) (f x) (flat_map f (take i xs) ++ f x) known refl refl refl)

-- ---- a value where something is so

-- nothing more, where it is not so
pub none_if : (xs : List Data) (b : Bool) (d : Data) → b ≡ false → xs ≡ xs ++ only_if b d
none_if xs b d no_more = sym (ap (λ so. xs ++ only_if so d) no_more ∙ append-nil xs)

-- nothing more, where the rest is empty
pub none_after : (xs ys : List Data) → ys ≡ [] → xs ≡ xs ++ ys
none_after xs ys empty = sym (ap (λ t. xs ++ t) empty ∙ append-nil xs)
