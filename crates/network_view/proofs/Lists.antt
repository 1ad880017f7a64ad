-- The steps of loops that go through a list by an index.
use Rattle.std.proofs.Common.{◌≡◌, ◌<◌, ◌≤◌, ◌+◌, ◌∙◌, ℕ, zero, suc, Bool, List, [], ◌∷◌, ◌++◌}
use Rattle.std.proofs.Common.{Some, length, take, get_or, slice_get, refl, sym, ap, arith, append-nil, append_assoc, length-append}
use Rattle.std.specs.Prelude.{filter, if◌then◌else◌}
use Rattle.std.specs.List.{flat_map, range_with_len}
use Rattle.std.proofs.Math.Seq.{take-length}
use Rattle.std.proofs.lemmas.Grind.{flat_map-append}
use Rattle.std.proofs.lemmas.List.Elements.{filter-append}
use Rattle.std.proofs.lemmas.List.{map-append}
use Rattle.std.proofs.lemmas.Option.{same_Some, slice_get_read, slice_get_within}
use Rattle.plan_file.specs.declared.connection.Connection.{Connection}
use Rattle.plan_file.specs.declared.plan.Plan.{Plan}
use Rattle.network_laws.specs.Routes.{Leg}
use Rattle.network_view.specs.Entries.{legs_at, legs_from}
use Rattle.network_view.specs.NetworkText.{numbered}

-- ---- the front of a list

pub known_item : {A : Type 0} (xs : List A) (i : ℕ) (item : A) → i < length xs → item ≡ get_or xs i item → slice_get xs i ≡ Some item
known_item xs i item less is = slice_get_read xs (length xs) i item refl less is

pub take_on : {A : Type 0} (xs : List A) (i : ℕ) (x : A) → slice_get xs i ≡ Some x → take (i + 1) xs ≡ take i xs ++ x ∷ []
take_on [] i x known = absurd (let less = slice_get_within [] i x known in omega arith)
take_on (y ∷ xs) zero x known = ap (λ z. z ∷ []) (same_Some y x known)
take_on (y ∷ xs) (suc i) x known = ap (λ n. take n (y ∷ xs)) (let e : suc i + 1 ≡ suc (i + 1) = omega arith in e) ∙ ap (λ t. y ∷ t) (take_on xs i x known)

-- the front of i items, where there is one more
pub take_count : {A : Type 0} (xs : List A) (i : ℕ) (x : A) → slice_get xs i ≡ Some x → length (take i xs) ≡ i
take_count [] i x known = absurd (let less = slice_get_within [] i x known in omega arith)
take_count (y ∷ xs) zero x known = refl
take_count (y ∷ xs) (suc i) x known = ap suc (take_count xs i x known)

pub take_all : {A : Type 0} (xs : List A) (i : ℕ) → length xs ≤ i → i ≤ length xs → take i xs ≡ xs
take_all xs i most least = ap (λ n. take n xs) (let e : i ≡ length xs = omega arith in e) ∙ take-length xs

-- ---- a text for each

-- one more: what was written, and the text of the next
pub flat_more : {A B : Type 0} (f : A → List B) (xs : List A) (i : ℕ) (x : A) (text line more : List B) → slice_get xs i ≡ Some x
    → text ≡ flat_map f (take i xs) → line ≡ f x → more ≡ text ++ line → more ≡ flat_map f (take (i + 1) xs)
flat_more f xs i x text line more known so is all =
    all ∙ ap (λ t. t ++ line) so ∙ ap (λ l. flat_map f (take i xs) ++ l) (is ∙ sym (append-nil (f x)))
    ∙ sym (flat_map-append f (take i xs) (x ∷ [])) ∙ ap (flat_map f) (sym (take_on xs i x known))

numbered_on : {A : Type 0} (f : ℕ → A → List ℕ) (k : ℕ) (xs ys : List A) → numbered f k (xs ++ ys) ≡ numbered f k xs ++ numbered f (k + length xs) ys
unfolding numbered
numbered_on f k [] ys = ap (λ n. numbered f n ys) (let e : k ≡ k + 0 = omega arith in e)
numbered_on f k (x ∷ xs) ys =
    ap (λ t. f k x ++ t) (numbered_on f (k + 1) xs ys ∙ ap (λ n. numbered f (k + 1) xs ++ numbered f n ys)
    (let e : k + 1 + length xs ≡ k + length (x ∷ xs) = omega arith in e))
    ∙ sym (append_assoc (f k x) (numbered f (k + 1) xs) (numbered f (k + length (x ∷ xs)) ys))

one_number : {A : Type 0} (f : ℕ → A → List ℕ) (k : ℕ) (x : A) → numbered f k (x ∷ []) ≡ f k x
unfolding numbered
one_number f k x = append-nil (f k x)

pub numbered_none : {A : Type 0} (f : ℕ → A → List ℕ) (k : ℕ) → numbered f k [] ≡ []
unfolding numbered
numbered_none f k = refl

pub numbered_more : {A : Type 0} (f : ℕ → A → List ℕ) (xs : List A) (i : ℕ) (x : A) (text line more : List ℕ) → slice_get xs i ≡ Some x
    → text ≡ numbered f 1 (take i xs) → line ≡ f (i + 1) x → more ≡ text ++ line → more ≡ numbered f 1 (take (i + 1) xs)
numbered_more f xs i x text line more known so is all =
    let count : 1 + length (take i xs) ≡ i + 1 = let e = take_count xs i x known in omega arith in
    all ∙ ap (λ t. t ++ line) so ∙ ap (λ l. numbered f 1 (take i xs) ++ l) (is ∙ sym (one_number f (i + 1) x) ∙ ap (λ n. numbered f n (x ∷ [])) (sym count))
    ∙ sym (numbered_on f 1 (take i xs) (x ∷ [])) ∙ ap (numbered f 1) (sym (take_on xs i x known))

-- the same, of lists one after another
pub flat_numbered : {A B : Type 0} (f : ℕ → B → List ℕ) (w : A → List B) (xs : List A) (i : ℕ) (x : A) (count : ℕ) (text more : List ℕ)
    → slice_get xs i ≡ Some x
    → count ≡ length (flat_map w (take i xs)) → text ≡ numbered f 1 (flat_map w (take i xs)) → more ≡ text ++ numbered f (count + 1) (w x)
    → more ≡ numbered f 1 (flat_map w (take (i + 1) xs))
flat_numbered f w xs i x count text more known counted so all =
    let next : count + 1 ≡ 1 + length (flat_map w (take i xs)) = omega arith in
    all ∙ ap (λ t. t ++ numbered f (count + 1) (w x)) so ∙ ap (λ n. numbered f 1 (flat_map w (take i xs)) ++ numbered f n (w x)) next
    ∙ sym (numbered_on f 1 (flat_map w (take i xs)) (w x))
    ∙ ap (numbered f 1) (flat_more w xs i x (flat_map w (take i xs)) (w x) (flat_map w (take i xs) ++ w x) known refl refl refl)

pub flat_count : {A B : Type 0} (w : A → List B) (xs : List A) (i : ℕ) (x : A) (count more : ℕ) → slice_get xs i ≡ Some x
    → count ≡ length (flat_map w (take i xs)) → more ≡ length (w x) → count + more ≡ length (flat_map w (take (i + 1) xs))
flat_count w xs i x count more known counted is =
    let next = flat_more w xs i x (flat_map w (take i xs)) (w x) (flat_map w (take i xs) ++ w x) known refl refl refl in
    let long = length-append (flat_map w (take i xs)) (w x) in
    (let e : count + more ≡ length (flat_map w (take i xs) ++ w x) = omega arith in e) ∙ ap length next

-- ---- numbers

range-more : (a n : ℕ) → range_with_len a (n + 1) ≡ range_with_len a n ++ (a + n) ∷ []
range-more a zero = ap (λ x. x ∷ []) (let e : a ≡ a + 0 = omega arith in e)
range-more a (suc n) =
    let next : a + 1 + n ≡ a + suc n = omega arith in
    ap (range_with_len a) (let e : suc n + 1 ≡ suc (n + 1) = omega arith in e)
    ∙ ap (λ xs. a ∷ xs) (range-more (a + 1) n ∙ ap (λ x. range_with_len (a + 1) n ++ x ∷ []) next)

pub filter_more : (test : ℕ → Bool) (k : ℕ) (free more : List ℕ) → free ≡ filter test (range_with_len 1 k)
    → more ≡ free ++ (if test (k + 1) then (k + 1) ∷ [] else []) → more ≡ filter test (range_with_len 1 (k + 1))
filter_more test k free more so is =
    let next : 1 + k ≡ k + 1 = omega arith in
    is ∙ ap (λ t. t ++ (if test (k + 1) then (k + 1) ∷ [] else [])) so
    ∙ ap (λ n. filter test (range_with_len 1 k) ++ (if test n then n ∷ [] else [])) (sym next)
    ∙ ap (λ t. filter test (range_with_len 1 k) ++ t) (sym (one (1 + k)))
    ∙ sym (filter-append test (range_with_len 1 k) ((1 + k) ∷ [])) ∙ ap (filter test) (sym (range-more 1 k))
  where
    one : (n : ℕ) → filter test (n ∷ []) ≡ (if test n then n ∷ [] else [])
    one n = refl

-- ---- entries

pub legs_more : (node : ℕ) (xs : List Connection) (i : ℕ) (x : Connection) (before legs more : List Leg) → slice_get xs i ≡ Some x
    → legs ≡ before ++ legs_at node (take i xs) → more ≡ legs ++ (record { node = node; x = x }) ∷ [] → more ≡ before ++ legs_at node (take (i + 1) xs)
legs_more node xs i x before legs more known so is =
    is ∙ ap (λ t. t ++ (record { node = node; x = x }) ∷ []) so ∙ append_assoc before (legs_at node (take i xs)) (legs_at node (x ∷ []))
    ∙ ap (λ t. before ++ t) (sym (map-append (λ y. record { node = node; x = y }) (take i xs) (x ∷ [])) ∙ ap (legs_at node) (sym (take_on xs i x known)))

legs_on : (node : ℕ) (plans : List Plan) (plan : Plan)
    → legs_from node (plans ++ plan ∷ []) ≡ legs_from node plans ++ legs_at (node + length plans) plan.connections
unfolding legs_from
legs_on node [] plan = append-nil (legs_at node plan.connections) ∙ ap (λ n. legs_at n plan.connections) (let e : node ≡ node + 0 = omega arith in e)
legs_on node (p ∷ plans) plan =
    ap (λ t. legs_at node p.connections ++ t)
    (legs_on (node + 1) plans plan ∙ ap (λ n. legs_from (node + 1) plans ++ legs_at n plan.connections)
    (let e : node + 1 + length plans ≡ node + length (p ∷ plans) = omega arith in e))
    ∙ sym (append_assoc (legs_at node p.connections) (legs_from (node + 1) plans) (legs_at (node + length (p ∷ plans)) plan.connections))

pub legs_none : (node : ℕ) → legs_from node [] ≡ []
unfolding legs_from
legs_none node = refl

pub legs_of_more : (plans : List Plan) (i : ℕ) (plan : Plan) (legs more : List Leg) → slice_get plans i ≡ Some plan
    → legs ≡ legs_from 0 (take i plans) → more ≡ legs ++ legs_at i plan.connections → more ≡ legs_from 0 (take (i + 1) plans)
legs_of_more plans i plan legs more known so is =
    let count : i ≡ 0 + length (take i plans) = let e = take_count plans i plan known in omega arith in
    is ∙ ap (λ t. t ++ legs_at i plan.connections) so ∙ ap (λ n. legs_from 0 (take i plans) ++ legs_at n plan.connections) count
    ∙ sym (legs_on 0 (take i plans) plan) ∙ ap (legs_from 0) (sym (take_on plans i plan known))
