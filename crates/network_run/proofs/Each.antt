-- A list that is gone through one by one: what becomes of each.
use Rattle.std.proofs.Common.{◌≡◌, ◌≢◌, ◌⊎◌, inl, inr, ◌<◌, ◌≤◌, ◌+◌, ℕ, zero, suc, List, [], ◌∷◌, ◌++◌, Some, length, slice_get, get_or, set, take, drop, refl, sym, ap, ◌∙◌, subst, arith}
use Rattle.std.proofs.lemmas.List.{length-set}
use Rattle.std.proofs.lemmas.Option.{same_Some, slice_get_within, slice_get-get_or}
use Rattle.network_run.specs.Sites.{EachOne}

-- the first so many went from what they were to what they are in this way, and the others are as they were
pub record Gone {A : Type 0} (Goes : A → A → Type 0) (done : ℕ) (olds news : List A) : Type 0 where
  pub count : length news ≡ length olds
  pub past : (k : ℕ) (old new : A) → k < done → slice_get olds k ≡ Some old → slice_get news k ≡ Some new → Goes old new
  pub ahead : (k : ℕ) → done ≤ k → slice_get news k ≡ slice_get olds k

pub none_gone : {A : Type 0} (Goes : A → A → Type 0) (all : List A) → Gone Goes 0 all all
none_gone Goes all = record { count = refl; past = λ k old new less. absurd (omega arith); ahead = λ k least. refl }

pub at_index : {A : Type 0} (all : List A) (n : ℕ) (one : A) → n < length all → one ≡ get_or all n one → slice_get all n ≡ Some one
at_index all n one less is = slice_get-get_or all n one less ∙ ap Some (sym is)

pub set_here : {A : Type 0} (all : List A) (k : ℕ) (one : A) → k < length all → slice_get (set all k one) k ≡ Some one
set_here [] k one less = absurd (omega arith)
set_here (x ∷ all) zero one less = refl
set_here (x ∷ all) (suc k) one less = set_here all k one (omega arith)

set_below : {A : Type 0} (all : List A) (i k : ℕ) (one : A) → k < i → slice_get (set all i one) k ≡ slice_get all k
set_below [] i k one less = refl
set_below (x ∷ all) zero k one less = absurd (omega arith)
set_below (x ∷ all) (suc i) zero one less = refl
set_below (x ∷ all) (suc i) (suc k) one less = set_below all i k one (omega arith)

set_above : {A : Type 0} (all : List A) (i k : ℕ) (one : A) → i < k → slice_get (set all i one) k ≡ slice_get all k
set_above [] i k one less = refl
set_above (x ∷ all) i zero one less = absurd (omega arith)
set_above (x ∷ all) zero (suc k) one less = refl
set_above (x ∷ all) (suc i) (suc k) one less = set_above all i k one (omega arith)

pub set_apart : {A : Type 0} (all : List A) (i k : ℕ) (one : A) → k ≢ i → slice_get (set all i one) k ≡ slice_get all k
set_apart [] i k one apart = refl
set_apart (x ∷ all) zero zero one apart = absurd (apart refl)
set_apart (x ∷ all) zero (suc k) one apart = refl
set_apart (x ∷ all) (suc i) zero one apart = refl
set_apart (x ∷ all) (suc i) (suc k) one apart = set_apart all i k one (λ e. apart (ap suc e))

pub below_or_here : (k i : ℕ) → k < i + 1 → (k < i) ⊎ (k ≡ i)
below_or_here zero zero less = inr refl
below_or_here zero (suc i) less = inl (omega arith)
below_or_here (suc k) zero less = absurd (omega arith)
below_or_here (suc k) (suc i) less = elim (below_or_here k i (omega arith)) [ inl l ↦ inl (omega arith) | inr e ↦ inr (ap suc e) ]

pub one_gone : {A : Type 0} (Goes : A → A → Type 0) (i : ℕ) (olds news : List A) (d one : A) → i < length olds → Gone Goes i olds news
    → Goes (get_or news i d) one → Gone Goes (i + 1) olds (set news i one)
one_gone Goes i olds news d one less h goes = record {
  count = length-set news i one ∙ h.count;
  past = λ k old new lt at_old at_new. elim (below_or_here k i lt) [
    | inl l ↦ h.past k old new l at_old (sym (set_below news i k one l) ∙ at_new)
    | inr e ↦
        let within : i < length news = (let count = h.count in omega arith) in
        let was : Some (get_or news i d) ≡ Some old = sym (slice_get-get_or news i d within) ∙ h.ahead i (omega arith) ∙ ap (slice_get olds) (sym e) ∙ at_old in
        let is : Some one ≡ Some new = sym (set_here news i one within) ∙ ap (slice_get (set news i one)) (sym e) ∙ at_new in
        subst (λ o. Goes o new) (same_Some (get_or news i d) old was) (subst (Goes (get_or news i d)) (same_Some one new is) goes)
  ];
  ahead = λ k least. set_above news i k one (omega arith) ∙ h.ahead k (omega arith);
}

all_gone : {A : Type 0} (Goes : A → A → Type 0) (i : ℕ) (olds news : List A) → length olds ≤ i → Gone Goes i olds news → EachOne Goes olds news
all_gone Goes i olds news most h = record {
  count = h.count;
  each = λ k old new at_old at_new. h.past k old new (let within = slice_get_within olds k old at_old in omega arith) at_old at_new;
}

drop_all : {A : Type 0} (all : List A) (k : ℕ) → length all ≤ k → drop k all ≡ []
drop_all [] zero most = refl
drop_all [] (suc k) most = refl
drop_all (one ∷ all) zero most = absurd (omega arith)
drop_all (one ∷ all) (suc k) most = drop_all all k (omega arith)

put_back : {A : Type 0} (news olds : List A) (n : ℕ) → n ≡ length olds → length news ≡ length olds → take n (news ++ drop (length news) olds) ≡ news
put_back {A} news olds n all count =
    let gone : drop (length news) olds ≡ [] = drop_all olds (length news) (omega arith) in
    ap (λ rest. take n (news ++ rest)) gone ∙ front news n (omega arith)
  where
    front : (list : List A) (n : ℕ) → n ≡ length list → take n (list ++ []) ≡ list
    front [] zero same = refl
    front [] (suc n) same = refl
    front (one ∷ list) zero same = absurd (omega arith)
    front (one ∷ list) (suc n) same = ap (λ rest. one ∷ rest) (front list n (omega arith))

-- and so after the loop, where the list is put together
pub all_gone_back : {A : Type 0} (Goes : A → A → Type 0) (i n : ℕ) (olds news : List A) → n ≡ length olds → length olds ≤ i → Gone Goes i olds news
    → EachOne Goes olds (take n (news ++ drop (length news) olds))
all_gone_back Goes i n olds news all most h = subst (EachOne Goes olds) (sym (put_back news olds n all h.count)) (all_gone Goes i olds news most h)
