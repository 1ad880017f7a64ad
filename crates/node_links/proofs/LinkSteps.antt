-- Connections one by one: what each does to a list, and what becomes of each.
use Rattle.std.proofs.Common.{◌≡◌, ◌⊎◌, inl, inr, ◌<◌, ◌≤◌, ◌+◌, ℕ, zero, suc, List, [], ◌∷◌, ◌++◌, Some, length, slice_get, get_or, set, take, drop, refl, sym, ap, ◌∙◌, subst, arith, add-one, drop-cons}
use Rattle.std.proofs.lemmas.List.{length-set}
use Rattle.std.proofs.lemmas.Option.{same_Some, slice_get_within, slice_get-get_or}
use Rattle.node_links.specs.Steps.LineFrames.{LinkByLink}
use Rattle.node_links.specs.Moves.{EachLink}
use Rattle.node_links.specs.declared.link.Link.{Link}

-- ---- from one list to another, connection by connection

-- what holds after some connections, and goes on with each further one, holds after all
after_rest : (Step : Link → List ℕ → List ℕ → Type 0) (P : ℕ → List ℕ → Type 0) (all rest : List Link) (k : ℕ) (old new : List ℕ)
    → ((k : ℕ) (link : Link) (old new : List ℕ) → slice_get all k ≡ Some link → Step link old new → P k old → P (k + 1) new)
    → ((i : ℕ) → slice_get rest i ≡ slice_get all (k + i)) → LinkByLink Step rest old new → P k old → P (k + length rest) new
after_rest Step P all [] k old new next at same h =
    let count : k ≡ k + 0 = omega arith in
    subst (λ n. P n new) count (subst (P k) (sym same) h)
after_rest Step P all (link ∷ rest) k old new next at steps h =
    let mid = steps.0 in
    let here : slice_get all k ≡ Some link = ap (slice_get all) (let e : k ≡ k + 0 = omega arith in e) ∙ sym (at 0) in
    let moved : (i : ℕ) → slice_get rest i ≡ slice_get all (k + 1 + i) = λ i. at (suc i) ∙ ap (slice_get all) (let e : k + suc i ≡ k + 1 + i = omega arith in e) in
    let count : k + 1 + length rest ≡ k + suc (length rest) = omega arith in
    subst (λ n. P n new) count (after_rest Step P all rest (k + 1) mid new next moved steps.1.1 (next k link old mid here steps.1.0 h))

pub after_all : (Step : Link → List ℕ → List ℕ → Type 0) (P : ℕ → List ℕ → Type 0) (links : List Link) (old new : List ℕ)
    → ((k : ℕ) (link : Link) (old new : List ℕ) → slice_get links k ≡ Some link → Step link old new → P k old → P (k + 1) new)
    → LinkByLink Step links old new → P 0 old → P (length links) new
after_all Step P links old new next steps h =
    let count : 0 + length links ≡ length links = omega arith in
    subst (λ n. P n new) count (after_rest Step P links links 0 old new next (λ i. ap (slice_get links) (let e : i ≡ 0 + i = omega arith in e)) steps h)

-- one step more, before those that are left
pub step_more : (Step : Link → List ℕ → List ℕ → Type 0) (links : List Link) (k : ℕ) (d : Link) (old next new : List ℕ) → k < length links → Step (get_or links k d) old next
    → LinkByLink Step (drop (k + 1) links) next new → LinkByLink Step (drop k links) old new
step_more Step links k d old next new less step rest =
    let split : drop k links ≡ get_or links k d ∷ drop (k + 1) links = rw (add-one, drop-cons links k d) refl in
    subst (λ ls. LinkByLink Step ls old new) (sym split) (next, (step, rest))

pub drop_all : (links : List Link) (k : ℕ) → length links ≤ k → drop k links ≡ []
drop_all [] zero most = refl
drop_all [] (suc k) most = refl
drop_all (link ∷ links) zero most = absurd (omega arith)
drop_all (link ∷ links) (suc k) most = drop_all links k (omega arith)

-- no step is left
pub step_none : (Step : Link → List ℕ → List ℕ → Type 0) (links : List Link) (k : ℕ) (now : List ℕ) → length links ≤ k → LinkByLink Step (drop k links) now now
step_none Step links k now most = subst (λ ls. LinkByLink Step ls now now) (sym (drop_all links k most)) refl

-- ---- each connection for itself

-- the first so many connections went from what they were to what they are in this way, and the others are as they were
pub record Gone (Goes : Link → Link → Type 0) (done : ℕ) (olds news : List Link) : Type 0 where
  pub count : length news ≡ length olds
  pub past : (k : ℕ) (old new : Link) → k < done → slice_get olds k ≡ Some old → slice_get news k ≡ Some new → Goes old new
  pub ahead : (k : ℕ) → done ≤ k → slice_get news k ≡ slice_get olds k

pub none_gone : (Goes : Link → Link → Type 0) (links : List Link) → Gone Goes 0 links links
none_gone Goes links = record { count = refl; past = λ k old new less. absurd (omega arith); ahead = λ k least. refl }

pub set_here : (links : List Link) (k : ℕ) (link : Link) → k < length links → slice_get (set links k link) k ≡ Some link
set_here [] k link less = absurd (omega arith)
set_here (x ∷ links) zero link less = refl
set_here (x ∷ links) (suc k) link less = set_here links k link (omega arith)

set_below : (links : List Link) (i k : ℕ) (link : Link) → k < i → slice_get (set links i link) k ≡ slice_get links k
set_below [] i k link less = refl
set_below (x ∷ links) zero k link less = absurd (omega arith)
set_below (x ∷ links) (suc i) zero link less = refl
set_below (x ∷ links) (suc i) (suc k) link less = set_below links i k link (omega arith)

set_above : (links : List Link) (i k : ℕ) (link : Link) → i < k → slice_get (set links i link) k ≡ slice_get links k
set_above [] i k link less = refl
set_above (x ∷ links) i zero link less = absurd (omega arith)
set_above (x ∷ links) zero (suc k) link less = refl
set_above (x ∷ links) (suc i) (suc k) link less = set_above links i k link (omega arith)

pub below_or_here : (k i : ℕ) → k < i + 1 → (k < i) ⊎ (k ≡ i)
below_or_here zero zero less = inr refl
below_or_here zero (suc i) less = inl (omega arith)
below_or_here (suc k) zero less = absurd (omega arith)
below_or_here (suc k) (suc i) less = elim (below_or_here k i (omega arith)) [ inl l ↦ inl (omega arith) | inr e ↦ inr (ap suc e) ]

pub one_gone : (Goes : Link → Link → Type 0) (i : ℕ) (olds news : List Link) (d link : Link) → i < length olds → Gone Goes i olds news → Goes (get_or news i d) link
    → Gone Goes (i + 1) olds (set news i link)
one_gone Goes i olds news d link less h goes = record {
  count = length-set news i link ∙ h.count;
  past = λ k old new lt at_old at_new. elim (below_or_here k i lt) [
    | inl l ↦ h.past k old new l at_old (sym (set_below news i k link l) ∙ at_new)
    | inr e ↦
        let within : i < length news = (let count = h.count in omega arith) in
        let was : Some (get_or news i d) ≡ Some old = sym (slice_get-get_or news i d within) ∙ h.ahead i (omega arith) ∙ ap (slice_get olds) (sym e) ∙ at_old in
        let is : Some link ≡ Some new = sym (set_here news i link within) ∙ ap (slice_get (set news i link)) (sym e) ∙ at_new in
        subst (λ o. Goes o new) (same_Some (get_or news i d) old was) (subst (Goes (get_or news i d)) (same_Some link new is) goes)
  ];
  ahead = λ k least. set_above news i k link (omega arith) ∙ h.ahead k (omega arith);
}

all_gone : (Goes : Link → Link → Type 0) (i : ℕ) (olds news : List Link) → length olds ≤ i → Gone Goes i olds news → EachLink Goes olds news
all_gone Goes i olds news most h = record {
  count = h.count;
  each = λ k old new at_old at_new. h.past k old new (let within = slice_get_within olds k old at_old in omega arith) at_old at_new;
}

-- a connection that is still to come is as it was
pub as_it_was : (Goes : Link → Link → Type 0) (i : ℕ) (olds news : List Link) (d : Link) → i < length olds → Gone Goes i olds news → get_or news i d ≡ get_or olds i d
as_it_was Goes i olds news d less h =
    same_Some (get_or news i d) (get_or olds i d)
    (sym (slice_get-get_or news i d (let count = h.count in omega arith)) ∙ h.ahead i (omega arith) ∙ slice_get-get_or olds i d less)

put_back : (news olds : List Link) (n : ℕ) → n ≡ length olds → length news ≡ length olds → take n (news ++ drop (length news) olds) ≡ news
put_back news olds n all count =
    let gone : drop (length news) olds ≡ [] = drop_all olds (length news) (omega arith) in
    ap (λ rest. take n (news ++ rest)) gone ∙ front news n (omega arith)
  where
    front : (links : List Link) (n : ℕ) → n ≡ length links → take n (links ++ []) ≡ links
    front [] zero same = refl
    front [] (suc n) same = refl
    front (link ∷ links) zero same = absurd (omega arith)
    front (link ∷ links) (suc n) same = ap (λ rest. link ∷ rest) (front links n (omega arith))

-- and so after the loop, where the list is put together
pub all_gone_back : (Goes : Link → Link → Type 0) (i n : ℕ) (olds news : List Link) → n ≡ length olds → length olds ≤ i → Gone Goes i olds news → EachLink Goes olds (take n (news ++ drop (length news) olds))
all_gone_back Goes i n olds news all most h = subst (EachLink Goes olds) (sym (put_back news olds n all h.count)) (all_gone Goes i olds news most h)
