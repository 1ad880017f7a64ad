-- Turn by turn all nodes come to their last.
use Rattle.std.proofs.Common.{◌≡◌, ◌≤◌, ◌<◌, ◌+◌, ◌-◌, ◌⊎◌, inl, inr, ℕ, zero, suc, List, [], ◌∷◌, Some, length, get_or, refl, sym, ap, ◌∙◌, subst, arith}
use Rattle.std.specs.Prelude.{slice_get}
use Rattle.std.proofs.lemmas.Bool.{cases_lt}
use Rattle.std.proofs.lemmas.Option.{same_Some, slice_get_within}
use Rattle.node_moments.specs.NodeView.{NodeView}
use Rattle.network_run.specs.Sites.{EachOne, SameNode, IsTurned, AllOver, HasGoing}
use Rattle.network_run.specs.declared.site.Site.{Site}
use Rattle.network_run.proofs.Each.{at_index, below_or_here}
use Rattle.network_run.proofs.Going.{some_at}

module _ {P K : Type 0} where
  -- how many turns are left of all nodes
  pub turns_left : List (Site P K) → ℕ
  turns_left [] = 0
  turns_left (site ∷ sites) = (site.node.turns - site.node.past) + turns_left sites

  tails : (one two : Site P K) (olds news : List (Site P K)) → EachOne IsTurned (one ∷ olds) (two ∷ news) → EachOne IsTurned olds news
  tails one two olds news h = record {
    count = (let count = h.count in omega arith);
    each = λ i old new was is. h.each (suc i) old new was is;
  }

  one_less : (one two : Site P K) → IsTurned one two → two.node.turns - two.node.past ≤ one.node.turns - one.node.past
  one_less one two t = by_size (cases_lt one.node.past one.node.turns)
    where
      by_size : (one.node.past < one.node.turns) ⊎ (one.node.turns ≤ one.node.past) → two.node.turns - two.node.past ≤ one.node.turns - one.node.past
      by_size (inl less) = (let e = t.turns in let d = t.done (omega arith) in omega arith)
      by_size (inr more) = (let e = t.turns in let d = t.rests more in omega arith)

  none_more : (olds news : List (Site P K)) → EachOne IsTurned olds news → turns_left news ≤ turns_left olds
  unfolding turns_left
  none_more [] [] h = omega arith
  none_more [] (two ∷ news) h = absurd (let count = h.count in omega arith)
  none_more (one ∷ olds) [] h = absurd (let count = h.count in omega arith)
  none_more (one ∷ olds) (two ∷ news) h =
      let here = one_less one two (h.each 0 one two refl refl) in
      let rest = none_more olds news (tails one two olds news h) in
      omega arith

  pub fewer : (olds news : List (Site P K)) (i : ℕ) (site : Site P K) → slice_get olds i ≡ Some site → site.node.past + 1 ≤ site.node.turns
      → EachOne IsTurned olds news → turns_left news < turns_left olds
  unfolding turns_left
  fewer [] news i site at going h = absurd (let within = slice_get_within [] i site at in omega arith)
  fewer (one ∷ olds) [] i site at going h = absurd (let count = h.count in omega arith)
  fewer (one ∷ olds) (two ∷ news) zero site at going h =
      let same : one ≡ site = same_Some one site at in
      let t = h.each 0 one two refl refl in
      let less : one.node.past + 1 ≤ one.node.turns = subst (λ (s : Site P K). s.node.past + 1 ≤ s.node.turns) (sym same) going in
      let e = t.turns in
      let d = t.done less in
      let rest = none_more olds news (tails one two olds news h) in
      omega arith
  fewer (one ∷ olds) (two ∷ news) (suc i) site at going h =
      let here = one_less one two (h.each 0 one two refl refl) in
      let rest = fewer olds news i site at going (tails one two olds news h) in
      omega arith

  pub over_still : (olds news : List (Site P K)) → EachOne SameNode olds news → AllOver olds → AllOver news
  over_still olds news each over i site at =
      let old = some_at olds i (let within = slice_get_within news i site at in let count = each.count in omega arith) in
      let same : site.node ≡ old.0.node = each.each i old.0 site old.1 at in
      subst (λ (n : NodeView). n.turns ≤ n.past) (sym same) (over i old.0 old.1)

  -- ---- one node after another

  abbrev pub OverBelow : ℕ → List (Site P K) → Type 0
  OverBelow n sites = (i : ℕ) (site : Site P K) → i < n → slice_get sites i ≡ Some site → site.node.turns ≤ site.node.past

  pub none_over : (sites : List (Site P K)) → OverBelow 0 sites
  none_over sites i site less = absurd (omega arith)

  pub over_more : (sites : List (Site P K)) (n : ℕ) (d : Site P K) → n < length sites → d ≡ get_or sites n d → d.node.turns ≤ d.node.past
      → OverBelow n sites → OverBelow (n + 1) sites
  over_more sites n d less is over before i site lower at = elim (below_or_here i n lower) as (λ t. site.node.turns ≤ site.node.past) [
    | inl l ↦ before i site l at
    | inr e ↦
        let same : d ≡ site = same_Some d site (sym (at_index sites n d less is) ∙ ap (slice_get sites) (sym e) ∙ at) in
        subst (λ (s : Site P K). s.node.turns ≤ s.node.past) same over
  ]

  pub is_going : (sites : List (Site P K)) (n : ℕ) (d : Site P K) → n < length sites → d ≡ get_or sites n d → d.node.past + 1 ≤ d.node.turns → HasGoing sites
  is_going sites n d less is going = record { i = n; site = d; at = at_index sites n d less is; going = going }

  pub over_all : (sites : List (Site P K)) (n : ℕ) → length sites ≤ n → OverBelow n sites → AllOver sites
  over_all sites n most before i site at = before i site (let within = slice_get_within sites i site at in omega arith) at
