-- Nodes before the first turn, and where their network begins.
use Rattle.std.proofs.Common.{◌≡◌, ◌<◌, ◌+◌, ℕ, zero, suc, List, [], ◌∷◌, ◌++◌, Some, length, refl, sym, ap, ◌∙◌, subst, arith, inl, inr}
use Rattle.std.specs.Prelude.{slice_get}
use Rattle.std.specs.List.{Contains}
use Rattle.std.proofs.lemmas.List.{length-append}
use Rattle.std.proofs.lemmas.Option.{same_Some, slice_get_within}
use Rattle.port_base.specs.Views.{BaysView, line_in_at, line_out_at}
use Rattle.port_base.specs.declared.sink.Sink as sink
use Rattle.port_base.specs.declared.source.Source as source
use Rattle.plan_file.specs.declared.plan.Plan.{Plan}
use Rattle.node_moments.specs.Stands.{StandsAt, no_bytes}
use Rattle.live_laws.specs.Live.{holding, telling}
use Rattle.network_laws.specs.Networks.{FibreEnds}
use Rattle.network_run.specs.Sites.{site_view}
use Rattle.network_run.specs.declared.site.Site.{Site}
use Rattle.network_run.proofs.Each.{below_or_here}
use Rattle.network_carry.specs.Ends.{FarEnds, NearEnds}
use Rattle.network_carry.specs.Opening.{AreOpened, KeepsEdges, SiteOpens}

-- a new node over places at which the far ends and then the near ends were put
pub site_opens : {P K : Type 0} (p : source.Ghosts P) (k : sink.Ghosts K) (fibres : List FibreEnds) (index : ℕ) (plan : Plan) (site : Site P K)
    (given mid : BaysView) → ((first : BaysView) → StandsAt plan first no_bytes site.node first) → FarEnds fibres index 4 given mid
    → NearEnds fibres index 4 mid (site_view p k site) → SiteOpens p k fibres index plan site
site_opens p k fibres index plan site given mid new far near = record {
  node = new;
  far = λ f has there less. ap (λ lines. line_in_at (record mid { line_in = lines }) f.into) near.line_in ∙ far.led f has there less;
  near = λ f has here less. near.begun f has here less;
}

pub keeps_edges : (fibres : List FibreEnds) (index : ℕ) (given mid last : BaysView) → FarEnds fibres index 4 given mid → NearEnds fibres index 4 mid last
    → KeepsEdges fibres index given last
keeps_edges fibres index given mid last far near = record {
  line_in = λ c none. ap (λ lines. line_in_at (record mid { line_in = lines }) c) near.line_in ∙ far.edges c none;
  line_out = λ b none. near.edges b none ∙ ap (λ lines. line_out_at (record mid { line_out = lines }) b) far.line_out;
  client_in = near.client_in ∙ far.client_in;
  client_out = near.client_out ∙ far.client_out;
}

-- ---- one node after another

get_front : {A : Type 0} (xs ys : List A) (j : ℕ) → j < length xs → slice_get (xs ++ ys) j ≡ slice_get xs j
get_front [] ys j less = absurd (omega arith)
get_front (x ∷ xs) ys zero less = refl
get_front (x ∷ xs) ys (suc j) less = get_front xs ys j (omega arith)

get_last : {A : Type 0} (xs : List A) (y : A) → slice_get (xs ++ y ∷ []) (length xs) ≡ Some y
get_last [] y = refl
get_last (x ∷ xs) y = get_last xs y

module _ {P K : Type 0} (p : source.Ghosts P) (k : sink.Ghosts K) (fibres : List FibreEnds) (plans : List Plan) where
  -- the first n of them
  pub record OpenedBelow (n : ℕ) (sites : List (Site P K)) : Type 0 where
    pub count : length sites ≡ n
    pub each : (i : ℕ) (plan : Plan) (site : Site P K) → slice_get plans i ≡ Some plan → slice_get sites i ≡ Some site
        → SiteOpens p k fibres i plan site

  pub opened_none : OpenedBelow 0 []
  opened_none = record { count = refl; each = λ i plan site known at. absurd (let within = slice_get_within [] i site at in omega arith) }

  pub opened_more : (n : ℕ) (sites : List (Site P K)) (plan : Plan) (site : Site P K) → slice_get plans n ≡ Some plan
      → SiteOpens p k fibres n plan site → OpenedBelow n sites → OpenedBelow (n + 1) (sites ++ site ∷ [])
  opened_more n sites plan site known opens h = record {
    count = length-append sites (site ∷ []) ∙ ap (λ m. m + 1) h.count;
    each = λ i other is at here. elim (below_or_here i n (
        let within = slice_get_within (sites ++ site ∷ []) i is here in
        let all = length-append sites (site ∷ []) in
        let count = h.count in
        omega arith))
        as (λ t. SiteOpens p k fibres i other is) [
          | inl l ↦ h.each i other is at (sym (get_front sites (site ∷ []) i (let count = h.count in omega arith)) ∙ here)
          | inr e ↦
              let one : plan ≡ other = same_Some plan other (sym known ∙ ap (slice_get plans) (sym e) ∙ at) in
              let two : site ≡ is = same_Some site is
              (sym (get_last sites site) ∙ ap (slice_get (sites ++ site ∷ [])) (h.count ∙ sym e) ∙ here) in
              subst (λ m. SiteOpens p k fibres m other is) (sym e)
              (subst (λ x. SiteOpens p k fibres n x is) one (subst (SiteOpens p k fibres n plan) two opens))
        ];
  }

  pub opened_all : (sites : List (Site P K)) → OpenedBelow (length plans) sites → AreOpened p k fibres plans sites
  opened_all sites h = record { count = h.count; each = h.each }
