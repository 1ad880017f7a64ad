-- A piece of a client: what the connection that was found does to the list of all.
use Rattle.std.proofs.Common.{◌≡◌, ◌≢◌, ◌+◌, ℕ, zero, suc, Bool, true, List, [], ◌∷◌, length, get_or, set, Option, Some, slice_get, arith, refl, sym, ap, subst, ◌∙◌, inl, inr}
use Rattle.std.proofs.lemmas.Bool.Decides.{eqb_tells}
use Rattle.std.proofs.lemmas.List.{length-set}
use Rattle.std.proofs.lemmas.Option.{same_Some, slice_get_within, slice_get_read}
use Rattle.otn_base.specs.declared.kind.PortName.TheVariants as port
use Rattle.port_base.specs.Views.{InView, OutView}
use Rattle.device_model.specs.Entries.{own_turn}
use Rattle.cross_matrix.specs.Parts.{ClientOutStands}
use Rattle.node_links.specs.Steps.LinkMoves.{FirstOf, TookText, GaveText}
use Rattle.node_links.specs.Links.{is_on, joins, takes_part}
use Rattle.node_links.specs.Moves.{EachLink, TakesClient, GivesClient}
use Rattle.node_links.specs.declared.link.Link.{Link}
use Rattle.node_links.proofs.LinkLaws.{both_left, same_entry, both}
use Rattle.node_links.proofs.LinkSteps.{set_here}

other_link : (links : List Link) (i k : ℕ) (link : Link) → k ≢ i → slice_get (set links i link) k ≡ slice_get links k
other_link [] i k link differ = refl
other_link (x ∷ links) zero zero link differ = absurd (differ refl)
other_link (x ∷ links) zero (suc k) link differ = refl
other_link (x ∷ links) (suc i) zero link differ = refl
other_link (x ∷ links) (suc i) (suc k) link differ = other_link links i k link (λ e. differ (ap suc e))

-- where one connection goes on, and the others may stay, each does
each_one : (Goes : Link → Link → Type 0) (links : List Link) (i : ℕ) (link then : Link) → slice_get links i ≡ Some link → ((l : Link) → Goes l l) → Goes link then → EachLink Goes links (set links i then)
each_one Goes links i link then known stay goes = record {
  count = length-set links i then;
  each = λ k old new at_old at_new. elim (eqb_tells k i) [
    | inl t ↦
        let was : Some link ≡ Some old = sym known ∙ ap (slice_get links) (sym t.1) ∙ at_old in
        let is : Some then ≡ Some new = sym (set_here links i then (slice_get_within links i link known)) ∙ ap (slice_get (set links i then)) (sym t.1) ∙ at_new in
        subst (λ (o : Link). Goes o new) (same_Some link old was) (subst (λ (l : Link). Goes link l) (same_Some then new is) goes)
    | inr t ↦ subst (λ (l : Link). Goes old l) (same_Some old new (sym at_old ∙ sym (other_link links i k then t.1) ∙ at_new)) (stay old)
  ];
}

-- the connection that was found, by its place among all
pub found_at : (test : Link → Bool) (given links : List Link) (found : Option ℕ) (i : ℕ) (link : Link) → given ≡ links → found ≡ Some i → FirstOf test given found → link ≡ get_or links i link
    → FirstOf test links (Some i) × (slice_get links i ≡ Some link) × (test link ≡ true)
found_at test given links found i link same is first at =
    let here : FirstOf test links (Some i) = subst (λ ls. FirstOf test ls (Some i)) same (subst (FirstOf test given) is first) in
    let known = slice_get_read links (length links) i link refl here.is.0 at in
    (here, known, here.is.1 link known)

-- ---- from a client

pub one_takes : (past n i : ℕ) (links : List Link) (link then : Link) (was is : InView) → FirstOf (takes_part past (port.ClientIn n)) links (Some i) → slice_get links i ≡ Some link → TookText past link was then is
    → TakesClient past n was links is (set links i then)
one_takes past n i links link then was is found known h =
    let passes : takes_part past (port.ClientIn n) link ≡ true = found.is.1 link known in
    record {
      took = each_one _ links i link then known (λ l. (same_entry l, refl, λ off. refl)) (h.same, h.giving, λ off. both (takes_part past (port.ClientIn n) link) passes off);
      none = λ all. both (takes_part past (port.ClientIn n) link) passes (all i link known);
      one = λ j other next at_other at_next on alone x first read.
          let same : i ≡ j = alone i link known passes in
          let here : link ≡ other = same_Some link other (sym known ∙ ap (slice_get links) same ∙ at_other) in
          let there : then ≡ next = same_Some then next (sym (set_here links i then (slice_get_within links i link known)) ∙ ap (slice_get (set links i then)) same ∙ at_next) in
          let moved : TookText past other was next is = subst (λ (o : Link). TookText past o was next is) here (subst (λ (l : Link). TookText past link was l is) there h) in
          moved.took (both_left (is_on past other) (joins (port.ClientIn n) other) on) x first read;
    }

-- ---- to a client

pub one_gives : (past n i : ℕ) (links : List Link) (link then : Link) (was is : OutView) → FirstOf (takes_part past (port.ClientOut n)) links (Some i) → slice_get links i ≡ Some link → GaveText link was then is
    → GivesClient past n was links is (set links i then)
one_gives past n i links link then was is found known h =
    let passes : takes_part past (port.ClientOut n) link ≡ true = found.is.1 link known in
    record {
      gave = each_one _ links i link then known (λ l. (same_entry l, refl, (λ off. refl), (λ x input j filled frames ended s. s)))
          (h.same, h.taking, (λ off. both (takes_part past (port.ClientOut n) link) passes off), h.stands);
      none = λ all. both (takes_part past (port.ClientOut n) link) passes (all i link known);
      one = λ j other next at_other at_next on alone x input first filled frames ended stands out.
          let same : i ≡ j = alone i link known passes in
          let here : link ≡ other = same_Some link other (sym known ∙ ap (slice_get links) same ∙ at_other) in
          let there : then ≡ next = same_Some then next (sym (set_here links i then (slice_get_within links i link known)) ∙ ap (slice_get (set links i then)) same ∙ at_next) in
          let moved : GaveText other was next is = subst (λ (o : Link). GaveText o was next is) here (subst (λ (l : Link). GaveText link was l is) there h) in
          let more : suc (own_turn x past) ≡ own_turn x past + 1 = omega arith in
          subst (λ t. ClientOutStands x input first is t next.pipe.giving) more (moved.gave x input first (own_turn x past) filled frames ended stands out);
    }
