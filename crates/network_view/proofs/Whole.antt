-- The whole text, of its parts; and how it is told.
use Rattle.std.proofs.Common.{◌≡◌, ◌∙◌, ℕ, Bool, true, false, List, ◌++◌, codes, length, flat_map, sym, ap, subst}
use Rattle.port_base.specs.PortViews.{SinkView, SinkWrites}
use Rattle.port_base.specs.declared.drain.Written.{Written}
use Rattle.port_base.specs.declared.drain.Written.TheVariants as written
use Rattle.network_laws.specs.Routes.{Leg}
use Rattle.network_view.specs.Entries.{Named, legs_of}
use Rattle.network_view.specs.NetworkText.{TellsNetwork, answer_of, fibre_line, head_line, is_met, is_met_by}
use Rattle.network_view.specs.NetworkText.{network_text, numbered, status_word, troubles_in, way_lines}
use Rattle.network_view.specs.Ways.{way_at}
use Rattle.network_view.specs.declared.text.Told.{Told}
use Rattle.network_view.specs.declared.text.Told.TheVariants as told

pub whole_text : (named : Named) (legs : List Leg) (head fibres ways troubles status : List ℕ) (met : Bool) → legs ≡ legs_of named.network
    → head ≡ head_line named.network
    → fibres ≡ numbered (fibre_line named) 1 named.network.fibres → ways ≡ numbered (way_lines named) 1 (flat_map (way_at named.network (length legs)) legs)
    → troubles ≡ troubles_in named legs → met ≡ is_met_by troubles → status ≡ status_word met
    → head ++ (fibres ++ (ways ++ (troubles ++ (codes "status " ++ (status ++ codes "\n"))))) ≡ network_text named
unfolding network_text
whole_text named legs head fibres ways troubles status met l h f w t m s =
    let way = w ∙ ap (λ xs. numbered (way_lines named) 1 (flat_map (way_at named.network (length xs)) xs)) l in
    let amiss = t ∙ ap (troubles_in named) l in
    let word = s ∙ ap status_word (m ∙ ap is_met_by amiss) in
    ap (λ x. x ++ (fibres ++ (ways ++ (troubles ++ (codes "status " ++ (status ++ codes "\n")))))) h
    ∙ ap (λ x. head_line named.network ++ (x ++ (ways ++ (troubles ++ (codes "status " ++ (status ++ codes "\n")))))) f
    ∙ ap (λ x. head_line named.network ++
    (numbered (fibre_line named) 1 named.network.fibres ++ (x ++ (troubles ++ (codes "status " ++ (status ++ codes "\n")))))) way
    ∙ ap (λ x. head_line named.network ++ (numbered (fibre_line named) 1 named.network.fibres
    ++ (numbered (way_lines named) 1 (flat_map (way_at named.network (length (legs_of named.network))) (legs_of named.network)) ++
    (x ++ (codes "status " ++ (status ++ codes "\n")))))) amiss
    ∙ ap (λ x. head_line named.network ++ (numbered (fibre_line named) 1 named.network.fibres
    ++ (numbered (way_lines named) 1 (flat_map (way_at named.network (length (legs_of named.network))) (legs_of named.network))
    ++ (troubles_in named (legs_of named.network) ++ (codes "status " ++ (x ++ codes "\n")))))) word

pub met_is : (named : Named) (legs : List Leg) (troubles : List ℕ) (met : Bool) → legs ≡ legs_of named.network → troubles ≡ troubles_in named legs
    → met ≡ is_met_by troubles → met ≡ is_met named
met_is named legs troubles met l t m = m ∙ ap is_met_by (t ∙ ap (troubles_in named) l)

pub tells_lost : (named : Named) (result : Written) (text : List ℕ) (old new : SinkView) → text ≡ network_text named → result ≡ written.Lost
    → SinkWrites result old text new
    → TellsNetwork named told.ReportFault old new
tells_lost named result text old new is lost writes = subst (λ t. SinkWrites written.Lost old t new) is (subst (λ r. SinkWrites r old text new) lost writes)

pub tells_whole : (named : Named) (met : Bool) (answer : Told) (result : Written) (text : List ℕ) (old new : SinkView) → met ≡ is_met named
    → answer ≡ answer_of met
    → text ≡ network_text named → result ≡ written.Whole → SinkWrites result old text new → TellsNetwork named answer old new
tells_whole named met answer result text old new meets is same whole writes =
    subst (λ a. TellsNetwork named a old new) (sym is)
    (go met meets (subst (λ t. SinkWrites written.Whole old t new) same (subst (λ r. SinkWrites r old text new) whole writes)))
  where
    go : (m : Bool) → m ≡ is_met named → SinkWrites written.Whole old (network_text named) new → TellsNetwork named (answer_of m) old new
    go true e w = (w, ap answer_of e)
    go false e w = (w, ap answer_of e)
