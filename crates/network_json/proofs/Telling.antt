-- The whole value, of its parts; and how it is written.
use Rattle.std.proofs.Common.{◌≡◌, ◌∙◌, ℕ, Bool, true, false, List, ◌++◌, codes, length, flat_map, sym, ap, subst}
use Rattle.port_base.specs.PortViews.{SinkView, SinkWrites}
use Rattle.port_base.specs.declared.drain.Written.{Written}
use Rattle.port_base.specs.declared.drain.Written.TheVariants as written
use Rattle.serde_json.specs.Data.{Data}
use Rattle.serde_json.specs.Written.{compact_text}
use Rattle.network_laws.specs.Routes.{Leg}
use Rattle.network_view.specs.Entries.{Named, legs_of}
use Rattle.network_view.specs.NetworkText.{answer_of, is_met}
use Rattle.network_view.specs.Ways.{way_at}
use Rattle.network_view.specs.declared.text.Told.{Told}
use Rattle.network_view.specs.declared.text.Told.TheVariants as told
use Rattle.network_json.specs.NetworkJson.{TellsJson, network_by, network_data, network_json}

-- the value of all entries of a network
pub whole_value : (named : Named) (legs : List Leg) (d : Data) → legs ≡ legs_of named.network
    → d ≡ network_by named legs (flat_map (way_at named.network (length legs)) legs)
    → d ≡ network_data named
whole_value named legs d all is = is ∙ ap (λ xs. network_by named xs (flat_map (way_at named.network (length xs)) xs)) all

-- the line of that value
pub line_is : (named : Named) (d : Data) (text : List ℕ) → d ≡ network_data named → text ≡ compact_text d ++ codes "\n" → text ≡ network_json named
unfolding network_json
line_is named d text is line = line ∙ ap (λ e. compact_text e ++ codes "\n") is

-- a write of it failed
pub tells_lost : (named : Named) (result : Written) (text : List ℕ) (old new : SinkView) → text ≡ network_json named → result ≡ written.Lost
    → SinkWrites result old text new
    → TellsJson named told.ReportFault old new
tells_lost named result text old new is lost writes = subst (λ t. SinkWrites written.Lost old t new) is (subst (λ r. SinkWrites r old text new) lost writes)

-- it was written whole
pub tells_whole : (named : Named) (met : Bool) (answer : Told) (result : Written) (text : List ℕ) (old new : SinkView) → met ≡ is_met named
    → answer ≡ answer_of met
    → text ≡ network_json named → result ≡ written.Whole → SinkWrites result old text new → TellsJson named answer old new
tells_whole named met answer result text old new meets is same whole writes =
    subst (λ a. TellsJson named a old new) (sym is)
    (go met meets (subst (λ t. SinkWrites written.Whole old t new) same (subst (λ r. SinkWrites r old text new) whole writes)))
  where
    go : (m : Bool) → m ≡ is_met named → SinkWrites written.Whole old (network_json named) new → TellsJson named (answer_of m) old new
    go true e w = (w, ap answer_of e)
    go false e w = (w, ap answer_of e)
