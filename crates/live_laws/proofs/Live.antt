-- A live node stands with what was handed in.
use Rattle.std.proofs.Common.{◌≡◌, ◌≢◌, ◌<◌, ◌==◌, ℕ, zero, suc, true, false, List, [], ◌∷◌, ◌++◌, length, get_or, set, refl, sym, ap, ◌∙◌, inl, inr, arith}
use Rattle.std.specs.Prelude.{if◌then◌else◌}
use Rattle.std.proofs.lemmas.Bool.Decides.{eqb_tells}
use Rattle.std.proofs.lemmas.Grind.{common_steps}
use Rattle.std.proofs.lemmas.List.{get_or-set_same, get_or-set_other}
use Rattle.port_base.specs.Views.{Live, InView, BaysView, no_input, line_in_at, client_in_at}
use Rattle.plan_file.specs.declared.plan.Plan.{Plan}
use Rattle.node_moments.specs.NodeView.{NodeView, IsNode}
use Rattle.node_moments.specs.Stands.{InputBytes, StandsAt, Later}
use Rattle.live_laws.specs.HandedIn.{grown, LineGrew, ClientGrew}
use Rattle.live_laws.specs.Live.{holding, with_line, with_client, NeverFails, LiveStands}
use Rattle.live_laws.proofs.Grown.{lines_grow}
use Rattle.live_laws.proofs.GrownText.{packets_grow}

within : (places : List InView) (n : ℕ) → (get_or places n no_input).state ≡ Live → n < length places
within [] n e = absurd (cc)
within (place ∷ places) zero e = grind (arith, common_steps)
within (place ∷ places) (suc n) e = let h = within places n e in grind (arith, common_steps)

-- the places of some inputs as they first were, with further bytes at one of them
abbrev more_at : (n : ℕ) → List ℕ → List InView → List InView
more_at n further places = set places n (grown further (get_or places n no_input))

more_same : (n : ℕ) (further : List ℕ) (places : List InView) → (get_or places n no_input).state ≡ Live
    → get_or (more_at n further places) n no_input ≡ grown further (get_or places n no_input)
more_same n further places live = get_or-set_same places n (grown further (get_or places n no_input)) no_input (within places n live)

more_other : (n m : ℕ) (further : List ℕ) (places : List InView) → m ≢ n → get_or (more_at n further places) m no_input ≡ get_or places m no_input
more_other n m further places apart = get_or-set_other places n m (grown further (get_or places n no_input)) no_input apart

-- what an input holds where further bytes came to input n
holds : (n m : ℕ) (further : List ℕ) (places : List InView) (had : ℕ → List ℕ) → (get_or places n no_input).state ≡ Live
    → get_or places m no_input ≡ holding (had m)
    → get_or (more_at n further places) m no_input ≡ holding (if m == n then had m ++ further else had m)
holds n m further places had live e = elim (eqb_tells m n) [
  | inl t ↦
      let one : (m == n) ≡ true = t.0 in
      ap (λ k. get_or (more_at n further places) k no_input) t.1 ∙ more_same n further places live
      ∙ ap (grown further) (ap (λ k. get_or places k no_input) (sym t.1) ∙ e)
      ∙ ap (λ b. holding (if b then had m ++ further else had m)) (sym one)
  | inr t ↦
      let one : (m == n) ≡ false = t.0 in
      more_other n m further places t.1 ∙ e ∙ ap (λ b. holding (if b then had m ++ further else had m)) (sym one)
]

pub live_line : (plan : Plan) (handed : InputBytes) (node : NodeView) (a : ℕ) (further : List ℕ) (now now_with : BaysView) → a < 4
    → (line_in_at now a).ended ≡ false
    → NeverFails now_with → LineGrew a further now now_with → LiveStands plan handed node now → LiveStands plan (with_line a further handed) node now_with
live_line plan handed node a further now now_with few unended calm grew h =
    let live : (line_in_at h.first a).state ≡ Live = ap (λ (v : InView). v.state) (h.opens.line_in a few) in
    let first : BaysView = record h.first { line_in = more_at a further h.first.line_in } in
    record {
      first = first;
      opens = record {
        line_in = λ b less. holds a b further h.first.line_in handed.line live (h.opens.line_in b less);
        line_out = h.opens.line_out;
        client_in = h.opens.client_in;
        client_out = h.opens.client_out;
      };
      read = h.read;
      stands = lines_grow plan h.first now first now_with h.read node a further unended
          record {
            line = more_same a further h.first.line_in live;
            others = λ other apart. more_other a other further h.first.line_in apart;
            line_out = refl;
            client_in = refl;
            client_out = refl;
          }
          grew h.stands;
      calm = calm;
      is = h.is;
    }

pub live_client : (plan : Plan) (handed : InputBytes) (node : NodeView) (n : ℕ) (further : List ℕ) (now now_with : BaysView) → n < 16
    → (client_in_at now n).ended ≡ false
    → NeverFails now_with → ClientGrew n further now now_with → LiveStands plan handed node now → LiveStands plan (with_client n further handed) node now_with
live_client plan handed node n further now now_with few unended calm grew h =
    let live : (client_in_at h.first n).state ≡ Live = ap (λ (v : InView). v.state) (h.opens.client_in n few) in
    let first : BaysView = record h.first { client_in = more_at n further h.first.client_in } in
    record {
      first = first;
      opens = record {
        line_in = h.opens.line_in;
        line_out = h.opens.line_out;
        client_in = λ m less. holds n m further h.first.client_in handed.client live (h.opens.client_in m less);
        client_out = h.opens.client_out;
      };
      read = h.read;
      stands = packets_grow plan h.first now first now_with h.read node n further unended
          record {
            client = more_same n further h.first.client_in live;
            others = λ other apart. more_other n other further h.first.client_in apart;
            line_in = refl;
            line_out = refl;
            client_out = refl;
          }
          grew h.stands;
      calm = calm;
      is = h.is;
    }

-- a node that has gone on from whatever moment of whatever plan it stood at stands as a live one
pub live_goes : (old new : NodeView) (was is : BaysView)
    → ((plan : Plan) (first : BaysView) (read : InputBytes) → StandsAt plan first read old was → Later plan first read old new is)
    → NeverFails is → IsNode new → (plan : Plan) (handed : InputBytes) → LiveStands plan handed old was → LiveStands plan handed new is
live_goes old new was is goes calm node plan handed h =
    let later = goes plan h.first h.read h.stands in
    record { first = h.first; opens = h.opens; read = later.more; stands = later.stands; calm = calm; is = node }
