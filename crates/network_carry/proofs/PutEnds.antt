-- The ends of fibres, put at the places of a node one line after another.
use Rattle.std.proofs.Common.{◌≡◌, ◌≢◌, ◌==◌, ◌<◌, ◌+◌, ◌&&◌, ◌||◌, inl, inr, ℕ, zero, suc, Bool, true, false, true≢false}
use Rattle.std.proofs.Common.{List, [], ◌∷◌, Some, length, get_or, refl, sym, ap, ◌∙◌, arith}
use Rattle.std.specs.Prelude.{slice_get}
use Rattle.std.specs.List.{Contains, list_any}
use Rattle.std.proofs.lemmas.Bool.{and_from}
use Rattle.std.proofs.lemmas.Bool.Decides.{eqb_tells, nat_tests}
use Rattle.std.proofs.lemmas.List.Folds.{list_any_none}
use Rattle.std.proofs.lemmas.Option.{same_Some, slice_get_within, slice_get-get_or}
use Rattle.port_base.specs.InPlace.{in_view}
use Rattle.port_base.specs.OutPlace.{out_view}
use Rattle.port_base.specs.Racks.{with_line_in, with_line_out}
use Rattle.port_base.specs.Views.{BaysView, line_in_at, line_out_at}
use Rattle.port_base.specs.declared.bays.Rack.{Rack}
use Rattle.port_base.specs.declared.in_place.InPlaceOf.{InPlaceOf}
use Rattle.port_base.specs.declared.in_place.InPlaceOf.TheVariants as input
use Rattle.port_base.specs.declared.out_place.OutPlaceOf.{OutPlaceOf}
use Rattle.port_base.specs.declared.out_place.OutPlaceOf.TheVariants as output
use Rattle.port_base.specs.declared.sink.Sink as sink
use Rattle.port_base.specs.declared.source.Source as source
use Rattle.port_base.proofs.BaysLaws.{line_in_set, only_line_in, line_out_set, only_line_out}
use Rattle.live_laws.specs.Live.{holding, telling}
use Rattle.network_laws.specs.Networks.{FibreEnds}
use Rattle.network_file.proofs.Places.{element_of, is_element}
use Rattle.network_run.specs.Sites.{net_sink, net_source, rack_view}
use Rattle.network_run.specs.declared.ports.NetIn.{NetIn}
use Rattle.network_run.specs.declared.ports.NetOut.{NetOut}
use Rattle.network_run.proofs.Each.{below_or_here}
use Rattle.network_carry.specs.Ends.{FarEnd, FarEnds, NearEnd, NearEnds, begins_at, ends_at}

-- ---- tests of fibres

not_true : (b : Bool) → (b ≡ true → ⊥) → b ≡ false
not_true true h = absurd (h refl)
not_true false h = refl

or_left : (a b : Bool) → (a || b) ≡ false → a ≡ false
or_left true b e = absurd (true≢false e)
or_left false b e = refl

or_right : (a b : Bool) → (a || b) ≡ false → b ≡ false
or_right true b e = absurd (true≢false e)
or_right false b e = e

none_at : {A : Type 0} (test : A → Bool) (xs : List A) (k : ℕ) (x : A) → slice_get xs k ≡ Some x → list_any test xs ≡ false → test x ≡ false
none_at test [] k x at none = absurd (let within = slice_get_within [] k x at in omega arith)
none_at test (y ∷ xs) zero x at none = ap test (sym (same_Some y x at)) ∙ or_left (test y) (list_any test xs) none
none_at test (y ∷ xs) (suc k) x at none = none_at test xs k x at (or_right (test y) (list_any test xs) none)

-- no element of the list passes a test that none passes
none_of : {A : Type 0} (test : A → Bool) (xs : List A) (x : A) → Contains xs x → list_any test xs ≡ false → test x ≡ true → ⊥
none_of test xs x has none passes = true≢false (sym passes ∙ none_at test xs has.0 x (element_of xs x has) none)

-- two numbers that are tested are these
both_same : (a b c d : ℕ) → (a == b && c == d) ≡ true → (a ≡ b) × (c ≡ d)
both_same a b c d e = grind (arith, nat_tests, e)

same_both : (a b c d : ℕ) → a ≡ b → c ≡ d → (a == b && c == d) ≡ true
same_both a b c d one two = grind (arith, nat_tests, one, two)

apart : (m n : ℕ) → m < n → m ≢ n
apart m n less = omega arith

-- ---- far ends

none_led : (fibres : List FibreEnds) (node c : ℕ) → ((f : FibreEnds) → Contains fibres f → f.there ≡ node → f.into ≢ c)
    → list_any (ends_at node c) fibres ≡ false
none_led fibres node c none = list_any_none (ends_at node c) fibres (λ k f less. not_true (ends_at node c (get_or fibres k f)) (λ e.
    let same = both_same (get_or fibres k f).there node (get_or fibres k f).into c e in
    none (get_or fibres k f) (is_element fibres k (get_or fibres k f) (slice_get-get_or fibres k f less)) same.0 same.1))

module _ {P K : Type 0} (p : source.Ghosts P) (k : sink.Ghosts K) where
  -- a far end was put where a fibre leads
  pub far_put : (fibres : List FibreEnds) (node c : ℕ) (rack : Rack (NetIn P) (NetOut K)) (place : InPlaceOf (NetIn P)) → c < 4
      → in_view (net_source p) place ≡ holding [] → list_any (ends_at node c) fibres ≡ true
      → FarEnd fibres node c (rack_view p k rack) (rack_view p k (with_line_in rack c place))
  far_put fibres node c rack place few is led = record {
    led = λ f has there into.
        let room : c < length rack.line_in.items = (let all = rack.all in let ok = rack.line_in.ok in omega arith) in
        line_in_set (net_source p) (net_sink k) rack c (get_or rack.line_in.items c input.Empty) place
        (slice_get-get_or rack.line_in.items c input.Empty room)
        ∙ is;
    edge = λ none. absurd (true≢false (sym led ∙ none_led fibres node c none));
    others = λ d other. (only_line_in (net_source p) (net_sink k) rack c place).line_in d other;
    line_out = refl;
    client_in = refl;
    client_out = refl;
  }

-- and none where none does
pub far_not : (fibres : List FibreEnds) (node c : ℕ) (bays : BaysView) → list_any (ends_at node c) fibres ≡ false → FarEnd fibres node c bays bays
far_not fibres node c bays none = record {
  led = λ f has there into. absurd (none_of (ends_at node c) fibres f has none (same_both f.there node f.into c there into));
  edge = λ edge. refl;
  others = λ d other. refl;
  line_out = refl;
  client_in = refl;
  client_out = refl;
}

-- no line input yet, and one more
pub far_none : (fibres : List FibreEnds) (node : ℕ) (bays : BaysView) → FarEnds fibres node 0 bays bays
far_none fibres node bays = record {
  led = λ f has there less. absurd (omega arith);
  edges = λ c none. refl;
  line_out = refl;
  client_in = refl;
  client_out = refl;
}

pub far_next : (fibres : List FibreEnds) (node n : ℕ) (first now next : BaysView) → FarEnds fibres node n first now → FarEnd fibres node n now next
    → FarEnds fibres node (n + 1) first next
far_next fibres node n first now next before e = record {
  led = λ f has there less. elim (below_or_here f.into n less) as (λ t. line_in_at next f.into ≡ holding []) [
    | inl l ↦ e.others f.into (apart f.into n l) ∙ before.led f has there l
    | inr same ↦ ap (line_in_at next) same ∙ e.led f has there same
  ];
  edges = λ c none. elim (eqb_tells c n) as (λ t. line_in_at next c ≡ line_in_at first c) [
    | inl t ↦
        ap (line_in_at next) t.1 ∙ e.edge (λ f has there into. none f has there (into ∙ sym t.1)) ∙ ap (line_in_at now) (sym t.1)
        ∙ before.edges c none
    | inr t ↦ e.others c t.1 ∙ before.edges c none
  ];
  line_out = e.line_out ∙ before.line_out;
  client_in = e.client_in ∙ before.client_in;
  client_out = e.client_out ∙ before.client_out;
}

-- ---- near ends

none_begun : (fibres : List FibreEnds) (node b : ℕ) → ((f : FibreEnds) → Contains fibres f → f.here ≡ node → f.out ≢ b)
    → list_any (begins_at node b) fibres ≡ false
none_begun fibres node b none = list_any_none (begins_at node b) fibres (λ k f less. not_true (begins_at node b (get_or fibres k f)) (λ e.
    let same = both_same (get_or fibres k f).here node (get_or fibres k f).out b e in
    none (get_or fibres k f) (is_element fibres k (get_or fibres k f) (slice_get-get_or fibres k f less)) same.0 same.1))

module _ {P K : Type 0} (p : source.Ghosts P) (k : sink.Ghosts K) where
  -- a near end was put where a fibre begins
  pub near_put : (fibres : List FibreEnds) (node b : ℕ) (rack : Rack (NetIn P) (NetOut K)) (place : OutPlaceOf (NetOut K)) → b < 4
      → out_view (net_sink k) place ≡ telling → list_any (begins_at node b) fibres ≡ true
      → NearEnd fibres node b (rack_view p k rack) (rack_view p k (with_line_out rack b place))
  near_put fibres node b rack place few is begun = record {
    begun = λ f has here out.
        let room : b < length rack.line_out.items = (let all = rack.all in let ok = rack.line_out.ok in omega arith) in
        line_out_set (net_source p) (net_sink k) rack b (get_or rack.line_out.items b output.Empty) place
        (slice_get-get_or rack.line_out.items b output.Empty room)
        ∙ is;
    edge = λ none. absurd (true≢false (sym begun ∙ none_begun fibres node b none));
    others = λ d other. (only_line_out (net_source p) (net_sink k) rack b place).line_out d other;
    line_in = refl;
    client_in = refl;
    client_out = refl;
  }

-- and none where none does
pub near_not : (fibres : List FibreEnds) (node b : ℕ) (bays : BaysView) → list_any (begins_at node b) fibres ≡ false → NearEnd fibres node b bays bays
near_not fibres node b bays none = record {
  begun = λ f has here out. absurd (none_of (begins_at node b) fibres f has none (same_both f.here node f.out b here out));
  edge = λ edge. refl;
  others = λ d other. refl;
  line_in = refl;
  client_in = refl;
  client_out = refl;
}

-- no line output yet, and one more
pub near_none : (fibres : List FibreEnds) (node : ℕ) (bays : BaysView) → NearEnds fibres node 0 bays bays
near_none fibres node bays = record {
  begun = λ f has here less. absurd (omega arith);
  edges = λ b none. refl;
  line_in = refl;
  client_in = refl;
  client_out = refl;
}

pub near_next : (fibres : List FibreEnds) (node n : ℕ) (first now next : BaysView) → NearEnds fibres node n first now → NearEnd fibres node n now next
    → NearEnds fibres node (n + 1) first next
near_next fibres node n first now next before e = record {
  begun = λ f has here less. elim (below_or_here f.out n less) as (λ t. line_out_at next f.out ≡ telling) [
    | inl l ↦ e.others f.out (apart f.out n l) ∙ before.begun f has here l
    | inr same ↦ ap (line_out_at next) same ∙ e.begun f has here same
  ];
  edges = λ b none. elim (eqb_tells b n) as (λ t. line_out_at next b ≡ line_out_at first b) [
    | inl t ↦
        ap (line_out_at next) t.1 ∙ e.edge (λ f has here out. none f has here (out ∙ sym t.1)) ∙ ap (line_out_at now) (sym t.1)
        ∙ before.edges b none
    | inr t ↦ e.others b t.1 ∙ before.edges b none
  ];
  line_in = e.line_in ∙ before.line_in;
  client_in = e.client_in ∙ before.client_in;
  client_out = e.client_out ∙ before.client_out;
}
