-- The value of a network has no float, so its text is known byte for byte.
use Rattle.std.proofs.Common.{◌≡◌, ◌∙◌, ◌||◌, ◌+◌, ℕ, Bool, true, false, List, [], ◌∷◌, ◌++◌, Option, None, Some, refl, sym, ap, length, slice_get}
use Rattle.std.specs.Prelude.{flat_map, map}
use Rattle.otn_base.specs.LineSlots.{LineSlots}
use Rattle.plan_file.specs.declared.connection.FromEnd.{FromEnd}
use Rattle.plan_file.specs.declared.connection.FromEnd.TheVariants as from_end
use Rattle.plan_file.specs.declared.connection.ToEnd.{ToEnd}
use Rattle.plan_file.specs.declared.connection.ToEnd.TheVariants as to_end
use Rattle.plan_file.specs.declared.plan.Plan.{Plan}
use Rattle.serde_json.specs.Data.{Data}
use Rattle.serde_json.specs.View.{items_of}
use Rattle.serde_json.specs.Written.{has_float, items_have_float}
use Rattle.network_laws.specs.Networks.{FibreEnds}
use Rattle.network_laws.specs.Routes.{Leg}
use Rattle.network_ways.specs.Tracing.{Way}
use Rattle.network_view.specs.Entries.{Named, legs_of}
use Rattle.network_view.specs.Slots.{free_slots}
use Rattle.network_view.specs.Ways.{ways_of}
use Rattle.network_view.specs.declared.lines.Trouble.{Trouble}
use Rattle.network_view.specs.declared.lines.Trouble.TheVariants.{Unmet, Untaken, Round}
use Rattle.network_json.specs.NetworkJson.{begin_data, client_data, count, end_data, fibre_at, fibre_by, fibre_data, from_data, leg_data, line_data, made_data}
use Rattle.network_json.specs.NetworkJson.{name_data, network_by, network_data, node_data, nodes_from, only_if, port_data, round_data, signal_data, to_data}
use Rattle.network_json.specs.NetworkJson.{tributary_data, trouble_at, troubles_in, turns_data, unmet_data, untaken_data, way_by, way_data}

-- ---- lists

both : (a b : Bool) → a ≡ false → b ≡ false → (a || b) ≡ false
both a b ea eb = ap (λ x. x || b) ea ∙ eb

map_plain : {A : Type 0} (f : A → Data) (xs : List A) → ((x : A) → has_float (f x) ≡ false) → items_have_float (items_of (map f xs)) ≡ false
map_plain f [] each = refl
map_plain f (x ∷ xs) each = both (has_float (f x)) (items_have_float (items_of (map f xs))) (each x) (map_plain f xs each)

append_plain : (ds es : List Data) → items_have_float (items_of ds) ≡ false → items_have_float (items_of es) ≡ false
    → items_have_float (items_of (ds ++ es)) ≡ false
append_plain [] es d e = e
append_plain (x ∷ ds) es d e = go (has_float x) refl d (λ rest. append_plain ds es rest e)
  where
    go : (b : Bool) → has_float x ≡ b → (has_float x || items_have_float (items_of ds)) ≡ false
        → (items_have_float (items_of ds) ≡ false → items_have_float (items_of (ds ++ es)) ≡ false)
        → (has_float x || items_have_float (items_of (ds ++ es))) ≡ false
    go true t h later = absurd (let no_float : true ≡ false = ap (λ b. b || items_have_float (items_of ds)) (sym t) ∙ h in cc)
    go false t h later = both (has_float x) (items_have_float (items_of (ds ++ es))) t (later (ap (λ b. b || items_have_float (items_of ds)) (sym t) ∙ h))

flat_plain : {A : Type 0} (f : A → List Data) (xs : List A) → ((x : A) → items_have_float (items_of (f x)) ≡ false)
    → items_have_float (items_of (flat_map f xs)) ≡ false
flat_plain f [] each = refl
flat_plain f (x ∷ xs) each = append_plain (f x) (flat_map f xs) (each x) (flat_plain f xs each)

numbers_plain : (ns : List ℕ) → items_have_float (items_of (map count ns)) ≡ false
numbers_plain ns = map_plain count ns (λ n. refl)

-- ---- ends

line_plain : (named : Named) (node line : ℕ) → has_float (line_data named node line) ≡ false
unfolding line_data
line_plain named node line = refl

client_plain : (named : Named) (node client : ℕ) → has_float (client_data named node client) ≡ false
unfolding client_data
client_plain named node client = refl

signal_plain : (named : Named) (node : ℕ) (word : List ℕ) → has_float (signal_data named node word) ≡ false
unfolding signal_data
signal_plain named node word = refl

begin_plain : (named : Named) (node : ℕ) (from : FromEnd) → has_float (begin_data named node from) ≡ false
begin_plain named node (from_end.Line line port slots) = line_plain named node line
begin_plain named node (from_end.Client client) = client_plain named node client
begin_plain named node (from_end.Signal signal) = signal_plain named node _

end_plain : (named : Named) (node : ℕ) (to : ToEnd) → has_float (end_data named node to) ≡ false
end_plain named node (to_end.Line line port slots) = line_plain named node line
end_plain named node (to_end.Client client) = client_plain named node client

tributary_plain : (line port : ℕ) (slots : LineSlots) → has_float (tributary_data line port slots) ≡ false
unfolding tributary_data
tributary_plain line port slots = both (items_have_float (items_of (map count slots.list))) false (numbers_plain slots.list) refl

port_plain : (client : ℕ) → has_float (port_data client) ≡ false
unfolding port_data
port_plain client = refl

made_plain : (word : List ℕ) → has_float (made_data word) ≡ false
unfolding made_data
made_plain word = refl

from_plain : (from : FromEnd) → has_float (from_data from) ≡ false
from_plain (from_end.Line line port slots) = tributary_plain line port slots
from_plain (from_end.Client client) = port_plain client
from_plain (from_end.Signal signal) = made_plain _

to_plain : (to : ToEnd) → has_float (to_data to) ≡ false
to_plain (to_end.Line line port slots) = tributary_plain line port slots
to_plain (to_end.Client client) = port_plain client

-- ---- entries, nodes and fibres

leg_plain : (named : Named) (leg : Leg) → has_float (leg_data named leg) ≡ false
unfolding leg_data
leg_plain named leg =
    both (has_float (from_data leg.x.from)) (has_float (to_data leg.x.to) || false) (from_plain leg.x.from)
    (both (has_float (to_data leg.x.to)) false (to_plain leg.x.to) refl)

node_plain : (named : Named) (node : ℕ) (plan : Plan) → has_float (node_data named node plan) ≡ false
unfolding node_data
node_plain named node plan = both (items_have_float (items_of (map name_data plan.connections))) false (map_plain name_data plan.connections (λ x. refl)) refl

nodes_plain : (named : Named) (node : ℕ) (plans : List Plan) → items_have_float (items_of (nodes_from named node plans)) ≡ false
unfolding nodes_from
nodes_plain named node [] = refl
nodes_plain named node (plan ∷ plans) =
    both (has_float (node_data named node plan)) (items_have_float (items_of (nodes_from named (node + 1) plans))) (node_plain named node plan)
    (nodes_plain named (node + 1) plans)

fibre_plain : (named : Named) (f : FibreEnds) (plan : Plan) → has_float (fibre_data named f plan) ≡ false
unfolding fibre_data
fibre_plain named f plan =
    both _ _ (numbers_plain (free_slots plan f.out)) (both _ _ (line_plain named f.here f.out) (both _ _ (line_plain named f.there f.into) refl))

fibres_plain : (named : Named) (f : FibreEnds) → items_have_float (items_of (fibre_at named f)) ≡ false
fibres_plain named f = go (slice_get named.network.plans f.here)
  where
    go : (o : Option Plan) → items_have_float (items_of (fibre_by named f o)) ≡ false
    go None = refl
    go (Some plan) = both (has_float (fibre_data named f plan)) false (fibre_plain named f plan) refl

-- ---- ways

turns_plain : (start stop behind : ℕ) (to : ToEnd) → has_float (turns_data start stop behind to) ≡ false
turns_plain start stop behind (to_end.Line line port slots) = refl
turns_plain start stop behind (to_end.Client client) = refl

way_plain : (named : Named) (first last : Leg) (rest : List Leg) → has_float (way_by named first last rest) ≡ false
unfolding way_by
way_plain named first last rest =
    both _ _ (begin_plain named first.node first.x.from)
    (both _ _ (end_plain named last.node last.x.to) (both _ _ (map_plain (leg_data named) (first ∷ rest) (leg_plain named))
    (both _ _ (turns_plain first.x.start last.x.stop (length rest) last.x.to) refl)))

-- ---- what is amiss

if_plain : (b : Bool) (d : Data) → has_float d ≡ false → items_have_float (items_of (only_if b d)) ≡ false
if_plain true d plain = both (has_float d) false plain refl
if_plain false d plain = refl

unmet_plain : (named : Named) (leg : Leg) → has_float (unmet_data named leg) ≡ false
unfolding unmet_data
unmet_plain named leg = both (has_float (leg_data named leg)) false (leg_plain named leg) refl

untaken_plain : (named : Named) (leg : Leg) → has_float (untaken_data named leg) ≡ false
unfolding untaken_data
untaken_plain named leg = both (has_float (leg_data named leg)) false (leg_plain named leg) refl

round_plain : (named : Named) (leg : Leg) → has_float (round_data named leg) ≡ false
unfolding round_data
round_plain named leg = both (has_float (leg_data named leg)) false (leg_plain named leg) refl

trouble_plain : (named : Named) (most : ℕ) (trouble : Trouble) (leg : Leg) → items_have_float (items_of (trouble_at named most trouble leg)) ≡ false
trouble_plain named most Unmet leg = if_plain _ (unmet_data named leg) (unmet_plain named leg)
trouble_plain named most Untaken leg = if_plain _ (untaken_data named leg) (untaken_plain named leg)
trouble_plain named most Round leg = if_plain _ (round_data named leg) (round_plain named leg)

troubles_plain : (named : Named) (legs : List Leg) → items_have_float (items_of (troubles_in named legs)) ≡ false
troubles_plain named legs =
    append_plain (flat_map (trouble_at named (length legs) Unmet) legs) _ (flat_plain _ legs (trouble_plain named (length legs) Unmet))
    (append_plain (flat_map (trouble_at named (length legs) Untaken) legs) (flat_map (trouble_at named (length legs) Round) legs)
    (flat_plain _ legs (trouble_plain named (length legs) Untaken)) (flat_plain _ legs (trouble_plain named (length legs) Round)))

-- ---- the whole

whole_plain : (named : Named) (legs : List Leg) (ways : List Way) → has_float (network_by named legs ways) ≡ false
unfolding network_by
whole_plain named legs ways =
    both _ _ (flat_plain (fibre_at named) named.network.fibres (fibres_plain named))
    (both _ _ (nodes_plain named 0 named.network.plans) (both _ _ (troubles_plain named legs)
    (both _ _ (map_plain (way_data named) ways (λ way. way_plain named way.first _ way.rest)) refl)))

-- the value of a network has no float
pub no_float : (named : Named) → has_float (network_data named) ≡ false
no_float named = whole_plain named (legs_of named.network) (ways_of named.network)
