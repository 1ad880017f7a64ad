-- The ways of a network, and of its runs.
use Rattle.std.proofs.Common.{◌≡◌, ◌≤◌, ℕ, suc, List, [], ◌∷◌, Some, length, refl, sym, ap, ◌∙◌, subst, arith}
use Rattle.std.specs.Prelude.{slice_get}
use Rattle.std.proofs.lemmas.Option.{slice_get_read}
use Rattle.std.specs.List.{Contains}
use Rattle.otn_base.specs.LineSlots.{LineSlots}
use Rattle.plan_file.specs.declared.connection.Connection.{Connection}
use Rattle.plan_file.specs.declared.connection.FromEnd.TheVariants as from_end
use Rattle.plan_file.specs.declared.connection.ToEnd.TheVariants as to_end
use Rattle.plan_file.specs.declared.plan.Plan.{Plan}
use Rattle.device_model.specs.Entries.{first_turn}
use Rattle.device_model.specs.SoundPlans.{IsSender}
use Rattle.device_model.proofs.SoundPlans.{sound_plan}
use Rattle.connection_laws.proofs.WorldInputs.{sound_of}
use Rattle.network_laws.specs.Networks.{FibreEnds, Network, NetworkRun}
use Rattle.network_laws.specs.Routes.{Leg, IsLeg, IsJoined, IsRoute, IsOneWayBack, Brought, BroughtAll, HasItsWays, hop_of, hops_of, last_leg}
use Rattle.network_laws.specs.Ways.{Fibre, GoesOn, IsHop, LeadsOn, IsWholeWay, last_hop}

-- ---- what the runs of a network make of a route

is_hop : (network : Network) (run : NetworkRun network) (leg : Leg) → IsLeg network leg → IsHop (hop_of run leg)
is_hop network run leg is =
    let carried = run.carries leg.node is.plan is.known in
    record { is = carried.1; has = subst (λ (plan : Plan). Contains plan.connections leg.x) (sym carried.0) is.has }

leads_on : (network : Network) (run : NetworkRun network) (here next : Leg) (joined : IsJoined network here next)
    → Fibre (run.run here.node) (run.run next.node) joined.b joined.c → LeadsOn (hop_of run here) (hop_of run next)
leads_on network run here next joined fibre = record {
  b = joined.b;
  c = joined.c;
  port = joined.port;
  slots = joined.slots;
  goes = joined.goes;
  fibre = fibre;
}

pub way_of : HasItsWays
way_of network run leg [] route brought = is_hop network run leg route
way_of network run leg (next ∷ legs) route brought = (
  is_hop network run leg route.0,
  leads_on network run leg next route.1 brought.0,
  way_of network run next legs route.2 brought.1,
)

pub whole_way : (network : Network) (run : NetworkRun network) (leg : Leg) (legs : List Leg) (route : IsRoute network leg legs)
    (brought : Brought run leg legs route) → BroughtAll run leg legs route brought
    → IsWholeWay (hop_of run leg) (hops_of run legs) (way_of network run leg legs route brought)
unfolding way_of leads_on
whole_way network run leg [] route brought all = tt
whole_way network run leg (next ∷ legs) route brought all = (all.0, whole_way network run next legs route.2 brought.1 all.1)

pub last_is : (network : Network) (run : NetworkRun network) (leg : Leg) (legs : List Leg)
    → last_hop (hop_of run leg) (hops_of run legs) ≡ hop_of run (last_leg leg legs)
last_is network run leg [] = refl
last_is network run leg (next ∷ legs) = last_is network run next legs

pub hops_many : (network : Network) (run : NetworkRun network) (legs : List Leg) → length (hops_of run legs) ≡ length legs
hops_many network run [] = refl
hops_many network run (leg ∷ legs) = ap suc (hops_many network run legs)

-- ---- one way back

of_fibre : (h o t i j p u k : ℕ) → ◌≡◌ {A = FibreEnds} (record { here = h; out = o; there = t; into = i }) (record { here = j; out = p; there = u; into = k })
    → (h ≡ j) × (o ≡ p)
of_fibre h o t i j p u k e = (ap (λ (f : FibreEnds). f.here) e, ap (λ (f : FibreEnds). f.out) e)

same_port : (a b p q : ℕ) (s t : LineSlots) → from_end.Line a p s ≡ from_end.Line b q t → p ≡ q
same_port a b p q s t e = cc

same_line : (a b p q : ℕ) (s t : LineSlots) → from_end.Line a p s ≡ from_end.Line b q t → a ≡ b
same_line a b p q s t e = cc

of_plan : (p q : Plan) → Some p ≡ Some q → p ≡ q
of_plan p q e = cc

of_connection : (x y : Connection) → Some x ≡ Some y → x ≡ y
of_connection x y e = cc

same_leg : (here other : Leg) → here.node ≡ other.node → here.x ≡ other.x → here ≡ other
same_leg here other node x = ap (λ n. record { node = n; x = here.x }) node ∙ ap (λ y. record { node = other.node; x = y }) x

-- it is the sender of its port in the first turn of the entry in which it goes on
sender : (plan : Plan) (x y : Connection) (b c port number : ℕ) (slots : LineSlots) (has : Contains plan.connections x) → 1 ≤ y.start
    → y.start ≤ y.stop → GoesOn x y b c port slots → port ≡ number → IsSender plan b (first_turn y) has.0 number slots
sender plan x y b c port number slots has low span goes is =
    let start = goes.start in
    let last = goes.stop in
    record {
      x = x;
      known = slice_get_read plan.connections (length plan.connections) has.0 x refl has.1 (sym has.2);
      to = goes.puts ∙ ap (λ p. to_end.Line b p slots) is;
      active = record { start = omega arith; stop = omega arith };
    }

pub one_way_back : IsOneWayBack
one_way_back network here other next net is is_too next_is one two =
    let takes : from_end.Line one.c one.port one.slots ≡ from_end.Line two.c two.port two.slots = sym one.goes.takes ∙ two.goes.takes in
    let f = net.single (record { here = here.node; out = one.b; there = next.node; into = one.c })
    (record { here = other.node; out = two.b; there = next.node; into = two.c }) one.fibre two.fibre refl
    (same_line one.c two.c one.port two.port one.slots two.slots takes) in
    let ends = of_fibre here.node one.b next.node one.c other.node two.b next.node two.c f in
    let plan_same : is.plan ≡ is_too.plan = of_plan is.plan is_too.plan (sym is.known ∙ ap (slice_get network.plans) ends.0 ∙ is_too.known) in
    let accepted = net.accepted here.node is.plan is.known in
    let sound = sound_of next_is.plan next.x (net.accepted next.node next_is.plan next_is.known) next_is.has in
    let low = sound.start in
    let span = sound.span in
    let has_too : Contains is.plan.connections other.x = subst (λ (plan : Plan). Contains plan.connections other.x) (sym plan_same) is_too.has in
    let first = sender is.plan here.x next.x one.b one.c one.port one.port one.slots is.has low span one.goes refl in
    let second : IsSender is.plan one.b (first_turn next.x) has_too.0 one.port two.slots = subst
    (λ b. IsSender is.plan b (first_turn next.x) has_too.0 one.port two.slots) (sym ends.1)
    (sender is.plan other.x next.x two.b two.c two.port one.port two.slots has_too low span two.goes
    (sym (same_port one.c two.c one.port two.port one.slots two.slots takes))) in
    let i : is.has.0 ≡ has_too.0 = (sound_plan is.plan accepted).ports_apart is.has.0 has_too.0 one.b
    (first_turn next.x) one.port one.slots two.slots first second in
    let x_same : here.x ≡ other.x = of_connection here.x other.x
    (sym (slice_get_read is.plan.connections (length is.plan.connections) is.has.0 here.x refl is.has.1 (sym is.has.2)) ∙ ap (slice_get is.plan.connections) i
    ∙ slice_get_read is.plan.connections (length is.plan.connections) has_too.0 other.x refl has_too.1 (sym has_too.2)) in
    same_leg here other ends.0 x_same
