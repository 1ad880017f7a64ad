-- A plan that breaks no rule is sound.
use Rattle.std.proofs.Common.{rules, ◌≡◌, ◌≤◌, ℕ, length, map, Some, None, slice_get, refl}
use Rattle.std.proofs.lemmas.Bool.{not-false}
use Rattle.std.proofs.lemmas.List.{length-map}
use Rattle.std.specs.List.{Contains}
use Rattle.otn_base.specs.LineSlots.{LineSlots}
use Rattle.otn_base.specs.declared.limits.TheConstants.{MOST_CONNECTIONS, MOST_TURNS}
use Rattle.plan_file.specs.Answer.{fault_in}
use Rattle.plan_file.specs.declared.connection.Connection.{Connection}
use Rattle.plan_file.specs.declared.connection.FromEnd.TheVariants as from_end
use Rattle.plan_file.specs.declared.connection.ToEnd.TheVariants as to_end
use Rattle.plan_file.specs.declared.error.PlanError.TheVariants.{Turns, TooMany, BadPlace, BadSlots, SlotTwice, PortTwice, ClientTwice, BadPace, BadSpan}
use Rattle.plan_file.specs.declared.plan.Plan.{Plan}
use Rattle.plan_file.specs.Entry.{seen, outline}
use Rattle.plan_file.proofs.Lists.{slice_get_known}
use Rattle.device_model.specs.SoundPlans.{IsSoundEntry, IsSender, IsSoundPlan}
use Rattle.device_model.proofs.Apart.{one_of_clash, from_one_client, to_one_client, on_one_slot, on_one_port}
use Rattle.device_model.proofs.Kept.{KeepsAll, keeps_all}
use Rattle.device_model.proofs.SeenNumbers.{within_least, within_most, not_many}
use Rattle.device_model.proofs.SoundEntries.{sound_entry}

entry_at : (plan : Plan) (i : ℕ) (x : Connection) → KeepsAll (outline plan) → slice_get plan.connections i ≡ Some x → IsSoundEntry plan x
entry_at plan i x keeps at_i =
    let known = slice_get_known seen plan.connections i x at_i in
    sound_entry plan x
    (keeps.alone 4 BadPlace i (seen x) refl known)
    (keeps.alone 5 BadSlots i (seen x) refl known)
    (keeps.alone 9 BadPace i (seen x) refl known)
    (keeps.alone 10 BadSpan i (seen x) refl known)

-- two that come from one client, or go to one
one_from_client : (plan : Plan) (i j n : ℕ) (x y : Connection) → KeepsAll (outline plan) → slice_get plan.connections i ≡ Some x → slice_get plan.connections j ≡ Some y
    → x.from ≡ from_end.Client n → y.from ≡ from_end.Client n → i ≡ j
one_from_client plan i j n x y keeps at_i at_j e f = one_of_clash plan 8 ClientTwice i j x y keeps refl at_i at_j (from_one_client n x y e f) (from_one_client n y x f e)

one_to_client : (plan : Plan) (i j n : ℕ) (x y : Connection) → KeepsAll (outline plan) → slice_get plan.connections i ≡ Some x → slice_get plan.connections j ≡ Some y
    → x.to ≡ to_end.Client n → y.to ≡ to_end.Client n → i ≡ j
one_to_client plan i j n x y keeps at_i at_j e f = one_of_clash plan 8 ClientTwice i j x y keeps refl at_i at_j (to_one_client n x y e f) (to_one_client n y x f e)

-- two that have a slot, or a tributary port, of a line in one turn
one_by_slot : (plan : Plan) (i j b past port other slot : ℕ) (slots others : LineSlots) → KeepsAll (outline plan) → IsSender plan b past i port slots → IsSender plan b past j other others
    → Contains slots.list slot → Contains others.list slot → i ≡ j
one_by_slot plan i j b past port other slot slots others keeps one two has has' =
    one_of_clash plan 6 SlotTwice i j one.x two.x keeps refl one.known two.known
    (on_one_slot b past port other slot slots others one.x two.x one.to two.to one.active two.active has has')
    (on_one_slot b past other port slot others slots two.x one.x two.to one.to two.active one.active has' has)

one_by_port : (plan : Plan) (i j b past port : ℕ) (slots others : LineSlots) → KeepsAll (outline plan) → IsSender plan b past i port slots → IsSender plan b past j port others → i ≡ j
one_by_port plan i j b past port slots others keeps one two =
    one_of_clash plan 7 PortTwice i j one.x two.x keeps refl one.known two.known
    (on_one_port b past port slots others one.x two.x one.to two.to one.active two.active)
    (on_one_port b past port others slots two.x one.x two.to one.to two.active one.active)

few_kept : (plan : Plan) → KeepsAll (outline plan) → length plan.connections ≤ MOST_CONNECTIONS
few_kept plan keeps = rw (length-map plan.connections seen) at (not_many MOST_CONNECTIONS (length (map seen plan.connections)) (keeps.whole 1 TooMany refl))

sound_kept : (plan : Plan) → KeepsAll (outline plan) → IsSoundPlan plan
sound_kept plan keeps =
    let turns = not-false _ (keeps.whole 0 Turns refl) in
    let least = within_least 1 MOST_TURNS plan.turns turns in
    let most = within_most 1 MOST_TURNS plan.turns turns in
    record {
      turns_least = search rules;
      turns_most = search rules;
      few = search (rules, few_kept);
      entries = λ i x at_i. search (rules, entry_at);
      clients_in = λ i j n x y at_i at_j e f. search (rules, one_from_client);
      clients_out = λ i j n x y at_i at_j e f. search (rules, one_to_client);
      slots_apart = λ i j b past port other slot slots others one two has has'. search (rules, one_by_slot);
      ports_apart = λ i j b past port slots others one two. search (rules, one_by_port);
    }

pub sound_plan : (plan : Plan) → fault_in plan ≡ None → IsSoundPlan plan
unfolding fault_in
sound_plan plan none = sound_kept plan (keeps_all (outline plan) none)
