-- API: what may be amiss with an entry of a network: none goes on in it, it goes on in none, or its way has no
-- beginning.
use Rattle.std.specs.Prelude.{ℕ, nat_le, ◌==◌, ◌&&◌, not, if◌then◌else◌, Bool, true, false, List, [], is_none, Option, Some, None, slice_get}
use Rattle.std.specs.List.{list_any}
use Rattle.otn_base.specs.LineSlots.{LineSlots}
use Rattle.plan_file.specs.declared.connection.Connection.{Connection}
use Rattle.plan_file.specs.declared.connection.FromEnd.{FromEnd}
use Rattle.plan_file.specs.declared.connection.FromEnd.TheVariants as from_end
use Rattle.plan_file.specs.declared.connection.ToEnd.{ToEnd}
use Rattle.plan_file.specs.declared.connection.ToEnd.TheVariants as to_end
use Rattle.plan_file.specs.declared.plan.Plan.{Plan}
use Rattle.network_laws.specs.Networks.{FibreEnds, Network}
use Rattle.network_laws.specs.Routes.{Leg}
use Rattle.network_ways.specs.Tracing.{before, goes_on, meets, same_slots, trace}
use Rattle.network_view.specs.Slots.{has_slot_of}
use Rattle.network_view.specs.declared.meeting.Likeness.{Likeness}
use Rattle.network_view.specs.declared.meeting.Likeness.TheVariants as like

-- some entry of the plan passes the test
abbrev pub any_in : Option Plan → (test : Connection → Bool) → Bool
any_in None test = false
any_in (Some plan) test = list_any test plan.connections

-- ---- the entry after one

-- by this fibre it goes on in one
abbrev pub takes_by : Network → (here : Leg) → FibreEnds → Bool
takes_by network here f = (f.here == here.node)
    && any_in (slice_get network.plans f.there) (λ y. goes_on here.x y f.out f.into)

-- it goes on in an entry of the network
abbrev pub is_taken : Network → (here : Leg) → Bool
is_taken network here = list_any (takes_by network here) network.fibres

-- the end of an entry of this node is on the line output at which the fibre begins
abbrev pub starts_at : (node : ℕ) → ToEnd → FibreEnds → Bool
starts_at node (to_end.Line line port slots) f = (f.here == node) && (f.out == line)
starts_at node (to_end.Client client) f = false

abbrev pub starts_fibre : (here : Leg) → FibreEnds → Bool
starts_fibre here f = starts_at here.node here.x.to f

-- it goes to a line at which a fibre begins
abbrev pub goes_over : Network → (here : Leg) → Bool
goes_over network here = list_any (starts_fibre here) network.fibres

-- Untaken: it goes to a line at which a fibre begins, and goes on in no entry.
abbrev pub is_untaken : Network → (here : Leg) → Bool
is_untaken network here = goes_over network here && not (is_taken network here)

-- ---- the entry before one

-- the end of an entry of this node is on the line input to which the fibre leads
abbrev pub feeds_at : (node : ℕ) → FromEnd → FibreEnds → Bool
feeds_at node (from_end.Line line port slots) f = (f.there == node) && (f.into == line)
feeds_at node (from_end.Client client) f = false
feeds_at node (from_end.Signal signal) f = false

abbrev pub feeds : (next : Leg) → FibreEnds → Bool
feeds next f = feeds_at next.node next.x.from f

-- it comes from a line to which a fibre leads
abbrev pub comes_over : Network → (next : Leg) → Bool
comes_over network next = list_any (feeds next) network.fibres

-- Unmet: it comes from a line to which a fibre leads, and no entry goes on in it.
abbrev pub is_unmet : Network → (next : Leg) → Bool
is_unmet network next = comes_over network next && is_none (before network next)

-- ---- why none goes on in it

-- both are active in some turn
abbrev pub have_common_turn : (x y : Connection) → Bool
have_common_turn x y = nat_le x.start y.stop && nat_le y.start x.stop

-- what goes to an end on line b is on the slots that are taken by an end on line c, whatever their ports are
abbrev pub share_slots : ToEnd → FromEnd → (b c : ℕ) → Bool
share_slots (to_end.Line line port slots) (from_end.Line other number others) b c = ((line == b) && (other == c))
    && same_slots slots others
share_slots (to_end.Line line port slots) (from_end.Client n) b c = false
share_slots (to_end.Line line port slots) (from_end.Signal signal) b c = false
share_slots (to_end.Client n) from b c = false

abbrev pub have_common_slot : (slots others : List ℕ) → Bool
have_common_slot slots others = list_any (λ k. has_slot_of others k) slots

-- it is on one of them
abbrev pub overlap : ToEnd → FromEnd → (b c : ℕ) → Bool
overlap (to_end.Line line port slots) (from_end.Line other number others) b c = ((line == b) && (other == c))
    && have_common_slot slots.list others.list
overlap (to_end.Line line port slots) (from_end.Client n) b c = false
overlap (to_end.Line line port slots) (from_end.Signal signal) b c = false
overlap (to_end.Client n) from b c = false

-- By these lines an entry is put where another is taken, on its slots and by its port; on its slots, in a common turn;
-- on one of its slots, in a common turn.
abbrev pub is_like : Likeness → (x y : Connection) → (b c : ℕ) → Bool
is_like like.Turns x y b c = meets x.to y.from b c
is_like like.Port x y b c = share_slots x.to y.from b c && have_common_turn x y
is_like like.Slots x y b c = overlap x.to y.from b c && have_common_turn x y
is_like like.Nothing x y b c = false

abbrev pub likely_by : Network → Likeness → (next : Leg) → FibreEnds → Bool
likely_by network likeness next f = (f.there == next.node)
    && any_in (slice_get network.plans f.here) (λ x. is_like likeness x next.x f.out f.into)

-- some entry at the beginning of a fibre that leads to it is
abbrev pub likely_before : Network → Likeness → (next : Leg) → Bool
likely_before network likeness next = list_any (likely_by network likeness next) network.fibres

-- Why none goes on in an entry: it is put by its port on its slots, but not in all turns in which it is taken; by
-- another port; on other slots, of which it has some; or not at all.
abbrev pub why : Network → (next : Leg) → Likeness
why network next = if likely_before network like.Turns next then like.Turns
    else if likely_before network like.Port next then like.Port
    else if likely_before network like.Slots next then like.Slots else like.Nothing

-- ---- no beginning

-- Round: the way back from it has no beginning within so many steps.
abbrev pub is_round : Network → (most : ℕ) → Leg → Bool
is_round network most leg = is_none (trace network most leg [])
