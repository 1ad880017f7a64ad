-- Believed: the rules of a plan's values: what breaks them in the whole, at a connection, and at two of them.
use Rattle.std.specs.Prelude.{ℕ, nat_lt, List, [], ◌∷◌, ◌++◌, length, Bool, false, not}
use Rattle.plan_file.specs.declared.error.PlanError.{PlanError}
use Rattle.plan_file.specs.declared.error.PlanError.TheVariants.{Turns, TooMany, BadName, NameTwice, BadPlace, BadSlots, SlotTwice, PortTwice, ClientTwice, BadPace, BadSpan}
use Rattle.otn_base.specs.declared.limits.TheConstants.{MOST_TURNS, MOST_CONNECTIONS}
use Rattle.plan_file.specs.Entry.{Entry, Top, Outline}
use Rattle.plan_file.specs.Places.{top_place, places, later_places}
use Rattle.plan_file.specs.Rules.{is_within, breaks_name, have_one_name, breaks_lines, breaks_place, breaks_slots, have_one_slot, have_one_port, have_one_client, breaks_pace, breaks_span}

-- the rules of connections, in the order in which they are tried
abbrev pub connection_rules : List PlanError
connection_rules = BadName ∷ NameTwice ∷ BadPlace ∷ BadSlots ∷ SlotTwice ∷ PortTwice ∷ ClientTwice ∷ BadPace ∷ BadSpan
    ∷ []

-- the rules of the whole, and behind them those of connections
abbrev pub plan_rules : List PlanError
plan_rules = Turns ∷ TooMany ∷ connection_rules

-- the top, or the number of connections, breaks the rule
abbrev pub breaks_whole : PlanError → Outline → Bool
breaks_whole Turns o = not (is_within 1 MOST_TURNS o.top.turns)
breaks_whole TooMany o = nat_lt MOST_CONNECTIONS (length o.entries)
breaks_whole BadPlace o = breaks_lines o.top
breaks_whole _ o = false

-- a connection of a plan with this top breaks the rule by itself
abbrev pub breaks_alone : PlanError → Top → Entry → Bool
breaks_alone BadName top e = breaks_name e
breaks_alone BadPlace top e = breaks_place top e
breaks_alone BadSlots top e = breaks_slots top e
breaks_alone BadPace top e = breaks_pace e
breaks_alone BadSpan top e = breaks_span top.turns e
breaks_alone _ top e = false

-- the earlier one first
abbrev pub clashes : PlanError → Entry → Entry → Bool
clashes NameTwice e f = have_one_name e f
clashes SlotTwice e f = have_one_slot e f
clashes PortTwice e f = have_one_port e f
clashes ClientTwice e f = have_one_client e f
clashes _ e f = false

-- where an outline breaks the rule: the top comes before the connections
abbrev pub plan_places : Outline → PlanError → List ℕ
plan_places o rule = top_place (breaks_whole rule o)
    ++ (places (breaks_alone rule o.top) o.entries ++ later_places (clashes rule) o.entries)
