-- API: what is told of a network, as text: a line of each fibre, the lines of each way, a line of all that is amiss,
-- and whether nothing is.
use Rattle.std.specs.Prelude.{◌≡◌, ℕ, ◌+◌, ◌-◌, ◌*◌, Bool, true, false, if◌then◌else◌, List, [], ◌∷◌, ◌++◌, codes, length, Option, Some, None, slice_get}
use Rattle.std.specs.Fmt.{decimal}
use Rattle.std.specs.List.{flat_map}
use Rattle.port_base.specs.PortViews.{SinkView, SinkWrites}
use Rattle.port_base.specs.declared.drain.Written.TheVariants as written
use Rattle.plan_file.specs.declared.connection.Connection.{Connection}
use Rattle.plan_file.specs.declared.plan.Plan.{Plan}
use Rattle.device_model.specs.Entries.{form_out}
use Rattle.network_laws.specs.Networks.{FibreEnds, Network}
use Rattle.network_laws.specs.Routes.{Leg, last_leg}
use Rattle.network_ways.specs.Tracing.{Way}
use Rattle.network_view.specs.Entries.{Named, legs_of, name_of}
use Rattle.network_view.specs.Slots.{free_slots, line_slots}
use Rattle.network_view.specs.Troubles.{is_round, is_unmet, is_untaken, why}
use Rattle.network_view.specs.Ways.{is_in_step, most_steps, ways_of}
use Rattle.network_view.specs.Words.{begin_text, end_text, from_text, kind_word, line_kind_word, mask_word, numbers_text, step_word, to_text, turns_text, why_word}
use Rattle.network_view.specs.declared.lines.Trouble.{Trouble}
use Rattle.network_view.specs.declared.lines.Trouble.TheVariants.{Unmet, Untaken, Round}
use Rattle.network_view.specs.declared.text.Told.{Told}
use Rattle.network_view.specs.declared.text.Told.TheVariants as told

-- a text for each, with its number, of which this is the first
unfoldable pub numbered : {A : Type 0} → (text : ℕ → A → List ℕ) → (number : ℕ) → List A → List ℕ
numbered text number [] = []
numbered text number (x ∷ xs) = text number x ++ numbered text (number + 1) xs

-- how many nodes, fibres and entries it has
unfoldable pub head_line : Network → List ℕ
head_line network =
    codes "network nodes " ++ decimal (length network.plans) ++ codes " fibres " ++ decimal (length network.fibres)
    ++ codes " connections " ++ decimal (length (legs_of network)) ++ codes "\n"

-- ---- fibres

-- a line of a node
unfoldable pub line_at : Named → (node line : ℕ) → List ℕ
line_at named node line = name_of named node ++ codes " " ++ decimal line

unfoldable pub fibre_ends : Named → FibreEnds → List ℕ
fibre_ends named f = line_at named f.here f.out ++ codes " " ++ line_at named f.there f.into

-- the form of line output b of the plan
unfoldable pub form_text : Plan → (b : ℕ) → List ℕ
form_text plan b = line_kind_word (form_out plan b).kind ++ codes " " ++ mask_word (form_out plan b).scrambled

-- how many of its slots some connection has, and those that none has
unfoldable pub slots_use : Plan → (b : ℕ) → List ℕ
slots_use plan b = codes "used " ++ decimal (line_slots plan b - length (free_slots plan b)) ++ codes " free "
    ++ numbers_text (free_slots plan b)

-- a fibre: its ends, the form of its line, how many slots of that are used, and which are free
unfoldable pub fibre_text : Named → (number : ℕ) → FibreEnds → Plan → List ℕ
fibre_text named number f plan = codes "fibre " ++ decimal number ++ codes " " ++ fibre_ends named f ++ codes " "
    ++ form_text plan f.out ++ codes " " ++ slots_use plan f.out ++ codes "\n"

abbrev pub fibre_by : Named → (number : ℕ) → FibreEnds → Option Plan → List ℕ
fibre_by named number f None = []
fibre_by named number f (Some plan) = fibre_text named number f plan

-- its line; none where it begins at no node
abbrev pub fibre_line : Named → (number : ℕ) → FibreEnds → List ℕ
fibre_line named number f = fibre_by named number f (slice_get named.network.plans f.here)

-- ---- ways

-- where a way begins, and where it ends
unfoldable pub begin_at : Named → (first : Leg) → List ℕ
begin_at named first = name_of named first.node ++ codes " " ++ begin_text first.x.from

unfoldable pub end_at : Named → (last : Leg) → List ℕ
end_at named last = name_of named last.node ++ codes " " ++ end_text last.x.to

-- of a way with so many nodes behind its first: its nodes, how many turns later what is sent is at its end, and in how
-- many turns what is sent comes in time
unfoldable pub way_turns : (first last : Leg) → (behind : ℕ) → List ℕ
way_turns first last behind = codes "nodes " ++ decimal (1 + behind) ++ codes " later " ++ decimal (1 + 3 * behind)
    ++ codes " turns " ++ turns_text first.x last.x behind

-- what a way carries, its turns, and whether all its entries begin with the same turn
unfoldable pub way_load : (first last : Leg) → List Leg → List ℕ
way_load first last rest = kind_word first.x.kind ++ codes " " ++ way_turns first last (length rest) ++ codes " "
    ++ step_word (is_in_step first rest)

-- A way: its ends, what it carries, its nodes and turns, and whether it is in step.
unfoldable pub way_text : Named → (number : ℕ) → (first last : Leg) → List Leg → List ℕ
way_text named number first last rest = codes "way " ++ decimal number ++ codes " " ++ begin_at named first ++ codes " "
    ++ end_at named last ++ codes " kind " ++ way_load first last rest ++ codes "\n"

abbrev pub way_head : Named → (number : ℕ) → Way → List ℕ
way_head named number way = way_text named number way.first (last_leg way.first way.rest) way.rest

-- the ends of an entry
unfoldable pub ends_text : Connection → List ℕ
ends_text x = from_text x.from ++ codes " " ++ to_text x.to

-- an entry: its node, its name and its ends
unfoldable pub entry_text : Named → Leg → List ℕ
entry_text named leg = name_of named leg.node ++ codes " " ++ leg.x.name ++ codes " " ++ ends_text leg.x

-- an entry of a way, of this number on it
unfoldable pub leg_line : Named → (way number : ℕ) → Leg → List ℕ
leg_line named way number leg = codes "leg " ++ decimal way ++ codes " " ++ decimal number ++ codes " "
    ++ entry_text named leg ++ codes "\n"

-- a way, and its entries
abbrev pub way_lines : Named → (number : ℕ) → Way → List ℕ
way_lines named number way = way_head named number way ++ numbered (leg_line named number) 1 (way.first ∷ way.rest)

-- ---- what is amiss

-- none goes on in it, and why
unfoldable pub unmet_line : Named → Leg → List ℕ
unmet_line named leg = if is_unmet named.network leg then codes "unmet " ++ name_of named leg.node ++ codes " "
    ++ leg.x.name ++ codes " " ++ why_word (why named.network leg) ++ codes "\n" else []

-- it goes on in none
unfoldable pub untaken_line : Named → Leg → List ℕ
untaken_line named leg = if is_untaken named.network leg then codes "untaken " ++ name_of named leg.node
    ++ codes " " ++ leg.x.name ++ codes "\n" else []

-- its way has no beginning
unfoldable pub round_line : Named → (most : ℕ) → Leg → List ℕ
round_line named most leg = if is_round named.network most leg then codes "round " ++ name_of named leg.node
    ++ codes " " ++ leg.x.name ++ codes "\n" else []

abbrev pub trouble_line : Named → (most : ℕ) → Trouble → Leg → List ℕ
trouble_line named most Unmet leg = unmet_line named leg
trouble_line named most Untaken leg = untaken_line named leg
trouble_line named most Round leg = round_line named most leg

-- all that is amiss: entries in which none goes on, then those that go on in none, then those whose way has no
-- beginning
abbrev pub troubles_in : Named → List Leg → List ℕ
troubles_in named legs =
    flat_map (trouble_line named (length legs) Unmet) legs
    ++ (flat_map (trouble_line named (length legs) Untaken) legs
    ++ flat_map (trouble_line named (length legs) Round) legs)

abbrev pub troubles_text : Named → List ℕ
troubles_text named = troubles_in named (legs_of named.network)

-- ---- the whole

-- all meets where nothing is told to be amiss
abbrev pub is_met_by : (troubles : List ℕ) → Bool
is_met_by [] = true
is_met_by (byte ∷ troubles) = false

abbrev pub is_met : Named → Bool
is_met named = is_met_by (troubles_text named)

abbrev pub status_word : (met : Bool) → List ℕ
status_word true = codes "met"
status_word false = codes "unmet"

abbrev pub status_line : (met : Bool) → List ℕ
status_line met = codes "status " ++ status_word met ++ codes "\n"

-- the text of a network
unfoldable pub network_text : Named → List ℕ
network_text named =
    head_line named.network ++ (numbered (fibre_line named) 1 named.network.fibres
    ++ (numbered (way_lines named) 1 (ways_of named.network) ++ (troubles_text named ++ status_line (is_met named))))

-- ---- how it is written

abbrev pub answer_of : (met : Bool) → Told
answer_of true = told.Met
answer_of false = told.Unmet

-- The report got the text, and the answer says whether all meets; or it got a front of the text, and a write failed.
abbrev pub TellsNetwork : Named → Told → (old new : SinkView) → Type 0
TellsNetwork named told.ReportFault old new = SinkWrites written.Lost old (network_text named) new
TellsNetwork named answer old new = SinkWrites written.Whole old (network_text named) new
    × (answer ≡ answer_of (is_met named))
