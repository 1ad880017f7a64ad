-- API: what is told of a network, as a value of JSON: its nodes, its fibres, its ways, what is amiss, and whether
-- nothing is. It tells what the text of a network tells, and of each entry its turns. The members of an object stand in
-- the order of their names.
use Rattle.std.specs.Prelude.{◌≡◌, ℕ, ◌+◌, ◌-◌, ◌*◌, Bool, if◌then◌else◌, List, [], ◌∷◌, ◌++◌, codes, length, map, Option, Some, None, slice_get}
use Rattle.std.specs.List.{flat_map}
use Rattle.serde_json.specs.Data.{Data, null, boolean, number, unsigned, string, array, object, member, no_members}
use Rattle.serde_json.specs.View.{items_of}
use Rattle.serde_json.specs.Written.{compact_text}
use Rattle.port_base.specs.PortViews.{SinkView, SinkWrites}
use Rattle.port_base.specs.declared.drain.Written.TheVariants as written
use Rattle.otn_base.specs.LineSlots.{LineSlots}
use Rattle.plan_file.specs.declared.connection.Connection.{Connection}
use Rattle.plan_file.specs.declared.connection.FromEnd.{FromEnd}
use Rattle.plan_file.specs.declared.connection.FromEnd.TheVariants as from_end
use Rattle.plan_file.specs.declared.connection.ToEnd.{ToEnd}
use Rattle.plan_file.specs.declared.connection.ToEnd.TheVariants as to_end
use Rattle.plan_file.specs.declared.plan.Plan.{Plan}
use Rattle.device_model.specs.Entries.{form_out}
use Rattle.network_laws.specs.Networks.{FibreEnds}
use Rattle.network_laws.specs.Routes.{Leg, last_leg}
use Rattle.network_ways.specs.Tracing.{Way}
use Rattle.network_view.specs.Entries.{Named, legs_of, name_of}
use Rattle.network_view.specs.NetworkText.{answer_of, is_met, status_word}
use Rattle.network_view.specs.Slots.{free_slots, line_slots}
use Rattle.network_view.specs.Troubles.{is_round, is_unmet, is_untaken, why}
use Rattle.network_view.specs.Ways.{is_in_step, ways_of}
use Rattle.network_view.specs.Words.{kind_word, line_kind_word, signal_word, turns_left, why_word}
use Rattle.network_view.specs.declared.lines.Trouble.{Trouble}
use Rattle.network_view.specs.declared.lines.Trouble.TheVariants.{Unmet, Untaken, Round}
use Rattle.network_view.specs.declared.text.Told.{Told}
use Rattle.network_view.specs.declared.text.Told.TheVariants as told

-- a number, and a list of values
abbrev pub count : ℕ → Data
count n = number (unsigned n)

abbrev pub list_data : List Data → Data
list_data ds = array (items_of ds)

-- ---- ends

-- a line of a node
unfoldable pub line_data : Named → (node line : ℕ) → Data
line_data named node line =
    object (member (codes "line") (count line) (member (codes "node") (string (name_of named node)) no_members))

-- a client of a node
unfoldable pub client_data : Named → (node client : ℕ) → Data
client_data named node client =
    object (member (codes "client") (count client) (member (codes "node") (string (name_of named node)) no_members))

-- a signal that a node makes
unfoldable pub signal_data : Named → (node : ℕ) → (signal : List ℕ) → Data
signal_data named node signal =
    object (member (codes "node") (string (name_of named node)) (member (codes "signal") (string signal) no_members))

-- Where a way begins, and where it ends: at a line it is at the edge of the network, or does not meet.
abbrev pub begin_data : Named → (node : ℕ) → FromEnd → Data
begin_data named node (from_end.Line line port slots) = line_data named node line
begin_data named node (from_end.Client client) = client_data named node client
begin_data named node (from_end.Signal signal) = signal_data named node (signal_word signal)

abbrev pub end_data : Named → (node : ℕ) → ToEnd → Data
end_data named node (to_end.Line line port slots) = line_data named node line
end_data named node (to_end.Client client) = client_data named node client

-- G.709 clause 19.1: a tributary on a line: the kind of the line, the tributary's port, and its slots
unfoldable pub tributary_data : (line port : ℕ) → LineSlots → Data
tributary_data line port slots = object (member (codes "kind") (string (line_kind_word slots.kind))
    (member (codes "line") (count line) (member (codes "port") (count port)
    (member (codes "slots") (list_data (map count slots.list)) no_members))))

unfoldable pub port_data : (client : ℕ) → Data
port_data client = object (member (codes "client") (count client) no_members)

unfoldable pub made_data : (signal : List ℕ) → Data
made_data signal = object (member (codes "signal") (string signal) no_members)

-- where an entry comes from, and where it goes
abbrev pub from_data : FromEnd → Data
from_data (from_end.Line line port slots) = tributary_data line port slots
from_data (from_end.Client client) = port_data client
from_data (from_end.Signal signal) = made_data (signal_word signal)

abbrev pub to_data : ToEnd → Data
to_data (to_end.Line line port slots) = tributary_data line port slots
to_data (to_end.Client client) = port_data client

-- ---- entries

-- an entry: its node, its name, what it carries, its ends, and its first and last turn
unfoldable pub leg_data : Named → Leg → Data
leg_data named leg = object (member (codes "connection") (string leg.x.name)
    (member (codes "from") (from_data leg.x.from) (member (codes "kind") (string (kind_word leg.x.kind))
    (member (codes "node") (string (name_of named leg.node)) (member (codes "start") (count leg.x.start)
    (member (codes "stop") (count leg.x.stop) (member (codes "to") (to_data leg.x.to) no_members)))))))

-- ---- nodes

-- the name of an entry
abbrev pub name_data : Connection → Data
name_data x = string x.name

-- a node: the names of its entries in the order of its plan, its name, and how many turns it runs
unfoldable pub node_data : Named → (node : ℕ) → Plan → Data
node_data named node plan = object (member (codes "connections") (list_data (map name_data plan.connections))
    (member (codes "name") (string (name_of named node)) (member (codes "turns") (count plan.turns) no_members)))

-- the nodes of these plans, the first of which is that of this node
unfoldable pub nodes_from : Named → (node : ℕ) → List Plan → List Data
nodes_from named node [] = []
nodes_from named node (plan ∷ plans) = node_data named node plan ∷ nodes_from named (node + 1) plans

-- ---- fibres

-- G.709 clause 19.1: the ends of a fibre, the form of its line, how many of its slots some connection has, and those
-- that none has
unfoldable pub fibre_data : Named → FibreEnds → Plan → Data
fibre_data named f plan = object (member (codes "free") (list_data (map count (free_slots plan f.out)))
    (member (codes "from") (line_data named f.here f.out)
    (member (codes "kind") (string (line_kind_word (form_out plan f.out).kind))
    (member (codes "scrambled") (boolean (form_out plan f.out).scrambled)
    (member (codes "slots") (count (line_slots plan f.out)) (member (codes "to") (line_data named f.there f.into)
    (member (codes "used") (count (line_slots plan f.out - length (free_slots plan f.out))) no_members)))))))

abbrev pub fibre_by : Named → FibreEnds → Option Plan → List Data
fibre_by named f None = []
fibre_by named f (Some plan) = fibre_data named f plan ∷ []

-- what is told of a fibre; nothing where it begins at no node
abbrev pub fibre_at : Named → FibreEnds → List Data
fibre_at named f = fibre_by named f (slice_get named.network.plans f.here)

-- ---- ways

-- in how many turns what is sent at the beginning of a way comes in time; null where it ends at no client
abbrev pub turns_data : (start stop behind : ℕ) → ToEnd → Data
turns_data start stop behind (to_end.Line line port slots) = null
turns_data start stop behind (to_end.Client client) = count (turns_left start stop behind)

-- A way: its ends, what it carries, its nodes and turns, whether all its entries begin with the same turn, and its
-- entries. What is sent at its beginning in turn t is at its end in turn t + later.
unfoldable pub way_by : Named → (first last : Leg) → List Leg → Data
way_by named first last rest = object (member (codes "begin") (begin_data named first.node first.x.from)
    (member (codes "end") (end_data named last.node last.x.to)
    (member (codes "in_step") (boolean (is_in_step first rest)) (member (codes "kind") (string (kind_word first.x.kind))
    (member (codes "later") (count (1 + 3 * length rest))
    (member (codes "legs") (list_data (map (leg_data named) (first ∷ rest)))
    (member (codes "nodes") (count (1 + length rest))
    (member (codes "turns") (turns_data first.x.start last.x.stop (length rest) last.x.to) no_members))))))))

abbrev pub way_data : Named → Way → Data
way_data named way = way_by named way.first (last_leg way.first way.rest) way.rest

-- ---- what is amiss

-- none goes on in it, and why
unfoldable pub unmet_data : Named → Leg → Data
unmet_data named leg = object (member (codes "leg") (leg_data named leg)
    (member (codes "trouble") (string (codes "unmet"))
    (member (codes "why") (string (why_word (why named.network leg))) no_members)))

-- it goes on in none
unfoldable pub untaken_data : Named → Leg → Data
untaken_data named leg = object (member (codes "leg") (leg_data named leg)
    (member (codes "trouble") (string (codes "untaken")) no_members))

-- its way has no beginning
unfoldable pub round_data : Named → Leg → Data
round_data named leg = object (member (codes "leg") (leg_data named leg)
    (member (codes "trouble") (string (codes "round")) no_members))

abbrev pub only_if : Bool → Data → List Data
only_if amiss d = if amiss then d ∷ [] else []

abbrev pub trouble_at : Named → (most : ℕ) → Trouble → Leg → List Data
trouble_at named most Unmet leg = only_if (is_unmet named.network leg) (unmet_data named leg)
trouble_at named most Untaken leg = only_if (is_untaken named.network leg) (untaken_data named leg)
trouble_at named most Round leg = only_if (is_round named.network most leg) (round_data named leg)

-- all that is amiss with these entries, in the order of the text
abbrev pub troubles_in : Named → List Leg → List Data
troubles_in named legs =
    flat_map (trouble_at named (length legs) Unmet) legs
    ++ (flat_map (trouble_at named (length legs) Untaken) legs
    ++ flat_map (trouble_at named (length legs) Round) legs)

-- ---- the whole

-- of a network with these entries, and these ways
unfoldable pub network_by : Named → List Leg → List Way → Data
network_by named legs ways = object (member (codes "connections") (count (length legs))
    (member (codes "fibres") (list_data (flat_map (fibre_at named) named.network.fibres))
    (member (codes "nodes") (list_data (nodes_from named 0 named.network.plans))
    (member (codes "status") (string (status_word (is_met named)))
    (member (codes "troubles") (list_data (troubles_in named legs))
    (member (codes "ways") (list_data (map (way_data named) ways)) no_members))))))

-- the value of a network
abbrev pub network_data : Named → Data
network_data named = network_by named (legs_of named.network) (ways_of named.network)

-- that value as JSON in one line
unfoldable pub network_json : Named → List ℕ
network_json named = compact_text (network_data named) ++ codes "\n"

-- ---- how it is written

-- The report got the line, and the answer says whether all meets; or it got a front of the line, and a write failed.
abbrev pub TellsJson : Named → Told → (old new : SinkView) → Type 0
TellsJson named told.ReportFault old new = SinkWrites written.Lost old (network_json named) new
TellsJson named answer old new = SinkWrites written.Whole old (network_json named) new
    × (answer ≡ answer_of (is_met named))
