-- Believed: a plan as its rules see it: the number of turns, and for each connection what its keys say, each number as
-- wide as a text can write it.
use Rattle.std.specs.Prelude.{ℕ, ℤ, pos, negsuc, List, map, length, Bool, true, false, if◌then◌else◌}
use Rattle.maintenance_signals.specs.declared.signal.Signal.{Signal}
use Rattle.otn_base.specs.LineSlots.{LineSlots}
use Rattle.otn_base.specs.declared.kind.Kind.{Kind}
use Rattle.otn_base.specs.declared.line_kind.LineKind.{LineKind}
use Rattle.plan_file.specs.declared.connection.Connection.{Connection}
use Rattle.plan_file.specs.declared.connection.FromEnd.{FromEnd}
use Rattle.plan_file.specs.declared.connection.FromEnd.TheVariants as from_end
use Rattle.plan_file.specs.declared.connection.ToEnd.{ToEnd}
use Rattle.plan_file.specs.declared.connection.ToEnd.TheVariants as to_end
use Rattle.plan_file.specs.declared.plan.Plan.{Plan}

-- one end: a line with its tributary port, and slots for a line of the kind; a client, or a maintenance signal
pub data End : Type 0 where
  at_line : ℤ → ℤ → LineKind → List ℤ → End
  at_client : ℤ → End
  of_signal : Signal → End

-- one connection
pub record Entry : Type 0 where
  pub name : List ℕ
  pub kind : Kind
  pub from : End
  pub to : End
  pub pace : List ℤ
  pub fcs : Bool
  pub trace : List ℕ
  pub start : ℤ
  pub stop : ℤ
  pub retire : Bool

-- the top: the number of turns, and which lines are OTU3 and which are scrambled
pub record Top : Type 0 where
  pub turns : ℤ
  pub otu3_in : List ℤ
  pub otu3_out : List ℤ
  pub scrambled_in : List ℤ
  pub scrambled_out : List ℤ

-- the whole
pub record Outline : Type 0 where
  pub top : Top
  pub entries : List Entry

-- ---- of an end

-- the end is at a line
abbrev pub is_line : End → Bool
is_line (at_line line port kind slots) = true
is_line _ = false

-- the end is at a client
abbrev pub is_client : End → Bool
is_client (at_client client) = true
is_client _ = false

-- how many slots the end has
abbrev pub slot_count : End → ℕ
slot_count (at_line line port kind slots) = length slots
slot_count _ = 0

-- M: how many slots the line end has, or both have
abbrev pub slots_between : End → End → ℕ
slots_between from to = if is_line from then slot_count from else slot_count to

-- ---- the outline of a plan

-- a from end of the plan
abbrev pub from_seen : FromEnd → End
from_seen (from_end.Line line port slots) = at_line (pos line) (pos port) slots.kind (map pos slots.list)
from_seen (from_end.Client client) = at_client (pos client)
from_seen (from_end.Signal signal) = of_signal signal

-- a to end of the plan
abbrev pub to_seen : ToEnd → End
to_seen (to_end.Line line port slots) = at_line (pos line) (pos port) slots.kind (map pos slots.list)
to_seen (to_end.Client client) = at_client (pos client)

-- a connection of the plan
abbrev pub seen : Connection → Entry
seen c = record {
  name = c.name;
  kind = c.kind;
  from = from_seen c.from;
  to = to_seen c.to;
  pace = map pos c.pace;
  fcs = c.fcs;
  trace = c.trace;
  start = pos c.start;
  stop = pos c.stop;
  retire = c.retire;
}

-- the top of the plan
abbrev pub top_seen : Plan → Top
top_seen plan = record {
  turns = pos plan.turns;
  otu3_in = map pos plan.otu3_in;
  otu3_out = map pos plan.otu3_out;
  scrambled_in = map pos plan.scrambled_in;
  scrambled_out = map pos plan.scrambled_out;
}

-- the outline of a plan
abbrev pub outline : Plan → Outline
outline plan = record { top = top_seen plan; entries = map seen plan.connections }

-- ---- the plan of an outline, where each number fits

-- the number, or 0 for one below it
abbrev pub natural : ℤ → ℕ
natural (pos n) = n
natural (negsuc n) = 0

-- slots of a line of this kind
abbrev pub slots_as : LineKind → List ℤ → LineSlots
slots_as kind slots = record { kind = kind; list = map natural slots }

-- a from end of the outline
abbrev pub from_of : End → FromEnd
from_of (at_line line port kind slots) = from_end.Line (natural line) (natural port) (slots_as kind slots)
from_of (at_client client) = from_end.Client (natural client)
from_of (of_signal signal) = from_end.Signal signal

-- a to end of the outline, which is no signal where the outline is accepted
abbrev pub to_of : End → ToEnd
to_of (at_line line port kind slots) = to_end.Line (natural line) (natural port) (slots_as kind slots)
to_of (at_client client) = to_end.Client (natural client)
to_of (of_signal signal) = to_end.Client 0

-- a connection of the outline
abbrev pub connection_of : Entry → Connection
connection_of e = record {
  name = e.name;
  kind = e.kind;
  from = from_of e.from;
  to = to_of e.to;
  pace = map natural e.pace;
  fcs = e.fcs;
  trace = e.trace;
  start = natural e.start;
  stop = natural e.stop;
  retire = e.retire;
}

-- the plan of an outline
abbrev pub plan_of : Outline → Plan
plan_of o = record {
  turns = natural o.top.turns;
  connections = map connection_of o.entries;
  otu3_in = map natural o.top.otu3_in;
  otu3_out = map natural o.top.otu3_out;
  scrambled_in = map natural o.top.scrambled_in;
  scrambled_out = map natural o.top.scrambled_out;
}
