-- API: several nodes in a row: each reads the line file that the one before it made.
use Rattle.std.specs.Prelude.{◌≡◌, ℕ, suc, ◌-◌, ◌≤◌, List, [], ◌∷◌, Option, length}
use Rattle.std.specs.List.{concat}
use Rattle.otn_base.specs.LineSlots.{LineSlots}
use Rattle.line_side.specs.LineForm.{through_mask}
use Rattle.plan_file.specs.declared.connection.Connection.{Connection}
use Rattle.plan_file.specs.declared.connection.FromEnd.TheVariants as from_end
use Rattle.plan_file.specs.declared.plan.Plan.{Plan}
use Rattle.tributary_model.specs.Carriage.{Arrives}
use Rattle.tributary_model.specs.Passing.{later}
use Rattle.tributary_model.specs.Places.{Tributary, View, tributary_of}
use Rattle.connection_laws.specs.Carried.{GoesTo, IsMadeTo}
use Rattle.device_model.specs.Entries.{first_turn, form_in, form_out}
use Rattle.device_model.specs.LineViews.{view_at}
use Rattle.device_model.specs.Through.{Inputs}

-- A connection in a run of a node: the run's plan and inputs, the line, port and slots that it comes from and those
-- that it goes to, and the frames of the file of the line that it goes to.
pub record Hop : Type 0 where
  pub plan : Plan
  pub inputs : Inputs
  pub x : Connection
  pub line_in : ℕ
  pub port_in : ℕ
  pub slots_in : LineSlots
  pub line_out : ℕ
  pub port_out : ℕ
  pub slots_out : LineSlots
  pub frames : List (List ℕ)

-- the tributary of its input line
abbrev pub own_in : Hop → Tributary
own_in hop = tributary_of hop.slots_in hop.port_in

-- the tributary of the line that it goes to
abbrev pub own_out : Hop → Tributary
own_out hop = tributary_of hop.slots_out hop.port_out

-- what the turns of its input line show of it
abbrev pub views_in : Hop → (t : ℕ) → Option View
views_in hop = view_at (own_in hop) (hop.inputs.line hop.line_in)

-- what the turns of the file that was made show of it
abbrev pub views_out : Hop → (t : ℕ) → Option View
views_out hop = view_at (own_out hop) (concat hop.frames)

-- the last of its turns, among those of the plan, from 0
abbrev pub last_turn : Connection → ℕ
last_turn x = x.stop - 1

-- It is so in the plan, with as many slots on both lines, and the file has all of its turns.
pub record IsHop (hop : Hop) : Type 0 where
  pub from : hop.x.from ≡ from_end.Line hop.line_in hop.port_in hop.slots_in
  pub to : GoesTo hop.plan hop.x hop.line_out hop.port_out hop.slots_out
  pub same : length hop.slots_out.list ≡ length hop.slots_in.list
  pub made : IsMadeTo hop.plan hop.inputs hop.x hop.line_out (last_turn hop.x) hop.frames

-- The next reads this one's file as a line of the same kind and mask, on the slots and the port that were written, in
-- the same turns, though it may stop before.
pub record ReadsOn (hop next : Hop) : Type 0 where
  pub form : form_in next.plan next.line_in ≡ form_out hop.plan hop.line_out
  pub file : next.inputs.line next.line_in
      ≡ through_mask (form_in next.plan next.line_in).scrambled
      (through_mask (form_out hop.plan hop.line_out).scrambled (concat hop.frames))
  pub slots : next.slots_in ≡ hop.slots_out
  pub port : next.port_in ≡ hop.port_out
  pub start : next.x.start ≡ hop.x.start
  pub stop : next.x.stop ≤ hop.x.stop

-- each of these is a hop, and reads on what the one before it made
abbrev pub AreInARow : Hop → List Hop → Type 0
AreInARow hop [] = IsHop hop
AreInARow hop (next ∷ hops) = IsHop hop × ReadsOn hop next × AreInARow next hops

-- the last of hops in a row
abbrev pub last_hop : Hop → List Hop → Hop
last_hop hop [] = hop
last_hop hop (next ∷ hops) = last_hop next hops

-- Where the first one's input carries bytes in all of its turns, the last one's file carries the same bytes in all of
-- its own, by the same numbers three turns later for each node.
abbrev pub CarriesThroughAll : Type 0
CarriesThroughAll = (hop : Hop) (hops : List Hop) (bytes p : List ℕ) → AreInARow hop hops
    → Arrives (own_in hop) bytes p (views_in hop) (first_turn hop.x) (first_turn hop.x) (first_turn hop.x)
    (last_turn hop.x)
    → let last = last_hop hop hops in
    Arrives (own_out last) bytes (later (suc (length hops)) p) (views_out last) (first_turn last.x) (first_turn last.x)
    (first_turn last.x) (last_turn last.x)
