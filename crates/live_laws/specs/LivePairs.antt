-- Believed: two live nodes. What was handed in alike leaves alike: on a connection that both carry, and of a node as a
-- whole a turn earlier than it is handed in.
use Rattle.std.specs.Prelude.{◌≡◌, ◌≤◌, ◌<◌, ◌+◌, ◌*◌, ℕ, true, List, Some, ⊤}
use Rattle.std.specs.List.{Contains}
use Rattle.otn_base.specs.LineSlots.{LineSlots, slots_of}
use Rattle.otn_base.specs.declared.kind.PortName.TheVariants as port
use Rattle.port_base.specs.Views.{Live, OutView, BaysView, line_out_at, client_out_at}
use Rattle.plan_file.specs.declared.connection.Connection.{Connection}
use Rattle.plan_file.specs.declared.connection.ToEnd.TheVariants as to_end
use Rattle.plan_file.specs.declared.plan.Plan.{Plan}
use Rattle.device_model.specs.Entries.{own_turn, form_out}
use Rattle.device_model.specs.Moments.{uses, turns_done}
use Rattle.device_model.specs.Through.{Inputs}
use Rattle.connection_laws.specs.TwoWorlds.{AgreeOnEnd, HaveSameByte}
use Rattle.connection_laws.specs.UpToTurn.{AgreeUpTo}
use Rattle.run_laws.specs.RunsAlike.{HasPlace}
use Rattle.node_moments.specs.NodeView.{NodeView}
use Rattle.node_moments.specs.Stands.{InputBytes}
use Rattle.live_laws.specs.Live.{AreServed, LiveStands}
use Rattle.live_laws.specs.LiveTurns.{inputs_of, turns_out}

-- ---- live nodes

-- a live node at a moment: what was handed in by now, the node, and its places
pub record LiveMoment : Type 0 where
  pub handed : InputBytes
  pub node : NodeView
  pub now : BaysView

-- it carries the plan, and stands between two turns: its outputs are served
pub record IsLive (plan : Plan) (live : LiveMoment) : Type 0 where
  pub stands : LiveStands plan live.handed live.node live.now
  pub served : AreServed live.node

-- how many turns have left of it
abbrev pub turns_of : LiveMoment → ℕ
turns_of live = turns_out live.node

-- a live place of an output got these bytes by now
pub record HasGot (place : OutView) (bytes : List ℕ) : Type 0 where
  pub alive : place.state ≡ Live
  pub got : place.got ≡ Some bytes

abbrev pub LineGot : LiveMoment → (b : ℕ) → List ℕ → Type 0
LineGot live b bytes = HasGot (line_out_at live.now b) bytes

abbrev pub ClientGot : LiveMoment → (n : ℕ) → List ℕ → Type 0
ClientGot live n bytes = HasGot (client_out_at live.now n) bytes

-- ---- a connection of both

-- What has left on a connection is the same of both, whose plans may differ: to its client the same text, where as many
-- of its own turns have left; on its line the same byte at each own place of each turn that has left of both, where
-- both lines are scrambled, or neither is. It is so of the own turns, from 0, of which `Turn` says it.
pub record LeaveAlike (Turn : (own : ℕ) → Type 0) (plan other_plan : Plan) (one other : LiveMoment)
    (x : Connection) : Type 0 where
  pub client : (n own : ℕ) (text others : List ℕ) → x.to ≡ to_end.Client n → x.start ≤ one.node.past + 1
      → x.start ≤ other.node.past + 1
      → turns_done x (turns_of one) 0 ≡ own + 1 → turns_done x (turns_of other) 0 ≡ own + 1 → Turn own
      → ClientGot one n text → ClientGot other n others → text ≡ others
  pub line : (b port past n row column : ℕ) (slots : LineSlots) (bytes others : List ℕ)
      → HasPlace x b port past n row column slots
      → (form_out plan b).scrambled ≡ (form_out other_plan b).scrambled → past < turns_of one → past < turns_of other
      → Turn (own_turn x past) → LineGot one b bytes → LineGot other b others
      → HaveSameByte bytes others (slots_of slots.kind * past + n) row column

-- Two live nodes were handed the same of a connection: of a line as many whole frames, with the same MFAS bytes, and
-- the same bytes at its own places; of a client the same packets, which end in the same way. Then the same has left on
-- it. All other connections, bytes and turns are free.
abbrev pub LivesAreIsolated : Type 0
LivesAreIsolated = (plan other_plan : Plan) (one other : LiveMoment) (x : Connection) → IsLive plan one
    → IsLive other_plan other
    → Contains plan.connections x → Contains other_plan.connections x
    → AgreeOnEnd x.from (inputs_of plan one.handed) (inputs_of other_plan other.handed)
    → LeaveAlike (λ own. ⊤) plan other_plan one other x

-- They were handed the same of it in its first own turns, so many. Then the same has left on it in these, and in one
-- turn more, whatever was handed in later.
abbrev pub LivesLookNotAhead : Type 0
LivesLookNotAhead = (plan other_plan : Plan) (one other : LiveMoment) (x : Connection) (turns : ℕ) → IsLive plan one
    → IsLive other_plan other
    → Contains plan.connections x → Contains other_plan.connections x
    → AgreeUpTo x.from x turns (inputs_of plan one.handed) (inputs_of other_plan other.handed)
    → LeaveAlike (λ own. own ≤ turns) plan other_plan one other x

-- ---- a whole node

-- Two sets of inputs agree in the first turns of a plan, so many: for each connection, in those that are its own.
abbrev pub AgreeSoFar : Plan → (turns : ℕ) → (one other : Inputs) → Type 0
AgreeSoFar plan turns one other = (x : Connection) → Contains plan.connections x
    → AgreeUpTo x.from x (turns_done x turns 0) one other

-- all that has left is the same of both: each line's file, and each client's text
pub record LeaveTheSame (plan : Plan) (one other : LiveMoment) : Type 0 where
  pub line : (b : ℕ) (bytes others : List ℕ) → uses plan (port.LineOut b) ≡ true → LineGot one b bytes
      → LineGot other b others → bytes ≡ others
  pub client : (x : Connection) (n : ℕ) (text others : List ℕ) → Contains plan.connections x → x.to ≡ to_end.Client n
      → x.start ≤ one.node.past + 1
      → ClientGot one n text → ClientGot other n others → text ≡ others

-- Two live nodes of a plan have done as many turns, and were handed the same in these. Then all that has left is the
-- same, up to the turn after them: what leaves in a turn needs nothing that is handed in for it. So nodes may stand in
-- a ring.
abbrev pub RingsClose : Type 0
RingsClose = (plan : Plan) (one other : LiveMoment) → IsLive plan one → IsLive plan other
    → one.node.past ≡ other.node.past
    → AgreeSoFar plan one.node.past (inputs_of plan one.handed) (inputs_of plan other.handed)
    → LeaveTheSame plan one other
