-- Believed: a customer's way through nodes: the runs of the nodes, the entries of their plans that it goes by, and the
-- fibres between them. Nothing is asked of a network beside the way.
use Rattle.std.specs.Prelude.{◌≡◌, ◌≤◌, ◌*◌, min, ℕ, List, [], ◌∷◌, ◌++◌, length, map}
use Rattle.std.specs.List.{Contains}
use Rattle.otn_base.specs.LineSlots.{LineSlots, slots_of}
use Rattle.otn_base.specs.declared.limits.TheConstants.{LINE_FRAME_BYTES}
use Rattle.port_base.specs.Given.{HadToGive}
use Rattle.port_base.specs.Views.{line_in_at}
use Rattle.plan_file.specs.declared.connection.Connection.{Connection}
use Rattle.plan_file.specs.declared.connection.FromEnd.TheVariants as from_end
use Rattle.plan_file.specs.declared.connection.ToEnd.TheVariants as to_end
use Rattle.device_model.specs.Entries.{form_in, form_out}
use Rattle.run_laws.specs.SeenRuns.{Run, IsRun, LineGot, LineLived}

-- ---- fibres

-- A fibre leads from line output b of one run to line input c of another. Its ends are of one kind, and both scrambled
-- or neither. What the input had to give is what went to the output, or a part of that from the front, where the fibre
-- was cut or the input's place died. Both ports tell their bytes. How these came from one to the other, and when, is
-- free.
pub record Fibre (here there : Run) (b c : ℕ) : Type 0 where
  pub form : form_in there.plan c ≡ form_out here.plan b
  pub written : List ℕ
  pub went : LineGot here b written
  pub brought : List ℕ
  pub came : HadToGive (line_in_at there.before c) (line_in_at there.after c) brought
  pub cut : List ℕ
  pub parts : brought ++ cut ≡ written

-- It is whole: its output's place has lived, and all that went there came.
pub record IsWhole (here : Run) (b : ℕ) (cut : List ℕ) : Type 0 where
  pub lived : LineLived here b
  pub all : cut ≡ []

-- These bytes of a line with so many slots have all frames of the first turns, so many.
abbrev pub HaveTurns : (size turns : ℕ) → List ℕ → Type 0
HaveTurns size turns brought = LINE_FRAME_BYTES * (size * turns) ≤ length brought

-- ---- the way

-- a node on the way: its run, and the entry of its plan that the way goes by
pub record Hop : Type 0 where
  pub run : Run
  pub x : Connection

pub record IsHop (hop : Hop) : Type 0 where
  pub is : IsRun hop.run
  pub has : Contains hop.run.plan.connections hop.x

-- An entry goes on in another: it puts its tributary on line b, and the other takes it off line c, by the same
-- tributary port, on the same slots, and in no turn in which it is not put.
pub record GoesOn (x y : Connection) (b c port : ℕ) (slots : LineSlots) : Type 0 where
  pub puts : x.to ≡ to_end.Line b port slots
  pub takes : y.from ≡ from_end.Line c port slots
  pub start : x.start ≤ y.start
  pub stop : y.stop ≤ x.stop

-- so the way leads from one node to the next, over a fibre
pub record LeadsOn (here next : Hop) : Type 0 where
  pub b : ℕ
  pub c : ℕ
  pub port : ℕ
  pub slots : LineSlots
  pub goes : GoesOn here.x next.x b c port slots
  pub fibre : Fibre here.run next.run b c

-- a way from its first node by those that follow
abbrev pub IsWay : Hop → List Hop → Type 0
IsWay hop [] = IsHop hop
IsWay hop (next ∷ hops) = IsHop hop × LeadsOn hop next × IsWay next hops

-- its last node, and the entries that it goes by
abbrev pub last_hop : Hop → List Hop → Hop
last_hop hop [] = hop
last_hop hop (next ∷ hops) = last_hop next hops

abbrev pub entries : Hop → List Hop → List Connection
entries hop hops = map (λ h. h.x) (hop ∷ hops)

-- ---- what its fibres brought

-- each of its fibres is whole
abbrev pub IsWholeWay : (hop : Hop) (hops : List Hop) → IsWay hop hops → Type 0
IsWholeWay hop [] way = Unit {0}
IsWholeWay hop (next ∷ hops) way = IsWhole hop.run way.1.b way.1.fibre.cut × IsWholeWay next hops way.2

-- Each of its fibres brought all frames of the first turns, so many, as far as the entry lasts that takes them.
abbrev pub BringsTurns : (turns : ℕ) (hop : Hop) (hops : List Hop) → IsWay hop hops → Type 0
BringsTurns turns hop [] way = Unit {0}
BringsTurns turns hop (next ∷ hops) way =
    HaveTurns (slots_of way.1.slots.kind) (min turns next.x.stop) way.1.fibre.brought
    × BringsTurns turns next hops way.2
