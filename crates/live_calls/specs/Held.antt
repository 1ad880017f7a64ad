-- API: what the calls of a live node do, by the numbers of its inputs and outputs.
use Rattle.std.specs.Prelude.{◌≡◌, ◌≤◌, ◌<◌, ◌+◌, ◌-◌, ℕ, if◌then◌else◌, nat_lt, List, Ok, Option, None, Some}
use Rattle.port_base.specs.Views.{BaysView}
use Rattle.plan_file.specs.Answer.{plan_of_text}
use Rattle.plan_file.specs.declared.plan.Plan.{Plan}
use Rattle.device_model.specs.Report.{Numbers, report_text}
use Rattle.device_model.specs.RunNumbers.{numbers_of_run}
use Rattle.device_model.specs.declared.numbers.RunNumbers.{RunNumbers}
use Rattle.node_moments.specs.Stands.{InputBytes, no_bytes}
use Rattle.live_laws.specs.Live.{with_line, with_client, AreServed, LiveStands}
use Rattle.live_laws.specs.LiveTurns.{inputs_of, HaveLeft}
use Rattle.live_node.specs.Kept.{HandsOutSince, KeepsAll, KeepsOutputs}
use Rattle.live_node.specs.Live.{GoesOn, HasLeft, IsStill, PutsOut, TellsNow}
use Rattle.live_node.specs.Places.{places, line_kept, client_kept}
use Rattle.live_calls.specs.declared.held.HeldNode.{HeldNode}

-- ---- inputs and outputs by number: lines 0 to 3, and then clients 0 to 15

-- further bytes were handed in at this input, behind all others of it
abbrev pub with_input : (input : ℕ) → List ℕ → InputBytes → InputBytes
with_input input bytes handed =
    if nat_lt input 4 then with_line input bytes handed else with_client (input - 4) bytes handed

-- what leaves at this output in the next turn
abbrev pub output_kept : HeldNode → (output : ℕ) → List ℕ
output_kept held output =
    if nat_lt output 4 then line_kept held.live.bays output else client_kept held.live.bays (output - 4)

-- ---- where a node stands

-- its places, as they are seen
abbrev pub places_of : HeldNode → BaysView
places_of held = places held.live.bays

-- it is a node of this plan, to which so much was handed in
abbrev pub StandsHeld : Plan → (handed : InputBytes) → HeldNode → Type 0
StandsHeld plan handed held = LiveStands plan handed held.live.node (places_of held)

-- A node of the plan of the text, before its first turn: nothing was handed in, and what leaves in turn 1 is there.
pub record OpenedPlan (plan : Plan) (held : HeldNode) : Type 0 where
  pub keeps : held.live.plan ≡ plan
  pub stands : StandsHeld plan no_bytes held
  pub turns : held.live.node.turns ≡ plan.turns
  pub past : held.live.node.past ≡ 0
  pub left : HaveLeft plan (inputs_of plan no_bytes) held.live.node (places_of held)
  pub handed : KeepsAll held.live.bays
  pub ended : held.ended ≡ None

pub record Opened (text : List ℕ) (held : HeldNode) : Type 0 where
  pub plan : Plan
  pub is_plan : plan_of_text text ≡ Ok plan
  pub opened : OpenedPlan plan held

-- ---- what a call does

-- nothing has changed: not where it stands, nor what leaves in the next turn
pub record IsUntouched (old new : HeldNode) : Type 0 where
  pub still : IsStill old.live.node new.live.node (places_of old) (places_of new)
  pub kept : KeepsOutputs old.live.bays new.live.bays
  pub plan : new.live.plan ≡ old.live.plan
  pub ended : new.ended ≡ old.ended

-- These bytes were handed in at an input, and nothing else: of whatever plan it is, and whatever was handed in before,
-- it stands as a node to which they were handed in too. What has left is due of the longer bytes; what leaves in the
-- next turn is as it was.
pub record Takes (input : ℕ) (bytes : List ℕ) (old new : HeldNode) : Type 0 where
  pub stands : (plan : Plan) (handed : InputBytes) → StandsHeld plan handed old
      → StandsHeld plan (with_input input bytes handed) new
  pub left : (plan : Plan) (handed : InputBytes) → StandsHeld plan handed old
      → HaveLeft plan (inputs_of plan (with_input input bytes handed)) new.live.node (places_of new)
  pub kept : KeepsOutputs old.live.bays new.live.bays
  pub plan : new.live.plan ≡ old.live.plan
  pub ended : new.ended ≡ old.ended

-- it went on: nothing was handed in, and what has left is due of what was handed in
pub record GoesFrom (old new : HeldNode) : Type 0 where
  pub stands : GoesOn old.live.node new.live.node (places_of old) (places_of new)
  pub left : PutsOut old.live.node new.live.node (places_of old) (places_of new)
  pub plan : new.live.plan ≡ old.live.plan
  pub ended : new.ended ≡ old.ended

-- it did a turn: all outputs of the next one are served, and what leaves in that is what they got since, each byte once
pub record TurnsOn (old new : HeldNode) : Type 0 where
  pub past : new.live.node.past ≡ old.live.node.past + 1
  pub served : AreServed new.live.node
  pub handed : HandsOutSince old.live.node (places_of old) new.live.bays

-- ---- its report

-- the run that is over was settled, or had been before
pub record Settles (old new : HeldNode) : Type 0 where
  pub first : (numbers : RunNumbers) → old.ended ≡ None → new.ended ≡ Some numbers
      → HasLeft old.live.node (places_of old) (places_of new) (numbers_of_run numbers)
  pub again : (numbers : RunNumbers) → old.ended ≡ Some numbers
      → (new.ended ≡ Some numbers) × (places_of new ≡ places_of old)
  pub node : new.live.node ≡ old.live.node
  pub plan : new.live.plan ≡ old.live.plan

-- the report of a run that is over: with the numbers that are kept of it
abbrev pub IsReportOf : HeldNode → (text : List ℕ) → Type 0
IsReportOf held text = (numbers : RunNumbers) × (held.ended ≡ Some numbers)
    × (text ≡ report_text held.live.plan (numbers_of_run numbers) (places_of held))

-- A report of the node's plan. While turns are to come its numbers are those of the moment, and nothing has changed.
-- After the last turn they are those of the run; the first time the run is settled.
pub record Reports (old new : HeldNode) (text : List ℕ) : Type 0 where
  pub going : old.live.node.past < old.live.node.turns → (numbers : Numbers) × TellsNow old.live.node numbers
      × (text ≡ report_text old.live.plan numbers (places_of old)) × (new ≡ old)
  pub over : old.live.node.turns ≤ old.live.node.past → Settles old new × IsReportOf new text
