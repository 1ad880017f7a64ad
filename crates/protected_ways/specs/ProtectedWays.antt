-- Believed: a customer's way over 1+1 protection: its tributary arrives by two ways on the two lines of `protect`, and
-- what that gives on goes on in an entry of a node.
use Rattle.std.specs.Prelude.{◌≡◌, ◌<◌, ◌≤◌, ℕ, List}
use Rattle.std.specs.List.{concat}
use Rattle.otn_base.specs.LineSlots.{LineSlots, slots_of}
use Rattle.port_base.specs.declared.ended.Ended.{Ended}
use Rattle.plan_file.specs.declared.connection.FromEnd.TheVariants as from_end
use Rattle.plan_file.specs.declared.connection.ToEnd.TheVariants as to_end
use Rattle.tributary_model.specs.Places.{tributary_of}
use Rattle.device_model.specs.Entries.{first_turn}
use Rattle.device_model.specs.Numbers.{OutputBytes}
use Rattle.connection_laws.specs.TwoWorlds.{AgreeOnEnd}
use Rattle.connection_laws.specs.UpToTurn.{AgreeInTurn}
use Rattle.run_laws.specs.RunsAlike.{LeftAlike}
use Rattle.run_laws.specs.RunsThrough.{read_of}
use Rattle.network_laws.specs.Ways.{HaveTurns}
use Rattle.damaged_ways.specs.DamagedWays.{Passage, IsDamagedWay, entries, last_is, last_passage, written_by}
use Rattle.protect_selector.specs.Protecting.{Ends}
use Rattle.protect_selector.specs.ProtectLeft.{AllDone}

-- ---- the way

-- a way up to a line of `protect`: its first node, and those that follow
pub record Branch : Type 0 where
  pub first : Passage
  pub rest : List Passage

-- A call of `protect`: the tributary, how many turns, and for how many it waits before it goes back to working; what is
-- seen of its places before and after, and its answer; what it took of its two lines, and what these may have been.
pub record ProtectCall : Type 0 where
  pub port : ℕ
  pub slots : LineSlots
  pub turns : ℕ
  pub wait : ℕ
  pub before : Ends
  pub after : Ends
  pub ended : Ended
  pub working_taken : List ℕ
  pub protection_taken : List ℕ
  pub working : List ℕ
  pub protection : List ℕ

-- The last entry of a branch puts the tributary on a line from turn 1 on, in all turns of the call; all frames of these
-- were written; and in each of them the call's line has its multiframe where it was written, with the same bytes at the
-- tributary's own places. All other bytes of the line may be others.
pub record ArrivesOn (here : Passage) (written : OutputBytes) (port : ℕ) (slots : LineSlots) (turns : ℕ)
    (line : List ℕ) : Type 0 where
  pub b : ℕ
  pub puts : here.x.to ≡ to_end.Line b port slots
  pub start : here.x.start ≡ 1
  pub stop : turns ≤ here.x.stop
  pub enough : HaveTurns (slots_of slots.kind) turns (written.line b)
  pub unharmed : (t : ℕ) → t < turns
      → AgreeInTurn (tributary_of slots port) (read_of here.world written b) line t

-- two branches, the call in which they join, and the way behind it
pub record ProtectedWay : Type 0 where
  pub working : Branch
  pub protection : Branch
  pub call : ProtectCall
  pub behind : Branch

-- A call whose report did not fail did all its turns. An entry takes the tributary off a line that shows it, in the
-- entry's turns, as it was due to the call's output.
pub record IsProtectedWay (it : ProtectedWay) : Type 0 where
  pub working : IsDamagedWay it.working.first it.working.rest
  pub protection : IsDamagedWay it.protection.first it.protection.rest
  pub on_working : ArrivesOn (last_passage it.working.first it.working.rest)
      (written_by (last_passage it.working.first it.working.rest) (last_is it.working.first it.working.rest working))
      it.call.port it.call.slots it.call.turns it.call.working
  pub on_protection : ArrivesOn (last_passage it.protection.first it.protection.rest)
      (written_by (last_passage it.protection.first it.protection.rest)
      (last_is it.protection.first it.protection.rest protection))
      it.call.port it.call.slots it.call.turns it.call.protection
  pub done : AllDone (tributary_of it.call.slots it.call.port) it.call.turns it.call.wait it.call.before it.call.after
      it.call.ended it.call.working_taken it.call.protection_taken it.call.working it.call.protection
  pub c : ℕ
  pub takes : it.behind.first.x.from ≡ from_end.Line c it.call.port it.call.slots
  pub shown : (t : ℕ) → first_turn it.behind.first.x ≤ t → t < it.behind.first.x.stop
      → AgreeInTurn (tributary_of it.call.slots it.call.port) (concat done.output.frames)
      (it.behind.first.world.inputs.line c) t
  pub behind : IsDamagedWay it.behind.first it.behind.rest

-- ---- isolation

-- two branches go by the same entries
abbrev pub SameBranch : (one other : Branch) → Type 0
SameBranch one other = entries one.first one.rest ≡ entries other.first other.rest

-- the inputs of their first nodes agree on what its entry comes from
abbrev pub AgreeAtFirst : (one other : Branch) → Type 0
AgreeAtFirst one other = AgreeOnEnd one.first.x.from one.first.world.inputs other.first.world.inputs

-- both protect the same tributary, in as many turns, and wait for as many
pub record SameProtection (one other : ProtectCall) : Type 0 where
  pub port : one.port ≡ other.port
  pub slots : one.slots ≡ other.slots
  pub turns : one.turns ≡ other.turns
  pub wait : one.wait ≡ other.wait

-- Two networks have such a way by the same entries, with the same protection, and the first nodes of both branches
-- agree on what their entries come from. Then what left at its end is the same in both, as far as both have gone; and
-- so are its numbers.
abbrev pub ProtectedWaysAreIsolated : Type 0
ProtectedWaysAreIsolated = (one other : ProtectedWay) (is : IsProtectedWay one) (is_too : IsProtectedWay other)
    → SameBranch one.working other.working → SameBranch one.protection other.protection
    → SameProtection one.call other.call → SameBranch one.behind other.behind
    → AgreeAtFirst one.working other.working → AgreeAtFirst one.protection other.protection
    → LeftAlike (last_passage one.behind.first one.behind.rest).world
    (last_passage other.behind.first other.behind.rest).world
    (written_by (last_passage one.behind.first one.behind.rest) (last_is one.behind.first one.behind.rest is.behind))
    (written_by (last_passage other.behind.first other.behind.rest)
    (last_is other.behind.first other.behind.rest is_too.behind)) (last_passage one.behind.first one.behind.rest).x
