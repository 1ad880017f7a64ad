-- Believed: the headline of damaged lines, of each connection of a plan that `run` carried.
use Rattle.std.specs.Prelude.{◌≡◌, ℕ, List, length}
use Rattle.std.specs.List.{Contains}
use Rattle.otn_base.specs.LineSlots.{LineSlots}
use Rattle.plan_file.specs.declared.connection.Connection.{Connection}
use Rattle.plan_file.specs.declared.connection.FromEnd.TheVariants as from_end
use Rattle.connection_laws.specs.Healing.{IsCarriedAgain}
use Rattle.run_laws.specs.RunsAlike.{LeftAlike}
use Rattle.run_laws.specs.RunsDamaged.{HealsIn, Follows, HandsOnAFront, ShareButForOne}
use Rattle.run_command.specs.RunCalls.{Call, HasCarried, world_of, bytes_of_call}

-- Healed: once its line carries a client's bytes to it in steady numbers, whatever came before, and a turn says its
-- number anew while no slot is marked, from the fourth turn after it on its to end gets exactly these bytes, as far as
-- its output lived.
abbrev pub IsHealed : Type 0
IsHealed = (call : Call) (x : Connection) (a from s b u h : ℕ) (slots : LineSlots) (bytes p : List ℕ)
    (has : HasCarried call) → Contains call.plan.connections x
    → x.from ≡ from_end.Line a from slots → IsCarriedAgain (call.inputs.line a) x from slots bytes p s b u h
    → HealsIn (world_of call has) (bytes_of_call call has) x bytes p s u h

-- Repeated: of two calls whose plans share an entry, and whose line shows it the same but for one damaged message,
-- which in the other call says the pair before it again, the same leaves on it, where in neither three in a row are
-- damaged.
abbrev pub IsAsRepeated : Type 0
IsAsRepeated = (one other : Call) (x : Connection) (first : HasCarried one) (second : HasCarried other)
    → ShareButForOne (world_of one first) (world_of other second) x
    → LeftAlike (world_of one first) (world_of other second) (bytes_of_call one first) (bytes_of_call other second) x

-- Handed on: of two calls, of which the second reads the file that the first wrote, what the second gets of a
-- connection of the first, on the slots that were written, is a front of what that one got, however the line was
-- damaged from which that came: none of it is lost, doubled or out of order.
abbrev pub IsHandedOn : Type 0
IsHandedOn = (one other : Call) (x y : Connection) (b c : ℕ) (slots next : LineSlots) (first : HasCarried one)
    (second : HasCarried other)
    → Follows (world_of one first) (world_of other second) (bytes_of_call one first) x y b c slots next
    → HandsOnAFront (world_of one first) (world_of other second) (bytes_of_call other second) x y (length next.list)
