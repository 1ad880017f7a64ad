-- Believed: behind a gap: a client's bytes that are carried in numbers which are not steady, as those of a sender
-- behind a sink that began a stretch anew. No byte of them is lost, doubled or out of order; less than a group of them
-- may be held back.
use Rattle.std.specs.Prelude.{◌≡◌, ℕ, ◌+◌, ◌-◌, ◌*◌, ◌/◌, ◌<◌, ◌≤◌, min, List, Option, length, take, get_or}
use Rattle.std.specs.List.{concat}
use Rattle.otn_base.specs.LineSlots.{LineSlots, slots_of}
use Rattle.otn_base.specs.SlotList.{IsSlotList}
use Rattle.plan_file.specs.declared.connection.Connection.{Connection}
use Rattle.plan_file.specs.declared.connection.FromEnd.TheVariants as from_end
use Rattle.plan_file.specs.declared.plan.Plan.{Plan}
use Rattle.tributary_model.specs.Carriage.{IsUpAfter}
use Rattle.tributary_model.specs.Carries.{sent, Carries, past_of}
use Rattle.tributary_model.specs.Damage.{emissions}
use Rattle.tributary_model.specs.Passing.{joined_back}
use Rattle.tributary_model.specs.Places.{Tributary, View, IsWholeTurn}
use Rattle.tributary_model.specs.Puts.{lengths_of}
use Rattle.connection_laws.specs.Carried.{GoesTo, IsMadeTo}
use Rattle.device_model.specs.Entries.{first_turn}
use Rattle.device_model.specs.Through.{Inputs, own_input, got_by, arrived_by}

-- ---- a sink

-- The views of a connection that began with turn s + 1 carry bytes up to turn u + 1, in numbers that need not be
-- steady.
pub record Comes (own : Tributary) (bytes p : List ℕ) (views : ℕ → Option View) (s u : ℕ) : Type 0 where
  pub slots : 0 < length own.slots
  pub whole : (t : ℕ) → s ≤ t → t ≤ u → IsWholeTurn (length own.slots) (views t)
  pub carries : Carries own bytes p views s s u

-- how many bytes the sink of m slots has emitted after n turns: those that the sender took in all turns but the last
-- two, as far as they are in the whole groups of all turns but the last
abbrev pub emitted_after : (m : ℕ) → (p : List ℕ) → (n : ℕ) → ℕ
emitted_after m p n = min (sent p (n - 2)) (m * (sent p (n - 1) / m))

-- What it has emitted after n turns is a front of the bytes, so long: without gap or repetition, in order.
abbrev pub EmitsAFront : Type 0
EmitsAFront = (own : Tributary) (ais : ℕ → ℕ) (bytes p : List ℕ) (views : ℕ → Option View) (s u n : ℕ)
    → Comes own bytes p views s u → s + n ≤ u + 1
    → joined_back (emissions own ais (past_of views s n)) ≡ take (emitted_after (length own.slots) p n) bytes

-- The sink is Up after each turn.
abbrev pub StaysUp : Type 0
StaysUp = (own : Tributary) (bytes p : List ℕ) (views : ℕ → Option View) (s u t : ℕ)
    → Comes own bytes p views s u → s ≤ t → t ≤ u → IsUpAfter own views s t

-- It is never ahead of a sink in steady numbers, and less than a group behind it.
pub record IsNearlyAll (m : ℕ) (p : List ℕ) (n : ℕ) : Type 0 where
  pub most : emitted_after m p n ≤ sent p (n - 2)
  pub least : sent p (n - 2) < emitted_after m p n + m

abbrev pub HoldsBackLessThanAGroup : Type 0
HoldsBackLessThanAGroup = (m : ℕ) (p : List ℕ) (n : ℕ) → 0 < m → IsNearlyAll m p n

-- And not behind it after a turn in which the bytes come that the sender took in a turn with at least m: what was held
-- back comes with these.
abbrev pub CatchesUp : Type 0
CatchesUp = (m : ℕ) (p : List ℕ) (n : ℕ) → 0 < m → n < length p
    → m ≤ get_or p n 0 → emitted_after m p (n + 2) ≡ sent p n

-- ---- a second node

-- A connection comes from the file of a line to which another node's connection goes, whatever that one gets and
-- however the line is damaged from which that comes, on the slots and by the port that were written, from the same turn
-- on. What it has after n turns and one more is a front of what the other got.
abbrev pub PassesASecondNode : Type 0
PassesASecondNode = (plan : Plan) (inputs others : Inputs) (x y : Connection) (a from b port c u n : ℕ)
    (slots next : LineSlots) (frames : List (List ℕ))
    → x.from ≡ from_end.Line a from slots → IsSlotList (slots_of slots.kind) slots.list
    → GoesTo plan x b port next → length next.list ≡ length slots.list → IsMadeTo plan inputs x b u frames
    → first_turn x ≤ u
    → y.from ≡ from_end.Line c port next → others.line c ≡ concat frames
    → first_turn y ≡ first_turn x → first_turn x + n ≤ u + 1
    → arrived_by y (own_input others y) (n + 1)
    ≡ take (emitted_after (length next.list) (lengths_of (got_by x (own_input inputs x) (u + 1 - first_turn x))) n)
    (arrived_by x (own_input inputs x) (u + 1 - first_turn x))
