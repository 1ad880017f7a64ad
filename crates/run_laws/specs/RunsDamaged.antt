-- Believed: what a run leaves on a connection whose line was damaged.
use Rattle.std.specs.Prelude.{◌≡◌, ℕ, ◌+◌, ◌-◌, ◌<◌, ◌≤◌, List, ◌++◌, length, take, slice_range}
use Rattle.std.specs.List.{Contains}
use Rattle.otn_base.specs.LineSlots.{LineSlots}
use Rattle.odu_client.specs.ClientOutput.{arriving_text}
use Rattle.plan_file.specs.declared.connection.Connection.{Connection}
use Rattle.plan_file.specs.declared.connection.FromEnd.TheVariants as from_end
use Rattle.plan_file.specs.declared.connection.ToEnd.TheVariants as to_end
use Rattle.tributary_model.specs.Carries.{sent, Carries}
use Rattle.tributary_model.specs.Places.{tributary_of}
use Rattle.tributary_model.specs.Puts.{lengths_of}
use Rattle.device_model.specs.Entries.{first_turn}
use Rattle.connection_laws.specs.Healing.{IsCarriedAgain}
use Rattle.connection_laws.specs.HeldBack.{emitted_after}
use Rattle.device_model.specs.LineViews.{view_at}
use Rattle.device_model.specs.Numbers.{OutputBytes}
use Rattle.connection_laws.specs.OneDamaged.{AgreeButForOne}
use Rattle.device_model.specs.Through.{own_input, got_in, got_by, arrived_by}
use Rattle.run_laws.specs.RunsAlike.{World, IsWorld, LeftAlike, bytes_out, state_of_line, state_of_client}
use Rattle.run_laws.specs.RunsThrough.{LivedIn, read_of}

-- ---- healing

-- The output line of a connection carries all that the connection got up to turn u + 1, in as many bytes a turn as it
-- got.
abbrev pub CarriesAllGot : World → OutputBytes → Connection → (b port : ℕ) → LineSlots → (u : ℕ) → Type 0
CarriesAllGot world written x b port slots u =
    let input = own_input world.inputs x in
    let n = u + 1 - first_turn x in
    Carries (tributary_of slots port) (arrived_by x input n) (lengths_of (got_by x input n))
    (view_at (tributary_of slots port) (read_of world written b)) (first_turn x) (first_turn x) u

-- A connection of a run comes from a line that carries a client's bytes to it in steady numbers from turn b + 1 to turn
-- u + 1, whatever came before, and says its number anew in turn h + 1. From the third turn after it on its sink emits
-- exactly what is carried, and its to end gets that a turn later: in turn t + 2 it gets the bytes that the sender took
-- in turn t - 1. Where its output lived, a line to which it goes carries what it got in all its turns, these bytes
-- among it, and a client gets what the bytes that had arrived by turn h + 4 and then these, up to those that the sender
-- took three turns before the connection's last turn, deliver.
pub record HealsIn (world : World) (written : OutputBytes) (x : Connection) (bytes p : List ℕ) (s u h : ℕ)
    : Type 0 where
  pub turn : (t : ℕ) → h + 3 ≤ t → t ≤ u
      → got_in x (own_input world.inputs x) (t + 1 - first_turn x)
      ≡ slice_range bytes (sent p (t - s - 2)) (sent p (t - s - 1))
  pub line : (b port w : ℕ) (others : LineSlots) → x.to ≡ to_end.Line b port others → LivedIn world (state_of_line b)
      → first_turn x ≤ w → w < x.stop
      → CarriesAllGot world written x b port others w
  pub client : (n : ℕ) → x.to ≡ to_end.Client n → LivedIn world (state_of_client n) → h + 4 ≤ x.stop → x.stop ≤ u + 2
      → written.client n ≡ arriving_text (arrived_by x (own_input world.inputs x) (h + 4 - first_turn x)
      ++ slice_range bytes (sent p (h + 1 - s)) (sent p (x.stop - s - 3)))

-- So does each connection of a plan that was run.
abbrev pub RunsHeal : Type 0
RunsHeal = (world : World) (x : Connection) (a from s b u h : ℕ) (slots : LineSlots) (bytes p : List ℕ)
    (is : IsWorld world) → Contains world.plan.connections x
    → x.from ≡ from_end.Line a from slots → IsCarriedAgain (world.inputs.line a) x from slots bytes p s b u h
    → HealsIn world (bytes_out world is) x bytes p s u h

-- ---- behind a gap

-- A run reads as its line c the file that another wrote to line b, with the mask that it was written with. A connection
-- of it comes from the slots, and by the port, to which one of the other goes, from the same turn on and to a stop that
-- is no later. How the line is damaged from which that comes is free.
pub record Follows (one other : World) (written : OutputBytes) (x y : Connection) (b c : ℕ)
    (slots next : LineSlots) : Type 0 where
  pub first : Contains one.plan.connections x
  pub second : Contains other.plan.connections y
  pub line : ℕ
  pub from : ℕ
  pub port : ℕ
  pub comes : x.from ≡ from_end.Line line from slots
  pub goes : x.to ≡ to_end.Line b port next
  pub reads : y.from ≡ from_end.Line c port next
  pub start : y.start ≡ x.start
  pub stop : y.stop ≤ x.stop
  pub lived : LivedIn one (state_of_line b)
  pub file : other.inputs.line c ≡ read_of one written b

-- of what the first connection got up to the last turn of the second, the bytes that the sink of the second has emitted
-- after n turns
abbrev pub front_got : (one : World) → (x y : Connection) → (m n : ℕ) → List ℕ
front_got one x y m n =
    let input = own_input one.inputs x in
    let k = y.stop - first_turn x in
    take (emitted_after m (lengths_of (got_by x input k)) n) (arrived_by x input k)

-- What the second connection has then is a front of what the first got: none of it is lost, doubled or out of order. A
-- client of the second gets what this delivers.
pub record HandsOnAFront (one other : World) (written : OutputBytes) (x y : Connection) (m : ℕ) : Type 0 where
  pub arrived : (n : ℕ) → first_turn x + n ≤ y.stop → arrived_by y (own_input other.inputs y) (n + 1)
      ≡ front_got one x y m n
  pub client : (k : ℕ) → y.to ≡ to_end.Client k → LivedIn other (state_of_client k)
      → written.client k ≡ arriving_text (front_got one x y m (y.stop - y.start))

-- So it is of any two runs in a row.
abbrev pub RunsHandOnAFront : Type 0
RunsHandOnAFront = (one other : World) (x y : Connection) (b c : ℕ) (slots next : LineSlots) (first : IsWorld one)
    (second : IsWorld other)
    → Follows one other (bytes_out one first) x y b c slots next
    → HandsOnAFront one other (bytes_out other second) x y (length next.list)

-- ---- one damaged message

-- Both plans have the connection, and the line that it comes from shows it the same in its turns in both, but for one
-- message: in one run it is damaged, in the other it gives the pair of the turn before. In neither are three in a row
-- damaged.
pub record ShareButForOne (one other : World) (x : Connection) : Type 0 where
  pub first : Contains one.plan.connections x
  pub second : Contains other.plan.connections x
  pub agree : AgreeButForOne one.inputs other.inputs x

-- Then what left on it is the same in both, as far as both have gone.
abbrev pub RunsAgreeButForOne : Type 0
RunsAgreeButForOne = (one other : World) (x : Connection) (first : IsWorld one) (second : IsWorld other)
    → ShareButForOne one other x
    → LeftAlike one other (bytes_out one first) (bytes_out other second) x
