-- Believed: one damaged message, on the line that a connection comes from.
use Rattle.std.specs.Prelude.{◌≡◌, ℕ, ◌+◌, ◌-◌, ◌<◌, ◌≤◌, Bool, List, Option, Some, length}
use Rattle.otn_base.specs.LineSlots.{LineSlots}
use Rattle.plan_file.specs.declared.connection.Connection.{Connection}
use Rattle.plan_file.specs.declared.connection.FromEnd.TheVariants as from_end
use Rattle.tributary_model.specs.declared.turns.Hearing.TheVariants.{Damaged, Pair}
use Rattle.tributary_model.specs.Carries.{past_of}
use Rattle.tributary_model.specs.Damage.{pair_had, NeverThree}
use Rattle.tributary_model.specs.Messages.{hears_message}
use Rattle.tributary_model.specs.Places.{Tributary, tributary_of, View}
use Rattle.tributary_model.specs.Stretches.{course}
use Rattle.device_model.specs.Entries.{first_turn}
use Rattle.device_model.specs.LineViews.{view_at}
use Rattle.device_model.specs.Through.{Inputs, OwnInput, own_input, emits, got_by, arrived_by, text_by, state_in}

-- In the turns from start + 1 to stop two lines show the same of a tributary, but for the message of turn i + 1, before
-- which its sink is Up: on the first line this is damaged, on the other it gives the pair of the turn before. On
-- neither are three messages in a row damaged.
pub record DifferInOneMessage (own : Tributary) (one other : ℕ → Option View) (start stop i : ℕ) : Type 0 where
  pub turn : (start ≤ i) × (i < stop)
  pub views : (t : ℕ) → start ≤ t → t < stop → (t ≡ i → ⊥) → one t ≡ other t
  pub view : View
  pub said : List ℕ
  pub here : one i ≡ Some view
  pub there : other i ≡ Some (record view { message = said })
  pub cm : ℕ
  pub cnd : ℕ
  pub equal : Bool
  pub had : pair_had (course own (past_of one start (i - start))) ≡ Some (cm, cnd)
  pub damaged : hears_message (Some cm) (length own.slots) view.message ≡ Damaged
  pub repeats : hears_message (Some cm) (length own.slots) said ≡ Pair cm cnd equal
  pub one_calm : NeverThree own (past_of one start (stop - start))
  pub other_calm : NeverThree own (past_of other start (stop - start))

-- Two sets of inputs, whose line that the connection comes from shows this in its turns. All else of them is free.
pub record AgreeButForOne (one other : Inputs) (x : Connection) : Type 0 where
  pub line : ℕ
  pub port : ℕ
  pub slots : LineSlots
  pub comes : x.from ≡ from_end.Line line port slots
  pub turn : ℕ
  pub differ : DifferInOneMessage (tributary_of slots port) (view_at (tributary_of slots port) (one.line line))
      (view_at (tributary_of slots port) (other.line line)) (first_turn x) x.stop turn

-- In each of its own turns the same leaves on the connection: what its from end emits, what its to end gets, of that
-- the bytes and the text that arrive at a client, and what the from end is.
pub record LeavesAlikeInItsTurns (x : Connection) (one other : OwnInput) : Type 0 where
  pub emitted : (j : ℕ) → first_turn x + j < x.stop → emits x one j ≡ emits x other j
  pub got : (n : ℕ) → first_turn x + n ≤ x.stop → got_by x one n ≡ got_by x other n
  pub arrived : (n : ℕ) → first_turn x + n ≤ x.stop → arrived_by x one n ≡ arrived_by x other n
  pub text : (n : ℕ) → first_turn x + n ≤ x.stop → text_by x one n ≡ text_by x other n
  pub state : (n : ℕ) → first_turn x + n ≤ x.stop → state_in x one n ≡ state_in x other n

-- So the damaged message changes nothing of what leaves.
abbrev pub LeavesAsIfRepeated : Type 0
LeavesAsIfRepeated = (one other : Inputs) (x : Connection) → AgreeButForOne one other x
    → LeavesAlikeInItsTurns x (own_input one x) (own_input other x)
