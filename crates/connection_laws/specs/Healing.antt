-- Believed: healing, of a connection from a line: what it gets once its line carries a client's bytes to it, whatever
-- came before.
use Rattle.std.specs.Prelude.{◌≡◌, ℕ, ◌+◌, ◌-◌, ◌≤◌, List, ◌++◌, length, slice_range}
use Rattle.std.specs.List.{concat}
use Rattle.otn_base.specs.LineSlots.{LineSlots, slots_of}
use Rattle.otn_base.specs.SlotList.{IsSlotList}
use Rattle.plan_file.specs.declared.connection.Connection.{Connection}
use Rattle.plan_file.specs.declared.connection.FromEnd.TheVariants as from_end
use Rattle.plan_file.specs.declared.plan.Plan.{Plan}
use Rattle.tributary_model.specs.Carriage.{Arrives, SaysAnew}
use Rattle.tributary_model.specs.Carries.{sent, Carries}
use Rattle.tributary_model.specs.Places.{tributary_of}
use Rattle.tributary_model.specs.Puts.{lengths_of}
use Rattle.connection_laws.specs.Carried.{GoesTo, IsMadeTo}
use Rattle.device_model.specs.Entries.{first_turn}
use Rattle.device_model.specs.LineViews.{view_at}
use Rattle.device_model.specs.Through.{Inputs, own_input, got_in, got_by, arrived_by}

-- In the turns b + 1 to u + 1 a line carries bytes to a connection, by the steady numbers of a sender that began with
-- turn s + 1, whatever its turns before show. Turn h + 1, one of these, says its number without a former one, while no
-- slot of the tributary is marked.
pub record IsCarriedAgain (line : List ℕ) (x : Connection) (port : ℕ) (slots : LineSlots) (bytes p : List ℕ)
    (s b u h : ℕ) : Type 0 where
  pub arrives : Arrives (tributary_of slots port) bytes p (view_at (tributary_of slots port) line) (first_turn x) s b u
  pub order : b ≤ h
  pub anew : SaysAnew (tributary_of slots port) (view_at (tributary_of slots port) line) (first_turn x) h

-- From the third turn after turn h + 1 on its sink emits, in turn t + 1, exactly the bytes that the sender took two
-- turns before. The to end gets them in the turn after it.
abbrev pub GetsWhatHealed : Type 0
GetsWhatHealed = (inputs : Inputs) (x : Connection) (a port s b u h t : ℕ) (slots : LineSlots) (bytes p : List ℕ)
    → x.from ≡ from_end.Line a port slots → IsCarriedAgain (inputs.line a) x port slots bytes p s b u h
    → h + 3 ≤ t → t ≤ u
    → got_in x (own_input inputs x) (t + 1 - first_turn x) ≡ slice_range bytes (sent p (t - s - 2)) (sent p (t - s - 1))

-- So all that it has by turn w + 2 is what it had by turn h + 4, and then these bytes, in order, without gap or
-- repetition: those that the sender took in the turns h + 2 to w - 1.
abbrev pub ArrivesHealed : Type 0
ArrivesHealed = (inputs : Inputs) (x : Connection) (a port s b u h w : ℕ) (slots : LineSlots) (bytes p : List ℕ)
    → x.from ≡ from_end.Line a port slots → IsCarriedAgain (inputs.line a) x port slots bytes p s b u h → h + 2 ≤ w
    → w ≤ u
    → arrived_by x (own_input inputs x) (w + 2 - first_turn x)
    ≡ arrived_by x (own_input inputs x) (h + 4 - first_turn x)
    ++ slice_range bytes (sent p (h + 1 - s)) (sent p (w - s - 1))

-- The file of a line to which it goes carries all that it gets, damaged or not, in as many bytes a turn as it gets.
abbrev pub CarriesWhatItGets : Type 0
CarriesWhatItGets = (plan : Plan) (inputs : Inputs) (x : Connection) (a from b port u : ℕ) (slots others : LineSlots)
    (frames : List (List ℕ))
    → x.from ≡ from_end.Line a from slots → IsSlotList (slots_of slots.kind) slots.list
    → GoesTo plan x b port others → length others.list ≡ length slots.list → IsMadeTo plan inputs x b u frames
    → first_turn x ≤ u
    → Carries (tributary_of others port) (arrived_by x (own_input inputs x) (u + 1 - first_turn x))
    (lengths_of (got_by x (own_input inputs x) (u + 1 - first_turn x)))
    (view_at (tributary_of others port) (concat frames)) (first_turn x) (first_turn x) u
