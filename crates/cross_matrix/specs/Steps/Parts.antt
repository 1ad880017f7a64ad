-- Steps of the taking part: what private contracts alone cite, beside the definitions of `Parts`.
use Rattle.std.specs.Prelude.{◌≡◌, ◌+◌, ℕ, suc, Bool, false, List, [], ◌++◌, Option}
use Rattle.odu_client.specs.ClientInput.{ClientInput, input_emits, pace_of}
use Rattle.otn_base.specs.LineSlots.{LineSlots}
use Rattle.port_base.specs.Views.{InView}
use Rattle.plan_file.specs.declared.connection.Connection.{Connection}
use Rattle.plan_file.specs.declared.connection.FromEnd.{FromEnd}
use Rattle.plan_file.specs.declared.connection.FromEnd.TheVariants as from_end
use Rattle.trib_sink.specs.Sink.{ended_view}
use Rattle.tributary_model.specs.Places.{Taken, View, tributary_of}
use Rattle.device_model.specs.Entries.{first_turn}
use Rattle.device_model.specs.Through.{OwnInput, of_line, of_client}
use Rattle.cross_matrix.specs.declared.taking.TakingPart.{TakingPart}
use Rattle.cross_matrix.specs.Parts.{Progress, TakingStands, ClientInStands, MayShow, IsOver}

-- ---- wherever a taking part stands

-- the part stands there, and takes from this end
abbrev pub TakesAt : FromEnd → Progress → TakingPart → Type 0
TakesAt from at part = TakingStands from at.entry at.input at.turn at.frames at.ended part

-- what holds of a taking part wherever it stands
abbrev pub OfItsPart : TakingPart → ((from : FromEnd) → (at : Progress) → Type 0) → Type 0
OfItsPart part Holds = (from : FromEnd) (x : Connection) (input : OwnInput) (j : ℕ) (frames : List Taken) (ended : Bool)
    → TakingStands from x input j frames ended part
    → Holds from (record { entry = x; input = input; turn = j; frames = frames; ended = ended })

-- the same where its own part of the turn has not ended
abbrev pub OfOpenPart : TakingPart → ((from : FromEnd) → (at : Progress) → Type 0) → Type 0
OfOpenPart part Holds = (from : FromEnd) (x : Connection) (input : OwnInput) (j : ℕ) (frames : List Taken)
    → TakingStands from x input j frames false part
    → Holds from (record { entry = x; input = input; turn = j; frames = frames; ended = false })

-- the same of a line, whose turn ends so with the view that the input shows
abbrev pub OfLinePart : (whole : Bool) → TakingPart → ((from : FromEnd) → (at : Progress) → Type 0) → Type 0
OfLinePart whole part Holds = (x : Connection) (a port : ℕ) (slots : LineSlots) (shows : ℕ → Option View) (j : ℕ)
    (frames : List Taken) → TakingStands (from_end.Line a port slots) x (of_line shows) j frames false part
    → ended_view (tributary_of slots port) whole frames ≡ shows (first_turn x + j)
    → Holds (from_end.Line a port slots)
    (record { entry = x; input = of_line shows; turn = j; frames = frames; ended = false })

-- the same where the turn may end, in which a signal emits so many bytes
abbrev pub OfDonePart : (count : ℕ) → TakingPart → ((from : FromEnd) → (at : Progress) → Type 0) → Type 0
OfDonePart count part Holds = (from : FromEnd) (x : Connection) (input : OwnInput) (j : ℕ) (ended : Bool)
    → count ≡ pace_of x.pace j → IsOver from ended → TakingStands from x input j [] ended part
    → Holds from (record { entry = x; input = input; turn = j; frames = []; ended = ended })

-- ---- steps

-- A client was taken in own turn n: more bytes of its text, and what it may turn out to be from then on it might be
-- before. Whatever it is, these bytes are what it emits in the turn.
pub record TextTook (x : Connection) (first now : InView) (read : List ℕ) (n : ℕ) (old new : TakingPart)
    (bytes : List ℕ) : Type 0 where
  pub more : List ℕ
  pub stands : ClientInStands x first now (read ++ more) (suc n) new
  pub earlier : (input : OwnInput) → MayShow new (read ++ more) input → MayShow old read input
  pub emitted : (input : ClientInput) → MayShow new (read ++ more) (of_client input)
      → bytes ≡ input_emits x.trace x.fcs x.pace input n
