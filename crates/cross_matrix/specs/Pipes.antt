-- API: the pipe of a connection: what leaves on it is one function of its entry and of what its own input shows.
use Rattle.std.specs.Prelude.{◌≡◌, ◌≤◌, ◌+◌, ◌*◌, ℕ, suc, Bool, true, false, List, [], All, ◌++◌, length, Option}
use Rattle.otn_base.specs.LineSlots.{LineSlots}
use Rattle.otn_base.specs.declared.limits.TheConstants.{GROUPS}
use Rattle.port_base.specs.Views.{InView}
use Rattle.plan_file.specs.declared.connection.Connection.{Connection}
use Rattle.plan_file.specs.declared.connection.FromEnd.TheVariants as from_end
use Rattle.plan_file.specs.declared.connection.ToEnd.TheVariants as to_end
use Rattle.trib_sink.specs.Sink.{ended_view}
use Rattle.tributary_model.specs.Places.{Tributary, Taken, View, tributary_of}
use Rattle.device_model.specs.Entries.{first_turn, slot_count}
use Rattle.device_model.specs.Through.{OwnInput, of_line, emits, got_in}
use Rattle.cross_matrix.specs.Parts.{Progress, TakesFrom, GivesTo, IsOver, IsToClient, TakingStands, GivingStands, ClientInStands, MayShow, HasSlots, GivesSlots}
use Rattle.cross_matrix.specs.declared.taking.TakingPart.{TakingPart}
use Rattle.cross_matrix.specs.declared.giving.GivingPart.{GivingPart}

-- what is seen of a pipe: its two parts; the paces, the first turn and the number of slots of its entry; what the
-- taking part has made in this turn, and what a client has to be given in it, which was made in the turn before: a
-- line's source takes its bytes when the turn begins
pub record PipeView : Type 0 where
  pub taking : TakingPart
  pub giving : GivingPart
  pub paces : List ℕ
  pub start : ℕ
  pub slots : ℕ
  pub incoming : List ℕ
  pub outgoing : List ℕ

-- it is the pipe of this entry, whose line ends have as many slots, and none of whose paces brings more groups than a
-- multiframe has
pub record IsPipeOf (x : Connection) (pipe : PipeView) : Type 0 where
  pub taking : TakesFrom x.from x pipe.taking
  pub giving : GivesTo x.to pipe.giving
  pub paces : pipe.paces ≡ x.pace
  pub start : pipe.start ≡ x.start
  pub slots : pipe.slots ≡ slot_count x
  pub given : (b port : ℕ) (slots : LineSlots) → x.to ≡ to_end.Line b port slots → length slots.list ≡ slot_count x
  pub fit : All (λ pace. pace ≤ slot_count x * GROUPS) x.pace

-- The pipe of an active connection in own turn j, whose input shows this. Its two parts may stand at any two pieces of
-- the turn: the taking part has taken these frames of its line, or all of the turn where it has ended; the giving part
-- has filled so many frames of its own. What the turn gives is kept for a client; a line's source has taken it.
pub record PipeStands (x : Connection) (input : OwnInput) (j : ℕ) (frames : List Taken) (ended : Bool) (filled : ℕ)
    (pipe : PipeView) : Type 0 where
  pub entry : IsPipeOf x pipe
  pub taking : TakingStands x.from x input j frames ended pipe.taking
  pub incoming : ended ≡ true → pipe.incoming ≡ emits x input j
  pub outgoing : IsToClient pipe.giving → pipe.outgoing ≡ got_in x input j
  pub giving : GivingStands x.to x input j filled pipe.giving

-- ---- wherever a pipe stands

-- the pipe's taking part is so far, and its giving part has filled so many frames
abbrev pub PipeAt : Progress → (filled : ℕ) → PipeView → Type 0
PipeAt at filled pipe = PipeStands at.entry at.input at.turn at.frames at.ended filled pipe

-- what holds of a pipe wherever it stands
abbrev pub OfItsTurn : PipeView → ((at : Progress) → (filled : ℕ) → Type 0) → Type 0
OfItsTurn pipe Holds = (x : Connection) (input : OwnInput) (j filled : ℕ) (frames : List Taken) (ended : Bool)
    → PipeStands x input j frames ended filled pipe
    → Holds (record { entry = x; input = input; turn = j; frames = frames; ended = ended }) filled

-- the same where it has filled n frames of its output line
abbrev pub OfFrame : (n : ℕ) → PipeView → ((at : Progress) → Type 0) → Type 0
OfFrame n pipe Holds = (x : Connection) (input : OwnInput) (j : ℕ) (frames : List Taken) (ended : Bool)
    → PipeStands x input j frames ended n pipe
    → Holds (record { entry = x; input = input; turn = j; frames = frames; ended = ended })

-- the same where it gives to a line, of whose tributary it has filled n frames
abbrev pub OfOwnFrame : (n : ℕ) → PipeView → ((own : Tributary) → (at : Progress) → Type 0) → Type 0
OfOwnFrame n pipe Holds = (x : Connection) (b port : ℕ) (slots : LineSlots) (input : OwnInput) (j : ℕ)
    (frames : List Taken) (ended : Bool) → x.to ≡ to_end.Line b port slots → PipeStands x input j frames ended n pipe
    → Holds (tributary_of slots port) (record { entry = x; input = input; turn = j; frames = frames; ended = ended })

-- the same where its own part of the turn has not ended
abbrev pub OfOpenTurn : PipeView → ((at : Progress) → (filled : ℕ) → Type 0) → Type 0
OfOpenTurn pipe Holds = (x : Connection) (input : OwnInput) (j filled : ℕ) (frames : List Taken)
    → PipeStands x input j frames false filled pipe
    → Holds (record { entry = x; input = input; turn = j; frames = frames; ended = false }) filled

-- the same where it takes from a line, whose turn ends so with the view that the input shows
abbrev pub OfLineTurn : (whole : Bool) → PipeView → ((at : Progress) → (filled : ℕ) → Type 0) → Type 0
OfLineTurn whole pipe Holds = (x : Connection) (a port : ℕ) (slots : LineSlots) (shows : ℕ → Option View)
    (j filled : ℕ) (frames : List Taken) → x.from ≡ from_end.Line a port slots
    → PipeStands x (of_line shows) j frames false filled pipe
    → ended_view (tributary_of slots port) whole frames ≡ shows (first_turn x + j)
    → Holds (record { entry = x; input = of_line shows; turn = j; frames = frames; ended = false }) filled

-- the same where turn `turn` of the plan, in which it stands, may end
abbrev pub OfDoneTurn : (turn : ℕ) → PipeView → ((at : Progress) → Type 0) → Type 0
OfDoneTurn turn pipe Holds = (x : Connection) (input : OwnInput) (j filled : ℕ) (ended : Bool) → turn ≡ x.start + j
    → IsOver x.from ended → PipeStands x input j [] ended filled pipe
    → Holds (record { entry = x; input = input; turn = j; frames = []; ended = ended })

-- ---- steps

-- A client was taken: more bytes of its text, and what it may turn out to be from then on it might be before. Whatever
-- it is, the pipe has what it emits in the turn.
pub record ClientTook (x : Connection) (first now : InView) (read : List ℕ) (j : ℕ) (old new : PipeView) : Type 0 where
  pub more : List ℕ
  pub stands : ClientInStands x first now (read ++ more) (suc j) new.taking
  pub earlier : (input : OwnInput) → MayShow new.taking (read ++ more) input → MayShow old.taking read input
  pub pipe : (input : OwnInput) (frames : List Taken) (filled : ℕ) → MayShow new.taking (read ++ more) input
      → PipeStands x input j frames false filled old → PipeStands x input j frames true filled new

-- what holds of every pipe of so many slots: what its input brings in any turn has room on either side
pub record IsPipe (taking : TakingPart) (giving : GivingPart) (paces : List ℕ)
    (slots incoming_room outgoing_room : ℕ) : Type 0 where
  pub sink : HasSlots slots taking
  pub source : GivesSlots slots giving
  pub fit : All (λ pace. pace ≤ slots * GROUPS) paces
  pub incoming : incoming_room ≡ slots * (GROUPS + 1)
  pub outgoing : outgoing_room ≡ slots * (GROUPS + 1)
