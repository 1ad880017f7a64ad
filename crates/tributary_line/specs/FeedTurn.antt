-- API: a source on an output line, within a turn and between turns.
use Rattle.std.specs.Prelude.{◌≡◌, ℕ, ◌+◌, ◌*◌, ◌/◌, ◌%◌, ◌≤◌, List, length}
use Rattle.otn_base.specs.declared.limits.TheConstants.{GROUPS, OTU2_SLOTS}
use Rattle.port_base.specs.Views.{OutView}
use Rattle.line_side.specs.LineForm.{plain_otu2}
use Rattle.line_side.specs.LineOutput.{FramePut, LineMade, LineOutView}
use Rattle.tributary_model.specs.Carries.{sent}
use Rattle.tributary_model.specs.Places.{Tributary}
use Rattle.tributary_model.specs.Puts.{lengths_of}
use Rattle.trib_source.specs.Source.{Source, StandsAfter}
use Rattle.tributary_line.specs.TributaryFile.{AreItsPorts, AreTributaryFrames}

-- what is seen of it: the line, the source, the port of each slot, and the MFAS of the next frame
pub record FeedView : Type 0 where
  pub line : LineOutView
  pub source : Source
  pub ports : List ℕ
  pub mfas : ℕ

-- The line has made so many frames for a tributary whose source took the bytes of these turns. `first` and `now` are
-- views of its place.
pub record FeedHas (own : Tributary) (first now : OutView) (turns : List (List ℕ)) (count : ℕ)
    (feed : FeedView) : Type 0 where
  pub size : own.line_slots ≡ OTU2_SLOTS
  pub ports : AreItsPorts own feed.ports
  pub mfas : feed.mfas ≡ count % 256
  pub puts : List FramePut
  pub made : LineMade 0 plain_otu2 first now puts feed.line
  pub are_put : AreTributaryFrames own turns count puts

-- All frames of these turns are made.
pub record FeedStands (own : Tributary) (first now : OutView) (turns : List (List ℕ)) (feed : FeedView) : Type 0 where
  pub filled : ℕ
  pub source : StandsAfter own turns filled feed.source
  pub has : FeedHas own first now turns (OTU2_SLOTS * length turns) feed

-- the bytes of one turn more complete at most 15,232 groups
abbrev pub Completes : Tributary → List (List ℕ) → List ℕ → Type 0
Completes own turns bytes =
    (sent (lengths_of turns) (length turns) + length bytes) / length own.slots ≤ sent (lengths_of turns)
    (length turns) / length own.slots + GROUPS
