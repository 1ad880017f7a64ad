-- Steps of `end_frames`, `take_client` and others: what a connection of a node does in a turn, and at its end.
use Rattle.std.specs.Prelude.{◌≡◌, ◌<◌, ◌+◌, ℕ, suc, Bool, true, false, List, [], length, Option, Some, None, slice_get}
use Rattle.otn_base.specs.LineSlots.{LineSlots, slots_of}
use Rattle.maintenance_signals.specs.declared.signal.Signal.{Signal}
use Rattle.port_base.specs.Views.{InView, OutView}
use Rattle.plan_file.specs.declared.connection.Connection.{Connection}
use Rattle.plan_file.specs.declared.connection.FromEnd.{FromEnd}
use Rattle.plan_file.specs.declared.connection.FromEnd.TheVariants as from_end
use Rattle.trib_sink.specs.Sink.{ended_view}
use Rattle.tributary_model.specs.Places.{Taken, View, tributary_of}
use Rattle.device_model.specs.Entries.{first_turn, own_turn}
use Rattle.device_model.specs.Through.{OwnInput, of_line}
use Rattle.cross_matrix.specs.Parts.{ClientInStands, ClientOutStands}
use Rattle.cross_matrix.specs.Pipes.{PipeView, IsPipeOf, PipeStands, ClientTook}
use Rattle.node_links.specs.Links.{IsLinkOf, SameEntry, is_on}
use Rattle.node_links.specs.declared.link.Link.{Link}

-- a connection that is active in turn past + 1 takes from its client what the turn brings
pub record TookText (past : ℕ) (old : Link) (was : InView) (new : Link) (is : InView) : Type 0 where
  pub same : SameEntry old new
  pub giving : new.pipe.giving ≡ old.pipe.giving
  pub took : is_on past old ≡ true → (x : Connection) (first : InView) (read : List ℕ) → IsLinkOf x old
      → ClientInStands x first was read (own_turn x past) old.pipe.taking
      → ClientTook x first is read (own_turn x past) old.pipe new.pipe

-- a connection gives its client what the turn brings it
pub record GaveText (old : Link) (was : OutView) (new : Link) (is : OutView) : Type 0 where
  pub same : SameEntry old new
  pub taking : new.pipe.taking ≡ old.pipe.taking
  pub stands : (x : Connection) (input : OwnInput) (j filled : ℕ) (frames : List Taken) (ended : Bool)
      → PipeStands x input j frames ended filled old.pipe → PipeStands x input j frames ended filled new.pipe
  pub gave : (x : Connection) (input : OwnInput) (first : OutView) (j filled : ℕ) (frames : List Taken) (ended : Bool)
      → PipeStands x input j frames ended filled old.pipe
      → ClientOutStands x input first was j old.pipe.giving → ClientOutStands x input first is (suc j) new.pipe.giving

-- the turn of the line of a pipe ends, where the connection comes from one
pub record EndsFrames (from : FromEnd) (whole : Bool) (old new : PipeView) : Type 0 where
  pub entry : (x : Connection) → IsPipeOf x old → IsPipeOf x new
  pub giving : new.giving ≡ old.giving
  pub line : (line port : ℕ) (own : LineSlots) → from ≡ from_end.Line line port own
      → (x : Connection) (a number : ℕ) (slots : LineSlots) (shows : ℕ → Option View) (j filled : ℕ)
      (frames : List Taken)
      → x.from ≡ from_end.Line a number slots → (whole ≡ true → length frames ≡ slots_of slots.kind)
      → PipeStands x (of_line shows) j frames false filled old
      → ended_view (tributary_of slots number) whole frames ≡ shows (first_turn x + j)
      → PipeStands x (of_line shows) j [] true filled new
  pub client : (n : ℕ) → from ≡ from_end.Client n → new ≡ old
  pub signal : (signal : Signal) → from ≡ from_end.Signal signal → new ≡ old

-- of some connections, one that meets the test, or none does
abbrev pub first_of : (test : Link → Bool) → List Link → Option ℕ → Type 0
first_of test links (Some i) = (i < length links) × ((link : Link) → slice_get links i ≡ Some link → test link ≡ true)
first_of test links None = (i : ℕ) (link : Link) → slice_get links i ≡ Some link → test link ≡ false

-- the same as a record
pub record FirstOf (test : Link → Bool) (links : List Link) (found : Option ℕ) : Type 0 where
  pub is : first_of test links found
