-- API: what a piece of a port, and the end of a turn, do to the parts of a node and to the port's place.
use Rattle.std.specs.Prelude.{◌≡◌, ◌<◌, ◌+◌, ◌*◌, ◌%◌, ℕ, suc, Bool, true, false, ◌&&◌, List, [], ◌∷◌, ◌++◌, Some, length, slice_get, is_some, Option}
use Rattle.otn_base.specs.LineSlots.{LineSlots, slots_of}
use Rattle.otn_base.specs.declared.kind.PortName.TheVariants as port
use Rattle.port_base.specs.Given.{Gained}
use Rattle.port_base.specs.Views.{InView, OutView}
use Rattle.line_side.specs.LineFile.{mfas_of}
use Rattle.line_side.specs.LineForm.{size_of}
use Rattle.line_side.specs.LineOutput.{LineOutView, FramePut, LineMade, AsMade}
use Rattle.line_side.specs.LineStands.{LineView, LineStands, AsStood, PieceStands, InItsTurn, OfMember}
use Rattle.maintenance_signals.specs.declared.signal.Signal.{Signal}
use Rattle.multiframe.specs.LineTurns.{multiframe}
use Rattle.plan_file.specs.declared.connection.Connection.{Connection}
use Rattle.plan_file.specs.declared.connection.FromEnd.TheVariants as from_end
use Rattle.plan_file.specs.declared.connection.ToEnd.TheVariants as to_end
use Rattle.plan_file.specs.declared.plan.Plan.{Plan}
use Rattle.trib_sink.specs.Sink.{ended_view}
use Rattle.tributary_model.specs.Places.{Taken, View, tributary_of}
use Rattle.device_model.specs.Entries.{IsActive, own_turn}
use Rattle.device_model.specs.Through.{Inputs, OwnInput, of_line, own_input}
use Rattle.cross_matrix.specs.Parts.{ClientInStands, ClientOutStands}
use Rattle.cross_matrix.specs.Pipes.{PipeStands, ClientTook}
use Rattle.node_links.specs.Links.{IsLinkOf, SameEntry, is_on, takes_part}
use Rattle.node_links.specs.declared.link.Link.{Link}

-- ---- connections one by one

-- each connection went from what it was to what it is in this way
pub record EachLink (Goes : Link → Link → Type 0) (olds news : List Link) : Type 0 where
  pub count : length news ≡ length olds
  pub each : (i : ℕ) (old new : Link) → slice_get olds i ≡ Some old → slice_get news i ≡ Some new → Goes old new

-- ---- a piece of an input line

-- a frame with the MFAS expected of it goes to a connection that takes from the line
pub record TookFrame (takes : Bool) (frame : Taken) (old new : Link) : Type 0 where
  pub same : SameEntry old new
  pub other : takes ≡ false → new ≡ old
  pub giving : new.pipe.giving ≡ old.pipe.giving
  pub took : takes ≡ true → (x : Connection) (a number : ℕ) (slots : LineSlots) (input : OwnInput) (j filled : ℕ)
      (frames : List Taken) → x.from ≡ from_end.Line a number slots
      → length frames < slots_of slots.kind → PipeStands x input j frames false filled old.pipe
      → PipeStands x input j (frames ++ frame ∷ []) false filled new.pipe

-- line a does a piece: where that came to a frame, the frame goes to each connection that takes from the line
pub record ReadsLine (past a : ℕ) (old : LineView) (was : InView) (links : List Link) (new : LineView) (is : InView)
    (next : List Link) : Type 0 where
  pub stands : AsStood was old (λ form first read t. PieceStands form first is read t old new)
  pub pieces : new.pieces ≡ old.pieces + 1
  pub kind : new.kind ≡ old.kind
  pub expected : ℕ
  pub expects : new.has_frame ≡ true → OfMember new (λ given member. expected ≡ member.expected)
  pub took : EachLink (λ link then. TookFrame (new.has_frame && takes_part past (port.LineIn a) link)
      (record { frame = new.reader.hand; expected = expected }) link then) links next

-- ---- a piece of an output line

-- a connection that gives to the line has filled frame n of the turn
pub record GaveFrame (gives : Bool) (n : ℕ) (old new : Link) : Type 0 where
  pub same : SameEntry old new
  pub other : gives ≡ false → new ≡ old
  pub taking : new.pipe.taking ≡ old.pipe.taking
  pub gave : gives ≡ true → (x : Connection) (b number : ℕ) (slots : LineSlots) (input : OwnInput) (j : ℕ)
      (frames : List Taken) (ended : Bool) → x.to ≡ to_end.Line b number slots
      → n < slots_of slots.kind → PipeStands x input j frames ended n old.pipe
      → PipeStands x input j frames ended (n + 1) new.pipe

-- the connections of an accepted plan, of which the active ones that go to line b have filled n frames of turn past + 1
pub record FillLine (plan : Plan) (inputs : Inputs) (b past n : ℕ) (links : List Link) : Type 0 where
  pub count : length links ≡ length plan.connections
  pub of_plan : (i : ℕ) (x : Connection) (link : Link) → slice_get plan.connections i ≡ Some x
      → slice_get links i ≡ Some link → IsLinkOf x link
  pub stand : (i number : ℕ) (slots : LineSlots) (x : Connection) (link : Link) → slice_get plan.connections i ≡ Some x
      → slice_get links i ≡ Some link
      → x.to ≡ to_end.Line b number slots → IsActive x past
      → (frames : List Taken) × ((ended : Bool)
      × PipeStands x (own_input inputs x) (own_turn x past) frames ended n link.pipe)

-- line b makes frame n of turn past + 1, into which each connection that gives to the line puts its own; what its place
-- got grew
pub record WritesLine (past b n : ℕ) (old : LineOutView) (was : OutView) (links : List Link) (new : LineOutView)
    (is : OutView) (next : List Link) : Type 0 where
  pub put : FramePut
  pub made : AsMade b was old (λ form first puts. LineMade b form first is (puts ++ put ∷ []) new)
  pub gained : (written : List ℕ) × Gained was written is
  pub form : new.form ≡ old.form
  pub mfas : put.mfas ≡ (size_of old.form * past + n) % 256
  pub gave : EachLink (λ link then. GaveFrame (takes_part past (port.LineOut b) link) n link then) links next

-- ---- a piece of a client

-- the connection that takes from client n takes what turn past + 1 brings; or none does
pub record TakesClient (past n : ℕ) (was : InView) (links : List Link) (is : InView) (next : List Link) : Type 0 where
  pub took : EachLink (λ link then. SameEntry link then × (then.pipe.giving ≡ link.pipe.giving)
      × (takes_part past (port.ClientIn n) link ≡ false → then ≡ link)) links next
  pub none : ((i : ℕ) (link : Link) → slice_get links i ≡ Some link
      → takes_part past (port.ClientIn n) link ≡ false) → is ≡ was
  pub one : (i : ℕ) (link then : Link) → slice_get links i ≡ Some link → slice_get next i ≡ Some then
      → takes_part past (port.ClientIn n) link ≡ true
      → ((j : ℕ) (other : Link) → slice_get links j ≡ Some other → takes_part past (port.ClientIn n) other ≡ true
      → j ≡ i)
      → (x : Connection) (first : InView) (read : List ℕ) → IsLinkOf x link
      → ClientInStands x first was read (own_turn x past) link.pipe.taking
      → ClientTook x first is read (own_turn x past) link.pipe then.pipe

-- the connection that gives to client n gives what turn past + 1 brings it; or none does
pub record GivesClient (past n : ℕ) (was : OutView) (links : List Link) (is : OutView) (next : List Link) : Type 0 where
  pub gave : EachLink (λ link then. SameEntry link then × (then.pipe.taking ≡ link.pipe.taking)
      × (takes_part past (port.ClientOut n) link ≡ false → then ≡ link)
      × ((x : Connection) (input : OwnInput) (j filled : ℕ) (frames : List Taken) (ended : Bool)
      → PipeStands x input j frames ended filled link.pipe → PipeStands x input j frames ended filled then.pipe)) links
      next
  pub none : ((i : ℕ) (link : Link) → slice_get links i ≡ Some link
      → takes_part past (port.ClientOut n) link ≡ false) → is ≡ was
  pub one : (i : ℕ) (link then : Link) → slice_get links i ≡ Some link → slice_get next i ≡ Some then
      → takes_part past (port.ClientOut n) link ≡ true
      → ((j : ℕ) (other : Link) → slice_get links j ≡ Some other → takes_part past (port.ClientOut n) other ≡ true
      → j ≡ i)
      → (x : Connection) (input : OwnInput) (first : OutView) (filled : ℕ) (frames : List Taken) (ended : Bool)
      → PipeStands x input (own_turn x past) frames ended filled link.pipe
      → ClientOutStands x input first was (own_turn x past) link.pipe.giving
      → ClientOutStands x input first is (own_turn x past + 1) then.pipe.giving

-- ---- the end of a turn

-- the turn of a line that is used ends, and this says whether it has a multiframe
pub record LineEnds (old new : LineView) (whole : Bool) : Type 0 where
  pub stands : (now : InView) → AsStood now old (λ form first read t. LineStands form first now read (t + 1) new)
  pub ending : new.reader.ending ≡ old.reader.ending
  pub kind : new.kind ≡ old.kind
  pub multiframe : InItsTurn old (λ form given t. whole ≡ is_some (multiframe (size_of form) (mfas_of given) t))
  pub pieces : new.pieces ≡ 0

-- what the end of turn past + 1 does to a connection, whose line has a multiframe in it or not
pub record Fences (past : ℕ) (whole : Bool) (old new : Link) : Type 0 where
  pub same : SameEntry old new
  pub other : is_on past old ≡ false → new ≡ old
  pub line : is_on past old ≡ true → (x : Connection) (a number : ℕ) (slots : LineSlots) (shows : ℕ → Option View)
      (filled : ℕ) (frames : List Taken) → IsLinkOf x old
      → x.from ≡ from_end.Line a number slots → (whole ≡ true → length frames ≡ slots_of slots.kind)
      → ended_view (tributary_of slots number) whole frames ≡ shows past
      → PipeStands x (of_line shows) (own_turn x past) frames false filled old.pipe
      → PipeStands x (of_line shows) (suc (own_turn x past)) [] false 0 new.pipe
  pub client : is_on past old ≡ true → (x : Connection) (n filled : ℕ) (input : OwnInput) → IsLinkOf x old
      → x.from ≡ from_end.Client n
      → PipeStands x input (own_turn x past) [] true filled old.pipe
      → PipeStands x input (suc (own_turn x past)) [] false 0 new.pipe
  pub text : (x : Connection) (n : ℕ) → IsLinkOf x old → x.from ≡ from_end.Client n → new.pipe.taking ≡ old.pipe.taking
  pub signal : is_on past old ≡ true → (x : Connection) (signal : Signal) (filled : ℕ) (input : OwnInput)
      → IsLinkOf x old → x.from ≡ from_end.Signal signal
      → PipeStands x input (own_turn x past) [] false filled old.pipe
      → PipeStands x input (suc (own_turn x past)) [] false 0 new.pipe
  pub receiver : (x : Connection) (n : ℕ) → IsLinkOf x old → x.to ≡ to_end.Client n → new.pipe.giving ≡ old.pipe.giving
