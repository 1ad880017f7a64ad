-- Believed: what a run of a plan leaves, from its places as they were first to how they are last. No node is named
-- here.
use Rattle.std.specs.Prelude.{◌≡◌, ℕ, suc, min, Bool, true, false, List, [], ◌++◌, length}
use Rattle.std.specs.List.{Contains}
use Rattle.otn_base.specs.declared.kind.PortName.{PortName}
use Rattle.otn_base.specs.declared.kind.PortName.TheVariants as port
use Rattle.port_base.specs.Given.{Gained}
use Rattle.port_base.specs.Views.{Live, InView, OutView, BaysView, line_in_at, line_out_at, client_in_at, client_out_at}
use Rattle.line_side.specs.LineForm.{through_mask}
use Rattle.packet_text.specs.LinesStand.{ReadAsNeeded}
use Rattle.odu_client.specs.ClientInput.{ClientInput, input_given, packets_asked}
use Rattle.plan_file.specs.declared.connection.Connection.{Connection}
use Rattle.plan_file.specs.declared.connection.FromEnd.TheVariants as from_end
use Rattle.plan_file.specs.declared.connection.ToEnd.TheVariants as to_end
use Rattle.plan_file.specs.declared.plan.Plan.{Plan}
use Rattle.device_model.specs.Entries.{form_in}
use Rattle.device_model.specs.Inputs.{has_died}
use Rattle.device_model.specs.LineAsked.{MayHave, InputLeft}
use Rattle.device_model.specs.Moments.{uses, line_read, client_due, LineDue}
use Rattle.device_model.specs.Numbers.{OutputBytes, AreNumbers}
use Rattle.device_model.specs.Outcomes.{emitted_in_all}
use Rattle.device_model.specs.Report.{Numbers}
use Rattle.device_model.specs.Through.{Inputs, own_input}
use Rattle.device_model.specs.RetiredPlaces.{after_retire, out_after_retire}

-- ---- what was taken

-- what was taken of the inputs of a run, and of which of them more may stand behind it
pub record Takings : Type 0 where
  pub line : (a : ℕ) → List ℕ
  pub line_more : (a : ℕ) → Bool
  pub client : (n : ℕ) → List ℕ
  pub client_more : (n : ℕ) → Bool

-- What the inputs of a run may turn out to be, each for itself: of a line the bytes through its mask, of a client the
-- packets of its text, or of what is left of it where its place died.
pub record MayBeInputs (plan : Plan) (first last : BaysView) (takings : Takings) (inputs : Inputs) : Type 0 where
  pub line : (a : ℕ) → uses plan (port.LineIn a) ≡ true
      → (available : List ℕ) × MayHave (takings.line_more a) (takings.line a) available
      × (inputs.line a ≡ through_mask (form_in plan a).scrambled available)
  pub client : (n : ℕ) → uses plan (port.ClientIn n) ≡ true
      → (available : List ℕ) × MayHave (takings.client_more n) (takings.client n) available
      × (inputs.client n ≡ input_given (has_died (client_in_at first n).state (client_in_at last n).state) available)

-- ---- inputs

-- the place of a client, as it was until its connection's stop, and as it is: emptied there where it was live and its
-- connection retires
pub record ClientInLeft (retires : Bool) (first last : InView) (read : List ℕ) (more : Bool) : Type 0 where
  pub was : InView
  pub left : InputLeft first was read more
  pub place : last ≡ after_retire retires was

-- ---- outputs

-- of the bytes that were due to an output place these were written: a part from the front, and all where it is live
pub record OutputLeft (first : OutView) (due written : List ℕ) (last : OutView) : Type 0 where
  pub rest : List ℕ
  pub parts : written ++ rest ≡ due
  pub gained : Gained first written last
  pub whole : last.state ≡ Live → rest ≡ []

-- to output line b, of the whole of its file, which is due
pub record LineOutLeft (plan : Plan) (inputs : Inputs) (b : ℕ) (first : OutView) (written : List ℕ)
    (last : OutView) : Type 0 where
  pub due : List ℕ
  pub is_due : LineDue plan inputs b plan.turns 0 due
  pub left : OutputLeft first due written last

-- to the client of a connection, the text of all that arrived; a live place was emptied then if the connection retires
pub record ClientOutLeft (plan : Plan) (inputs : Inputs) (x : Connection) (first : OutView) (written : List ℕ)
    (last : OutView) : Type 0 where
  pub was : OutView
  pub left : OutputLeft first (client_due x (own_input inputs x) plan.turns 0) written was
  pub place : last ≡ out_after_retire x.retire was

-- to each output that the plan uses
pub record OutputsLeft (plan : Plan) (inputs : Inputs) (first : BaysView) (written : OutputBytes)
    (last : BaysView) : Type 0 where
  pub line : (b : ℕ) → uses plan (port.LineOut b) ≡ true
      → LineOutLeft plan inputs b (line_out_at first b) (written.line b) (line_out_at last b)
  pub client : (x : Connection) (n : ℕ) → Contains plan.connections x → x.to ≡ to_end.Client n
      → ClientOutLeft plan inputs x (client_out_at first n) (written.client n) (client_out_at last n)

-- ---- all

-- a port's place is as it was
abbrev pub SamePlace : PortName → (first last : BaysView) → Type 0
SamePlace (port.LineIn a) first last = line_in_at last a ≡ line_in_at first a
SamePlace (port.LineOut b) first last = line_out_at last b ≡ line_out_at first b
SamePlace (port.ClientIn n) first last = client_in_at last n ≡ client_in_at first n
SamePlace (port.ClientOut n) first last = client_out_at last n ≡ client_out_at first n

-- of a line was taken what the turns of the plan want, and one byte more, or all that there is
abbrev pub TookOf : Plan → Inputs → Takings → (a : ℕ) → Type 0
TookOf plan inputs takings a = length (takings.line a)
    ≡ min (length (inputs.line a)) (suc (line_read (form_in plan a) (inputs.line a) plan.turns 0))

-- Of the text of a client no block of 4,096 bytes was read that was not needed: what was taken before the last one has
-- fewer packets than are begun in all its turns, and shows no bad line.
abbrev pub TookOfText : Connection → ClientInput → (read : List ℕ) → Type 0
TookOfText x input read = (short : Bool)
    × ReadAsNeeded short (packets_asked input.packets x.fcs (emitted_in_all x)) read

-- what a run leaves, where its inputs are these
pub record RunOf (plan : Plan) (first last : BaysView) (takings : Takings) (numbers : Numbers)
    (inputs : Inputs) : Type 0 where
  pub took : (a : ℕ) → uses plan (port.LineIn a) ≡ true → TookOf plan inputs takings a
  pub text : (x : Connection) (n : ℕ) → Contains plan.connections x → x.from ≡ from_end.Client n
      → TookOfText x (inputs.client n) (takings.client n)
  pub written : OutputBytes
  pub outputs : OutputsLeft plan inputs first written last
  pub numbers_are : AreNumbers plan inputs written first last numbers

-- What a run of a plan leaves: these bytes were taken of its inputs, and for whatever these may turn out to be there is
-- what went to its outputs, and these are its numbers. Each place that the plan does not use is as it was.
pub record RunLeft (plan : Plan) (first last : BaysView) (takings : Takings) (numbers : Numbers) : Type 0 where
  pub line_in : (a : ℕ) → uses plan (port.LineIn a) ≡ true
      → InputLeft (line_in_at first a) (line_in_at last a) (takings.line a) (takings.line_more a)
  pub client_in : (x : Connection) (n : ℕ) → Contains plan.connections x → x.from ≡ from_end.Client n
      → ClientInLeft x.retire (client_in_at first n) (client_in_at last n) (takings.client n) (takings.client_more n)
  pub idle : (name : PortName) → uses plan name ≡ false → SamePlace name first last
  pub of_inputs : (inputs : Inputs) → MayBeInputs plan first last takings inputs
      → RunOf plan first last takings numbers inputs
