-- Believed: what runs leave on a connection, by what is seen of the places before and after: what the port that it
-- comes from had to give, and what the port that it goes to got, where these tell it. Nothing that a run keeps to
-- itself is named.
use Rattle.std.specs.Prelude.{◌≡◌, ◌<◌, ◌≤◌, ◌+◌, ◌-◌, ◌*◌, ℕ, Bool, false, List, ◌∷◌, None, ⊤}
use Rattle.std.specs.List.{concat, Contains}
use Rattle.otn_base.specs.LineSlots.{LineSlots, slots_of}
use Rattle.otn_base.specs.declared.kind.PortName.{PortName}
use Rattle.port_base.specs.Given.{HadToGive, IsWritten}
use Rattle.port_base.specs.Views.{BaysView, line_in_at, line_out_at, client_in_at, client_out_at}
use Rattle.packet_text.specs.PacketText.{hex_text}
use Rattle.line_side.specs.LineForm.{size_of, through_mask}
use Rattle.maintenance_signals.specs.Stream.{signal_bytes}
use Rattle.maintenance_signals.specs.declared.signal.Signal.{Signal}
use Rattle.odu_client.specs.ClientFrames.{client_stream}
use Rattle.odu_client.specs.ClientInput.{ClientInput, emitted_before, input_given}
use Rattle.plan_file.specs.Answer.{fault_in}
use Rattle.plan_file.specs.declared.connection.Connection.{Connection}
use Rattle.plan_file.specs.declared.connection.FromEnd.{FromEnd}
use Rattle.plan_file.specs.declared.connection.FromEnd.TheVariants as from_end
use Rattle.plan_file.specs.declared.connection.ToEnd.TheVariants as to_end
use Rattle.plan_file.specs.declared.plan.Plan.{Plan}
use Rattle.tributary_model.specs.Carries.{sent}
use Rattle.tributary_model.specs.Places.{tributary_of}
use Rattle.device_model.specs.Agreements.{AgreeOnTributary}
use Rattle.connection_laws.specs.Carried.{numbers_got}
use Rattle.connection_laws.specs.Delivery.{AreOffered, whole_packets}
use Rattle.device_model.specs.Entries.{first_turn, own_turn, form_in, form_out}
use Rattle.device_model.specs.Inputs.{has_died}
use Rattle.device_model.specs.LineFiles.{IsLineFile}
use Rattle.device_model.specs.LineViews.{view_at}
use Rattle.device_model.specs.Moments.{uses}
use Rattle.device_model.specs.Report.{Numbers}
use Rattle.device_model.specs.Through.{Inputs, OwnInput, of_line, of_client, of_signal, text_by}
use Rattle.connection_laws.specs.TwoWorlds.{HaveSameByte}
use Rattle.connection_laws.specs.UpToTurn.{AgreeInTurn, BringAlike}
use Rattle.device_model.specs.RunLeft.{Takings, RunLeft, SamePlace}
use Rattle.run_laws.specs.RunsAlike.{IsFrontOfOther, HasLived, HasPlace, HasGone}
use Rattle.run_laws.specs.RunsThrough.{IsFrontOf, CarriedOn}

-- ---- runs

-- a run of a plan: what is seen of all places before it and after it
pub record Run : Type 0 where
  pub plan : Plan
  pub before : BaysView
  pub after : BaysView

-- the plan is accepted, and a run of it left this, whatever it took of its inputs and counted
pub record IsRun (run : Run) : Type 0 where
  pub accepted : fault_in run.plan ≡ None
  pub takings : Takings
  pub numbers : Numbers
  pub left : RunLeft run.plan run.before run.after takings numbers

-- ---- what its own input gave

-- the bytes of line a: those that its place had to give, through the line's mask
pub record LineGave (run : Run) (a : ℕ) (line : List ℕ) : Type 0 where
  pub available : List ℕ
  pub had : HadToGive (line_in_at run.before a) (line_in_at run.after a) available
  pub frames : line ≡ through_mask (form_in run.plan a).scrambled available

-- the packets of client n and how they end: those of the text that its place had to give, or of what is left of that
-- where the place died
pub record ClientGave (run : Run) (n : ℕ) (input : ClientInput) : Type 0 where
  pub available : List ℕ
  pub had : HadToGive (client_in_at run.before n) (client_in_at run.after n) available
  pub packets : input
      ≡ input_given (has_died (client_in_at run.before n).state (client_in_at run.after n).state) available

-- Two runs agree on what an end comes from: its line, each read through its own plan's mask, has as many whole frames
-- in both, with the same MFAS bytes, and the same bytes at the own places of its tributary; its client has the same
-- packets, which end in the same way. Of all other ports nothing is said.
abbrev pub AgreeOnInput : FromEnd → (one other : Run) → Type 0
AgreeOnInput (from_end.Line a port slots) one other = (line others : List ℕ) × LineGave one a line
    × LineGave other a others × AgreeOnTributary (tributary_of slots port) line others
AgreeOnInput (from_end.Client n) one other = (input : ClientInput) × ClientGave one n input × ClientGave other n input
AgreeOnInput (from_end.Signal signal) one other = ⊤

-- both plans have the connection, and the runs agree on what it comes from
pub record ShareInput (one other : Run) (x : Connection) : Type 0 where
  pub first : Contains one.plan.connections x
  pub second : Contains other.plan.connections x
  pub agree : AgreeOnInput x.from one other

-- ---- what its own output got

-- these bytes went to output line b, and to client n, by which what their ports got grew; no bytes are these where a
-- client's place was retired whose port does not keep them
abbrev pub LineGot : Run → (b : ℕ) → (written : List ℕ) → Type 0
LineGot run b written = IsWritten (line_out_at run.before b) (line_out_at run.after b) written

abbrev pub ClientGot : Run → (n : ℕ) → (written : List ℕ) → Type 0
ClientGot run n written = IsWritten (client_out_at run.before n) (client_out_at run.after n) written

-- their places have lived: they were live and have not died
abbrev pub LineLived : Run → (b : ℕ) → Type 0
LineLived run b = HasLived (line_out_at run.before b).state (line_out_at run.after b).state

abbrev pub ClientLived : Run → (n : ℕ) → Type 0
ClientLived run n = HasLived (client_out_at run.before n).state (client_out_at run.after n).state

-- To the client of a connection the same text went in both runs, as far as both have gone: one begins with the other,
-- and where the place has lived in both they are one.
pub record SameText (one other : Run) (n : ℕ) (written others : List ℕ) : Type 0 where
  pub front : IsFrontOfOther written others
  pub whole : ClientLived one n → ClientLived other n → written ≡ others

-- The same byte stands at an own place of a connection on its line, in a row and a column of frame f, where it has gone
-- in both runs; and so where the line has lived in both.
pub record SameOnLine (one other : Run) (b f row column : ℕ) (written others : List ℕ) : Type 0 where
  pub gone : HasGone written f row column → HasGone others f row column → HaveSameByte written others f row column
  pub whole : LineLived one b → LineLived other b → HaveSameByte written others f row column

-- What left on a connection is the same in both: to its client the same text; on its line the same bytes, as written,
-- at its own places, in the frames of its turns, where both lines are scrambled, or neither is.
pub record SameOutput (one other : Run) (x : Connection) : Type 0 where
  pub client : (n : ℕ) (written others : List ℕ) → x.to ≡ to_end.Client n → ClientGot one n written
      → ClientGot other n others
      → SameText one other n written others
  pub line : (b port past n row column : ℕ) (slots : LineSlots) (written others : List ℕ)
      → HasPlace x b port past n row column slots
      → (form_out one.plan b).scrambled ≡ (form_out other.plan b).scrambled → LineGot one b written
      → LineGot other b others
      → SameOnLine one other b (slots_of slots.kind * past + n) row column written others

-- So it is of any two runs that share a connection, whatever else they carry.
abbrev pub SeenRunsAgree : Type 0
SeenRunsAgree = (one other : Run) (x : Connection) → IsRun one → IsRun other → ShareInput one other x
    → SameOutput one other x

-- ---- up to a turn

-- Two runs agree on what an end comes from in a connection's first n own turns: in each of these its line has the same
-- multiframe in both, or has none in either, with the same bytes at the own places of its tributary; its client has
-- brought the same packets by then.
abbrev pub AgreeOnInputUpTo : FromEnd → Connection → (n : ℕ) → (one other : Run) → Type 0
AgreeOnInputUpTo (from_end.Line a port slots) x n one other = (line others : List ℕ) × LineGave one a line
    × LineGave other a others
    × ((j : ℕ) → j < n → AgreeInTurn (tributary_of slots port) line others (first_turn x + j))
AgreeOnInputUpTo (from_end.Client m) x n one other = (input others : ClientInput) × ClientGave one m input
    × ClientGave other m others
    × BringAlike x.fcs (emitted_before x.pace n) input others
AgreeOnInputUpTo (from_end.Signal signal) x n one other = ⊤

-- both plans have the connection, and the runs agree so far on what it comes from
pub record ShareInputUpTo (n : ℕ) (one other : Run) (x : Connection) : Type 0 where
  pub first : Contains one.plan.connections x
  pub second : Contains other.plan.connections x
  pub agree : AgreeOnInputUpTo x.from x n one other

-- What left on a connection is the same in both so far, whatever its input shows from own turn n on, from 0: to its
-- client the same text, where it has no own turn behind that; on its line the same bytes at its own places, up to the
-- frames of own turn n.
pub record SameOutputUpTo (n : ℕ) (one other : Run) (x : Connection) : Type 0 where
  pub client : (m : ℕ) (written others : List ℕ) → x.to ≡ to_end.Client m → x.stop - first_turn x ≤ n + 1
      → ClientGot one m written
      → ClientGot other m others
      → SameText one other m written others
  pub line : (b port past k row column : ℕ) (slots : LineSlots) (written others : List ℕ)
      → HasPlace x b port past k row column slots
      → (form_out one.plan b).scrambled ≡ (form_out other.plan b).scrambled → own_turn x past ≤ n
      → LineGot one b written
      → LineGot other b others
      → SameOnLine one other b (slots_of slots.kind * past + k) row column written others

-- So it is of any two runs that share a connection.
abbrev pub SeenRunsLookNotAhead : Type 0
SeenRunsLookNotAhead = (n : ℕ) (one other : Run) (x : Connection) → IsRun one → IsRun other
    → ShareInputUpTo n one other x → SameOutputUpTo n one other x

-- ---- what is put through

-- what a run shows of an end: of its line what each turn shows of the tributary; of its client the packets
abbrev pub Shows : Run → FromEnd → OwnInput → Type 0
Shows run (from_end.Line a port slots) own = (line : List ℕ) × LineGave run a line
    × (own ≡ of_line (view_at (tributary_of slots port) line))
Shows run (from_end.Client n) own = (input : ClientInput) × ClientGave run n input × (own ≡ of_client input)
Shows run (from_end.Signal signal) own = own ≡ of_signal

-- inputs have what the port of an end had to give; and so of each end from which a connection of the plan goes to line
-- b
abbrev pub Gave : Run → FromEnd → Inputs → Type 0
Gave run (from_end.Line a port slots) inputs = LineGave run a (inputs.line a)
Gave run (from_end.Client n) inputs = ClientGave run n (inputs.client n)
Gave run (from_end.Signal signal) inputs = ⊤

abbrev pub GaveTo : Run → (b : ℕ) → Inputs → Type 0
GaveTo run b inputs = (y : Connection) (port : ℕ) (slots : LineSlots) → Contains run.plan.connections y
    → y.to ≡ to_end.Line b port slots → Gave run y.from inputs

-- so much of the file of line b, where the inputs are these, went to it
pub record FileGot (run : Run) (inputs : Inputs) (b : ℕ) (written : List ℕ) : Type 0 where
  pub frames : List (List ℕ)
  pub file : IsLineFile run.plan inputs b (size_of (form_out run.plan b) * run.plan.turns) frames
  pub front : IsFrontOf (line_out_at run.before b) (line_out_at run.after b)
      (through_mask (form_out run.plan b).scrambled (concat frames)) written

-- To a client of a connection went the text that its own entry puts through it of its own input; to a line of it the
-- line's file, of all connections that go there.
pub record PutThrough (run : Run) (x : Connection) : Type 0 where
  pub client : (n : ℕ) (own : OwnInput) (written : List ℕ) → x.to ≡ to_end.Client n → Shows run x.from own
      → ClientGot run n written
      → IsFrontOf (client_out_at run.before n) (client_out_at run.after n)
      (text_by x own (x.stop - first_turn x)) written
  pub line : (b port : ℕ) (slots : LineSlots) (inputs : Inputs) (written : List ℕ) → x.to ≡ to_end.Line b port slots
      → GaveTo run b inputs → LineGot run b written → FileGot run inputs b written

-- So it is of each connection of a run.
abbrev pub SeenRunsPutThrough : Type 0
SeenRunsPutThrough = (run : Run) (x : Connection) → IsRun run → Contains run.plan.connections x → PutThrough run x

-- ---- what is carried

-- what a reader sees of these bytes of output line b, through its mask
abbrev pub read_back : Run → (b : ℕ) → (written : List ℕ) → List ℕ
read_back run b written = through_mask (form_out run.plan b).scrambled written

-- What a connection carries to a place that has lived. From a line that carries a client's bytes to it: the output line
-- carries them too, by the same numbers three turns later. From a client or a signal: the front of its stream, by the
-- paces, a turn later. To a client, of packets that such a line carries: the text of exactly those whose GFP frames lie
-- whole in the frames that came whole, of what the sender took up to three turns before the stop.
pub record CarriesOver (run : Run) (x : Connection) : Type 0 where
  pub line : (a from b port u w : ℕ) (slots others : LineSlots) (line written bytes p : List ℕ)
      → x.from ≡ from_end.Line a from slots → x.to ≡ to_end.Line b port others
      → LineGave run a line → LineGot run b written → LineLived run b → w ≤ u → w < x.stop
      → CarriedOn x from slots line bytes p u
      → CarriedOn x port others (read_back run b written) bytes (0 ∷ 0 ∷ 0 ∷ p) w
  pub client : (m b port u n : ℕ) (slots : LineSlots) (input : ClientInput) (written : List ℕ)
      → x.from ≡ from_end.Client m
      → x.to ≡ to_end.Line b port slots
      → ClientGave run m input → LineGot run b written → LineLived run b → u < x.stop → u ≤ first_turn x + n
      → CarriedOn x port slots (read_back run b written)
      (client_stream x.trace input.packets x.fcs (emitted_before x.pace n)) (numbers_got x.pace n) u
  pub signal : (signal : Signal) (b port u n : ℕ) (slots : LineSlots) (written : List ℕ)
      → x.from ≡ from_end.Signal signal
      → x.to ≡ to_end.Line b port slots
      → LineGot run b written → LineLived run b → u < x.stop → u ≤ first_turn x + n
      → CarriedOn x port slots (read_back run b written) (signal_bytes signal 0 (emitted_before x.pace n))
      (numbers_got x.pace n) u
  pub packets : (a from n u k : ℕ) (slots : LineSlots) (sapi : List ℕ) (packets : List (List ℕ)) (fcs : Bool)
      (line written p : List ℕ) → x.from ≡ from_end.Line a from slots → x.to ≡ to_end.Client n
      → LineGave run a line → ClientGot run n written → ClientLived run n → x.stop ≤ u + 2 → AreOffered packets
      → CarriedOn x from slots line (client_stream sapi packets fcs k) p u
      → written ≡ hex_text (whole_packets packets fcs (sent p (x.stop - x.start - 2)))

-- So does each connection of a run.
abbrev pub SeenRunsCarry : Type 0
SeenRunsCarry = (run : Run) (x : Connection) → IsRun run → Contains run.plan.connections x → CarriesOver run x

-- ---- what is left alone

-- The place of each port that the plan does not use is seen as it was.
abbrev pub SeenRunsLeaveOthers : Type 0
SeenRunsLeaveOthers = (run : Run) (name : PortName) → IsRun run → uses run.plan name ≡ false
    → SamePlace name run.before run.after
