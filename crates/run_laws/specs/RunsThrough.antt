-- Believed: what a plan that was run puts through each of its connections, from its own input to the output that it
-- goes to.
use Rattle.std.specs.Prelude.{◌≡◌, ◌≢◌, ℕ, ◌+◌, ◌-◌, ◌*◌, ◌<◌, ◌≤◌, Bool, List, [], ◌∷◌, ◌++◌}
use Rattle.std.specs.List.{concat, Contains}
use Rattle.otn_base.specs.LineSlots.{LineSlots}
use Rattle.port_base.specs.Bytes.{after}
use Rattle.port_base.specs.Given.{IsTold}
use Rattle.port_base.specs.Views.{State, Live, OutView, BaysView, line_out_at, client_out_at}
use Rattle.packet_text.specs.PacketText.{hex_text}
use Rattle.line_side.specs.LineForm.{size_of, through_mask}
use Rattle.maintenance_signals.specs.Stream.{signal_bytes}
use Rattle.maintenance_signals.specs.declared.signal.Signal.{Signal}
use Rattle.odu_client.specs.ClientFrames.{client_stream}
use Rattle.odu_client.specs.ClientInput.{emitted_before}
use Rattle.plan_file.specs.declared.connection.Connection.{Connection}
use Rattle.plan_file.specs.declared.connection.FromEnd.TheVariants as from_end
use Rattle.plan_file.specs.declared.connection.ToEnd.TheVariants as to_end
use Rattle.tributary_model.specs.Carriage.{Arrives}
use Rattle.tributary_model.specs.Carries.{sent}
use Rattle.tributary_model.specs.Places.{tributary_of}
use Rattle.connection_laws.specs.Carried.{numbers_got}
use Rattle.connection_laws.specs.Delivery.{AreOffered, whole_packets}
use Rattle.device_model.specs.Entries.{first_turn, form_out}
use Rattle.device_model.specs.LineFiles.{IsLineFile}
use Rattle.device_model.specs.LineViews.{view_at}
use Rattle.device_model.specs.Numbers.{OutputBytes}
use Rattle.device_model.specs.Through.{own_input, text_by}
use Rattle.run_laws.specs.RunsAlike.{World, IsWorld, HasLived, bytes_out, state_of_line, state_of_client}

-- ---- outputs

-- an output's place, by its state, has lived in the run
abbrev pub LivedIn : World → (place : BaysView → State) → Type 0
LivedIn world place = HasLived (place world.first) (place world.last)

-- A part of this, from the front, went to an output place; all of it where the place has lived, and nothing where it
-- was not live. By that what its port got grew, where that is told: the port is still in its place, or was retired and
-- keeps it.
pub record IsFrontOf (first last : OutView) (all written : List ℕ) : Type 0 where
  pub rest : List ℕ
  pub parts : written ++ rest ≡ all
  pub whole : HasLived first.state last.state → rest ≡ []
  pub idle : first.state ≢ Live → written ≡ []
  pub got : first.state ≡ Live → IsTold last → last.got ≡ after first.got written

-- so much of the file of a line
pub record FileWent (world : World) (b : ℕ) (written : List ℕ) : Type 0 where
  pub frames : List (List ℕ)
  pub file : IsLineFile world.plan world.inputs b (size_of (form_out world.plan b) * world.plan.turns) frames
  pub front : IsFrontOf (line_out_at world.first b) (line_out_at world.last b)
      (through_mask (form_out world.plan b).scrambled (concat frames)) written

-- To a client of the connection its text, of all that it gets in its own turns; to a line of it the line's file.
pub record LeftThrough (world : World) (written : OutputBytes) (x : Connection) : Type 0 where
  pub client : (n : ℕ) → x.to ≡ to_end.Client n
      → IsFrontOf (client_out_at world.first n) (client_out_at world.last n)
      (text_by x (own_input world.inputs x) (x.stop - first_turn x)) (written.client n)
  pub line : (b port : ℕ) (slots : LineSlots) → x.to ≡ to_end.Line b port slots → FileWent world b (written.line b)

-- So it is of each connection of a plan that was run.
abbrev pub OutputsAreThrough : Type 0
OutputsAreThrough = (world : World) (x : Connection) (is : IsWorld world) → Contains world.plan.connections x
    → LeftThrough world (bytes_out world is) x

-- ---- what is carried

-- what a reader sees of the output line, through its mask
abbrev pub read_of : World → OutputBytes → (b : ℕ) → List ℕ
read_of world written b = through_mask (form_out world.plan b).scrambled (written.line b)

-- These bytes are what the views of its tributary on this line carry, from the first turn of a connection up to turn u
-- + 1, by these numbers.
abbrev pub CarriedOn : Connection → (port : ℕ) → LineSlots → (line : List ℕ) → (bytes p : List ℕ) → (u : ℕ) → Type 0
CarriedOn x port slots line bytes p u = Arrives (tributary_of slots port) bytes p
    (view_at (tributary_of slots port) line) (first_turn x) (first_turn x) (first_turn x) u

-- What a connection carries in a run, to a place that has lived. From a line that carries a client's bytes to it: the
-- output line carries them too, by the same numbers three turns later. From a client or a signal: the front of its
-- stream, by the paces, a turn later. To a client, of packets that such a line carries: the text of exactly those whose
-- GFP frames lie whole in the frames that came whole, of what the sender took up to three turns before the stop.
pub record CarriedIn (world : World) (written : OutputBytes) (x : Connection) : Type 0 where
  pub line : (a from b port u w : ℕ) (slots others : LineSlots) (bytes p : List ℕ) → x.from ≡ from_end.Line a from slots
      → x.to ≡ to_end.Line b port others
      → LivedIn world (state_of_line b) → w ≤ u → w < x.stop
      → CarriedOn x from slots (world.inputs.line a) bytes p u
      → CarriedOn x port others (read_of world written b) bytes (0 ∷ 0 ∷ 0 ∷ p) w
  pub client : (m b port u n : ℕ) (slots : LineSlots) → x.from ≡ from_end.Client m → x.to ≡ to_end.Line b port slots
      → LivedIn world (state_of_line b) → u < x.stop → u ≤ first_turn x + n
      → CarriedOn x port slots (read_of world written b)
      (client_stream x.trace (world.inputs.client m).packets x.fcs (emitted_before x.pace n)) (numbers_got x.pace n) u
  pub signal : (signal : Signal) (b port u n : ℕ) (slots : LineSlots) → x.from ≡ from_end.Signal signal
      → x.to ≡ to_end.Line b port slots
      → LivedIn world (state_of_line b) → u < x.stop → u ≤ first_turn x + n
      → CarriedOn x port slots (read_of world written b) (signal_bytes signal 0 (emitted_before x.pace n))
      (numbers_got x.pace n) u
  pub packets : (a from n u k : ℕ) (slots : LineSlots) (sapi : List ℕ) (packets : List (List ℕ)) (fcs : Bool)
      (p : List ℕ) → x.from ≡ from_end.Line a from slots → x.to ≡ to_end.Client n
      → LivedIn world (state_of_client n) → x.stop ≤ u + 2 → AreOffered packets
      → CarriedOn x from slots (world.inputs.line a) (client_stream sapi packets fcs k) p u
      → written.client n ≡ hex_text (whole_packets packets fcs (sent p (x.stop - x.start - 2)))

-- So does each connection of a plan that was run.
abbrev pub RunsCarry : Type 0
RunsCarry = (world : World) (x : Connection) (is : IsWorld world) → Contains world.plan.connections x
    → CarriedIn world (bytes_out world is) x
