-- What went to the outputs of a run is what its connections put through, and carries what they carried.
use Rattle.std.proofs.Common.{true, false, ◌≡◌, ◌≢◌, ◌<◌, ◌≤◌, ◌+◌, ◌-◌, ◌*◌, ℕ, Bool, List, ◌∷◌, Option, length, refl, sym, ap, ◌∙◌, subst, inl, inr, arith}
use Rattle.std.specs.List.{Contains, concat}
use Rattle.std.proofs.Math.Nat.{mul-le-mul_left}
use Rattle.std.proofs.lemmas.Option.{slice_get_read}
use Rattle.std.specs.Prelude.{slice_get, Some}
use Rattle.otn_base.specs.LineSlots.{LineSlots}
use Rattle.port_base.specs.Given.{IsTold}
use Rattle.port_base.specs.Retiring.{told_by, retired_out_as}
use Rattle.port_base.specs.Views.{State, Empty, Live, Dead, OutView, line_out_at, client_out_at}
use Rattle.packet_text.specs.PacketText.{hex_text}
use Rattle.line_side.specs.LineForm.{size_of, through_mask}
use Rattle.line_side.proofs.LineFiles.{twice}
use Rattle.maintenance_signals.specs.Stream.{signal_bytes}
use Rattle.maintenance_signals.specs.declared.signal.Signal.{Signal}
use Rattle.odu_client.specs.ClientFrames.{client_stream}
use Rattle.odu_client.specs.ClientInput.{emitted_before}
use Rattle.odu_client.specs.ClientOutput.{arriving_packets, arriving_text}
use Rattle.plan_file.specs.declared.connection.Connection.{Connection}
use Rattle.plan_file.specs.declared.connection.FromEnd.TheVariants as from_end
use Rattle.plan_file.specs.declared.connection.ToEnd.TheVariants as to_end
use Rattle.tributary_model.specs.Carries.{sent}
use Rattle.connection_laws.specs.Carried.{GoesTo, HasPaces, IsMadeTo, numbers_got}
use Rattle.connection_laws.specs.Delivery.{AreOffered, whole_packets}
use Rattle.device_model.specs.Entries.{first_turn, form_out}
use Rattle.device_model.specs.LineFiles.{IsLineFile}
use Rattle.device_model.specs.Through.{own_input, arrived_by, text_by}
use Rattle.connection_laws.proofs.Accepted.{goes_as_asked, has_as_many_slots}
use Rattle.connection_laws.proofs.Carried.{carries_on}
use Rattle.connection_laws.proofs.CarriedFrom.{carries_a_client, carries_a_signal}
use Rattle.connection_laws.proofs.Delivery.{delivers_its_packets}
use Rattle.connection_laws.proofs.GotStreams.{gets_the_stream, gets_the_signal}
use Rattle.device_model.proofs.SoundPlans.{sound_plan}
use Rattle.device_model.specs.RunLeft.{LineOutLeft}
use Rattle.device_model.specs.RetiredPlaces.{out_after_retire}
use Rattle.run_laws.specs.RunsAlike.{World, IsWorld, state_of_line, state_of_client, bytes_out}
use Rattle.run_laws.specs.RunsThrough.{LivedIn, IsFrontOf, FileWent, LeftThrough, read_of, CarriedOn, CarriedIn}
use Rattle.run_laws.proofs.RunsAlike.{all_of, lived_on, sound_in, client_left, text_in, text_lived, line_left, dead_stays}

-- ---- outputs

-- what a place's port got is told behind its connection's stop as before, where it is told at all
told_same : (keeps : Bool) (got : Option (List ℕ)) → keeps ≡ true → told_by keeps got ≡ got
told_same true got e = refl
told_same false got e = absurd (cc)

kept_by : (was : OutView) (state : State) → IsTold (retired_out_as state was) → (retired_out_as state was).got ≡ was.got
kept_by was Live (inl some) = absurd (some refl)
kept_by was Live (inr keeps) = told_same was.keeps was.got keeps
kept_by was Empty told = refl
kept_by was Dead told = refl

kept_out : (retires : Bool) (was last : OutView) → last ≡ out_after_retire retires was → IsTold last → last.got ≡ was.got
kept_out false was last place told = ap (λ v. v.got) place
kept_out true was last place told = ap (λ v. v.got) place ∙ kept_by was was.state (subst IsTold place told)

client_front : (world : World) (x : Connection) (n : ℕ) (is : IsWorld world) → Contains world.plan.connections x → x.to ≡ to_end.Client n
    → IsFrontOf (client_out_at world.first n) (client_out_at world.last n) (text_by x (own_input world.inputs x) (x.stop - first_turn x)) ((bytes_out world is).client n)
client_front world x n is has to =
    let l = client_left world x n is has to in
    record {
      rest = l.left.rest;
      parts = l.left.parts ∙ text_in world x is has;
      whole = λ lived.
          let not : l.was.state ≢ Dead = λ dead. lived.is (ap (λ v. v.state) l.place ∙ dead_stays x.retire l.was dead) in
          l.left.whole (lived_on (client_out_at world.first n) l.was l.left.gained.state lived.was not);
      idle = λ not. (l.left.gained.idle not).1;
      got = λ live told. kept_out x.retire l.was (client_out_at world.last n) l.place told ∙ l.left.gained.sends.got;
    }

no_more : (n : ℕ) → n + 0 ≡ n
no_more n = omega arith

line_front : (world : World) (b : ℕ) (written : List ℕ) → LineOutLeft world.plan world.inputs b (line_out_at world.first b) written (line_out_at world.last b) → FileWent world b written
line_front world b written l = record {
  frames = l.is_due.frames;
  file = subst (λ n. IsLineFile world.plan world.inputs b n l.is_due.frames) (no_more (size_of (form_out world.plan b) * world.plan.turns)) l.is_due.file;
  front = record {
    rest = l.left.rest;
    parts = l.left.parts ∙ l.is_due.bytes;
    whole = λ lived. l.left.whole (lived_on (line_out_at world.first b) (line_out_at world.last b) l.left.gained.state lived.was lived.is);
    idle = λ not. (l.left.gained.idle not).1;
    got = λ live some. l.left.gained.sends.got;
  };
}

pub left_through : (world : World) (x : Connection) (is : IsWorld world) → Contains world.plan.connections x → LeftThrough world (bytes_out world is) x
left_through world x is has = record {
  client = λ n to. client_front world x n is has to;
  line = λ b port slots to. line_front world b ((bytes_out world is).line b) (line_left world x b port slots is has to);
}

-- ---- what a line carries

-- what is read of a line that has lived is its file
pub read_back : (world : World) (b : ℕ) (written : List ℕ) (f : FileWent world b written) → LivedIn world (state_of_line b) → through_mask (form_out world.plan b).scrambled written ≡ concat f.frames
read_back world b written f lived =
    let s = (form_out world.plan b).scrambled in
    ap (through_mask s) (all_of written f.front.rest (through_mask s (concat f.frames)) f.front.parts (f.front.whole lived)) ∙ twice s (concat f.frames)

pub made_to : (world : World) (x : Connection) (b u : ℕ) (written : List ℕ) → IsWorld world → Contains world.plan.connections x → (f : FileWent world b written) → u < x.stop
    → IsMadeTo world.plan world.inputs x b u f.frames
made_to world x b u written is has f less =
    let stop = (sound_in world x is has).stop in
    record {
      count = size_of (form_out world.plan b) * world.plan.turns;
      file = f.file;
      enough = mul-le-mul_left (size_of (form_out world.plan b)) (omega arith);
      active = less;
    }

pub entry : (world : World) (x : Connection) → (c : Contains world.plan.connections x) → slice_get world.plan.connections c.0 ≡ Some x
entry world x c = slice_get_read world.plan.connections (length world.plan.connections) c.0 x refl c.1 (sym c.2)

pub goes : (world : World) (x : Connection) (b port : ℕ) (slots : LineSlots) → IsWorld world → Contains world.plan.connections x → x.to ≡ to_end.Line b port slots
    → GoesTo world.plan x b port slots × HasPaces (length slots.list) x.pace
goes world x b port slots is has to = goes_as_asked world.plan has.0 b port x slots (sound_plan world.plan is.accepted) (entry world x has) to

pub file_of : (world : World) (x : Connection) (b port : ℕ) (slots : LineSlots) (is : IsWorld world) → Contains world.plan.connections x → x.to ≡ to_end.Line b port slots → FileWent world b ((bytes_out world is).line b)
file_of world x b port slots is has to = line_front world b ((bytes_out world is).line b) (line_left world x b port slots is has to)

carried_line : (world : World) (x : Connection) (is : IsWorld world) → Contains world.plan.connections x → (a from b port u w : ℕ) (slots others : LineSlots) (bytes p : List ℕ) → x.from ≡ from_end.Line a from slots
    → x.to ≡ to_end.Line b port others → LivedIn world (state_of_line b) → w ≤ u → w < x.stop → CarriedOn x from slots (world.inputs.line a) bytes p u
    → CarriedOn x port others (read_of world (bytes_out world is) b) bytes (0 ∷ 0 ∷ 0 ∷ p) w
carried_line world x is has a from b port u w slots others bytes p comes to lived le less arrives =
    let f = file_of world x b port others is has to in
    let same = has_as_many_slots world.plan has.0 a from b port x slots others (sound_plan world.plan is.accepted) (entry world x has) comes to in
    subst (λ line. CarriedOn x port others line bytes (0 ∷ 0 ∷ 0 ∷ p) w) (sym (read_back world b ((bytes_out world is).line b) f lived))
    (carries_on world.plan world.inputs x a from b port u w slots others f.frames bytes p comes (goes world x b port others is has to).0 same
    (made_to world x b w ((bytes_out world is).line b) is has f less) le arrives)

carried_client : (world : World) (x : Connection) (is : IsWorld world) → Contains world.plan.connections x → (m b port u n : ℕ) (slots : LineSlots) → x.from ≡ from_end.Client m → x.to ≡ to_end.Line b port slots
    → LivedIn world (state_of_line b) → u < x.stop → u ≤ first_turn x + n
    → CarriedOn x port slots (read_of world (bytes_out world is) b) (client_stream x.trace (world.inputs.client m).packets x.fcs (emitted_before x.pace n)) (numbers_got x.pace n) u
carried_client world x is has m b port u n slots comes to lived less high =
    let f = file_of world x b port slots is has to in
    let asked = goes world x b port slots is has to in
    let h : CarriedOn x port slots (concat f.frames) (arrived_by x (own_input world.inputs x) (n + 1)) (numbers_got x.pace n) u
    = carries_a_client x m comes world.plan world.inputs b port u n slots f.frames asked.0 asked.1 (made_to world x b u ((bytes_out world is).line b) is has f less) high in
    subst (λ line. CarriedOn x port slots line (client_stream x.trace (world.inputs.client m).packets x.fcs (emitted_before x.pace n)) (numbers_got x.pace n) u)
    (sym (read_back world b ((bytes_out world is).line b) f lived))
    (subst (λ bytes. CarriedOn x port slots (concat f.frames) bytes (numbers_got x.pace n) u) (gets_the_stream x world.inputs m n comes) h)

carried_signal : (world : World) (x : Connection) (is : IsWorld world) → Contains world.plan.connections x → (signal : Signal) (b port u n : ℕ) (slots : LineSlots) → x.from ≡ from_end.Signal signal
    → x.to ≡ to_end.Line b port slots → LivedIn world (state_of_line b) → u < x.stop → u ≤ first_turn x + n
    → CarriedOn x port slots (read_of world (bytes_out world is) b) (signal_bytes signal 0 (emitted_before x.pace n)) (numbers_got x.pace n) u
carried_signal world x is has signal b port u n slots comes to lived less high =
    let f = file_of world x b port slots is has to in
    let asked = goes world x b port slots is has to in
    let h : CarriedOn x port slots (concat f.frames) (arrived_by x (own_input world.inputs x) (n + 1)) (numbers_got x.pace n) u
    = carries_a_signal x signal comes world.plan world.inputs b port u n slots f.frames asked.0 asked.1 (made_to world x b u ((bytes_out world is).line b) is has f less) high in
    subst (λ line. CarriedOn x port slots line (signal_bytes signal 0 (emitted_before x.pace n)) (numbers_got x.pace n) u) (sym (read_back world b ((bytes_out world is).line b) f lived))
    (subst (λ bytes. CarriedOn x port slots (concat f.frames) bytes (numbers_got x.pace n) u) (gets_the_signal x world.inputs signal n comes) h)

-- ---- what a client gets

text_of_packets : (bytes : List ℕ) → arriving_text bytes ≡ hex_text (arriving_packets bytes)
unfolding arriving_text
text_of_packets bytes = refl

-- its turns but the first
own_turns : (start stop : ℕ) → 1 ≤ start → start ≤ stop → stop - (start - 1) ≡ stop - start + 1
own_turns start stop low le = omega arith

carried_packets : (world : World) (x : Connection) (is : IsWorld world) → Contains world.plan.connections x → (a from n u k : ℕ) (slots : LineSlots) (sapi : List ℕ) (packets : List (List ℕ)) (fcs : Bool) (p : List ℕ)
    → x.from ≡ from_end.Line a from slots → x.to ≡ to_end.Client n → LivedIn world (state_of_client n) → x.stop ≤ u + 2 → AreOffered packets
    → CarriedOn x from slots (world.inputs.line a) (client_stream sapi packets fcs k) p u → (bytes_out world is).client n ≡ hex_text (whole_packets packets fcs (sent p (x.stop - x.start - 2)))
carried_packets world x is has a from n u k slots sapi packets fcs p comes to lived most offered arrives =
    let sound = sound_in world x is has in
    let low = sound.start in
    let span = sound.span in
    let own = own_input world.inputs x in
    text_lived world x n is has to lived ∙ text_in world x is has ∙ text_of_packets (arrived_by x own (x.stop - first_turn x))
    ∙ ap (λ t. hex_text (arriving_packets (arrived_by x own t))) (own_turns x.start x.stop low span)
    ∙ ap hex_text (delivers_its_packets world.inputs x a from u (x.stop - x.start) k slots sapi packets fcs p comes (omega arith) offered arrives)

pub carried_in : (world : World) (x : Connection) (is : IsWorld world) → Contains world.plan.connections x → CarriedIn world (bytes_out world is) x
carried_in world x is has = record {
  line = carried_line world x is has;
  client = carried_client world x is has;
  signal = carried_signal world x is has;
  packets = carried_packets world x is has;
}
