-- Two runs that share a connection show it alike on the lines that they write, to whoever reads these.
use Rattle.std.proofs.Common.{◌≡◌, ◌<◌, ◌≤◌, ◌+◌, ◌*◌, ◌/◌, ◌%◌, ℕ, Bool, List, ◌++◌, None, Some, length, refl, sym, ap, ◌∙◌, subst, arith}
use Rattle.std.specs.List.{concat, Contains}
use Rattle.otn_base.specs.LineSlots.{LineSlots, slots_of}
use Rattle.port_base.specs.Given.{IsWritten}
use Rattle.port_base.specs.Views.{line_out_at}
use Rattle.frame_geometry.specs.Places.{place_of}
use Rattle.line_side.specs.LineFile.{frame_at, mfas_of}
use Rattle.line_side.specs.LineForm.{size_of, through_mask}
use Rattle.line_side.proofs.Masks.{length_through}
use Rattle.multiframe.specs.LineTurns.{Lock, multiframe}
use Rattle.plan_file.specs.Answer.{fault_in}
use Rattle.plan_file.specs.declared.connection.Connection.{Connection}
use Rattle.plan_file.specs.declared.connection.ToEnd.TheVariants as to_end
use Rattle.plan_file.specs.declared.plan.Plan.{Plan}
use Rattle.tributary_model.specs.Places.{Tributary, tributary_of, byte_at, IsOwn}
use Rattle.device_model.specs.Entries.{form_out, own_turn, IsActive, IsSentOn}
use Rattle.device_model.specs.LineFiles.{IsLineFile}
use Rattle.device_model.specs.Through.{Inputs, own_input, got_by}
use Rattle.device_model.proofs.MadeFrames.{made_whole}
use Rattle.device_model.proofs.MadeTurns.{lock_at, next_turn}
use Rattle.connection_laws.specs.TwoWorlds.{FiledRun, HasFrame, HaveFrame}
use Rattle.connection_laws.specs.UpToTurn.{AgreeInTurn}
use Rattle.connection_laws.proofs.OwnBytes.{inside, sends_as_got}
use Rattle.connection_laws.proofs.UpToTurn.{looks_not_ahead, shows_the_same_up_to}
use Rattle.connection_laws.proofs.WorldInputs.{sound_of}
use Rattle.run_laws.specs.RunsAlike.{World, IsWorld, bytes_out}
use Rattle.run_laws.specs.SeenRuns.{Run, IsRun, LineGot, LineLived, ShareInputUpTo, read_back}
use Rattle.run_laws.proofs.RunsAlike.{all_of, byte_in, frame_made}
use Rattle.run_laws.proofs.RunsThrough.{left_through}
use Rattle.run_laws.proofs.SeenRuns.{taken_inputs, taken_may, world_of, is_world, line_got, agreeing_so_far}
use Rattle.network_laws.proofs.ReadBack.{read_front, front_multiframe}

-- ---- what is read of a line

-- a part from the front of the frames that a run made for a line
pub record FileRead (plan : Plan) (inputs : Inputs) (b : ℕ) (line : List ℕ) : Type 0 where
  pub frames : List (List ℕ)
  pub file : IsLineFile plan inputs b (size_of (form_out plan b) * plan.turns) frames
  pub behind : List ℕ
  pub parts : line ++ behind ≡ concat frames

pub file_read : (world : World) (x : Connection) (is : IsWorld world) → Contains world.plan.connections x
    → (b port : ℕ) (slots : LineSlots) (written brought cut : List ℕ) → x.to ≡ to_end.Line b port slots
    → IsWritten (line_out_at world.first b) (line_out_at world.last b) written → brought ++ cut ≡ written
    → FileRead world.plan world.inputs b (through_mask (form_out world.plan b).scrambled brought)
file_read world x is has b port slots written brought cut to went came =
    let w = (left_through world x is has).line b port slots to in
    let e = line_got world x is has b port slots written to went in
    let r = read_front (form_out world.plan b).scrambled brought cut written w.front.rest (concat w.frames) came
    (ap (λ l. l ++ w.front.rest) e ∙ w.front.parts) in
    record { frames = w.frames; file = w.file; behind = r.0; parts = r.1 }

-- ---- a turn of two of them

abbrev filed : Plan → Inputs → List (List ℕ) → FiledRun
filed plan inputs frames = record { plan = plan; inputs = inputs; frames = frames }

has_frame : (plan : Plan) (inputs : Inputs) (b port past n : ℕ) (x : Connection) (slots : LineSlots) (frames : List (List ℕ)) → fault_in plan ≡ None
    → IsSentOn plan b past x port slots
    → IsLineFile plan inputs b (size_of (form_out plan b) * plan.turns) frames → n < slots_of slots.kind
    → HasFrame (filed plan inputs frames) x b port past n slots
has_frame plan inputs b port past n x slots frames accepted sends file l =
    let sound = sound_of plan x accepted sends.is_of in
    let same : slots_of slots.kind ≡ size_of (form_out plan b) = ap slots_of (sound.to_line b port slots sends.to).kind in
    let stop = sound.stop in
    let active = sends.active.stop in
    let made = frame_made past n (size_of (form_out plan b)) plan.turns (omega arith) (omega arith) in
    record { accepted = accepted; sends = sends; count = size_of (form_out plan b) * plan.turns; file = file; made = omega arith }

of_some : (a b : Lock) → Some a ≡ Some b → a ≡ b
of_some a b e = cc

-- a byte of a frame of the turn is in front of the end of what came
in_turn : (size past n place many : ℕ) → n < size → place < 16320 → 16320 * (size * (past + 1)) ≤ many → 16320 * (size * past + n) + place < many
in_turn size past n place many l inner enough =
    let next = next_turn size past in
    omega arith

-- a plan that was carried, its inputs, and what came of the line that it wrote
pub record Side : Type 0 where
  pub plan : Plan
  pub inputs : Inputs
  pub line : List ℕ

-- of the connection it sends in the turn, and all frames of the turn came
pub record IsSide (side : Side) (x : Connection) (b port past : ℕ) (slots : LineSlots) : Type 0 where
  pub accepted : fault_in side.plan ≡ None
  pub read : FileRead side.plan side.inputs b side.line
  pub sends : IsSentOn side.plan b past x port slots
  pub enough : 16320 * (slots_of slots.kind * (past + 1)) ≤ length side.line

side_byte : (side : Side) (x : Connection) (b port past n row column : ℕ) (slots : LineSlots) (is : IsSide side x b port past slots) → n < slots_of slots.kind
    → place_of 4080 row column < 16320
    → byte_at (frame_at side.line (slots_of slots.kind * past + n)) row column ≡ byte_at
    (frame_at (concat is.read.frames) (slots_of slots.kind * past + n)) row column
side_byte side x b port past n row column slots is l inner =
    let f = slots_of slots.kind * past + n in
    byte_in f (place_of 4080 row column) side.line is.read.behind
    (in_turn (slots_of slots.kind) past n (place_of 4080 row column) (length side.line) l inner is.enough)
    ∙ ap (λ bytes. byte_at (frame_at bytes f) row column) is.read.parts

side_frame : (side : Side) (x : Connection) (b port past n : ℕ) (slots : LineSlots) (is : IsSide side x b port past slots) → n < slots_of slots.kind
    → HasFrame (filed side.plan side.inputs is.read.frames) x b port past n slots
side_frame side x b port past n slots is l = has_frame side.plan side.inputs b port past n x slots is.read.frames is.accepted is.sends is.read.file l

side_multiframe : (side : Side) (x : Connection) (b port past : ℕ) (slots : LineSlots) → IsSide side x b port past slots
    → multiframe (slots_of slots.kind) (mfas_of side.line) past ≡ Some (lock_at (slots_of slots.kind) past)
side_multiframe side x b port past slots is =
    front_multiframe side.plan side.inputs b (size_of (form_out side.plan b) * side.plan.turns) past slots.kind is.read.frames side.line is.read.behind
    is.read.file is.read.parts is.enough

same_byte : (one other : Side) (x : Connection) (b port past n row column : ℕ) (slots : LineSlots) → IsSide one x b port past slots
    → IsSide other x b port past slots
    → got_by x (own_input one.inputs x) (own_turn x past + 1) ≡ got_by x (own_input other.inputs x) (own_turn x past + 1)
    → n < slots_of slots.kind → IsOwn (tributary_of slots port) n ((slots_of slots.kind * past + n) % 256) row column
    → byte_at (frame_at one.line (slots_of slots.kind * past + n)) row column ≡ byte_at (frame_at other.line (slots_of slots.kind * past + n)) row column
same_byte one other x b port past n row column slots is is_too same l own =
    let inner = inside (tributary_of slots port) n ((slots_of slots.kind * past + n) % 256) row column own in
    let have : HaveFrame (filed one.plan one.inputs is.read.frames) (filed other.plan other.inputs is_too.read.frames) x b port past n row column slots =
    record {
      first = side_frame one x b port past n slots is l;
      second = side_frame other x b port past n slots is_too l;
      frame = l;
      own = own;
    } in
    side_byte one x b port past n row column slots is l inner
    ∙ sends_as_got (filed one.plan one.inputs is.read.frames) (filed other.plan other.inputs is_too.read.frames) x b port past n row column slots have same
    ∙ sym (side_byte other x b port past n row column slots is_too l inner)

own_there : (own : Tributary) (first n row column : ℕ) → IsOwn own n ((first % 256 + n) % 256) row column → IsOwn own n ((first + n) % 256) row column
own_there own first n row column has =
    let e : (first % 256 + n) % 256 ≡ (first + n) % 256 = omega arith in
    subst (λ k. IsOwn own n k row column) e has

-- both show the connection alike in the turn
pub sides_agree : (one other : Side) (x : Connection) (b port past : ℕ) (slots : LineSlots) → IsSide one x b port past slots → IsSide other x b port past slots
    → got_by x (own_input one.inputs x) (own_turn x past + 1) ≡ got_by x (own_input other.inputs x) (own_turn x past + 1)
    → AgreeInTurn (tributary_of slots port) one.line other.line past
sides_agree one other x b port past slots is is_too same =
    let first = side_multiframe one x b port past slots is in
    let second = side_multiframe other x b port past slots is_too in
    record {
      lock = first ∙ sym second;
      bytes = λ at n row column e l own.
          let lock : at ≡ lock_at (slots_of slots.kind) past = of_some at (lock_at (slots_of slots.kind) past) (sym e ∙ first) in
          let here : IsOwn (tributary_of slots port) n ((slots_of slots.kind * past % 256 + n) % 256) row column = subst
          (λ (k : Lock). IsOwn (tributary_of slots port) n ((k.expected + n) % 256) row column) lock own in
          subst (λ (k : Lock). byte_at (frame_at one.line (k.frame + n)) row column ≡ byte_at (frame_at other.line (k.frame + n)) row column) (sym lock)
          (same_byte one other x b port past n row column slots is is_too same l
          (own_there (tributary_of slots port) (slots_of slots.kind * past) n row column here));
    }

-- ---- in two runs

active_of : (x : Connection) (past : ℕ) → x.start ≤ past + 1 → past + 1 ≤ x.stop → IsActive x past
active_of x past start stop = record { start = start; stop = stop }

pub through_long : (scrambled : Bool) (bytes : List ℕ) (n : ℕ) → n ≤ length bytes → n ≤ length (through_mask scrambled bytes)
through_long scrambled bytes n h = let same = length_through scrambled bytes in omega arith

-- What came of the lines that two runs wrote shows a connection alike in a turn, where the runs agree in the turns
-- before it on what the connection comes from, and all frames of the turn came.
pub reads_alike : (n : ℕ) (one other : Run) (x : Connection) → IsRun one → IsRun other → ShareInputUpTo n one other x → (b port past : ℕ) (slots : LineSlots)
    → x.to ≡ to_end.Line b port slots
    → (written brought cut : List ℕ) → LineGot one b written → brought ++ cut ≡ written
    → (others came broken : List ℕ) → LineGot other b others → came ++ broken ≡ others
    → IsActive x past → own_turn x past ≤ n
    → 16320 * (slots_of slots.kind * (past + 1)) ≤ length brought → 16320 * (slots_of slots.kind * (past + 1)) ≤ length came
    → AgreeInTurn (tributary_of slots port) (read_back one b brought) (read_back other b came) past
reads_alike n one other x first second share b port past slots to written brought cut went parts others came broken went_too parts_too active so_far enough
    enough_too =
    let w = agreeing_so_far one other first second x n x.from refl share.first share.second share.agree in
    let is = is_world one first w.mine w.may in
    let is_too = is_world other second w.theirs w.may_too in
    let alike = looks_not_ahead x n (own_input w.mine x) (own_input w.theirs x)
    (shows_the_same_up_to one.plan x n w.mine w.theirs first.accepted share.first w.agree) in
    let mine : Side = record { plan = one.plan; inputs = w.mine; line = read_back one b brought } in
    let theirs : Side = record { plan = other.plan; inputs = w.theirs; line = read_back other b came } in
    sides_agree mine theirs x b port past slots
    (record {
      accepted = first.accepted;
      read = file_read (world_of one first w.mine) x is share.first b port slots written brought cut to went parts;
      sends = record { is_of = share.first; to = to; active = active };
      enough = through_long (form_out one.plan b).scrambled brought (16320 * (slots_of slots.kind * (past + 1))) enough;
    })
    (record {
      accepted = second.accepted;
      read = file_read (world_of other second w.theirs) x is_too share.second b port slots others came broken to went_too parts_too;
      sends = record { is_of = share.second; to = to; active = active };
      enough = through_long (form_out other.plan b).scrambled came (16320 * (slots_of slots.kind * (past + 1))) enough_too;
    })
    (alike.got (own_turn x past + 1) (omega (arith, so_far)))

-- ---- whole lines

pub long_as : (many bytes : ℕ) → bytes / 16320 ≡ many → 16320 * many ≤ bytes
long_as many bytes e = omega arith

-- where its place has lived, all frames of the turns of the plan went to a line
pub lived_long : (run : Run) (x : Connection) → IsRun run → Contains run.plan.connections x → (b port : ℕ) (slots : LineSlots) (written : List ℕ)
    → x.to ≡ to_end.Line b port slots → LineGot run b written → LineLived run b
    → 16320 * (size_of (form_out run.plan b) * run.plan.turns) ≤ length written
lived_long run x is has b port slots written to went lived =
    let inputs = taken_inputs run is.takings in
    let world = world_of run is inputs in
    let in_world = is_world run is inputs (taken_may run is.takings) in
    let w = (left_through world x in_world has).line b port slots to in
    let e = line_got world x in_world has b port slots written to went in
    let all : written ≡ through_mask (form_out run.plan b).scrambled (concat w.frames) = e
    ∙ all_of ((bytes_out world in_world).line b) w.front.rest (through_mask (form_out run.plan b).scrambled (concat w.frames)) w.front.parts
    (w.front.whole lived) in
    let size : length written ≡ length (concat w.frames) = ap length all ∙ length_through (form_out run.plan b).scrambled (concat w.frames) in
    let many = made_whole run.plan inputs b (size_of (form_out run.plan b) * run.plan.turns) w.frames w.file in
    let long = long_as (size_of (form_out run.plan b) * run.plan.turns) (length (concat w.frames)) many in
    omega arith
