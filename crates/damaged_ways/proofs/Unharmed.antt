-- What an entry gets over a fibre that brings its tributary unharmed.
use Rattle.std.proofs.Common.{◌≡◌, ◌<◌, ◌≤◌, ◌+◌, ◌-◌, ◌*◌, ℕ, List, [], length, append-nil, sym, ap, ◌∙◌, subst, arith}
use Rattle.std.specs.List.{concat, Contains}
use Rattle.std.proofs.Math.Nat.{mul-le-mul_left}
use Rattle.otn_base.specs.LineSlots.{LineSlots, slots_of}
use Rattle.line_side.specs.LineForm.{size_of, through_mask}
use Rattle.line_side.proofs.Masks.{length_through}
use Rattle.plan_file.specs.declared.connection.Connection.{Connection}
use Rattle.plan_file.specs.declared.connection.ToEnd.TheVariants as to_end
use Rattle.tributary_model.specs.Places.{Tributary, tributary_of}
use Rattle.device_model.specs.Entries.{first_turn, form_out, own_turn, IsActive}
use Rattle.device_model.specs.Through.{own_input}
use Rattle.device_model.proofs.MadeFrames.{made_whole}
use Rattle.connection_laws.specs.UpToTurn.{AgreeInTurn, AgreeUpTo}
use Rattle.connection_laws.proofs.UpToTurn.{looks_not_ahead, shows_the_same_up_to}
use Rattle.connection_laws.proofs.WorldInputs.{sound_of}
use Rattle.run_laws.specs.RunsAlike.{World, IsWorld, bytes_out, state_of_line}
use Rattle.run_laws.specs.RunsThrough.{LivedIn, read_of}
use Rattle.run_laws.proofs.RunsAlike.{all_of}
use Rattle.run_laws.proofs.RunsThrough.{left_through}
use Rattle.network_laws.specs.Ways.{HaveTurns}
use Rattle.network_laws.proofs.Handing.{FileRead, Side, long_as, sides_agree, through_long}
use Rattle.network_laws.proofs.Isolation.{more_turns}
use Rattle.network_laws.proofs.ReadBack.{read_front}

-- ---- a turn

pub agree_back : (own : Tributary) (one other : List ℕ) (t : ℕ) → AgreeInTurn own one other t → AgreeInTurn own other one t
agree_back own one other t a = record { lock = sym a.lock; bytes = λ at n row column e l is. sym (a.bytes at n row column (a.lock ∙ e) l is) }

pub agree_on : (own : Tributary) (one two three : List ℕ) (t : ℕ) → AgreeInTurn own one two t → AgreeInTurn own two three t
    → AgreeInTurn own one three t
agree_on own one two three t a b = record {
  lock = a.lock ∙ b.lock;
  bytes = λ at n row column e l is. a.bytes at n row column e l is ∙ b.bytes at n row column (sym a.lock ∙ e) l is;
}

-- ---- what is written

-- what went to a line is read as a part from the front of its file
went_read : (world : World) (x : Connection) (is : IsWorld world) → Contains world.plan.connections x → (b port : ℕ) (slots : LineSlots)
    → x.to ≡ to_end.Line b port slots → FileRead world.plan world.inputs b (read_of world (bytes_out world is) b)
went_read world x is has b port slots to =
    let bytes = (bytes_out world is).line b in
    let w = (left_through world x is has).line b port slots to in
    let r = read_front (form_out world.plan b).scrambled bytes [] bytes w.front.rest (concat w.frames) (append-nil bytes) w.front.parts in
    record { frames = w.frames; file = w.file; behind = r.0; parts = r.1 }

-- how many own turns it has
abbrev pub all_own : Connection → ℕ
all_own x = x.stop - first_turn x

-- In a turn of the connection two nodes show it alike on their lines, where their inputs agree on what it comes from.
pub written_alike : (one other : World) (x : Connection) (first : IsWorld one) (second : IsWorld other) → Contains one.plan.connections x
    → Contains other.plan.connections x → AgreeUpTo x.from x (all_own x) one.inputs other.inputs
    → (b port past turns : ℕ) (slots : LineSlots) → x.to ≡ to_end.Line b port slots → IsActive x past → past < turns
    → HaveTurns (slots_of slots.kind) turns ((bytes_out one first).line b) → HaveTurns (slots_of slots.kind) turns ((bytes_out other second).line b)
    → AgreeInTurn (tributary_of slots port) (read_of one (bytes_out one first) b) (read_of other (bytes_out other second) b) past
written_alike one other x first second has has_too agree b port past turns slots to active less enough enough_too =
    let alike = looks_not_ahead x (all_own x) (own_input one.inputs x) (own_input other.inputs x)
    (shows_the_same_up_to one.plan x (all_own x) one.inputs other.inputs first.accepted has agree) in
    let bytes = (bytes_out one first).line b in
    let others = (bytes_out other second).line b in
    let stop = active.stop in
    let size = slots_of slots.kind in
    let mine : Side = record { plan = one.plan; inputs = one.inputs; line = read_of one (bytes_out one first) b } in
    let theirs : Side = record { plan = other.plan; inputs = other.inputs; line = read_of other (bytes_out other second) b } in
    sides_agree mine theirs x b port past slots
    (record {
      accepted = first.accepted;
      read = went_read one x first has b port slots to;
      sends = record { is_of = has; to = to; active = active };
      enough = through_long (form_out one.plan b).scrambled bytes (16320 * (size * (past + 1)))
          (more_turns size past turns (length bytes) (omega arith) enough);
    })
    (record {
      accepted = second.accepted;
      read = went_read other x second has_too b port slots to;
      sends = record { is_of = has_too; to = to; active = active };
      enough = through_long (form_out other.plan b).scrambled others (16320 * (size * (past + 1)))
          (more_turns size past turns (length others) (omega arith) enough_too);
    })
    (alike.got (own_turn x past + 1) (omega arith))

-- where the place of its line has lived, all frames of its turns went there
pub lived_turns : (world : World) (x : Connection) (is : IsWorld world) → Contains world.plan.connections x → (b port turns : ℕ) (slots : LineSlots)
    → x.to ≡ to_end.Line b port slots → LivedIn world (state_of_line b) → turns ≤ x.stop
    → HaveTurns (slots_of slots.kind) turns ((bytes_out world is).line b)
lived_turns world x is has b port turns slots to lived few =
    let bytes = (bytes_out world is).line b in
    let w = (left_through world x is has).line b port slots to in
    let mask = (form_out world.plan b).scrambled in
    let all : bytes ≡ through_mask mask (concat w.frames) = all_of bytes w.front.rest (through_mask mask (concat w.frames)) w.front.parts
    (w.front.whole lived) in
    let sound = sound_of world.plan x is.accepted has in
    let stop = sound.stop in
    let same : slots_of slots.kind ≡ size_of (form_out world.plan b) = ap slots_of (sound.to_line b port slots to).kind in
    let size : length bytes ≡ length (concat w.frames) = ap length all ∙ length_through mask (concat w.frames) in
    let made = made_whole world.plan world.inputs b (size_of (form_out world.plan b) * world.plan.turns) w.frames w.file in
    let long = long_as (size_of (form_out world.plan b) * world.plan.turns) (length (concat w.frames)) made in
    let most : size_of (form_out world.plan b) * turns ≤ size_of (form_out world.plan b) * world.plan.turns =
    mul-le-mul_left (size_of (form_out world.plan b)) (omega arith) in
    let enough : 16320 * (size_of (form_out world.plan b) * turns) ≤ length bytes = omega arith in
    subst (λ s. HaveTurns s turns bytes) (sym same) enough
