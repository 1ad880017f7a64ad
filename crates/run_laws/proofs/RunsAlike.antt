-- What left on a connection that two runs share is the same, as far as both have gone.
use Rattle.std.proofs.Common.{◌≡◌, ◌≢◌, ◌<◌, ◌≤◌, ◌+◌, ◌-◌, ◌*◌, ◌/◌, ◌%◌, inl, inr, min, ℕ, zero, suc, Bool, true, false, List, [], ◌∷◌, ◌++◌, Some, length, slice_index, take, drop, slice_get, nat_le, ◌&&◌, if◌then◌else◌, refl, sym, ap, ◌∙◌, subst, arith, append-nil, length-drop, mul_comm, ◌==◌, None}
use Rattle.std.specs.List.{Contains, concat}
use Rattle.std.proofs.lemmas.Nat.{mul-add-lt}
use Rattle.std.proofs.lemmas.List.{drop-append-le}
use Rattle.std.proofs.lemmas.Option.{slice_get_read}
use Rattle.std.proofs.lemmas.Bool.Decides.{nat_tests}
use Rattle.otn_base.specs.LineSlots.{LineSlots, slots_of}
use Rattle.port_base.specs.Given.{Lives}
use Rattle.port_base.specs.Retiring.{retired_out_as}
use Rattle.port_base.specs.Views.{State, Live, Dead, OutView, line_out_at, client_out_at}
use Rattle.frame_geometry.specs.Places.{place_of}
use Rattle.line_side.specs.LineFile.{frame_at, whole_frames}
use Rattle.line_side.specs.LineForm.{size_of, through_mask}
use Rattle.line_side.proofs.Masks.{length_through}
use Rattle.plan_file.specs.declared.connection.Connection.{Connection}
use Rattle.plan_file.specs.declared.connection.FromEnd.TheVariants as from_end
use Rattle.plan_file.specs.declared.connection.ToEnd.TheVariants as to_end
use Rattle.tributary_model.specs.Places.{byte_at, tributary_of}
use Rattle.device_model.specs.Entries.{first_turn, own_turn, form_out}
use Rattle.device_model.specs.Moments.{turns_done, client_due}
use Rattle.device_model.specs.Numbers.{client_numbers, output_numbers, last_state}
use Rattle.connection_laws.specs.OneDamaged.{LeavesAlikeInItsTurns}
use Rattle.device_model.specs.SoundPlans.{IsSoundEntry}
use Rattle.device_model.specs.Through.{OwnInput, own_input, got_by, arrived_by, text_by, state_in}
use Rattle.connection_laws.specs.TwoWorlds.{SameInput, AgreeOnEnd, HasFrame, HaveFrame, HaveSameByte, FiledRun, written}
use Rattle.device_model.proofs.MadeFrames.{made_whole}
use Rattle.connection_laws.proofs.OwnBytes.{inside, writes_as_got}
use Rattle.connection_laws.proofs.WorldInputs.{gives_the_same_input, leaves_the_same, sound_of}
use Rattle.device_model.specs.RunLeft.{LineOutLeft, ClientOutLeft}
use Rattle.run_laws.specs.RunsAlike.{World, IsWorld, ShareOne, IsFrontOfOther, HasLived, BothLived, HasPlace, HasGone, LeftAlike, state_of_client, bytes_out}
use Rattle.device_model.specs.RetiredPlaces.{out_after_retire}
use Rattle.device_model.proofs.ConnectionPorts.{to_line_used}

-- ---- two texts of one

pub one_front : (xs r ys s : List ℕ) → xs ++ r ≡ ys ++ s → IsFrontOfOther xs ys
one_front [] r ys s e = inl (ys, refl)
one_front (x ∷ xs) r [] s e = inr (x ∷ xs, refl)
one_front (x ∷ xs) r (y ∷ ys) s e =
    let head : x ≡ y = cc in
    let tail : xs ++ r ≡ ys ++ s = cc in
    elim (one_front xs r ys s tail) as (λ h. IsFrontOfOther (x ∷ xs) (y ∷ ys)) [
      | inl t ↦ inl (t.0, ap (λ l. x ∷ l) t.1 ∙ ap (λ a. a ∷ ys) head)
      | inr t ↦ inr (t.0, ap (λ l. y ∷ l) t.1 ∙ ap (λ a. a ∷ xs) (sym head))
    ]

pub all_of : (sent rest due : List ℕ) → sent ++ rest ≡ due → rest ≡ [] → sent ≡ due
all_of sent rest due parts none = sym (append-nil sent) ∙ sym (ap (λ r. sent ++ r) none) ∙ parts

-- ---- a place that has lived

pub lived_on : (first was : OutView) → Lives first.state was.state first.faults was.faults → first.state ≡ Live → was.state ≢ Dead → was.state ≡ Live
lived_on first was (inl same) live not = same.0 ∙ live
lived_on first was (inr died) live not = absurd (not died.1)

pub dead_stays : (retires : Bool) (was : OutView) → was.state ≡ Dead → (out_after_retire retires was).state ≡ Dead
dead_stays false was dead = dead
dead_stays true was dead = ap (λ s. (retired_out_as s was).state) dead ∙ dead

-- ---- what went to a client

pub sound_in : (world : World) (x : Connection) → IsWorld world → Contains world.plan.connections x → IsSoundEntry world.plan x
sound_in world x is has = sound_of world.plan x is.accepted has

-- its turns, when all turns of its plan are done
no_piece : (b : Bool) → ◌≡◌ {A = ℕ} (if b then 0 else 0) 0
no_piece true = refl
no_piece false = refl

pub all_turns : (x : Connection) (turns : ℕ) → x.stop ≤ turns → turns_done x turns 0 ≡ x.stop - first_turn x
all_turns x turns most =
    let low : min turns x.stop ≡ x.stop = omega arith in
    let none = no_piece (nat_le x.start (turns + 1) && nat_le (turns + 1) x.stop) in
    ap (λ n. min turns x.stop - first_turn x + n) none ∙ ap (λ n. n - first_turn x + 0) low ∙ omega arith

pub client_left : (world : World) (x : Connection) (n : ℕ) (is : IsWorld world) → Contains world.plan.connections x → x.to ≡ to_end.Client n
    → ClientOutLeft world.plan world.inputs x (client_out_at world.first n) ((bytes_out world is).client n) (client_out_at world.last n)
client_left world x n is has to = (is.left.of_inputs world.inputs is.may_be).outputs.client x n has to

pub text_in : (world : World) (x : Connection) (is : IsWorld world) → Contains world.plan.connections x
    → client_due x (own_input world.inputs x) world.plan.turns 0 ≡ text_by x (own_input world.inputs x) (x.stop - first_turn x)
text_in world x is has = ap (text_by x (own_input world.inputs x)) (all_turns x world.plan.turns (sound_in world x is has).stop)

pub text_lived : (world : World) (x : Connection) (n : ℕ) (is : IsWorld world) → Contains world.plan.connections x → x.to ≡ to_end.Client n
    → HasLived (client_out_at world.first n).state (client_out_at world.last n).state → (bytes_out world is).client n ≡ client_due x (own_input world.inputs x) world.plan.turns 0
text_lived world x n is has to lived =
    let l = client_left world x n is has to in
    let not : l.was.state ≢ Dead = λ dead. lived.is (ap (λ v. v.state) l.place ∙ dead_stays x.retire l.was dead) in
    all_of ((bytes_out world is).client n) l.left.rest (client_due x (own_input world.inputs x) world.plan.turns 0) l.left.parts
    (l.left.whole (lived_on (client_out_at world.first n) l.was l.left.gained.state lived.was not))

-- ---- what went to a line

pub line_left : (world : World) (x : Connection) (b number : ℕ) (slots : LineSlots) (is : IsWorld world) → Contains world.plan.connections x → x.to ≡ to_end.Line b number slots
    → LineOutLeft world.plan world.inputs b (line_out_at world.first b) ((bytes_out world is).line b) (line_out_at world.last b)
line_left world x b number slots is has to =
    let at = slice_get_read world.plan.connections (length world.plan.connections) has.0 x refl has.1 (sym has.2) in
    (is.left.of_inputs world.inputs is.may_be).outputs.line b (to_line_used world.plan has.0 b number slots x at to)

-- a byte that stands in the front of a list is that of the list
front_byte : (size place : ℕ) (xs ys : List ℕ) → place < length xs → slice_index (take size xs) place ≡ slice_index (take size (xs ++ ys)) place
front_byte zero place xs ys less = refl
front_byte (suc size) place [] ys less = absurd (omega arith)
front_byte (suc size) zero (x ∷ xs) ys less = refl
front_byte (suc size) (suc place) (x ∷ xs) ys less = front_byte size place xs ys (omega arith)

-- so is one of a frame
pub byte_in : (f place : ℕ) (xs ys : List ℕ) → 16320 * f + place < length xs → slice_index (frame_at xs f) place ≡ slice_index (frame_at (xs ++ ys) f) place
unfolding frame_at
byte_in f place xs ys less =
    let rest : place < length (drop (16320 * f) xs) = omega (arith, length-drop (16320 * f) xs) in
    front_byte 16320 place (drop (16320 * f) xs) ys rest ∙ sym (ap (λ l. slice_index (take 16320 l) place) (drop-append-le (16320 * f) xs ys (omega arith)))

run_at : (world : World) (b : ℕ) (sent : List ℕ) → LineOutLeft world.plan world.inputs b (line_out_at world.first b) sent (line_out_at world.last b) → FiledRun
run_at world b sent l = record { plan = world.plan; inputs = world.inputs; frames = l.is_due.frames }

-- a byte of what went is that of the file
went_byte : (world : World) (b f row column : ℕ) (sent : List ℕ) (l : LineOutLeft world.plan world.inputs b (line_out_at world.first b) sent (line_out_at world.last b)) → HasGone sent f row column
    → HaveSameByte sent (written (run_at world b sent l) b) f row column
unfolding run_at
went_byte world b f row column sent l has =
    byte_in f (place_of 4080 row column) sent l.left.rest has ∙ ap (λ bytes. byte_at (frame_at bytes f) row column) (l.left.parts ∙ l.is_due.bytes)

pub frame_made : (past n size turns : ℕ) → past < turns → n < size → size * past + n < size * turns + 0
frame_made past n size turns p l =
    let h = mul-add-lt past size n turns p l in
    omega (arith, mul_comm size past)

-- frame n of the turn is one of the file
has_frame : (world : World) (x : Connection) (b number past n row column : ℕ) (slots : LineSlots) (sent : List ℕ) → IsWorld world → Contains world.plan.connections x → HasPlace x b number past n row column slots
    → (l : LineOutLeft world.plan world.inputs b (line_out_at world.first b) sent (line_out_at world.last b)) → HasFrame (run_at world b sent l) x b number past n slots
unfolding run_at
has_frame world x b number past n row column slots sent is has place l =
    let sound = sound_in world x is has in
    let same : slots_of slots.kind ≡ size_of (form_out world.plan b) = ap slots_of (sound.to_line b number slots place.to).kind in
    let stop = sound.stop in
    let active = place.active.stop in
    let frame = place.frame in
    record {
      accepted = is.accepted;
      sends = record { is_of = has; to = place.to; active = place.active };
      count = size_of (form_out world.plan b) * world.plan.turns + 0;
      file = l.is_due.file;
      made = frame_made past n (size_of (form_out world.plan b)) world.plan.turns (omega arith) (omega arith);
    }

-- a place of a whole frame is in front of the bytes' end
frame_gone : (f place size : ℕ) → f < size / 16320 → place < 16320 → 16320 * f + place < size
frame_gone f place size less inner = omega arith

-- where the line has lived all frames of the plan's turns went whole
pub line_lived : (world : World) (b : ℕ) (sent : List ℕ) (l : LineOutLeft world.plan world.inputs b (line_out_at world.first b) sent (line_out_at world.last b))
    → HasLived (line_out_at world.first b).state (line_out_at world.last b).state → whole_frames sent ≡ size_of (form_out world.plan b) * world.plan.turns + 0
line_lived world b sent l lived =
    let live = lived_on (line_out_at world.first b) (line_out_at world.last b) l.left.gained.state lived.was lived.is in
    let all : sent ≡ through_mask (form_out world.plan b).scrambled (concat l.is_due.frames) = all_of sent l.left.rest l.due l.left.parts (l.left.whole live) ∙ l.is_due.bytes in
    ap whole_frames all ∙ ap (λ n. n / 16320) (length_through (form_out world.plan b).scrambled (concat l.is_due.frames))
    ∙ made_whole world.plan world.inputs b (size_of (form_out world.plan b) * world.plan.turns + 0) l.is_due.frames l.is_due.file

pub all_gone : (world : World) (x : Connection) (b number past n row column : ℕ) (slots : LineSlots) (sent : List ℕ) → IsWorld world → Contains world.plan.connections x → HasPlace x b number past n row column slots
    → LineOutLeft world.plan world.inputs b (line_out_at world.first b) sent (line_out_at world.last b)
    → HasLived (line_out_at world.first b).state (line_out_at world.last b).state → HasGone sent (slots_of slots.kind * past + n) row column
all_gone world x b number past n row column slots sent is has place l lived =
    let sound = sound_in world x is has in
    let same : slots_of slots.kind ≡ size_of (form_out world.plan b) = ap slots_of (sound.to_line b number slots place.to).kind in
    let stop = sound.stop in
    let active = place.active.stop in
    let frame = place.frame in
    let whole = line_lived world b sent l lived in
    let made = frame_made past n (size_of (form_out world.plan b)) world.plan.turns (omega arith) (omega arith) in
    let size = ap (λ s. s * past + n) same in
    let f = slots_of slots.kind * past + n in
    let inner : place_of 4080 row column < 16320 = inside (tributary_of slots number) n (f % 256) row column place.own in
    let less : f < whole_frames sent = omega arith in
    frame_gone f (place_of 4080 row column) (length sent) less inner

-- ---- both

-- two runs that carry the connection, on which the same leaves in each of its turns, and a client that it comes from is
-- the same
pub record CarryAlike (one other : World) (x : Connection) : Type 0 where
  pub first : Contains one.plan.connections x
  pub second : Contains other.plan.connections x
  pub alike : LeavesAlikeInItsTurns x (own_input one.inputs x) (own_input other.inputs x)
  pub client : (n : ℕ) → x.from ≡ from_end.Client n → one.inputs.client n ≡ other.inputs.client n

-- all its turns
own_all : (world : World) (x : Connection) → IsWorld world → Contains world.plan.connections x → first_turn x + (x.stop - first_turn x) ≤ x.stop
own_all world x is has = let sound = sound_in world x is has in let span = sound.span in omega arith

same_due : (one other : World) (x : Connection) → IsWorld one → IsWorld other → CarryAlike one other x
    → client_due x (own_input one.inputs x) one.plan.turns 0 ≡ client_due x (own_input other.inputs x) other.plan.turns 0
same_due one other x first second share =
    let same = share.alike.text (x.stop - first_turn x) (own_all one x first share.first) in
    text_in one x first share.first ∙ same ∙ sym (text_in other x second share.second)

same_text : (one other : World) (x : Connection) (first : IsWorld one) (second : IsWorld other) → CarryAlike one other x → (n : ℕ) → x.to ≡ to_end.Client n
    → IsFrontOfOther ((bytes_out one first).client n) ((bytes_out other second).client n)
same_text one other x first second share n to =
    let l = client_left one x n first share.first to in
    let r = client_left other x n second share.second to in
    one_front ((bytes_out one first).client n) l.left.rest ((bytes_out other second).client n) r.left.rest (l.left.parts ∙ same_due one other x first second share ∙ sym r.left.parts)

same_whole : (one other : World) (x : Connection) (first : IsWorld one) (second : IsWorld other) → CarryAlike one other x → (n : ℕ) → x.to ≡ to_end.Client n
    → BothLived one other (state_of_client n) → (bytes_out one first).client n ≡ (bytes_out other second).client n
same_whole one other x first second share n to lived =
    text_lived one x n first share.first to lived.first ∙ same_due one other x first second share ∙ sym (text_lived other x n second share.second to lived.second)

same_bytes : (one other : World) (x : Connection) (b number past n row column : ℕ) (slots : LineSlots) (sent others : List ℕ)
    (l : LineOutLeft one.plan one.inputs b (line_out_at one.first b) sent (line_out_at one.last b)) (r : LineOutLeft other.plan other.inputs b (line_out_at other.first b) others (line_out_at other.last b))
    → HaveFrame (run_at one b sent l) (run_at other b others r) x b number past n row column slots
    → got_by x (own_input one.inputs x) (own_turn x past + 1) ≡ got_by x (own_input other.inputs x) (own_turn x past + 1)
    → (form_out one.plan b).scrambled ≡ (form_out other.plan b).scrambled → HaveSameByte (written (run_at one b sent l) b) (written (run_at other b others r) b) (slots_of slots.kind * past + n) row column
unfolding run_at
same_bytes one other x b number past n row column slots sent others l r have same mask =
    writes_as_got (run_at one b sent l) (run_at other b others r) x b number past n row column slots have same mask

-- where the same was got up to the turn, its frames have the same bytes at the own places
pub places_as_got : (one other : World) (x : Connection) (first : IsWorld one) (second : IsWorld other) → Contains one.plan.connections x → Contains other.plan.connections x → (b number past n row column : ℕ) (slots : LineSlots)
    → HasPlace x b number past n row column slots → got_by x (own_input one.inputs x) (own_turn x past + 1) ≡ got_by x (own_input other.inputs x) (own_turn x past + 1)
    → (form_out one.plan b).scrambled ≡ (form_out other.plan b).scrambled
    → HasGone ((bytes_out one first).line b) (slots_of slots.kind * past + n) row column → HasGone ((bytes_out other second).line b) (slots_of slots.kind * past + n) row column
    → HaveSameByte ((bytes_out one first).line b) ((bytes_out other second).line b) (slots_of slots.kind * past + n) row column
places_as_got one other x first second has has_too b number past n row column slots place same mask sent others =
    let f = slots_of slots.kind * past + n in
    let l = line_left one x b number slots first has place.to in
    let r = line_left other x b number slots second has_too place.to in
    let have : HaveFrame (run_at one b ((bytes_out one first).line b) l) (run_at other b ((bytes_out other second).line b) r) x b number past n row column slots = record {
      first = has_frame one x b number past n row column slots ((bytes_out one first).line b) first has place l;
      second = has_frame other x b number past n row column slots ((bytes_out other second).line b) second has_too place r;
      frame = place.frame;
      own = place.own;
    } in
    went_byte one b f row column ((bytes_out one first).line b) l sent
    ∙ same_bytes one other x b number past n row column slots ((bytes_out one first).line b) ((bytes_out other second).line b) l r have same mask
    ∙ sym (went_byte other b f row column ((bytes_out other second).line b) r others)

same_places : (one other : World) (x : Connection) (first : IsWorld one) (second : IsWorld other) → CarryAlike one other x → (b number past n row column : ℕ) (slots : LineSlots)
    → HasPlace x b number past n row column slots → (form_out one.plan b).scrambled ≡ (form_out other.plan b).scrambled
    → HasGone ((bytes_out one first).line b) (slots_of slots.kind * past + n) row column → HasGone ((bytes_out other second).line b) (slots_of slots.kind * past + n) row column
    → HaveSameByte ((bytes_out one first).line b) ((bytes_out other second).line b) (slots_of slots.kind * past + n) row column
same_places one other x first second share b number past n row column slots place mask sent others =
    let sound = sound_in one x first share.first in
    let start = sound.start in
    let began = place.active.start in
    let stop = place.active.stop in
    places_as_got one other x first second share.first share.second b number past n row column slots place (share.alike.got (own_turn x past + 1) (omega arith)) mask sent others

-- ---- numbers

same_output : {was is : State} {arrived others sent sent' : List ℕ} → was ≡ is → arrived ≡ others → sent ≡ sent' → output_numbers was arrived sent ≡ output_numbers is others sent'
same_output {was} {is} {arrived} {others} {sent} {sent'} a b c =
    ap (λ s. output_numbers s arrived sent) a ∙ ap (λ l. output_numbers is l sent) b ∙ ap (output_numbers is others) c

same_client_in : (one other : World) (x : Connection) (first : IsWorld one) (second : IsWorld other) → CarryAlike one other x → (n : ℕ) → x.from ≡ from_end.Client n → one.numbers.client_in n ≡ other.numbers.client_in n
same_client_in one other x first second share n from =
    let a = (first.left.of_inputs one.inputs first.may_be).numbers_are.client_in x n share.first from in
    let b = (second.left.of_inputs other.inputs second.may_be).numbers_are.client_in x n share.second from in
    a ∙ ap (client_numbers x) (share.client n from) ∙ sym b

arrived_in : (world : World) (x : Connection) (is : IsWorld world) → Contains world.plan.connections x
    → arrived_by x (own_input world.inputs x) (turns_done x world.plan.turns 0) ≡ arrived_by x (own_input world.inputs x) (x.stop - first_turn x)
arrived_in world x is has = ap (arrived_by x (own_input world.inputs x)) (all_turns x world.plan.turns (sound_in world x is has).stop)

same_client_out : (one other : World) (x : Connection) (first : IsWorld one) (second : IsWorld other) → CarryAlike one other x → (n : ℕ) → x.to ≡ to_end.Client n
    → BothLived one other (state_of_client n) → one.numbers.client_out n ≡ other.numbers.client_out n
same_client_out one other x first second share n to lived =
    let a = (first.left.of_inputs one.inputs first.may_be).numbers_are.client_out x n share.first to in
    let b = (second.left.of_inputs other.inputs second.may_be).numbers_are.client_out x n share.second to in
    let same = share.alike.arrived (x.stop - first_turn x) (own_all one x first share.first) in
    let arrived = arrived_in one x first share.first ∙ same ∙ sym (arrived_in other x second share.second) in
    let sent = same_whole one other x first second share n to lived in
    let state : (client_out_at one.first n).state ≡ (client_out_at other.first n).state = lived.first.was ∙ sym lived.second.was in
    a ∙ same_output state arrived sent ∙ sym b

same_turn : (a b : ℕ) → (a == b) ≡ true → a ≡ b
same_turn a b e = grind (arith, nat_tests)

-- the report of the connection, whose state is told where the plan's last turn is its own
same_report : (x : Connection) (one other : OwnInput) (turns : ℕ) → first_turn x + (x.stop - first_turn x) ≤ x.stop → LeavesAlikeInItsTurns x one other → last_state turns x one ≡ last_state turns x other
same_report x one other turns all alike = go (x.stop == turns) refl
  where
    go : (last : Bool) → (x.stop == turns) ≡ last → (if last then Some (state_in x one (turns - first_turn x)) else None) ≡ (if last then Some (state_in x other (turns - first_turn x)) else None)
    go false e = refl
    go true e =
        let is : x.stop ≡ turns = same_turn x.stop turns e in
        ap Some (alike.state (turns - first_turn x) (omega arith))

same_from : (one other : World) (x : Connection) (first : IsWorld one) (second : IsWorld other) → CarryAlike one other x → (i j : ℕ) → slice_get one.plan.connections i ≡ Some x
    → slice_get other.plan.connections j ≡ Some x → one.plan.turns ≡ other.plan.turns → one.numbers.from i ≡ other.numbers.from j
same_from one other x first second share i j at there turns =
    let a = (first.left.of_inputs one.inputs first.may_be).numbers_are.from i x at in
    let b = (second.left.of_inputs other.inputs second.may_be).numbers_are.from j x there in
    a ∙ same_report x (own_input one.inputs x) (own_input other.inputs x) one.plan.turns (own_all one x first share.first) share.alike
    ∙ ap (λ t. last_state t x (own_input other.inputs x)) turns ∙ sym b

-- ---- all of it

pub left_as_alike : (one other : World) (x : Connection) (first : IsWorld one) (second : IsWorld other) → CarryAlike one other x → LeftAlike one other (bytes_out one first) (bytes_out other second) x
left_as_alike one other x first second share = record {
  text = same_text one other x first second share;
  whole_text = same_whole one other x first second share;
  places = same_places one other x first second share;
  all_places = λ b number past n row column slots place mask lived.
      same_places one other x first second share b number past n row column slots place mask
      (all_gone one x b number past n row column slots ((bytes_out one first).line b) first share.first place (line_left one x b number slots first share.first place.to) lived.first)
      (all_gone other x b number past n row column slots ((bytes_out other second).line b) second share.second place (line_left other x b number slots second share.second place.to) lived.second);
  client_in = same_client_in one other x first second share;
  client_out = same_client_out one other x first second share;
  from = same_from one other x first second share;
}

-- ---- where the own input agrees

-- a client of both, in the same way
same_client : (one other : World) (x : Connection) (n : ℕ) → ShareOne one other x → x.from ≡ from_end.Client n → one.inputs.client n ≡ other.inputs.client n
same_client one other x n share from =
    let agree : AgreeOnEnd (from_end.Client n) one.inputs other.inputs = subst (λ e. AgreeOnEnd e one.inputs other.inputs) from share.agree in
    agree

leaves_in_turns : (x : Connection) (one other : OwnInput) → SameInput one other → LeavesAlikeInItsTurns x one other
leaves_in_turns x one other same = record {
  emitted = λ j h. (leaves_the_same x one other j same).emitted;
  got = λ n h. (leaves_the_same x one other n same).got;
  arrived = λ n h. (leaves_the_same x one other n same).arrived;
  text = λ n h. (leaves_the_same x one other n same).text;
  state = λ n h. (leaves_the_same x one other n same).state;
}

pub left_alike : (one other : World) (x : Connection) (first : IsWorld one) (second : IsWorld other) → ShareOne one other x → LeftAlike one other (bytes_out one first) (bytes_out other second) x
left_alike one other x first second share =
    let same = gives_the_same_input one.plan x one.inputs other.inputs first.accepted share.first share.agree in
    left_as_alike one other x first second
    (record {
      first = share.first;
      second = share.second;
      alike = leaves_in_turns x (own_input one.inputs x) (own_input other.inputs x) same;
      client = λ n from. same_client one other x n share from;
    })
