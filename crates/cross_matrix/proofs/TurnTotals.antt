-- What the turns of a connection give, in all: no turn completes more groups than a multiframe has.
use Rattle.std.proofs.Common.{◌≡◌, ◌<◌, ◌≤◌, ◌+◌, ◌-◌, ◌*◌, ◌/◌, ◌%◌, ◌∙◌, ℕ, zero, suc, Bool, false, List, [], ◌∷◌, ◌++◌, length, take, drop, map, Option, refl, sym, ap, arith}
use Rattle.std.specs.Prelude.{All, sum, min}
use Rattle.std.specs.List.{concat}
use Rattle.std.proofs.Math.Nat.{mul-le-mul_left, mul-add, div-lt_iff_lt-mul}
use Rattle.std.proofs.lemmas.List.{take_all, length-map, length-take, length-drop, length_push, map_push}
use Rattle.std.proofs.lemmas.List.Elements.{All-get_or}
use Rattle.std.proofs.lemmas.List.FromFn.{length-map-range_with_len}
use Rattle.std.proofs.lemmas.List.Sums.{sum_by_push}
use Rattle.otn_base.specs.LineSlots.{LineSlots}
use Rattle.maintenance_signals.specs.Stream.{signal_byte, signal_bytes}
use Rattle.maintenance_signals.specs.declared.signal.Signal.{Signal}
use Rattle.maintenance_signals.specs.declared.signal.Signal.TheVariants.{Ais}
use Rattle.gfp_frames.specs.GfpText.{gfp_text}
use Rattle.odu_client.specs.ClientFrames.{client_frames, client_stream, frames_begun, payload_begun, stream_part}
use Rattle.odu_client.specs.ClientInput.{ClientInput, input_emits, emitted_before, pace_of}
use Rattle.odu_client.proofs.FrameLists.{joined_next, joined_size}
use Rattle.plan_file.specs.declared.connection.Connection.{Connection}
use Rattle.plan_file.specs.declared.connection.FromEnd.{FromEnd}
use Rattle.plan_file.specs.declared.connection.FromEnd.TheVariants as from_end
use Rattle.tributary_model.specs.Carries.{sent, past_of}
use Rattle.tributary_model.specs.Emission.{emission, emitted_so_far}
use Rattle.tributary_model.specs.Places.{View, tributary_of, AreWholeTurns}
use Rattle.tributary_model.specs.Puts.{lengths_of}
use Rattle.tributary_model.proofs.Groups.{completes_at_most}
use Rattle.device_model.specs.Entries.{first_turn, slot_count, slots_between}
use Rattle.device_model.specs.Through.{OwnInput, of_line, of_client, of_signal, emits, emits_by, got_in, got_by}
use Rattle.cross_matrix.specs.Parts.{TakingStands}
use Rattle.cross_matrix.specs.declared.taking.TakingPart.{TakingPart}
use Rattle.cross_matrix.specs.declared.taking.TakingPart.TheVariants as taking

-- ---- the turns that were got

pub emits_is : (x : Connection) (input : OwnInput) (j : ℕ) → emits x input j ≡ emits_by x.from x input j
unfolding emits
emits_is x input j = refl

pub got_next : (x : Connection) (input : OwnInput) (n : ℕ) → got_by x input (suc n) ≡ got_by x input n ++ got_in x input n ∷ []
unfolding got_by
got_next x input n = refl

pub got_size : (x : Connection) (input : OwnInput) (n : ℕ) → length (got_by x input n) ≡ n
unfolding got_by
got_size x input zero = refl
got_size x input (suc n) = let before = got_size x input n in omega (arith, length_push (got_by x input n) (got_in x input n))

pub arrived_next : (x : Connection) (input : OwnInput) (n : ℕ) → concat (got_by x input (suc n)) ≡ concat (got_by x input n) ++ got_in x input n
arrived_next x input n = ap concat (got_next x input n) ∙ joined_next (got_by x input n) (got_in x input n)

pub arrived_none : (x : Connection) (input : OwnInput) → concat (got_by x input 0) ≡ []
unfolding got_by
arrived_none x input = refl

-- ---- how many bytes they have in all

abbrev pub in_all : List (List ℕ) → ℕ
in_all turns = sent (lengths_of turns) (length turns)

all_is : (turns : List (List ℕ)) → in_all turns ≡ sum (lengths_of turns)
all_is turns = ap sum (take_all (length turns) (map length turns) (omega (arith, length-map turns (λ (bytes : List ℕ). length bytes))))

all_push : (turns : List (List ℕ)) (bytes : List ℕ) → in_all (turns ++ bytes ∷ []) ≡ in_all turns + length bytes
all_push turns bytes =
    all_is (turns ++ bytes ∷ []) ∙ ap sum (map_push length turns bytes) ∙ sum_by_push (λ k. k) (map length turns) (length bytes) ∙ ap (λ k. k + length bytes) (sym (all_is turns))

emits_of_line : (x : Connection) (a port : ℕ) (slots : LineSlots) (shows : ℕ → Option View) (j : ℕ) → x.from ≡ from_end.Line a port slots
    → emits x (of_line shows) j ≡ emission (tributary_of slots port) (signal_byte Ais) (past_of shows (first_turn x) j) (shows (first_turn x + j))
emits_of_line x a port slots shows j e = emits_is x (of_line shows) j ∙ ap (λ from. emits_by from x (of_line shows) j) e

all_got : (x : Connection) (a port : ℕ) (slots : LineSlots) (shows : ℕ → Option View) (j : ℕ) → x.from ≡ from_end.Line a port slots
    → in_all (got_by x (of_line shows) (suc j)) ≡ emitted_so_far (tributary_of slots port) (signal_byte Ais) (past_of shows (first_turn x) j)
unfolding got_by emitted_so_far
all_got x a port slots shows zero e = refl
all_got x a port slots shows (suc j) e =
    all_push (got_by x (of_line shows) (suc j)) (emits x (of_line shows) j)
    ∙ ap (λ k. k + length (emits x (of_line shows) j)) (all_got x a port slots shows j e)
    ∙ ap (λ (bytes : List ℕ). emitted_so_far (tributary_of slots port) (signal_byte Ais) (past_of shows (first_turn x) j) + length bytes) (emits_of_line x a port slots shows j e)

-- ---- how many one turn has

pub part_size : (sapi : List ℕ) (packets : List (List ℕ)) (fcs : Bool) (from n : ℕ) → length (stream_part sapi packets fcs from n) ≡ n
unfolding client_stream
part_size sapi packets fcs from n =
    let k = from + n in
    let frames = concat (client_frames sapi (frames_begun k) (gfp_text packets fcs (payload_begun k))) in
    let size : length frames ≡ 15296 * frames_begun k = joined_size sapi (frames_begun k) (gfp_text packets fcs (payload_begun k)) in
    let front : length (take k frames) ≡ min k (length frames) = length-take k frames in
    let back : length (drop from (take k frames)) ≡ length (take k frames) - from = length-drop from (take k frames) in
    omega arith

pub client_size : (sapi : List ℕ) (fcs : Bool) (paces : List ℕ) (input : ClientInput) (turn : ℕ) → length (input_emits sapi fcs paces input turn) ≡ pace_of paces turn
unfolding input_emits
client_size sapi fcs paces input turn = part_size sapi input.packets fcs (emitted_before paces turn) (pace_of paces turn)

pub signal_size : (signal : Signal) (place n : ℕ) → length (signal_bytes signal place n) ≡ n
unfolding signal_bytes
signal_size signal place n = length-map-range_with_len (signal_byte signal) place n

pub pace_few : (paces : List ℕ) (turn most : ℕ) → All (λ pace. pace ≤ most) paces → pace_of paces turn ≤ most
pace_few [] turn most all = omega arith
pace_few (pace ∷ paces) turn most all = All-get_or (λ p. p ≤ most) (pace ∷ paces) (turn % length (pace ∷ paces)) 0 (omega arith) all

-- ---- groups

-- as many bytes as a source has room for complete no more groups than a multiframe has, and no others do not
pub room_is : (m before more room rest : ℕ) → room + rest + 1 ≡ m * 15233 → rest ≡ before % m → (before + more) / m ≤ before / m + 15232 → more ≤ room
room_is m before more room rest e over few =
    let some : 0 < m = omega arith in
    let step : m * ((before + more) / m) ≤ m * (before / m + 15232) = mul-le-mul_left m few in
    let split : m * (before / m + 15232) ≡ m * (before / m) + m * 15232 = mul-add m (before / m) 15232 in
    omega arith

pub few_groups : (m before more : ℕ) → more ≤ m * 15232 → (before + more) / m ≤ before / m + 15232
few_groups zero before more few = let none : more ≡ 0 = omega arith in rw none (omega arith)
few_groups (suc k) before more few =
    let wide : before + more < (before / suc k + 15232 + 1) * suc k =
    (let turn : (before / suc k + 15232 + 1) * suc k ≡ suc k * (before / suc k) + suc k * 15232 + suc k = omega arith in omega arith) in
    let below : (before + more) / suc k < before / suc k + 15232 + 1 = (div-lt_iff_lt-mul (omega arith)).1 wide in
    omega arith

line_groups : (x : Connection) (a port : ℕ) (slots : LineSlots) (shows : ℕ → Option View) (j : ℕ) → x.from ≡ from_end.Line a port slots → 1 ≤ length slots.list
    → AreWholeTurns (length slots.list) (past_of shows (first_turn x) (suc j))
    → (in_all (got_by x (of_line shows) (suc j)) + length (emits x (of_line shows) j)) / length slots.list ≤ in_all (got_by x (of_line shows) (suc j)) / length slots.list + 15232
unfolding emitted_so_far
line_groups x a port slots shows j e some whole =
    let own = tributary_of slots port in
    let past = past_of shows (first_turn x) j in
    let view = shows (first_turn x + j) in
    rw (all_got x a port slots shows j e, emits_of_line x a port slots shows j e) (completes_at_most (length slots.list) some own (signal_byte Ais) past view refl whole)

-- What a turn brings completes no more groups than a multiframe has: m is how many slots the connection has.
pub turn_fits : (x : Connection) (input : OwnInput) (j m : ℕ) (part : TakingPart) → m ≡ slot_count x → All (λ pace. pace ≤ slot_count x * 15232) x.pace → TakingStands x.from x input (suc j) [] false part
    → (in_all (got_by x input (suc j)) + length (emits x input j)) / m ≤ in_all (got_by x input (suc j)) / m + 15232
turn_fits x input j m part many paces h = by_from x.from input part refl h
  where
    few : (input : OwnInput) → length (emits x input j) ≡ pace_of x.pace j → length (emits x input j) ≤ m * 15232
    few input size = let most = pace_few x.pace j (slot_count x * 15232) paces in rw (many, size) most

    by_from : (from : FromEnd) (input : OwnInput) (part : TakingPart) → x.from ≡ from → TakingStands from x input (suc j) [] false part
        → (in_all (got_by x input (suc j)) + length (emits x input j)) / m ≤ in_all (got_by x input (suc j)) / m + 15232
    by_from (from_end.Line a port slots) (of_line shows) (taking.Line sink) e h =
        let own_many : m ≡ length slots.list = many ∙ ap (λ from. slots_between from x.to) e in
        rw own_many (line_groups x a port slots shows j e h.slots.taken h.whole)
    by_from (from_end.Line a port slots) (of_line shows) (taking.Client client) e h = absurd h
    by_from (from_end.Line a port slots) (of_line shows) (taking.Signal stream) e h = absurd h
    by_from (from_end.Line a port slots) (of_client i) part e h = absurd h
    by_from (from_end.Line a port slots) of_signal part e h = absurd h
    by_from (from_end.Client n) (of_line shows) part e h = absurd h
    by_from (from_end.Client n) (of_client i) part e h =
        few_groups m (in_all (got_by x (of_client i) (suc j))) (length (emits x (of_client i) j))
        (few (of_client i) (ap length (emits_is x (of_client i) j ∙ ap (λ from. emits_by from x (of_client i) j) e) ∙ client_size x.trace x.fcs x.pace i j))
    by_from (from_end.Client n) of_signal part e h = absurd h
    by_from (from_end.Signal signal) (of_line shows) part e h = absurd h
    by_from (from_end.Signal signal) (of_client i) part e h = absurd h
    by_from (from_end.Signal signal) of_signal part e h =
        few_groups m (in_all (got_by x of_signal (suc j))) (length (emits x of_signal j))
        (few of_signal (ap length (emits_is x of_signal j ∙ ap (λ from. emits_by from x of_signal j) e) ∙ signal_size signal (emitted_before x.pace j) (pace_of x.pace j)))
