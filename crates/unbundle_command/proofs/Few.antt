-- How much can arrive: no more than the payload of a client frame for each byte that came.
use Rattle.std.proofs.Common.{◌≡◌, ◌≤◌, ◌+◌, ◌*◌, ◌^◌, ◌-◌, ℕ, zero, suc, Bool, true, false, cond, List, [], ◌∷◌, ◌++◌, Option, Some, None, length, take, drop, refl, ap, length-append, arith}
use Rattle.std.specs.Prelude.{nat_lt, ◌||◌, option_to_list}
use Rattle.std.specs.List.{filter, flat_map}
use Rattle.otn_base.specs.Counts.{saturated}
use Rattle.frame_geometry.specs.Places.{payload_row_of}
use Rattle.gfp_scrambler.specs.Register.{descrambled}
use Rattle.gfp_frames.specs.CoreHeader.{right_at, near_at}
use Rattle.gfp_frames.specs.Delineation.{after_frame, whole_area, hunting, after_presync, in_sync, sync_areas}
use Rattle.gfp_frames.specs.Delivered.{joined, cut_as, plain_areas, areas_in}
use Rattle.gfp_linear.specs.ChannelArrivals.{ChannelArrival, PacketOn, LossOn, arrival_in, arrivals_in, channel_arrivals}
use Rattle.gfp_linear.specs.Laws.{packet_on, packets_on}
use Rattle.odu_client.specs.AlignedRuns.{Arrival, Handed, Broken, has_fas, misses_after, arrival_of, whole_frame, next_frame, searching, framing, arrivals, payload_of, with_payload, runs_of}
use Rattle.unbundle_command.specs.Unbundled.{client_arrivals}

-- ---- the areas of frames

whole_few : (pli : ℕ) (bytes : List ℕ) (areas : List (List ℕ)) (n : ℕ) → length areas ≤ n → length (whole_area pli bytes ++ areas) ≤ suc n
whole_few pli bytes areas n few = by_test (nat_lt pli 4 || nat_lt (length bytes) pli)
  where
    by_test : (b : Bool) → length (cond b [] (take pli bytes ∷ []) ++ areas) ≤ suc n
    by_test true = omega (arith, few)
    by_test false = omega (arith, few)

record FewAreas (n : ℕ) : Type 0 where
  hunt : (bytes : List ℕ) → length (hunting n bytes) ≤ n
  presync : (bytes : List ℕ) → length (after_presync n bytes) ≤ n
  sync : (bytes : List ℕ) → length (in_sync n bytes) ≤ n

more_few : (k n : ℕ) → k ≤ n → k ≤ suc n
more_few k n few = omega (arith, few)

few_areas : (n : ℕ) → FewAreas n
unfolding hunting
few_areas zero = record { hunt = λ bytes. omega arith; presync = λ bytes. omega arith; sync = λ bytes. omega arith }
few_areas (suc n) =
    let few = few_areas n in
    record {
      hunt = λ bytes. elim (right_at bytes) as (λ found. length {A = List ℕ} (elim found [ Some pli ↦ after_presync n (after_frame pli bytes) | None ↦ hunting n (drop 1 bytes) ]) ≤ suc n) [
        | Some pli ↦ more_few _ n (few.presync (after_frame pli bytes))
        | None ↦ more_few _ n (few.hunt (drop 1 bytes))
      ];
      presync = λ bytes. elim (right_at bytes) as (λ found. length {A = List ℕ} (elim found [ Some pli ↦ whole_area pli (drop 4 bytes) ++ in_sync n (after_frame pli bytes) | None ↦ hunting n (drop 1 bytes) ]) ≤ suc n) [
        | Some pli ↦ whole_few pli (drop 4 bytes) (in_sync n (after_frame pli bytes)) n (few.sync (after_frame pli bytes))
        | None ↦ more_few _ n (few.hunt (drop 1 bytes))
      ];
      sync = λ bytes. elim (near_at bytes) as (λ found. length {A = List ℕ} (elim found [ Some pli ↦ whole_area pli (drop 4 bytes) ++ in_sync n (after_frame pli bytes) | None ↦ hunting n (drop 1 bytes) ]) ≤ suc n) [
        | Some pli ↦ whole_few pli (drop 4 bytes) (in_sync n (after_frame pli bytes)) n (few.sync (after_frame pli bytes))
        | None ↦ more_few _ n (few.hunt (drop 1 bytes))
      ];
    }

cut_few : (areas : List (List ℕ)) (plain : List ℕ) → length (cut_as areas plain) ≡ length areas
cut_few [] plain = refl
cut_few (area ∷ areas) plain = ap suc (cut_few areas (drop (length area) plain))

plain_few : (register : ℕ) (areas : List (List ℕ)) → length (plain_areas register areas) ≡ length areas
unfolding plain_areas
plain_few register areas = cut_few areas (descrambled register (joined areas))

sync_few : (bytes : List ℕ) → length (sync_areas bytes) ≤ length bytes
unfolding sync_areas
sync_few bytes = (few_areas (length bytes)).hunt bytes

option_few : (o : Option ChannelArrival) → length (option_to_list o) ≤ 1
option_few None = omega arith
option_few (Some x) = omega arith

arrivals_few : (areas : List (List ℕ)) → length (arrivals_in areas) ≤ length areas
arrivals_few [] = omega arith
arrivals_few (area ∷ areas) =
    let both = length-append (option_to_list (arrival_in area)) (arrivals_in areas) in
    let one = option_few (arrival_in area) in
    let later = arrivals_few areas in
    omega arith

run_few : (bytes : List ℕ) → length (channel_arrivals bytes) ≤ length bytes
unfolding channel_arrivals
run_few bytes =
    let few = arrivals_few (areas_in bytes) in
    let plain = plain_few 0 (sync_areas bytes) in
    let sync = sync_few bytes in
    omega arith

-- ---- the runs of payload bytes

abbrev total : List (List ℕ) → ℕ
total [] = 0
total (run ∷ runs) = length run + total runs

runs_few : (runs : List (List ℕ)) → length (flat_map channel_arrivals runs) ≤ total runs
runs_few [] = omega arith
runs_few (run ∷ runs) =
    let both = length-append (channel_arrivals run) (flat_map channel_arrivals runs) in
    let one = run_few run in
    let later = runs_few runs in
    omega arith

with_total : (payload : List ℕ) (runs : List (List ℕ)) → total (with_payload payload runs) ≡ length payload + total runs
with_total payload [] = refl
with_total payload (run ∷ runs) = let both = length-append payload run in omega arith

take_few : (n : ℕ) (xs : List ℕ) → length (take n xs) ≤ n
take_few zero xs = omega arith
take_few (suc n) [] = omega arith
take_few (suc n) (x ∷ xs) = let few = take_few n xs in omega arith

four_few : (a b c d : List ℕ) → length a ≤ 3808 → length b ≤ 3808 → length c ≤ 3808 → length d ≤ 3808 → length (a ++ b ++ c ++ d) ≤ 15232
four_few a b c d ea eb ec ed = let x = length-append (a ++ b ++ c) d in let y = length-append (a ++ b) c in let z = length-append a b in omega arith

row_few : (row : ℕ) (frame : List ℕ) → length (payload_row_of 3824 row frame) ≤ 3808
row_few row frame = take_few 3808 _

payload_few : (frame : List ℕ) → length (payload_of frame) ≤ 15232
payload_few frame = four_few (payload_row_of 3824 1 frame) (payload_row_of 3824 2 frame) (payload_row_of 3824 3 frame) (payload_row_of 3824 4 frame) (row_few 1 frame) (row_few 2 frame) (row_few 3 frame) (row_few 4 frame)

total_few : (xs : List Arrival) → total (runs_of xs) ≤ 15232 * length xs
unfolding runs_of
total_few [] = omega arith
total_few (Handed frame ∷ later) =
    let sum = with_total (payload_of frame) (runs_of later) in
    let one = payload_few frame in
    let rest = total_few later in
    omega arith
total_few (Broken ∷ later) = let rest = total_few later in omega arith

-- ---- the frames of a client

frame_few : (bytes : List ℕ) (later : List Arrival) (n : ℕ) → length later ≤ n → length (whole_frame bytes later) ≤ suc n
frame_few bytes later n few = by_test (nat_lt (length bytes) 15296)
  where
    by_test : (b : Bool) → length (cond b [] (arrival_of (take 15296 bytes) ∷ later)) ≤ suc n
    by_test true = omega (arith, few)
    by_test false = omega (arith, few)

next_few : (misses : ℕ) (bytes : List ℕ) (whole anew : List Arrival) (n : ℕ) → length whole ≤ suc n → length anew ≤ n → length (next_frame misses bytes whole anew) ≤ suc n
next_few misses bytes whole anew n one two = by_size (nat_lt (length bytes) 6)
  where
    by_misses : (b : Bool) → length (cond b whole (Broken ∷ anew)) ≤ suc n
    by_misses true = one
    by_misses false = omega (arith, two)

    by_size : (b : Bool) → length (cond b [] (cond (nat_lt (misses_after misses bytes) 5) whole (Broken ∷ anew))) ≤ suc n
    by_size true = omega arith
    by_size false = by_misses (nat_lt (misses_after misses bytes) 5)

record FewFrames (n : ℕ) : Type 0 where
  search : (bytes : List ℕ) → length (searching n bytes) ≤ n
  frame : (misses : ℕ) (bytes : List ℕ) → length (framing n misses bytes) ≤ n

few_frames : (n : ℕ) → FewFrames n
unfolding searching
few_frames zero = record { search = λ bytes. omega arith; frame = λ misses bytes. omega arith }
few_frames (suc n) =
    let few = few_frames n in
    record {
      search = λ bytes. elim (has_fas bytes) as (λ b. length {A = Arrival} (cond b (whole_frame bytes (framing n 0 (drop 15296 bytes))) (searching n (drop 1 bytes))) ≤ suc n) [
        | true ↦ frame_few bytes (framing n 0 (drop 15296 bytes)) n (few.frame 0 (drop 15296 bytes))
        | false ↦ more_few _ n (few.search (drop 1 bytes))
      ];
      frame = λ misses bytes.
          let later = framing n (misses_after misses bytes) (drop 15296 bytes) in
          next_few misses bytes (whole_frame bytes later) (searching n (drop 6 bytes)) n (frame_few bytes later n (few.frame (misses_after misses bytes) (drop 15296 bytes))) (few.search (drop 6 bytes));
    }

frames_few : (bytes : List ℕ) → length (arrivals bytes) ≤ length bytes
unfolding arrivals
frames_few bytes = (few_frames (length bytes)).search bytes

pub client_few : (bytes : List ℕ) → length (client_arrivals bytes) ≤ 15232 * length bytes
unfolding client_arrivals
client_few bytes =
    let few = runs_few (runs_of (arrivals bytes)) in
    let sum = total_few (arrivals bytes) in
    let frames = frames_few bytes in
    omega arith

-- ---- the numbers of what arrives

one_packet : (cid : ℕ) (arrival : ChannelArrival) → length (packet_on cid arrival) ≤ 1
one_packet cid (PacketOn other packet) = by_test _
  where
    by_test : (b : Bool) → length (cond b (packet ∷ []) []) ≤ 1
    by_test true = omega arith
    by_test false = omega arith
one_packet cid (LossOn other) = omega arith

pub packets_few : (cid : ℕ) (arrived : List ChannelArrival) → length (packets_on cid arrived) ≤ length arrived
packets_few cid [] = omega arith
packets_few cid (arrival ∷ arrived) =
    let both = length-append (packet_on cid arrival) (packets_on cid arrived) in
    let one = one_packet cid arrival in
    let later = packets_few cid arrived in
    omega arith

pub filter_few : (f : ChannelArrival → Bool) (arrived : List ChannelArrival) → length (filter f arrived) ≤ length arrived
filter_few f [] = omega arith
filter_few f (arrival ∷ arrived) = by_test (f arrival) (filter_few f arrived)
  where
    by_test : (b : Bool) → length (filter f arrived) ≤ length arrived → length (cond b (arrival ∷ filter f arrived) (filter f arrived)) ≤ suc (length arrived)
    by_test true few = omega (arith, few)
    by_test false few = omega (arith, few)

-- a count of 64 bits tells such a number as it is
pub told_exactly : (n most : ℕ) → n ≤ most → most ≤ 2 ^ 64 - 1 → saturated n ≡ n
told_exactly n most few low = omega (arith, few, low)
