-- What is put on a line as channels comes out of it.
use Rattle.std.proofs.Common.{◌≡◌, ◌<◌, ◌≤◌, ◌+◌, ◌-◌, ◌*◌, ◌/◌, ◌⊎◌, inl, inr, ℕ, zero, suc, All, List, [], ◌∷◌, ◌++◌, length, take, get_or, min, sym, ap, ◌∙◌, subst, refl, arith}
use Rattle.std.specs.Prelude.{replicate}
use Rattle.std.specs.List.{concat}
use Rattle.std.proofs.lemmas.Bool.{cases_lt}
use Rattle.std.proofs.lemmas.List.Elements.{All-replicate, All-take}
use Rattle.std.proofs.Math.Seq.{take-length}
use Rattle.port_base.specs.Sent.{IsSent}
use Rattle.port_base.specs.Views.{client_out_at}
use Rattle.packet_text.specs.PacketText.{hex_text}
use Rattle.gfp_linear.specs.Laws.{packets_on, woven_arrivals}
use Rattle.gfp_linear.specs.Weave.{ChannelText, no_text, packets_given}
use Rattle.gfp_linear.proofs.Arriving.{channels_arrive, packets_arrive, given_within}
use Rattle.gfp_linear.proofs.Weaves.{front_on, weave_front}
use Rattle.odu_client.specs.ClientFrames.{payload_begun}
use Rattle.tributary_model.specs.Carries.{IsSteady, cm_in, sent}
use Rattle.tributary_model.specs.Puts.{lengths_of}
use Rattle.tributary_model.specs.Sending.{IsSent as IsSendable}
use Rattle.connection_laws.proofs.HeldBack.{front_after}
use Rattle.tributary_line.specs.TributaryFile.{IsTributaryFile}
use Rattle.bundle_command.specs.BundleStream.{channel_stream, channel_turns, first_slot, parts_of, payload_sent, payload_whole, woven_in}
use Rattle.bundle_command.proofs.Sizes.{weave_text_size}
use Rattle.unbundle_command.proofs.Apart.{first_is}
use Rattle.unbundle_command.specs.Unbundled.{arrived_before, emitted_before, client_arrivals}
use Rattle.channel_laws.specs.ComesOut.{ArrivesAsBundled, ComesOut, FirstComeOut, out_of}
use Rattle.channel_laws.proofs.Emitted.{emits_of_file, emits_to_the_end}
use Rattle.channel_laws.proofs.Stream.{front_arrives, parts_joined, parts_many, parts_sizes, sent_parts, stream_size}

-- ---- the sink

own_sent : IsSendable first_slot
own_sent = record { tributary = first_is; few = omega arith }

fits : (bytes : List ℕ) (turns i : ℕ) → 15168 * turns ≤ length bytes → i < turns → cm_in 1 (lengths_of (parts_of bytes turns)) i ≤ 15232
fits bytes turns i long less =
    let p = lengths_of (parts_of bytes turns) in
    let now = sent_parts bytes turns i long (omega (arith, less)) in
    let next = sent_parts bytes turns (i + 1) long (omega (arith, less)) in
    subst (λ x. x / 1 - sent p i / 1 ≤ 15232) (sym next) (subst (λ x. 15168 * (i + 1) / 1 - x / 1 ≤ 15232) (sym now) (omega arith))

-- the sink is two turns behind
two_behind : (bytes : List ℕ) (turns t : ℕ) → 15168 * turns ≤ length bytes → t ≤ turns → front_after 1 (lengths_of (parts_of bytes turns)) t ≡ 15168 * (t - 2)
two_behind bytes turns t long within =
    let p = lengths_of (parts_of bytes turns) in
    let a = sent_parts bytes turns (t - 2) long (omega (arith, within)) in
    let b = sent_parts bytes turns (t - 1) long (omega (arith, within)) in
    ap (λ x. min x (1 * (sent p (t - 1) / 1))) a ∙ ap (λ x. min (15168 * (t - 2)) (1 * (x / 1))) b ∙ omega arith

steady_parts : (bytes : List ℕ) (turns k : ℕ) → 15168 * turns ≤ length bytes → IsSteady 1 (take k (lengths_of (parts_of bytes turns)))
steady_parts bytes turns k long = subst (λ p. IsSteady 1 (take k p)) (sym (parts_sizes bytes turns long)) (steady_equal turns k)
  where
    steady_equal : (n k : ℕ) → IsSteady 1 (take k (replicate n 15168))
    steady_equal zero zero = tt
    steady_equal zero (suc k) = tt
    steady_equal (suc n) zero = tt
    steady_equal (suc n) (suc k) = inr (All-take (λ x. 1 ≤ x) (suc k) (replicate (suc n) 15168) (All-replicate (λ x. 1 ≤ x) (suc n) 15168 (omega arith)))

-- in the turn in which the file ends too
emitted_in_all : (b : ℕ) (cids : List ℕ) (texts : List ChannelText) (u : ℕ) (frames : List (List ℕ)) → IsTributaryFile b first_slot (channel_turns cids texts (u + 1)) (8 * (u + 1)) frames
    → emitted_before (concat frames) (u + 2) ≡ take (15168 * u) (concat (channel_turns cids texts (u + 1)))
emitted_in_all b cids texts u frames file =
    let turns = u + 1 in
    let stream = channel_stream cids texts (15168 * turns) in
    let size = stream_size cids texts (15168 * turns) in
    let long : 15168 * turns ≤ length stream = omega (arith, size) in
    let many = parts_many stream turns in
    let sent_is = sent_parts stream turns u long (omega arith) in
    let two : u + 2 ≡ suc (suc u) = omega arith in
    ap (emitted_before (concat frames)) two
    ∙ emits_to_the_end b first_slot (channel_turns cids texts turns) frames u own_sent refl (omega arith) file (omega (arith, many))
    (λ i low. fits stream turns i long (omega (arith, low))) (steady_parts stream turns (u + 1 - 0) long)
    ∙ ap (λ x. take (1 * (x / 1)) (concat (channel_turns cids texts turns))) sent_is
    ∙ ap (λ k. take k (concat (channel_turns cids texts turns))) (let e : 1 * (15168 * u / 1) ≡ 15168 * u = omega arith in e)

emitted_in_turns : (b : ℕ) (cids : List ℕ) (texts : List ChannelText) (u t : ℕ) (frames : List (List ℕ)) → IsTributaryFile b first_slot (channel_turns cids texts (u + 1)) (8 * (u + 1)) frames → t ≤ u + 1
    → emitted_before (concat frames) t ≡ take (15168 * (t - 2)) (concat (channel_turns cids texts (u + 1)))
emitted_in_turns b cids texts u t frames file within =
    let turns = u + 1 in
    let stream = channel_stream cids texts (15168 * turns) in
    let size = stream_size cids texts (15168 * turns) in
    let long : 15168 * turns ≤ length stream = omega (arith, size) in
    let many = parts_many stream turns in
    emits_of_file b first_slot (channel_turns cids texts turns) frames u t own_sent refl (omega arith) file (omega (arith, many))
    (λ i low. fits stream turns i long (omega (arith, low))) (omega (arith, within))
    ∙ ap (λ k. take k (concat (channel_turns cids texts turns))) (two_behind stream turns t long within)

emitted_is : (b : ℕ) (cids : List ℕ) (texts : List ChannelText) (turns t : ℕ) (frames : List (List ℕ)) → IsTributaryFile b first_slot (channel_turns cids texts turns) (8 * turns) frames → 1 ≤ turns → t ≤ turns + 1
    → emitted_before (concat frames) t ≡ take (15168 * (t - 2)) (channel_stream cids texts (15168 * turns))
emitted_is b cids texts turns t frames file some within =
    subst (λ n. emitted_before (concat frames) t ≡ take (15168 * (t - 2)) (channel_stream cids texts (15168 * n))) (sym next)
    (by_turn (cases_lt (turns - 1 + 1) t)
    ∙ ap (take (15168 * (t - 2))) (parts_joined (channel_stream cids texts (15168 * (turns - 1 + 1))) (turns - 1 + 1) ∙ all_of (turns - 1 + 1)))
  where
    next : turns ≡ turns - 1 + 1
    next = omega (arith, some)

    file_here : IsTributaryFile b first_slot (channel_turns cids texts (turns - 1 + 1)) (8 * (turns - 1 + 1)) frames
    file_here = subst (λ n. IsTributaryFile b first_slot (channel_turns cids texts n) (8 * n) frames) next file

    all_of : (n : ℕ) → take (15168 * n) (channel_stream cids texts (15168 * n)) ≡ channel_stream cids texts (15168 * n)
    all_of n = ap (λ k. take k (channel_stream cids texts (15168 * n))) (sym (stream_size cids texts (15168 * n))) ∙ take-length (channel_stream cids texts (15168 * n))

    by_turn : (turns - 1 + 1 < t) ⊎ (t ≤ turns - 1 + 1) → emitted_before (concat frames) t ≡ take (15168 * (t - 2)) (concat (channel_turns cids texts (turns - 1 + 1)))
    by_turn (inr low) = emitted_in_turns b cids texts (turns - 1) t frames file_here low
    by_turn (inl high) =
        let last : t ≡ turns - 1 + 2 = omega (arith, high, within, some) in
        let less : turns - 1 ≡ t - 2 = omega (arith, last) in
        ap (emitted_before (concat frames)) last ∙ emitted_in_all b cids texts (turns - 1) frames file_here
        ∙ ap (λ n. take (15168 * n) (concat (channel_turns cids texts (turns - 1 + 1)))) less

-- ---- what arrives

arrived_is : (b : ℕ) (cids : List ℕ) (texts : List ChannelText) (turns t : ℕ) (frames : List (List ℕ)) → IsTributaryFile b first_slot (channel_turns cids texts turns) (8 * turns) frames → 1 ≤ turns → t ≤ turns + 1
    → arrived_before (concat frames) t ≡ woven_arrivals cids texts (payload_sent turns) (payload_whole (t - 2))
arrived_is b cids texts turns t frames file some within =
    ap client_arrivals (emitted_is b cids texts turns t frames file some within)
    ∙ front_arrives cids texts (15168 * turns) (15168 * (t - 2)) (omega (arith, within)) (weave_text_size cids texts (payload_begun (15168 * turns)))

pub arrives_as_bundled : ArrivesAsBundled
arrives_as_bundled b cids texts turns t frames carried file some within =
    arrived_is b cids texts turns t frames file some within ∙ channels_arrive cids texts (payload_sent turns) (payload_whole (t - 2)) carried

pub comes_out : ComesOut
comes_out cids texts turns t was is first last report told ended list size carried due ran may some within c here low =
    let k = get_or cids c 0 in
    let packets : packets_on k (arrived_before (concat due.frames) t) ≡ out_of cids texts turns t c =
    ap (packets_on k) (arrived_is 0 cids texts turns t due.frames due.file some within) ∙ packets_arrive cids texts (payload_sent turns) (payload_whole (t - 2)) c list size carried here in
    subst (λ ps. IsSent (client_out_at first k) (hex_text ps) (client_out_at last k)) packets ((ran.left (concat due.frames) may).outputs.sent k low)

pub first_come_out : FirstComeOut
first_come_out cids texts turns t c =
    front_on (out_of cids texts turns t c) (packets_given c (woven_in texts turns)) (get_or texts c no_text).packets
    (given_within cids texts (payload_sent turns) (payload_whole (t - 2)) c) (weave_front texts (payload_sent turns) c)
