-- All packets of the trial come back.
use Rattle.std.proofs.Common.{◌≡◌, ◌≤◌, ◌<◌, ◌+◌, ◌-◌, ◌*◌, ℕ, true, List, [], ◌∷◌, length, refl, sym, ap, ◌∙◌, subst, arith}
use Rattle.std.specs.Prelude.{All}
use Rattle.std.specs.List.{Contains}
use Rattle.std.proofs.lemmas.List.Elements.{All-head, All-tail, All-weaker}
use Rattle.std.proofs.lemmas.List.FromFn.{length-map-range_with_len, get_or-map-range_with_len}
use Rattle.gfp_frames.proofs.Texts.{area_size_of}
use Rattle.odu_client.specs.ClientInput.{ClientInput, AtEnd, emitted_before, gfp_length}
use Rattle.odu_client.specs.ClientOutput.{arriving_packets}
use Rattle.odu_client.proofs.GfpTexts.{clients, total, gfp_length-is}
use Rattle.packet_text.specs.PacketText.{hex_text}
use Rattle.connection_laws.specs.Chains.{Hop}
use Rattle.connection_laws.specs.Delivery.{AreOffered, whole_payload}
use Rattle.device_model.specs.Through.{Inputs, own_input, arrived_by, text_by}
use Rattle.trial_plans.specs.CarriedBack.{ComesBack, bytes_back}
use Rattle.trial_plans.specs.TrialCarried.{AreTrialPackets, AreTrialRuns}
use Rattle.trial_plans.specs.TrialPlans.{one_slot, trial_connection, trial_plan}
use Rattle.trial_plans.proofs.CarriedBack.{brings_all_packets_back}
use Rattle.trial_plans.proofs.TrialPlans.{first_accepted, second_accepted, third_accepted}

known : (run c : ℕ) → c < 8 → Contains (trial_plan run).connections (trial_connection run c)
known run c h =
    let long = length-map-range_with_len (trial_connection run) 0 8 in
    (c, omega arith, get_or-map-range_with_len (trial_connection run) 0 8 c c (trial_connection run c) h (omega arith))

-- ---- the packets

frames_few : (packets : List (List ℕ)) → All (λ packet. (1 ≤ length packet) × (length packet ≤ 1500)) packets → total (clients packets true) ≤ 1512 * length packets
unfolding total
frames_few [] h = omega arith
frames_few (packet ∷ packets) h =
    let P : List ℕ → Type 0 = λ packet. (1 ≤ length packet) × (length packet ≤ 1500) in
    let here = All-head P packet packets h in
    let few = here.1 in
    let size = area_size_of packet true in
    let rest = frames_few packets (All-tail P packet packets h) in
    omega arith

text_few : (packets : List (List ℕ)) → AreTrialPackets packets → gfp_length packets true ≤ 24196
unfolding total
text_few packets drawn =
    let few = frames_few packets drawn.sizes in
    let many = drawn.many in
    let all = gfp_length-is packets true in
    omega arith

offered : (packets : List (List ℕ)) → AreTrialPackets packets → AreOffered packets
offered packets drawn =
    All-weaker (λ packet. (1 ≤ length packet) × (length packet ≤ 1500)) (λ packet. (1 ≤ length packet) × (length packet ≤ 65527))
    (λ packet h. (h.0, (let few = h.1 in omega arith))) packets drawn.sizes

bytes_enough : whole_payload (bytes_back (15168 ∷ []) 2 15) ≡ 76160
unfolding emitted_before
bytes_enough = refl

-- ---- the hops of client c

abbrev first_hop : (inputs : (run : ℕ) → Inputs) (frames : (run : ℕ) → List (List ℕ)) (c : ℕ) → Hop
first_hop inputs frames c = record {
  plan = trial_plan 0;
  inputs = inputs 0;
  x = trial_connection 0 c;
  line_in = 0;
  port_in = c + 1;
  slots_in = one_slot (c + 1);
  line_out = 0;
  port_out = c + 1;
  slots_out = one_slot (c + 1);
  frames = frames 0;
}

abbrev second_hop : (inputs : (run : ℕ) → Inputs) (frames : (run : ℕ) → List (List ℕ)) (c : ℕ) → Hop
second_hop inputs frames c = record {
  plan = trial_plan 1;
  inputs = inputs 1;
  x = trial_connection 1 c;
  line_in = 0;
  port_in = c + 1;
  slots_in = one_slot (c + 1);
  line_out = 1;
  port_out = c + 1;
  slots_out = one_slot (8 - c);
  frames = frames 1;
}

abbrev third_hop : (inputs : (run : ℕ) → Inputs) (frames : (run : ℕ) → List (List ℕ)) (c : ℕ) → Hop
third_hop inputs frames c = record {
  plan = trial_plan 2;
  inputs = inputs 2;
  x = trial_connection 2 c;
  line_in = 0;
  port_in = c + 1;
  slots_in = one_slot (8 - c);
  line_out = 2;
  port_out = c + 1;
  slots_out = one_slot (c + 1);
  frames = frames 2;
}

abbrev fourth_hop : (inputs : (run : ℕ) → Inputs) (c : ℕ) → Hop
fourth_hop inputs c = record {
  plan = trial_plan 3;
  inputs = inputs 3;
  x = trial_connection 3 c;
  line_in = 0;
  port_in = c + 1;
  slots_in = one_slot (c + 1);
  line_out = 0;
  port_out = c + 1;
  slots_out = one_slot (c + 1);
  frames = [];
}

all_stop : 16 ≤ 16
all_stop = omega arith

comes_back : (packets : (c : ℕ) → List (List ℕ)) (inputs : (run : ℕ) → Inputs) (frames : (run : ℕ) → List (List ℕ)) (c : ℕ) → AreTrialRuns packets inputs frames → c < 8
    → ComesBack c c (first_hop inputs frames c) (second_hop inputs frames c) (third_hop inputs frames c ∷ []) (fourth_hop inputs c)
comes_back packets inputs frames c runs h = record {
  sends = record { accepted = first_accepted; is_of = known 0 c h; from = refl; to = refl; file = runs.first };
  reads = record { form = refl; file = runs.read 0 (omega arith); slots = refl; port = refl; start = refl; stop = all_stop };
  runs = (
    record { accepted = second_accepted; is_of = known 1 c h; from = refl; to = refl; file = runs.second },
    record { form = refl; file = runs.read 1 (omega arith); slots = refl; port = refl; start = refl; stop = all_stop },
    record { accepted = third_accepted; is_of = known 2 c h; from = refl; to = refl; file = runs.third },
  );
  reads_last = record { form = refl; file = runs.read 2 (omega arith); slots = refl; port = refl; start = refl; stop = all_stop };
  receives = record { from = refl; to = refl };
}

pub all_packets_come_back : (packets : (c : ℕ) → List (List ℕ)) (inputs : (run : ℕ) → Inputs) (frames : (run : ℕ) → List (List ℕ)) (c : ℕ) → AreTrialRuns packets inputs frames → c < 8 → AreTrialPackets (packets c)
    → (arriving_packets (arrived_by (trial_connection 3 c) (own_input (inputs 3) (trial_connection 3 c)) 16) ≡ packets c)
    × (text_by (trial_connection 3 c) (own_input (inputs 3) (trial_connection 3 c)) 16 ≡ hex_text (packets c))
all_packets_come_back packets inputs frames c runs h drawn =
    let given : (inputs 0).client c ≡ record { packets = packets c; ending = AtEnd } = runs.clients c h in
    let same : ((inputs 0).client c).packets ≡ packets c = ap (λ (input : ClientInput). input.packets) given in
    let few = text_few (packets c) drawn in
    let enough = bytes_enough in
    let some = subst AreOffered (sym same) (offered (packets c) drawn) in
    let fits = subst (λ ps. gfp_length ps true ≤ whole_payload (bytes_back (15168 ∷ []) 2 15)) (sym same) (let f : gfp_length (packets c) true ≤ whole_payload (bytes_back (15168 ∷ []) 2 15) = omega arith in f) in
    let back = brings_all_packets_back c c 15 (first_hop inputs frames c) (second_hop inputs frames c) (third_hop inputs frames c ∷ []) (fourth_hop inputs c) (comes_back packets inputs frames c runs h) all_stop some fits in
    (back.0 ∙ same, back.1 ∙ ap hex_text same)
