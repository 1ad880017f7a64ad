-- What runs in a row bring back to a client.
use Rattle.std.proofs.Common.{rules, None, ◌≡◌, ◌≤◌, ◌<◌, ◌+◌, ◌-◌, ◌*◌, ℕ, zero, suc, Bool, List, [], ◌∷◌, ◌++◌, length, map, take, get_or, Some, refl, sym, ap, ◌∙◌, subst, arith}
use Rattle.std.specs.Prelude.{slice_get, replicate, cond}
use Rattle.std.specs.List.{concat, range_with_len}
use Rattle.std.proofs.lemmas.List.FromFn.{length-map-range_with_len, get_or-map-range_with_len}
use Rattle.std.proofs.lemmas.List.Sums.{sum_by-cons}
use Rattle.std.proofs.lemmas.Bool.{le-ltb}
use Rattle.std.proofs.lemmas.Option.{slice_get_read}
use Rattle.gfp_frames.specs.GfpText.{Frame, Idle, Client, stream_frames}
use Rattle.gfp_frames.specs.Within.{frame_size, packets_of as packet_in, packets_within}
use Rattle.line_side.specs.LineForm.{LineForm, size_of, through_mask}
use Rattle.line_side.proofs.LineFiles.{twice}
use Rattle.odu_client.specs.ClientFrames.{client_stream}
use Rattle.odu_client.specs.ClientInput.{pace_of, emitted_before, gfp_length}
use Rattle.odu_client.specs.ClientOutput.{arriving_packets, arriving_text}
use Rattle.odu_client.proofs.GfpTexts.{clients, total, gfp_length-is}
use Rattle.otn_base.specs.LineSlots.{LineSlots}
use Rattle.packet_text.specs.PacketText.{hex_text}
use Rattle.plan_file.specs.Answer.{fault_in}
use Rattle.tributary_model.specs.Carriage.{Arrives}
use Rattle.tributary_model.specs.Carries.{sent}
use Rattle.tributary_model.specs.Passing.{later}
use Rattle.tributary_model.specs.Places.{tributary_of}
use Rattle.tributary_model.proofs.Totals.{sent_next}
use Rattle.connection_laws.specs.Carried.{IsMadeTo, numbers_got}
use Rattle.connection_laws.specs.Chains.{Hop, own_in, own_out, views_in, views_out, last_turn, ReadsOn, last_hop}
use Rattle.connection_laws.specs.Delivery.{AreOffered, whole_payload, whole_packets}
use Rattle.device_model.specs.Entries.{first_turn, form_out}
use Rattle.device_model.specs.LineViews.{view_at}
use Rattle.connection_laws.specs.RunsInARow.{AreRuns, IsRun}
use Rattle.device_model.specs.Through.{own_input, arrived_by, text_by}
use Rattle.connection_laws.proofs.Accepted.{goes_as_asked}
use Rattle.connection_laws.proofs.CarriedFrom.{carries_a_client}
use Rattle.connection_laws.proofs.Delivery.{gets_what_is_carried, delivers_its_packets}
use Rattle.connection_laws.proofs.GotStreams.{gets_the_stream}
use Rattle.connection_laws.proofs.ClientStreams.{stream_front}
use Rattle.connection_laws.proofs.RunsInARow.{carries_through_runs}
use Rattle.device_model.proofs.SoundPlans.{sound_plan}
use Rattle.trial_plans.specs.CarriedBack.{IsSending, ComesBack, bytes_back}

-- ---- totals

sent_zero : (q : List ℕ) (t : ℕ) → sent (0 ∷ q) t ≡ sent q (t - 1)
sent_zero q zero = refl
sent_zero q (suc m) =
    sum_by-cons (λ x. x) 0 (take m q)
    ∙ (let e : 0 + sent q m ≡ sent q m = omega arith in e)
    ∙ ap (sent q) (let e : m ≡ suc m - 1 = omega arith in e)

sent_later : (k : ℕ) (p : List ℕ) (t : ℕ) → sent (later k p) t ≡ sent p (t - 3 * k)
sent_later zero p t = ap (sent p) (let e : t ≡ t - 3 * 0 = omega arith in e)
sent_later (suc k) p t =
    let q = later k p in
    sent_zero (0 ∷ 0 ∷ q) t ∙ sent_zero (0 ∷ q) (t - 1) ∙ sent_zero q (t - 1 - 1) ∙ sent_later k p (t - 1 - 1 - 1)
    ∙ ap (sent p) (let e : t - 1 - 1 - 1 - 3 * k ≡ t - 3 * suc k = omega arith in e)

sent_paces : (paces : List ℕ) (n m : ℕ) → m ≤ n → sent (map (pace_of paces) (range_with_len 0 n)) m ≡ emitted_before paces m
unfolding emitted_before
sent_paces paces n zero h = refl
sent_paces paces n (suc m) h =
    let p = map (pace_of paces) (range_with_len 0 n) in
    let long = length-map-range_with_len (pace_of paces) 0 n in
    ap (sent p) (let e : suc m ≡ m + 1 = omega arith in e)
    ∙ sent_next p m (omega arith)
    ∙ ap (λ s. s + get_or p m 0) (sent_paces paces n m (omega arith))
    ∙ ap (λ s. emitted_before paces m + s) (get_or-map-range_with_len (pace_of paces) 0 n m m 0 (omega arith) (omega arith))

sent_got : (paces : List ℕ) (n t : ℕ) → t ≤ n + 1 → sent (numbers_got paces n) t ≡ emitted_before paces (t - 1)
sent_got paces n t h = sent_zero (map (pace_of paces) (range_with_len 0 n)) t ∙ sent_paces paces n (t - 1) (omega arith)

sent_back : (paces : List ℕ) (k n i : ℕ) → i - 2 - 3 * k ≤ n + 1 → sent (later k (numbers_got paces n)) (i - 2) ≡ bytes_back paces k i
sent_back paces k n i h =
    sent_later k (numbers_got paces n) (i - 2)
    ∙ sent_got paces n (i - 2 - 3 * k) h
    ∙ ap (emitted_before paces) (let e : i - 2 - 3 * k - 1 ≡ i - 3 * (k + 1) = omega arith in e)

emitted_up : (paces : List ℕ) (m d : ℕ) → emitted_before paces m ≤ emitted_before paces (m + d)
unfolding emitted_before
emitted_up paces m zero = (let e : emitted_before paces (m + 0) ≡ emitted_before paces m = ap (emitted_before paces) (let f : m + 0 ≡ m = omega arith in f) in omega arith)
emitted_up paces m (suc d) =
    let rest = emitted_up paces m d in
    let e : emitted_before paces (m + suc d) ≡ emitted_before paces (m + d) + pace_of paces (m + d) = ap (emitted_before paces) (let f : m + suc d ≡ suc (m + d) = omega arith in f) in
    omega arith

bytes_less : (paces : List ℕ) (k m i : ℕ) → i - 3 * (k + 1) ≤ m → bytes_back paces k i ≤ emitted_before paces m
bytes_less paces k m i h =
    let up = emitted_up paces (i - 3 * (k + 1)) (m - (i - 3 * (k + 1))) in
    let e : emitted_before paces (i - 3 * (k + 1) + (m - (i - 3 * (k + 1)))) ≡ emitted_before paces m = ap (emitted_before paces) (omega arith) in
    omega arith

long_later : (k : ℕ) (p : List ℕ) → length (later k p) ≡ 3 * k + length p
long_later zero p = omega arith
long_later (suc k) p = let h = long_later k p in omega arith

-- ---- one run reads what the one before it made

read_as_made : (hop next : Hop) → ReadsOn hop next → next.inputs.line next.line_in ≡ concat hop.frames
read_as_made hop next reads =
    reads.file
    ∙ ap (λ (form : LineForm). through_mask form.scrambled (through_mask (form_out hop.plan hop.line_out).scrambled (concat hop.frames))) reads.form
    ∙ twice (form_out hop.plan hop.line_out).scrambled (concat hop.frames)

read_on : (hop next : Hop) (bytes p : List ℕ) (u : ℕ) → ReadsOn hop next → Arrives (own_out hop) bytes p (views_out hop) (first_turn hop.x) (first_turn hop.x) (first_turn hop.x) u
    → Arrives (own_in next) bytes p (views_in next) (first_turn next.x) (first_turn next.x) (first_turn next.x) u
read_on hop next bytes p u reads arrives =
    let P : LineSlots → ℕ → List ℕ → ℕ → Type 0 = λ slots port given start. Arrives (tributary_of slots port) bytes p (view_at (tributary_of slots port) given) (start - 1) (start - 1) (start - 1) u in
    subst (λ slots. P slots next.port_in (next.inputs.line next.line_in) next.x.start) (sym reads.slots)
    (subst (λ port. P hop.slots_out port (next.inputs.line next.line_in) next.x.start) (sym reads.port)
    (subst (λ given. P hop.slots_out hop.port_out given next.x.start) (sym (read_as_made hop next reads))
    (subst (λ start. P hop.slots_out hop.port_out (concat hop.frames) start) (sym reads.start) arrives)))

-- ---- the first run

frames_enough : (size u stop turns : ℕ) → u < stop → stop ≤ turns → size * (u + 1) ≤ size * turns
frames_enough size u stop turns some low = grind arith

was_accepted : (client : ℕ) (hop : Hop) → IsSending client hop → fault_in hop.plan ≡ None
was_accepted client hop sends = search rules

-- up to a turn in which it is active, the file of the line carries the client's stream
sending_carries : (client u : ℕ) (hop : Hop) → IsSending client hop → u < hop.x.stop
    → Arrives (own_out hop) (client_stream hop.x.trace (hop.inputs.client client).packets hop.x.fcs (emitted_before hop.x.pace (u - first_turn hop.x))) (numbers_got hop.x.pace (u - first_turn hop.x))
    (views_out hop) (first_turn hop.x) (first_turn hop.x) (first_turn hop.x) u
sending_carries client u hop sends active =
    let sound = sound_plan hop.plan (was_accepted client hop sends) in
    let known : slice_get hop.plan.connections sends.is_of.0 ≡ Some hop.x = slice_get_read hop.plan.connections (length hop.plan.connections) sends.is_of.0 hop.x refl sends.is_of.1 (sym sends.is_of.2) in
    let entry = sound.entries sends.is_of.0 hop.x known in
    let asked = goes_as_asked hop.plan sends.is_of.0 hop.line_out hop.port_out hop.x hop.slots_out sound known sends.to in
    let made : IsMadeTo hop.plan hop.inputs hop.x hop.line_out u hop.frames = record {
      count = size_of (form_out hop.plan hop.line_out) * hop.plan.turns;
      file = sends.file;
      enough = frames_enough (size_of (form_out hop.plan hop.line_out)) u hop.x.stop hop.plan.turns active entry.stop;
      active = active;
    } in
    let n = u - first_turn hop.x in
    let low : u ≤ first_turn hop.x + n = omega arith in
    subst (λ bytes. Arrives (own_out hop) bytes (numbers_got hop.x.pace n) (views_out hop) (first_turn hop.x) (first_turn hop.x) (first_turn hop.x) u)
    (gets_the_stream hop.x hop.inputs client n sends.from)
    (carries_a_client hop.x client sends.from hop.plan hop.inputs hop.line_out hop.port_out u n hop.slots_out hop.frames asked.0 asked.1 made low)

-- ---- all of them

stop_some : (hop : Hop) → IsRun hop → 1 ≤ hop.x.stop
stop_some hop run =
    let accepted : fault_in hop.plan ≡ None = run.accepted in
    let sound = sound_plan hop.plan accepted in
    let known : slice_get hop.plan.connections run.is_of.0 ≡ Some hop.x = slice_get_read hop.plan.connections (length hop.plan.connections) run.is_of.0 hop.x refl run.is_of.1 (sym run.is_of.2) in
    let entry = sound.entries run.is_of.0 hop.x known in
    let start = entry.start in
    let span = entry.span in
    omega arith

first_run : (hop : Hop) (hops : List Hop) → AreRuns hop hops → IsRun hop
first_run hop [] run = run
first_run hop (next ∷ hops) runs = runs.0

comes_in : (sender receiver : ℕ) (first hop : Hop) (hops : List Hop) (last : Hop) (back : ComesBack sender receiver first hop hops last)
    → Arrives (own_in last) (client_stream first.x.trace (first.inputs.client sender).packets first.x.fcs (emitted_before first.x.pace (last_turn hop.x - first_turn first.x)))
    (later (suc (length hops)) (numbers_got first.x.pace (last_turn hop.x - first_turn first.x)))
    (views_in last) (first_turn last.x) (first_turn last.x) (first_turn last.x) (last_turn (last_hop hop hops).x)
comes_in sender receiver first hop hops last back =
    let u = last_turn hop.x in
    let n = u - first_turn first.x in
    let bytes = client_stream first.x.trace (first.inputs.client sender).packets first.x.fcs (emitted_before first.x.pace n) in
    let p = numbers_got first.x.pace n in
    let some = stop_some hop (first_run hop hops back.runs) in
    let reads = back.reads in
    let stop : hop.x.stop ≤ first.x.stop = reads.stop in
    let active : u < first.x.stop = omega arith in
    let here = read_on first hop bytes p u reads (sending_carries sender u first back.sends active) in
    read_on (last_hop hop hops) last bytes (later (suc (length hops)) p) (last_turn (last_hop hop hops).x) back.reads_last
    (carries_through_runs hop hops bytes p back.runs here)

pub brings_the_stream_back : (sender receiver n : ℕ) (first hop : Hop) (hops : List Hop) (last : Hop) → ComesBack sender receiver first hop hops last → first_turn last.x + (n + 1) ≤ last.x.stop
    → arrived_by last.x (own_input last.inputs last.x) (n + 1)
    ≡ client_stream first.x.trace (first.inputs.client sender).packets first.x.fcs (bytes_back first.x.pace (suc (length hops)) n)
brings_the_stream_back sender receiver n first hop hops last back within =
    let k = suc (length hops) in
    let paces = first.x.pace in
    let packets = (first.inputs.client sender).packets in
    let u = last_turn (last_hop hop hops).x in
    let m = last_turn hop.x - first_turn first.x in
    let all = client_stream first.x.trace packets first.x.fcs (emitted_before paces m) in
    let p = later k (numbers_got paces m) in
    let arrives = comes_in sender receiver first hop hops last back in
    let reads = back.reads_last in
    let stop : last.x.stop ≤ (last_hop hop hops).x.stop = reads.stop in
    let few = arrives.carries.numbers in
    let long = long_later k (numbers_got paces m) in
    let size = length-map-range_with_len (pace_of paces) 0 m in
    let same : sent p (n - 2) ≡ bytes_back paces k n = sent_back paces k m n (omega arith) in
    let less : bytes_back paces k n ≤ emitted_before paces m = bytes_less paces k m n (omega arith) in
    gets_what_is_carried last.inputs last.x last.line_in last.port_in u n last.slots_in all p back.receives.from (omega arith) arrives
    ∙ ap (λ b. take b all) same
    ∙ stream_front first.x.trace packets first.x.fcs (bytes_back paces k n) (emitted_before paces m) less

-- ---- the packets

packets-whole : (n : ℕ) (frame : Frame) (frames : List Frame) → frame_size frame ≤ n → packets_within n (frame ∷ frames) ≡ packet_in frame ++ packets_within (n - frame_size frame) frames
unfolding packets_within
packets-whole n frame frames h = ap (λ b. cond b [] (packet_in frame ++ packets_within (n - frame_size frame) frames)) (le-ltb n (frame_size frame) h)

none_within : (idles n : ℕ) → packets_within n (replicate idles Idle) ≡ []
unfolding packets_within
none_within zero n = refl
none_within (suc idles) zero = refl
none_within (suc idles) (suc zero) = refl
none_within (suc idles) (suc (suc zero)) = refl
none_within (suc idles) (suc (suc (suc zero))) = refl
none_within (suc idles) (suc (suc (suc (suc n)))) = packets-whole (suc (suc (suc (suc n)))) Idle (replicate idles Idle) (omega arith)
    ∙ ap (λ j. packets_within j (replicate idles Idle)) (let e : suc (suc (suc (suc n))) - 4 ≡ n = omega arith in e)
    ∙ none_within idles n

all_within : (packets : List (List ℕ)) (fcs : Bool) (idles n : ℕ) → total (clients packets fcs) ≤ n → packets_within n (clients packets fcs ++ replicate idles Idle) ≡ packets
unfolding total
all_within [] fcs idles n h = none_within idles n
all_within (packet ∷ packets) fcs idles n h =
    packets-whole n (Client packet fcs) (clients packets fcs ++ replicate idles Idle) (omega arith)
    ∙ ap (λ ps. packet ∷ ps) (all_within packets fcs idles (n - frame_size (Client packet fcs)) (omega arith))

all_in_stream : (packets : List (List ℕ)) (fcs : Bool) (idles n : ℕ) → gfp_length packets fcs ≤ n → packets_within n (stream_frames packets fcs idles) ≡ packets
unfolding total
all_in_stream packets fcs idles n h =
    let size = gfp_length-is packets fcs in
    packets-whole n Idle (clients packets fcs ++ replicate idles Idle) (omega arith)
    ∙ all_within packets fcs idles (n - 4) (omega arith)

pub brings_all_packets_back : (sender receiver n : ℕ) (first hop : Hop) (hops : List Hop) (last : Hop) → ComesBack sender receiver first hop hops last → first_turn last.x + (n + 1) ≤ last.x.stop
    → AreOffered (first.inputs.client sender).packets → gfp_length (first.inputs.client sender).packets first.x.fcs ≤ whole_payload (bytes_back first.x.pace (suc (length hops)) n)
    → (arriving_packets (arrived_by last.x (own_input last.inputs last.x) (n + 1)) ≡ (first.inputs.client sender).packets)
    × (text_by last.x (own_input last.inputs last.x) (n + 1) ≡ hex_text (first.inputs.client sender).packets)
unfolding arriving_text
brings_all_packets_back sender receiver n first hop hops last back within offered fits =
    let k = suc (length hops) in
    let paces = first.x.pace in
    let packets = (first.inputs.client sender).packets in
    let fcs = first.x.fcs in
    let u = last_turn (last_hop hop hops).x in
    let m = last_turn hop.x - first_turn first.x in
    let p = later k (numbers_got paces m) in
    let arrives = comes_in sender receiver first hop hops last back in
    let reads = back.reads_last in
    let stop : last.x.stop ≤ (last_hop hop hops).x.stop = reads.stop in
    let few = arrives.carries.numbers in
    let long = long_later k (numbers_got paces m) in
    let size = length-map-range_with_len (pace_of paces) 0 m in
    let same : sent p (n - 2) ≡ bytes_back paces k n = sent_back paces k m n (omega arith) in
    let come : arriving_packets (arrived_by last.x (own_input last.inputs last.x) (n + 1)) ≡ packets =
    delivers_its_packets last.inputs last.x last.line_in last.port_in u n (emitted_before paces m) last.slots_in first.x.trace packets fcs p back.receives.from (omega arith) offered arrives
    ∙ ap (whole_packets packets fcs) same
    ∙ all_in_stream packets fcs (whole_payload (bytes_back paces k n)) (whole_payload (bytes_back paces k n)) fits in
    (come, ap hex_text come)
