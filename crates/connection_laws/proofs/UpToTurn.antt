-- No turn looks ahead: what leaves in a turn is fixed by what came before it.
use Rattle.std.proofs.Common.{◌≡◌, ◌<◌, ◌≤◌, ◌+◌, ◌*◌, ◌-◌, inl, inr, ℕ, zero, suc, Bool, List, [], ◌∷◌, ◌++◌, None, Some, Option, take, drop, map, refl, sym, ap, ◌∙◌, subst, arith, add-one}
use Rattle.std.specs.List.{concat, Contains, range_with_len}
use Rattle.std.specs.Prelude.{option_map}
use Rattle.otn_base.specs.LineSlots.{LineSlots, slots_of}
use Rattle.line_side.specs.LineFile.{mfas_of}
use Rattle.maintenance_signals.specs.Stream.{signal_byte}
use Rattle.maintenance_signals.specs.declared.signal.Signal.TheVariants.{Ais}
use Rattle.multiframe.specs.LineTurns.{Lock, multiframe}
use Rattle.odu_client.specs.ClientFrames.{client_frames, client_stream, frames_begun, payload_begun}
use Rattle.odu_client.specs.ClientInput.{ClientInput, gfp_length, emitted_before, pace_of, input_emits}
use Rattle.odu_client.specs.ClientOutput.{arriving_text}
use Rattle.odu_client.proofs.GfpTexts.{text_of_more}
use Rattle.plan_file.specs.Answer.{fault_in}
use Rattle.plan_file.specs.declared.connection.Connection.{Connection}
use Rattle.plan_file.specs.declared.connection.FromEnd.{FromEnd}
use Rattle.plan_file.specs.declared.connection.FromEnd.TheVariants as from_end
use Rattle.plan_file.specs.declared.plan.Plan.{Plan}
use Rattle.tributary_model.specs.Carries.{past_of}
use Rattle.tributary_model.specs.Emission.{emission}
use Rattle.tributary_model.specs.Laws.{IsTributary, AllSameOwnPlaces}
use Rattle.tributary_model.specs.Places.{Tributary, View, tributary_of, turn_view, view_of}
use Rattle.tributary_model.specs.Stretches.{state_after}
use Rattle.tributary_model.proofs.OnLine.{is_tributary}
use Rattle.tributary_model.proofs.Views.{fixed_by_own_places}
use Rattle.device_model.specs.Entries.{first_turn, own_turn, form_out}
use Rattle.device_model.specs.LineViews.{member_at, frames_of, view_at}
use Rattle.device_model.specs.SoundPlans.{IsSoundEntry}
use Rattle.device_model.specs.Through.{Inputs, OwnInput, of_line, of_client, of_signal, own_of, own_input, emits_by, emits, got_in, got_by, sink_state, state_by, arrived_by}
use Rattle.connection_laws.specs.TwoWorlds.{FiledRun, HaveFrame, HaveSameByte, written}
use Rattle.connection_laws.specs.UpToTurn.{AgreeInTurn, BringAlike, AgreeUpTo, ShowUpTo, LeavesAlikeUpTo}
use Rattle.connection_laws.proofs.OwnBytes.{writes_as_got}
use Rattle.connection_laws.proofs.WorldInputs.{sound_of}

-- ---- a turn of a line

-- the frames of its multiframe agree at the own places, from frame n on
same_frames : (own : Tributary) (one other : List ℕ) (t : ℕ) (lock : Lock) (n k : ℕ) → AgreeInTurn own one other t → multiframe own.line_slots (mfas_of one) t ≡ Some lock → n + k ≤ own.line_slots
    → AllSameOwnPlaces own n (map (member_at one lock) (range_with_len n k)) (map (member_at other lock) (range_with_len n k))
same_frames own one other t lock n zero agree e few = tt
same_frames own one other t lock n (suc k) agree e few =
    let rest = same_frames own one other t lock (n + 1) k agree e (omega arith) in (
      record { expected = refl; bytes = λ row column has. agree.bytes lock n row column e (omega arith) has },
      subst (λ i. AllSameOwnPlaces own i (map (member_at one lock) (range_with_len (n + 1) k)) (map (member_at other lock) (range_with_len (n + 1) k))) (add-one n) rest,
    )

same_view_of : (own : Tributary) (one other : List ℕ) (t : ℕ) (lock : Lock) → IsTributary own → AgreeInTurn own one other t → multiframe own.line_slots (mfas_of one) t ≡ Some lock
    → view_of own (frames_of own.line_slots one lock) ≡ view_of own (frames_of own.line_slots other lock)
unfolding frames_of
same_view_of own one other t lock is agree e =
    fixed_by_own_places own (map (member_at one lock) (range_with_len 0 own.line_slots)) (map (member_at other lock) (range_with_len 0 own.line_slots)) is
    (same_frames own one other t lock 0 own.line_slots agree e (omega arith))

-- it shows the same of both lines
pub same_turn_view : (own : Tributary) (one other : List ℕ) (t : ℕ) → IsTributary own → AgreeInTurn own one other t → view_at own one t ≡ view_at own other t
unfolding view_at
same_turn_view own one other t is agree =
    by_multiframe (multiframe own.line_slots (mfas_of one) t) refl ∙ ap (λ lock. turn_view own (option_map (frames_of own.line_slots other) lock)) agree.lock
  where
    by_multiframe : (lock : Option Lock) → multiframe own.line_slots (mfas_of one) t ≡ lock → turn_view own (option_map (frames_of own.line_slots one) lock) ≡ turn_view own (option_map (frames_of own.line_slots other) lock)
    by_multiframe None e = refl
    by_multiframe (Some lock) e = ap Some (same_view_of own one other t lock is agree e)

-- ---- a client's stream

-- packets that fill what is begun give the stream so far, whatever follows them
stream_of_begun : (sapi : List ℕ) (packets one other : List (List ℕ)) (fcs : Bool) (n : ℕ) → payload_begun n ≤ gfp_length packets fcs
    → client_stream sapi (packets ++ one) fcs n ≡ client_stream sapi (packets ++ other) fcs n
unfolding client_stream
stream_of_begun sapi packets one other fcs n fill =
    ap (λ payload. take n (concat (client_frames sapi (frames_begun n) payload)))
    (text_of_more packets one fcs (payload_begun n) fill ∙ sym (text_of_more packets other fcs (payload_begun n) fill))

begun_before : (n m : ℕ) → n ≤ m → payload_begun n ≤ payload_begun m
begun_before n m le = omega arith

same_stream : (sapi : List ℕ) (fcs : Bool) (emitted n : ℕ) (one other : ClientInput) → n ≤ emitted → BringAlike fcs emitted one other → client_stream sapi one.packets fcs n ≡ client_stream sapi other.packets fcs n
same_stream sapi fcs emitted n one other le (inl same) = ap (λ packets. client_stream sapi packets fcs n) same
same_stream sapi fcs emitted n one other le (inr alike) =
    let begun = begun_before n emitted le in
    let fill = alike.fill in
    ap (λ packets. client_stream sapi packets fcs n) alike.first.1
    ∙ stream_of_begun sapi alike.packets alike.first.0 alike.second.0 fcs n (omega arith)
    ∙ ap (λ packets. client_stream sapi packets fcs n) (sym alike.second.1)

-- what is emitted up to a later turn is no less
one_turn_on : (paces : List ℕ) (j : ℕ) → emitted_before paces j + pace_of paces j ≡ emitted_before paces (suc j)
unfolding emitted_before
one_turn_on paces j = refl

emitted_grows : (paces : List ℕ) (j n k : ℕ) → n ≡ j + k → emitted_before paces j ≤ emitted_before paces n
emitted_grows paces j n zero e =
    let same : emitted_before paces n ≡ emitted_before paces j = ap (emitted_before paces) (omega arith) in
    omega arith
emitted_grows paces j n (suc k) e =
    let before = emitted_grows paces j (j + k) k refl in
    let on = one_turn_on paces (j + k) in
    let same : emitted_before paces n ≡ emitted_before paces (suc (j + k)) = ap (emitted_before paces) (omega arith) in
    omega arith

emitted_by_then : (paces : List ℕ) (j n : ℕ) → j < n → emitted_before paces j + pace_of paces j ≤ emitted_before paces n
emitted_by_then paces j n less =
    let on = one_turn_on paces j in
    let grows = emitted_grows paces (suc j) n (n - suc j) (omega arith) in
    omega arith

client_emits : (x : Connection) (j n : ℕ) (one other : ClientInput) → j < n → BringAlike x.fcs (emitted_before x.pace n) one other → input_emits x.trace x.fcs x.pace one j ≡ input_emits x.trace x.fcs x.pace other j
unfolding input_emits
client_emits x j n one other less alike =
    ap (drop (emitted_before x.pace j)) (same_stream x.trace x.fcs (emitted_before x.pace n) (emitted_before x.pace j + pace_of x.pace j) one other (emitted_by_then x.pace j n less) alike)

-- ---- what is emitted

same_past : (shows others : ℕ → Option View) (s n k : ℕ) → ((j : ℕ) → j < n → shows (s + j) ≡ others (s + j)) → k ≤ n → past_of shows s k ≡ past_of others s k
same_past shows others s n zero same le = refl
same_past shows others s n (suc k) same le =
    ap (λ v. v ∷ past_of shows s k) (same k (omega arith)) ∙ ap (λ past. others (s + k) ∷ past) (same_past shows others s n k same (omega arith))

emits_alike_by : (from : FromEnd) (x : Connection) (n j : ℕ) (one other : OwnInput) → j < n → ShowUpTo x n one other → emits_by from x one j ≡ emits_by from x other j
emits_alike_by (from_end.Line a port slots) x n j (of_line shows) (of_line others) less same =
    ap (λ past. emission (tributary_of slots port) (signal_byte Ais) past (shows (first_turn x + j))) (same_past shows others (first_turn x) n j same (omega arith))
    ∙ ap (λ v. emission (tributary_of slots port) (signal_byte Ais) (past_of others (first_turn x) j) v) (same j less)
emits_alike_by (from_end.Client m) x n j (of_line shows) (of_line others) less same = refl
emits_alike_by (from_end.Signal signal) x n j (of_line shows) (of_line others) less same = refl
emits_alike_by (from_end.Line a port slots) x n j (of_client one) (of_client other) less same = refl
emits_alike_by (from_end.Client m) x n j (of_client one) (of_client other) less same = client_emits x j n one other less same
emits_alike_by (from_end.Signal signal) x n j (of_client one) (of_client other) less same = refl
emits_alike_by from x n j of_signal of_signal less same = refl
emits_alike_by from x n j (of_line shows) (of_client other) less same = absurd same
emits_alike_by from x n j (of_line shows) of_signal less same = absurd same
emits_alike_by from x n j (of_client one) (of_line others) less same = absurd same
emits_alike_by from x n j (of_client one) of_signal less same = absurd same
emits_alike_by from x n j of_signal (of_line others) less same = absurd same
emits_alike_by from x n j of_signal (of_client other) less same = absurd same

pub emits_alike : (x : Connection) (n j : ℕ) (one other : OwnInput) → j < n → ShowUpTo x n one other → emits x one j ≡ emits x other j
unfolding emits
emits_alike x n j one other less same = emits_alike_by x.from x n j one other less same

-- ---- what is got

got_in_alike : (x : Connection) (n k : ℕ) (one other : OwnInput) → k ≤ n → ShowUpTo x n one other → got_in x one k ≡ got_in x other k
got_in_alike x n zero one other le same = refl
got_in_alike x n (suc k) one other le same = emits_alike x n k one other (omega arith) same

got_alike : (x : Connection) (n k : ℕ) (one other : OwnInput) → k ≤ n + 1 → ShowUpTo x n one other → got_by x one k ≡ got_by x other k
unfolding got_by
got_alike x n zero one other le same = refl
got_alike x n (suc k) one other le same =
    ap (λ g. g ++ got_in x one k ∷ []) (got_alike x n k one other (omega arith) same) ∙ ap (λ l. got_by x other k ++ l ∷ []) (got_in_alike x n k one other (omega arith) same)

arrived_alike : (x : Connection) (n k : ℕ) (one other : OwnInput) → k ≤ n + 1 → ShowUpTo x n one other → arrived_by x one k ≡ arrived_by x other k
arrived_alike x n k one other le same = ap concat (got_alike x n k one other le same)

-- ---- how the from end stands

state_alike_by : (from : FromEnd) (x : Connection) (n k : ℕ) (one other : OwnInput) → k ≤ n → ShowUpTo x n one other → state_by from x one k ≡ state_by from x other k
state_alike_by (from_end.Line a port slots) x n k (of_line shows) (of_line others) le same =
    ap (λ past. sink_state (state_after (tributary_of slots port) past)) (same_past shows others (first_turn x) n k same le)
state_alike_by (from_end.Client m) x n k one other le same = refl
state_alike_by (from_end.Signal signal) x n k one other le same = refl
state_alike_by (from_end.Line a port slots) x n k (of_client one) (of_client other) le same = refl
state_alike_by (from_end.Line a port slots) x n k of_signal of_signal le same = refl
state_alike_by (from_end.Line a port slots) x n k (of_line shows) (of_client other) le same = absurd same
state_alike_by (from_end.Line a port slots) x n k (of_line shows) of_signal le same = absurd same
state_alike_by (from_end.Line a port slots) x n k (of_client one) (of_line others) le same = absurd same
state_alike_by (from_end.Line a port slots) x n k (of_client one) of_signal le same = absurd same
state_alike_by (from_end.Line a port slots) x n k of_signal (of_line others) le same = absurd same
state_alike_by (from_end.Line a port slots) x n k of_signal (of_client other) le same = absurd same

-- ---- all of it

pub looks_not_ahead : (x : Connection) (n : ℕ) (one other : OwnInput) → ShowUpTo x n one other → LeavesAlikeUpTo x n one other
looks_not_ahead x n one other same = record {
  emitted = λ j less. emits_alike x n j one other less same;
  got = λ k le. got_alike x n k one other le same;
  arrived = λ k le. arrived_alike x n k one other le same;
  text = λ k le. ap arriving_text (arrived_alike x n k one other le same);
  state = λ k le. state_alike_by x.from x n k one other le same;
}

pub writes_nothing_ahead : (one other : FiledRun) (x : Connection) (b port past n row column : ℕ) (slots : LineSlots) → HaveFrame one other x b port past n row column slots
    → ShowUpTo x (own_turn x past) (own_input one.inputs x) (own_input other.inputs x) → (form_out one.plan b).scrambled ≡ (form_out other.plan b).scrambled
    → HaveSameByte (written one b) (written other b) (slots_of slots.kind * past + n) row column
writes_nothing_ahead one other x b port past n row column slots have same mask =
    writes_as_got one other x b port past n row column slots have
    (got_alike x (own_turn x past) (own_turn x past + 1) (own_input one.inputs x) (own_input other.inputs x) (omega arith) same) mask

-- ---- the own input

shows_of : (plan : Plan) (x : Connection) (from : FromEnd) (n : ℕ) (one other : Inputs) → IsSoundEntry plan x → x.from ≡ from → AgreeUpTo from x n one other → ShowUpTo x n (own_of one from) (own_of other from)
shows_of plan x (from_end.Line a port slots) n one other sound e agree =
    let own = is_tributary slots port (sound.from_line a port slots e).list in
    λ j less. same_turn_view (tributary_of slots port) (one.line a) (other.line a) (first_turn x + j) own (agree j less)
shows_of plan x (from_end.Client m) n one other sound e agree = agree
shows_of plan x (from_end.Signal signal) n one other sound e agree = tt

pub shows_the_same_up_to : (plan : Plan) (x : Connection) (n : ℕ) (one other : Inputs) → fault_in plan ≡ None → Contains plan.connections x → AgreeUpTo x.from x n one other → ShowUpTo x n (own_input one x) (own_input other x)
shows_the_same_up_to plan x n one other accepted has agree = shows_of plan x x.from n one other (sound_of plan x accepted has) refl agree
