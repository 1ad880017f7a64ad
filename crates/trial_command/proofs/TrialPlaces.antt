-- The places of the trial, in memory, and a run over them.
use Rattle.std.proofs.Common.{◌≡◌, ◌≢◌, ◌≤◌, ◌<◌, ◌+◌, ◌*◌, ◌⊎◌, inl, inr, ℕ, zero, suc, List, [], ◌∷◌, map, length, get_or, Some, refl, sym, ap, ◌∙◌, subst, arith}
use Rattle.std.specs.Prelude.{slice_get}
use Rattle.std.proofs.lemmas.Bool.{cases_lt}
use Rattle.std.proofs.lemmas.Option.{slice_get-get_or}
use Rattle.port_base.specs.Bytes.{raised}
use Rattle.port_base.specs.InPlace.{in_view}
use Rattle.port_base.specs.OutPlace.{out_view}
use Rattle.port_base.specs.Racks.{bays_view, with_line_out, with_client_in, with_client_out, IsVacant}
use Rattle.port_base.specs.Views.{BaysView, no_input, line_in_at, line_out_at, client_in_at, client_out_at}
use Rattle.port_base.specs.contracts.mem_source.MemSourceSource.TheImpl as source
use Rattle.port_base.specs.declared.sink.Sink as sink
use Rattle.port_base.specs.declared.bays.Rack.{Rack}
use Rattle.port_base.specs.declared.in_place.InPlaceOf.{InPlaceOf}
use Rattle.port_base.specs.declared.in_place.InPlaceOf.TheVariants as input
use Rattle.port_base.specs.declared.mem_source.MemSource.{MemSource}
use Rattle.port_base.specs.declared.out_place.OutPlaceOf.{OutPlaceOf}
use Rattle.port_base.specs.declared.out_place.OutPlaceOf.TheVariants as output
use Rattle.port_base.proofs.BaysLaws.{line_out_set, client_in_set, only_client_in, client_out_set, only_client_out}
use Rattle.bounded_ports.specs.contracts.bounded_sink.BoundedSinkSink.TheImpl as bounded
use Rattle.bounded_ports.specs.declared.bounded_sink.BoundedSink.{BoundedSink}
use Rattle.plan_file.specs.declared.plan.Plan.{Plan}
use Rattle.device_model.specs.Moments.{over_ports, pieces_of}
use Rattle.device_model.specs.Report.{Numbers}
use Rattle.device_model.specs.RunLeft.{Takings, RunLeft}
use Rattle.packet_text.specs.PacketText.{hex_text}
use Rattle.trial_plans.specs.TrialDraw.{packets_of_trial}
use Rattle.trial_plans.specs.TrialPlans.{trial_plan}
use Rattle.trial_command.specs.TrialRuns.{holding, waiting}
use Rattle.trial_command.specs.Steps.TrialRuns.{ReadsWell, RunWent}
use Rattle.trial_command.specs.declared.places.TheConstants.{FILE_ROOM, TEXT_ROOM}
use denote.Param.{number}

-- sinks for a line's file, and for a client's text
abbrev pub file_sink : sink.Ghosts (BoundedSink FILE_ROOM)
file_sink = bounded.ghosts (number FILE_ROOM)

abbrev pub text_sink : sink.Ghosts (BoundedSink TEXT_ROOM)
text_sink = bounded.ghosts (number TEXT_ROOM)

-- places in memory with sinks of any kind
abbrev pub view : {K : Type 0} → sink.Ghosts K → Rack MemSource K → BaysView
view k rack = bays_view source.ghosts k rack

-- ---- a run

calm : (places : List (InPlaceOf MemSource)) (n : ℕ) → (get_or (map (in_view source.ghosts) places) n no_input).faults ≡ 0
calm [] n = refl
calm (input.Empty ∷ places) zero = refl
calm (input.Live port number ∷ places) zero = refl
calm (input.Dead sealed number ∷ places) zero = refl
calm (place ∷ places) (suc n) = calm places n

reads_well : {K : Type 0} (k : sink.Ghosts K) (rack : Rack MemSource K) → ReadsWell (view k rack)
reads_well k rack = record { lines = λ a. calm rack.line_in.items a; clients = λ n. calm rack.client_in.items n }

pieces : (run : ℕ) → run < 4 → over_ports (pieces_of (trial_plan run)) * 16 ≡ 256
unfolding over_ports pieces_of
pieces zero h = refl
pieces (suc zero) h = refl
pieces (suc (suc zero)) h = refl
pieces (suc (suc (suc zero))) h = refl
pieces (suc (suc (suc (suc n)))) h = absurd (omega arith)

pub run_went : {K : Type 0} (k : sink.Ghosts K) (run : ℕ) (first : BaysView) (last : Rack MemSource K) (plan : Plan) (numbers : Numbers) (asked now left : ℕ) → run < 4 → plan ≡ trial_plan run
    → (takings : Takings) × RunLeft plan first (view k last) takings numbers → left ≡ over_ports (pieces_of plan) * plan.turns → now ≡ raised asked left
    → RunWent run first (view k last) asked now
run_went k run first last plan numbers asked now left few is went all each = record {
  takings = went.0;
  numbers = numbers;
  left = subst (λ p. RunLeft p first (view k last) went.0 numbers) is went.1;
  well = reads_well k last;
  asked_each = each ∙ ap (raised asked) (all ∙ ap (λ (p : Plan). over_ports (pieces_of p) * p.turns) is ∙ pieces run few);
}

-- ---- the clients' places, one after another

some_place : {A : Type 0} (l : List A) (n : ℕ) (d : A) → n < length l → slice_get l n ≡ Some (get_or l n d)
some_place l n d h = slice_get-get_or l n d h

client_in_known : {K : Type 0} (rack : Rack MemSource K) (n : ℕ) → n < 16 → n < length rack.client_in.items
client_in_known rack n few = (let all = rack.all in let ok = rack.client_in.ok in omega arith)

client_out_known : {K : Type 0} (rack : Rack MemSource K) (n : ℕ) → n < 16 → n < length rack.client_out.items
client_out_known rack n few = (let all = rack.all in let ok = rack.client_out.ok in omega arith)

below_or_same : (m n : ℕ) → m < n + 1 → (m < n) ⊎ (m ≡ n)
below_or_same m n h = by_size (cases_lt m n)
  where
    by_size : (m < n) ⊎ (n ≤ m) → (m < n) ⊎ (m ≡ n)
    by_size (inl less) = inl less
    by_size (inr more) = inr (omega arith)

-- the places of the first run, of which the first n clients have their texts
pub record FirstUpTo (number n : ℕ) (bays : BaysView) : Type 0 where
  pub clients : (c : ℕ) → c < n → client_in_at bays c ≡ holding (hex_text (packets_of_trial number c))
  pub out : line_out_at bays 0 ≡ waiting

pub first_none : {K : Type 0} (k : sink.Ghosts K) (number : ℕ) (rack new : Rack MemSource K) (place : OutPlaceOf K) → IsVacant rack → out_view k place ≡ waiting → new ≡ with_line_out rack 0 place → FirstUpTo number 0 (view k new)
first_none k number rack new place vacant is set = subst (λ r. FirstUpTo number 0 (view k r)) (sym set) record {
  clients = λ c h. absurd (omega arith);
  out = line_out_set source.ghosts k rack 0 output.Empty place (ap (λ l. slice_get l 0) vacant.line_out) ∙ is;
}

pub next_client : {K : Type 0} (k : sink.Ghosts K) (number n : ℕ) (rack new : Rack MemSource K) (place : InPlaceOf MemSource) → n < 8 → FirstUpTo number n (view k rack)
    → in_view source.ghosts place ≡ holding (hex_text (packets_of_trial number n)) → new ≡ with_client_in rack n place → FirstUpTo number (n + 1) (view k new)
next_client k number n rack new place few before is set = subst (λ r. FirstUpTo number (n + 1) (view k r)) (sym set) record {
  clients = λ m h. by_place m (below_or_same m n h);
  out = before.out;
}
  where
    by_place : (m : ℕ) → (m < n) ⊎ (m ≡ n) → client_in_at (view k (with_client_in rack n place)) m ≡ holding (hex_text (packets_of_trial number m))
    by_place m (inl less) = (only_client_in source.ghosts k rack n place).client_in m (let other : m ≢ n = omega arith in other) ∙ before.clients m less
    by_place m (inr same) =
        subst (λ i. client_in_at (view k (with_client_in rack n place)) i ≡ holding (hex_text (packets_of_trial number i))) (sym same)
        (client_in_set source.ghosts k rack n (get_or rack.client_in.items n input.Empty) place (some_place rack.client_in.items n input.Empty (client_in_known rack n (omega arith))) ∙ is)

-- the places of the last run, of which the first n clients have room
pub record LastUpTo (file : List ℕ) (n : ℕ) (bays : BaysView) : Type 0 where
  pub line : line_in_at bays 0 ≡ holding file
  pub clients : (c : ℕ) → c < n → client_out_at bays c ≡ waiting

pub next_room : {K : Type 0} (k : sink.Ghosts K) (file : List ℕ) (n : ℕ) (rack new : Rack MemSource K) (place : OutPlaceOf K) → n < 8 → LastUpTo file n (view k rack)
    → out_view k place ≡ waiting → new ≡ with_client_out rack n place → LastUpTo file (n + 1) (view k new)
next_room k file n rack new place few before is set = subst (λ r. LastUpTo file (n + 1) (view k r)) (sym set) record {
  line = before.line;
  clients = λ m h. by_place m (below_or_same m n h);
}
  where
    by_place : (m : ℕ) → (m < n) ⊎ (m ≡ n) → client_out_at (view k (with_client_out rack n place)) m ≡ waiting
    by_place m (inl less) = (only_client_out source.ghosts k rack n place).client_out m (let other : m ≢ n = omega arith in other) ∙ before.clients m less
    by_place m (inr same) =
        subst (λ i. client_out_at (view k (with_client_out rack n place)) i ≡ waiting) (sym same)
        (client_out_set source.ghosts k rack n (get_or rack.client_out.items n output.Empty) place (some_place rack.client_out.items n output.Empty (client_out_known rack n (omega arith))) ∙ is)
