-- What a client gets of what its connection's line carries.
use Rattle.std.proofs.Common.{◌≡◌, ◌≤◌, ◌+◌, ◌-◌, ℕ, zero, suc, Bool, List, [], ◌∷◌, ◌++◌, length, replicate, reverse, refl, ap, ◌∙◌, arith, add-one, append-nil, take, ◌*◌, ◌/◌}
use Rattle.std.specs.Prelude.{map}
use Rattle.std.specs.List.{concat}
use Rattle.std.proofs.lemmas.Grind.{reverse_onto}
use Rattle.std.proofs.lemmas.List.Elements.{All-head, All-tail}
use Rattle.std.proofs.lemmas.List.Folds.{concat-append}
use Rattle.gfp_frames.specs.GfpText.{Idle, Client, stream_frames}
use Rattle.gfp_frames.specs.Within.{CanCarryAll, packets_within}
use Rattle.maintenance_signals.specs.Stream.{signal_byte}
use Rattle.maintenance_signals.specs.declared.signal.Signal.TheVariants.{Ais}
use Rattle.odu_client.specs.ClientFrames.{client_stream}
use Rattle.odu_client.specs.ClientOutput.{arriving_packets}
use Rattle.odu_client.proofs.WholeFrames.{whole_frames_arrive}
use Rattle.otn_base.specs.LineSlots.{LineSlots}
use Rattle.plan_file.specs.declared.connection.Connection.{Connection}
use Rattle.plan_file.specs.declared.connection.FromEnd.TheVariants as from_end
use Rattle.tributary_model.specs.Carriage.{Arrives}
use Rattle.tributary_model.specs.Carries.{sent, past_of}
use Rattle.tributary_model.specs.Damage.{emissions}
use Rattle.tributary_model.specs.Passing.{joined_back}
use Rattle.tributary_model.specs.Places.{tributary_of}
use Rattle.tributary_model.proofs.Passing.{joins}
use Rattle.tributary_model.proofs.Totals.{sent_up}
use Rattle.connection_laws.specs.Delivery.{AreOffered}
use Rattle.device_model.specs.Entries.{first_turn}
use Rattle.device_model.specs.LineViews.{view_at}
use Rattle.device_model.specs.Through.{Inputs, own_input, got_by, arrived_by}
use Rattle.connection_laws.proofs.CarriedFrom.{stream_long}
use Rattle.connection_laws.proofs.ClientStreams.{stream_front}
use Rattle.connection_laws.proofs.GotTurns.{got_of_line}

pub joined_turns : (es : List (List ℕ)) → concat (reverse es) ≡ joined_back es
joined_turns [] = refl
joined_turns (e ∷ es) =
    ap concat (reverse_onto es e [])
    ∙ concat-append (reverse es) (e ∷ [])
    ∙ ap (λ y. concat (reverse es) ++ y) (append-nil e)
    ∙ ap (λ y. y ++ e) (joined_turns es)

pub gets_what_is_carried : (inputs : Inputs) (x : Connection) (a from u n : ℕ) (slots : LineSlots) (bytes p : List ℕ) → x.from ≡ from_end.Line a from slots → first_turn x + n ≤ u + 1
    → Arrives (tributary_of slots from) bytes p (view_at (tributary_of slots from) (inputs.line a)) (first_turn x) (first_turn x) (first_turn x) u
    → arrived_by x (own_input inputs x) (n + 1) ≡ take (sent p (n - 2)) bytes
gets_what_is_carried inputs x a from u n slots bytes p comes within arrives =
    let own = tributary_of slots from in
    let views = view_at own (inputs.line a) in
    ap (λ k. concat (got_by x (own_input inputs x) k)) (add-one n)
    ∙ ap concat (got_of_line x inputs a from n slots comes)
    ∙ joined_turns (emissions own (signal_byte Ais) (past_of views (first_turn x) n))
    ∙ joins own (signal_byte Ais) bytes p views (first_turn x) u n arrives within

-- ---- its packets

idles_carry : (n : ℕ) → CanCarryAll (replicate n Idle)
idles_carry zero = tt
idles_carry (suc n) = (tt, idles_carry n)

clients_carry : (packets : List (List ℕ)) (fcs : Bool) (n : ℕ) → AreOffered packets → CanCarryAll (map (λ packet. Client packet fcs) packets ++ replicate n Idle)
clients_carry [] fcs n h = idles_carry n
clients_carry (packet ∷ packets) fcs n h =
    let P : List ℕ → Type 0 = λ packet. (1 ≤ length packet) × (length packet ≤ 65527) in
    (All-head P packet packets h, clients_carry packets fcs n (All-tail P packet packets h))

can_carry : (packets : List (List ℕ)) (fcs : Bool) (n : ℕ) → AreOffered packets → CanCarryAll (stream_frames packets fcs n)
can_carry packets fcs n h = (tt, clients_carry packets fcs n h)

pub delivers_its_packets : (inputs : Inputs) (x : Connection) (a from u n k : ℕ) (slots : LineSlots) (sapi : List ℕ) (packets : List (List ℕ)) (fcs : Bool) (p : List ℕ)
    → x.from ≡ from_end.Line a from slots → first_turn x + n ≤ u + 1 → AreOffered packets
    → Arrives (tributary_of slots from) (client_stream sapi packets fcs k) p (view_at (tributary_of slots from) (inputs.line a)) (first_turn x) (first_turn x) (first_turn x) u
    → arriving_packets (arrived_by x (own_input inputs x) (n + 1)) ≡ packets_within (15232 * (sent p (n - 2) / 15296)) (stream_frames packets fcs (15232 * (sent p (n - 2) / 15296)))
delivers_its_packets inputs x a from u n k slots sapi packets fcs p comes within offered arrives =
    let all = client_stream sapi packets fcs k in
    let m = sent p (n - 2) in
    let up = sent_up p (n - 2) (u + 1 - first_turn x) (omega arith) in
    let enough = arrives.carries.enough in
    let long = stream_long sapi packets fcs k in
    let most : m ≤ k = omega arith in
    ap arriving_packets (gets_what_is_carried inputs x a from u n slots all p comes within arrives ∙ stream_front sapi packets fcs m k most)
    ∙ whole_frames_arrive sapi packets fcs m (can_carry packets fcs (15232 * (m / 15296)) offered)
