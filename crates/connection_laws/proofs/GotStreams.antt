-- What a connection gets from a client or a signal is the front of a stream.
use Rattle.std.proofs.Common.{◌≡◌, ◌+◌, ℕ, zero, suc, Bool, List, [], ◌∷◌, ◌++◌, map, drop, refl, sym, ap, ◌∙◌, arith, add-one, append-nil}
use Rattle.std.specs.List.{concat, range_with_len}
use Rattle.std.proofs.lemmas.List.{take-append-drop}
use Rattle.std.proofs.lemmas.List.Folds.{concat-append}
use Rattle.maintenance_signals.specs.Stream.{signal_byte, signal_bytes}
use Rattle.maintenance_signals.specs.declared.signal.Signal.{Signal}
use Rattle.odu_client.specs.ClientFrames.{client_stream}
use Rattle.odu_client.specs.ClientInput.{pace_of, emitted_before, input_emits}
use Rattle.plan_file.specs.declared.connection.Connection.{Connection}
use Rattle.plan_file.specs.declared.connection.FromEnd.TheVariants as from_end
use Rattle.device_model.specs.Through.{Inputs, OwnInput, own_of, own_input, emits_by, emits, got_by, arrived_by}
use Rattle.connection_laws.proofs.ClientStreams.{stream_front}

-- what it got with one turn more
got_more : (x : Connection) (input : OwnInput) (n : ℕ) → concat (got_by x input (suc (suc n))) ≡ concat (got_by x input (suc n)) ++ emits x input n
unfolding got_by
got_more x input n = concat-append (got_by x input (suc n)) (emits x input n ∷ []) ∙ ap (λ y. concat (got_by x input (suc n)) ++ y) (append-nil (emits x input n))

-- ---- a client

part_emitted : (x : Connection) (inputs : Inputs) (client n : ℕ) → x.from ≡ from_end.Client client
    → emits x (own_input inputs x) n ≡ drop (emitted_before x.pace n) (client_stream x.trace (inputs.client client).packets x.fcs (emitted_before x.pace n + pace_of x.pace n))
unfolding emits input_emits
part_emitted x inputs client n e = ap (λ f. emits_by f x (own_of inputs f) n) e

joined_part : (sapi : List ℕ) (packets : List (List ℕ)) (fcs : Bool) (from n : ℕ) → client_stream sapi packets fcs from ++ drop from (client_stream sapi packets fcs (from + n)) ≡ client_stream sapi packets fcs (from + n)
joined_part sapi packets fcs from n =
    let all = client_stream sapi packets fcs (from + n) in
    ap (λ front. front ++ drop from all) (sym (stream_front sapi packets fcs from (from + n) (omega arith))) ∙ take-append-drop from all

first_none : (x : Connection) (input : OwnInput) → concat (got_by x input (suc zero)) ≡ []
unfolding got_by
first_none x input = refl

none_before : (sapi : List ℕ) (packets : List (List ℕ)) (fcs : Bool) (paces : List ℕ) → [] ≡ client_stream sapi packets fcs (emitted_before paces zero)
unfolding client_stream emitted_before
none_before sapi packets fcs paces = refl

stream_got : (x : Connection) (inputs : Inputs) (client n : ℕ) → x.from ≡ from_end.Client client
    → concat (got_by x (own_input inputs x) (suc n)) ≡ client_stream x.trace (inputs.client client).packets x.fcs (emitted_before x.pace n)
unfolding emitted_before
stream_got x inputs client zero e = first_none x (own_input inputs x) ∙ none_before x.trace (inputs.client client).packets x.fcs x.pace
stream_got x inputs client (suc n) e =
    let packets = (inputs.client client).packets in
    let from = emitted_before x.pace n in
    got_more x (own_input inputs x) n
    ∙ ap (λ front. front ++ emits x (own_input inputs x) n) (stream_got x inputs client n e)
    ∙ ap (λ part. client_stream x.trace packets x.fcs from ++ part) (part_emitted x inputs client n e)
    ∙ joined_part x.trace packets x.fcs from (pace_of x.pace n)

pub gets_the_stream : (x : Connection) (inputs : Inputs) (client n : ℕ) → x.from ≡ from_end.Client client
    → arrived_by x (own_input inputs x) (n + 1) ≡ client_stream x.trace (inputs.client client).packets x.fcs (emitted_before x.pace n)
gets_the_stream x inputs client n e = ap (λ k. concat (got_by x (own_input inputs x) k)) (add-one n) ∙ stream_got x inputs client n e

-- ---- a signal

bytes_emitted : (x : Connection) (inputs : Inputs) (signal : Signal) (n : ℕ) → x.from ≡ from_end.Signal signal → emits x (own_input inputs x) n ≡ signal_bytes signal (emitted_before x.pace n) (pace_of x.pace n)
unfolding emits
bytes_emitted x inputs signal n e = ap (λ f. emits_by f x (own_of inputs f) n) e

joined_bytes : (signal : Signal) (place from n : ℕ) → signal_bytes signal place from ++ signal_bytes signal (place + from) n ≡ signal_bytes signal place (from + n)
unfolding signal_bytes
joined_bytes signal place zero n = ap (λ k. map (signal_byte signal) (range_with_len k n)) (let e : place + 0 ≡ place = omega arith in e) ∙ ap (λ k. map (signal_byte signal) (range_with_len place k)) (let e : n ≡ 0 + n = omega arith in e)
joined_bytes signal place (suc from) n =
    ap (λ k. signal_bytes signal place (suc from) ++ signal_bytes signal k n) (let e : place + suc from ≡ place + 1 + from = omega arith in e)
    ∙ ap (λ bytes. signal_byte signal place ∷ bytes) (joined_bytes signal (place + 1) from n)
    ∙ ap (signal_bytes signal place) (let e : suc (from + n) ≡ suc from + n = omega arith in e)

no_bytes : (signal : Signal) (paces : List ℕ) → [] ≡ signal_bytes signal 0 (emitted_before paces zero)
unfolding signal_bytes emitted_before
no_bytes signal paces = refl

signal_got : (x : Connection) (inputs : Inputs) (signal : Signal) (n : ℕ) → x.from ≡ from_end.Signal signal → concat (got_by x (own_input inputs x) (suc n)) ≡ signal_bytes signal 0 (emitted_before x.pace n)
unfolding emitted_before
signal_got x inputs signal zero e = first_none x (own_input inputs x) ∙ no_bytes signal x.pace
signal_got x inputs signal (suc n) e =
    let from = emitted_before x.pace n in
    got_more x (own_input inputs x) n
    ∙ ap (λ front. front ++ emits x (own_input inputs x) n) (signal_got x inputs signal n e)
    ∙ ap (λ part. signal_bytes signal 0 from ++ part) (bytes_emitted x inputs signal n e ∙ ap (λ k. signal_bytes signal k (pace_of x.pace n)) (let e : from ≡ 0 + from = omega arith in e))
    ∙ joined_bytes signal 0 from (pace_of x.pace n)

pub gets_the_signal : (x : Connection) (inputs : Inputs) (signal : Signal) (n : ℕ) → x.from ≡ from_end.Signal signal
    → arrived_by x (own_input inputs x) (n + 1) ≡ signal_bytes signal 0 (emitted_before x.pace n)
gets_the_signal x inputs signal n e = ap (λ k. concat (got_by x (own_input inputs x) k)) (add-one n) ∙ signal_got x inputs signal n e
