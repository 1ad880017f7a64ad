-- What a piece of a stream is, from the runs that were written.
use Rattle.std.proofs.Common.{◌≡◌, ℕ, ◌+◌, ◌-◌, ◌%◌, ◌<◌, List, length, get_or, map, inl, inr, ap, sym, ◌∙◌, arith}
use Rattle.std.specs.List.{range_with_len}
use Rattle.std.proofs.lemmas.Bool.Decides.{leb_tells}
use Rattle.std.proofs.lemmas.List.{ext_get_or}
use Rattle.std.proofs.lemmas.List.FromFn.{length-map-range_with_len, get_or-map-range_with_len}
use Rattle.maintenance_signals.specs.declared.signal.Signal.{Signal}
use Rattle.maintenance_signals.specs.Stream.{signal_byte, signal_bytes}
use Rattle.maintenance_signals.proofs.Frames.{signal_byte-again}

-- a run more was written
pub run_written : (signal : Signal) (place at done count byte : ℕ) (old new : List ℕ) → at ≡ (place + done) % 3915776
    → ((k : ℕ) → k < done → get_or old k 0 ≡ signal_byte signal (place + k))
    → ((k : ℕ) → k < done → get_or new k 0 ≡ get_or old k 0)
    → ((k : ℕ) → k < count → get_or new (done + k) 0 ≡ byte)
    → ((k : ℕ) → k < count → signal_byte signal (at + k) ≡ byte)
    → (k : ℕ) → k < done + count → get_or new k 0 ≡ signal_byte signal (place + k)
run_written signal place at done count byte old new at_is bytes before run same k h =
    elim (leb_tells done k) [
      | inr below ↦ before k below.1 ∙ bytes k below.1
      | inl above ↦
          let j = k - done in
          let in_run : j < count = omega (arith, above.1) in
          let here : k ≡ done + j = omega (arith, above.1) in
          ap (λ i. get_or new i 0) here ∙ run j in_run ∙ sym (same j in_run)
          ∙ ap (λ a. signal_byte signal (a + j)) at_is
          ∙ signal_byte-again signal (place + done) j
          ∙ ap (signal_byte signal) (let e : place + done + j ≡ place + k = omega (arith, above.1) in e)
    ]

-- a piece that was written from a place on that is the next one of the stream
pub piece_is : (own signal : Signal) (place emitted n : ℕ) (into : List ℕ) → own ≡ signal → place ≡ emitted % 3915776 → length into ≡ n
    → ((k : ℕ) → k < n → get_or into k 0 ≡ signal_byte own (place + k))
    → into ≡ signal_bytes signal emitted n
unfolding signal_bytes
piece_is own signal place emitted n into same at size bytes =
    let wanted : List ℕ = map (signal_byte signal) (range_with_len emitted n) in
    let many : length wanted ≡ n = length-map-range_with_len (signal_byte signal) emitted n in
    ext_get_or 0 into wanted (size ∙ sym many) (λ k h.
    let below : k < n = omega arith in
    bytes k below
    ∙ ap (λ s. signal_byte s (place + k)) same
    ∙ ap (λ p. signal_byte signal (p + k)) at
    ∙ signal_byte-again signal emitted k
    ∙ sym (get_or-map-range_with_len (signal_byte signal) emitted n k (emitted + k) 0 below (omega arith)))
