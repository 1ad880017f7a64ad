-- What a connection gets, turn by turn.
use Rattle.std.proofs.Common.{◌≡◌, ◌<◌, ◌≤◌, ◌⊎◌, inl, inr, ◌+◌, ℕ, zero, suc, [], ◌∷◌, ◌++◌, length, take, refl, sym, ap, ◌∙◌, arith}
use Rattle.std.proofs.lemmas.Bool.{cases_lt}
use Rattle.std.proofs.lemmas.Grind.{reverse_onto}
use Rattle.std.proofs.lemmas.List.{length-append, take-append-le, take_all}
use Rattle.maintenance_signals.specs.Stream.{signal_byte}
use Rattle.maintenance_signals.specs.declared.signal.Signal.TheVariants.{Ais}
use Rattle.otn_base.specs.LineSlots.{LineSlots}
use Rattle.plan_file.specs.declared.connection.Connection.{Connection}
use Rattle.plan_file.specs.declared.connection.FromEnd.TheVariants as from_end
use Rattle.tributary_model.specs.Carries.{past_of}
use Rattle.tributary_model.specs.Damage.{emissions}
use Rattle.tributary_model.specs.Emission.{emission}
use Rattle.tributary_model.specs.Places.{tributary_of}
use Rattle.tributary_model.specs.Sending.{turns_of}
use Rattle.device_model.specs.Entries.{first_turn}
use Rattle.device_model.specs.LineViews.{view_at}
use Rattle.device_model.specs.Through.{Inputs, OwnInput, own_of, own_input, emits_by, emits, got_in, got_by}

pub many_got : (x : Connection) (input : OwnInput) (n : ℕ) → length (got_by x input n) ≡ n
unfolding got_by
many_got x input zero = refl
many_got x input (suc n) = let before = many_got x input n in length-append (got_by x input n) (got_in x input n ∷ []) ∙ (let e : length (got_by x input n) + 1 ≡ suc n = omega arith in e)

-- the first of its turns
pub first_got : (x : Connection) (input : OwnInput) (n k : ℕ) → k ≤ n → take k (got_by x input n) ≡ got_by x input k
unfolding got_by
first_got x input zero zero h = refl
first_got x input zero (suc k) h = absurd (omega arith)
first_got x input (suc n) k h = go (λ low. first_got x input n k low) (cases_lt n k)
  where
    go : (k ≤ n → take k (got_by x input n) ≡ got_by x input k) → (n < k) ⊎ (k ≤ n) → take k (got_by x input n ++ got_in x input n ∷ []) ≡ got_by x input k
    go rest (inl past) =
        let all : k ≡ suc n = omega arith in
        let long = many_got x input (suc n) in
        take_all k (got_by x input n ++ got_in x input n ∷ []) (omega arith) ∙ ap (got_by x input) (sym all)
    go rest (inr low) = let long = many_got x input n in take-append-le k (got_by x input n) (got_in x input n ∷ []) (omega arith) ∙ rest low

-- a connection from a line gets what its sink emitted in the turn before
pub emits_line : (x : Connection) (inputs : Inputs) (a from n : ℕ) (slots : LineSlots) → x.from ≡ from_end.Line a from slots
    → emits x (own_input inputs x) n ≡ emission (tributary_of slots from) (signal_byte Ais) (past_of (view_at (tributary_of slots from) (inputs.line a)) (first_turn x) n) (view_at (tributary_of slots from) (inputs.line a) (first_turn x + n))
unfolding emits
emits_line x inputs a from n slots e = ap (λ f. emits_by f x (own_of inputs f) n) e

pub got_of_line : (x : Connection) (inputs : Inputs) (a from n : ℕ) (slots : LineSlots) → x.from ≡ from_end.Line a from slots
    → got_by x (own_input inputs x) (suc n) ≡ turns_of (emissions (tributary_of slots from) (signal_byte Ais) (past_of (view_at (tributary_of slots from) (inputs.line a)) (first_turn x) n))
unfolding got_by
got_of_line x inputs a from zero slots e = refl
got_of_line x inputs a from (suc n) slots e =
    let own = tributary_of slots from in
    let past = past_of (view_at own (inputs.line a)) (first_turn x) n in
    let es = emissions own (signal_byte Ais) past in
    let last = emission own (signal_byte Ais) past (view_at own (inputs.line a) (first_turn x + n)) in
    ap (λ g. g ++ emits x (own_input inputs x) n ∷ []) (got_of_line x inputs a from n slots e)
    ∙ ap (λ g. turns_of es ++ g ∷ []) (emits_line x inputs a from n slots e)
    ∙ ap (λ g. [] ∷ g) (sym (reverse_onto es last []))
