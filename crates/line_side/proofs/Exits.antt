-- What is known of a line's bytes: what its place gave is among those that it may have, and so many of them were read
-- as the line's turns want.
use Rattle.std.proofs.Common.{◌≡◌, ◌≢◌, ◌*◌, ◌⊎◌, ℕ, Bool, true, false, cond, ltb, List, [], Option, Some, length, arith, refl, sym, ap, ◌∙◌, inl, inr, subst}
use Rattle.std.specs.Prelude.{IfSome}
use Rattle.std.proofs.lemmas.Bool.{lt-ltb, le-ltb}
use Rattle.port_base.specs.Views.{State, Empty, Live, Dead}
use Rattle.port_base.specs.Reads.{HasEnded}
use Rattle.port_base.proofs.GivenLaws.{given_of_gave}
use Rattle.multiframe.specs.LineTurns.{wanted_so_far, took}
use Rattle.line_side.specs.LineForm.{size_of, through_mask}
use Rattle.line_side.specs.LineFile.{mfas_of}
use Rattle.line_side.specs.Laws.{AvailableIsAmong, TakesTheWanted}
use Rattle.line_side.specs.LineStands.{LineView, IsLine}
use Rattle.line_side.specs.declared.ending.Ending.{Ending}
use Rattle.line_side.specs.declared.ending.Ending.TheVariants.{Open, Seen, Died}
use Rattle.line_side.proofs.Giving.{dead_not_live, empty_not_live}
use Rattle.line_side.proofs.Mfas.{length_mfas}

live_or_not : (s : State) → (s ≡ Live) ⊎ (s ≢ Live)
live_or_not Live = inl refl
live_or_not Empty = inr empty_not_live
live_or_not Dead = inr dead_not_live

-- nothing is left of a live place that has ended
none_left : (s : State) (left : Option (List ℕ)) (answered : Bool) (rest : List ℕ) → (s ≡ Live → left ≡ Some rest) → (s ≢ Live → rest ≡ []) → (s ≡ Live → HasEnded left answered) → rest ≡ []
none_left s left answered rest live other ended = go (live_or_not s)
  where
    go : (s ≡ Live) ⊎ (s ≢ Live) → rest ≡ []
    go (inl now) = subst (λ l. IfSome l (λ bytes. bytes ≡ [])) (live now) (ended now).nothing
    go (inr idle) = other idle

pub given_among : AvailableIsAmong
given_among form first now read file t line h g =
    let b = given_of_gave first now read file h.gave g in
    record { rest = b.rest; over = λ closed. none_left now.state now.left now.ended b.rest b.live b.other (h.over closed); parts = ap (through_mask form.scrambled) b.parts }

-- so many bytes were read as the turns and pieces so far want
took_of : (size : ℕ) (available : List ℕ) (n t : ℕ) (line : LineView) → IsLine size available n t line → n ≡ took 16320 (length available) (mfas_of available) (wanted_so_far size (mfas_of available) t line.pieces)
took_of size available n t line h = by_ending line.reader.ending refl
  where
    over : line.reader.ending ≢ Open → n ≡ took 16320 (length available) (mfas_of available) (wanted_so_far size (mfas_of available) t line.pieces)
    over closed =
        let o = h.read.over closed in
        let e = length_mfas available in
        let past : ltb (length (mfas_of available)) (wanted_so_far size (mfas_of available) t line.pieces) ≡ true = lt-ltb _ _ (omega arith) in
        o.1 ∙ sym (ap (λ b. cond b (length available) (16320 * wanted_so_far size (mfas_of available) t line.pieces)) past)

    by_ending : (e : Ending) → line.reader.ending ≡ e → n ≡ took 16320 (length available) (mfas_of available) (wanted_so_far size (mfas_of available) t line.pieces)
    by_ending Open e =
        let s = h.read.still e in
        let within = h.read.within in
        let count = length_mfas available in
        let inside : ltb (length (mfas_of available)) (wanted_so_far size (mfas_of available) t line.pieces) ≡ false = le-ltb _ _ (omega arith) in
        s.0 ∙ ap (λ x. 16320 * x) s.1 ∙ sym (ap (λ b. cond b (length available) (16320 * wanted_so_far size (mfas_of available) t line.pieces)) inside)
    by_ending Seen e = over (λ f. cc)
    by_ending Died e = over (λ f. cc)

pub took_is : TakesTheWanted
took_is form first now read available t line h may = took_of (size_of form) available (length read) t line (h.is_line available may)
