-- The turns of the command.
use Rattle.std.proofs.Common.{◌≡◌, ◌≤◌, ℕ, zero, suc, ◌+◌, ◌-◌, ◌*◌, List, [], ◌∷◌, ◌++◌, length, slice_range, get_or, refl, sym, ap, subst, ◌∙◌, append-nil, length-append, length-take, length-drop, add-one, arith}
use Rattle.std.specs.List.{flat_map, range_with_len}
use Rattle.std.proofs.lemmas.Grind.{flat_map-append}
use Rattle.port_base.specs.OnePlace.{OnlyLineIn}
use Rattle.port_base.specs.Views.{InView, BaysView, no_input, no_output, line_in_at, client_out_at}
use Rattle.tributary_model.specs.Places.{Tributary}
use Rattle.tributary_line.specs.TapTurn.{TapView, TapStands, TurnMoves}
use Rattle.device_model.specs.LineViews.{emitted_at}
use Rattle.gfp_frames.specs.Reader.{ReaderState, HasRead}
use Rattle.gfp_linear.specs.ChannelArrivals.{ChannelArrival}
use Rattle.odu_client.specs.Aligner.{AlignerState, HasAligned}
use Rattle.odu_client.specs.View.{aligner_state}
use Rattle.odu_client.specs.declared.aligner.ClientAligner.{ClientAligner}
use Rattle.unbundle_command.specs.Unbundled.{first_slot, emitted_before}
use Rattle.unbundle_command.specs.Receiving.{OutputsView}
use Rattle.unbundle_command.specs.Steps.Receiving.{ChannelStands, channel_at, OutputsStand, HoldsAfter, OnlyClientsOut}
use Rattle.unbundle_command.specs.Unbundling.{OnlyUnbundled}
use Rattle.unbundle_command.specs.Steps.Unbundling.{Stands, TurnGone, TurnsGone}
use Rattle.unbundle_command.specs.declared.unbundling.Unbundling.{Unbundling}
use Rattle.unbundle_command.proofs.Runs.{holds_none}

-- what one number more adds
range_more : (a n : ℕ) → range_with_len a (suc n) ≡ range_with_len a n ++ (a + n) ∷ []
range_more a zero = ap (λ x. x ∷ []) (omega arith)
range_more a (suc n) =
    let next : a + 1 + n ≡ a + suc n = omega arith in
    ap (λ xs. a ∷ xs) (range_more (a + 1) n ∙ ap (λ x. range_with_len (a + 1) n ++ x ∷ []) next)

pub flat_more : (f : ℕ → List ℕ) (n : ℕ) → flat_map f (range_with_len 0 (suc n)) ≡ flat_map f (range_with_len 0 n) ++ f n
flat_more f n =
    let last : 0 + n ≡ n = omega arith in
    ap (flat_map f) (range_more 0 n) ∙ flat_map-append f (range_with_len 0 n) ((0 + n) ∷ []) ∙ ap (λ xs. flat_map f (range_with_len 0 n) ++ xs) (append-nil (f (0 + n)) ∙ ap f last)

pub emitted_more : (available : List ℕ) (t : ℕ) → emitted_before available (suc t) ≡ emitted_before available t ++ emitted_at first_slot available t
emitted_more available t = flat_more (emitted_at first_slot available) t

-- a turn emits no more than there is room for
one_few : (available : List ℕ) (t : ℕ) (emitted : List ℕ) → emitted ≡ emitted_at first_slot available t → length emitted ≤ 15233 → length (emitted_before available t) ≤ 15233 * t → length (emitted_before available (suc t)) ≤ 15233 * suc t
one_few available t emitted e room few =
    let more = ap length (emitted_more available t) ∙ length-append (emitted_before available t) (emitted_at first_slot available t) in
    let one : length (emitted_at first_slot available t) ≤ 15233 = subst (λ bytes. length bytes ≤ 15233) e room in
    omega (arith, more, one, few)

-- how many bytes stand from one place to another
pub span : (bytes : List ℕ) (first last : ℕ) → first ≤ last → last ≤ length bytes → last - first ≡ length (slice_range bytes first last)
span bytes first last ordered within = sym (simp (length-take, length-drop) (omega arith))

-- ---- places

-- where the client outputs are as they were
pub outputs_on : (first was is : BaysView) (arrived : List ChannelArrival) (outputs : OutputsView) → is.client_out ≡ was.client_out → OutputsStand first was arrived outputs → OutputsStand first is arrived outputs
outputs_on first was is arrived outputs e h = record {
  channels = record {
    each = λ cid low. subst (λ places. ChannelStands (client_out_at first cid) (get_or places cid no_output) cid arrived (channel_at outputs.channels cid)) (sym e) (h.channels.each cid low);
  };
  other = h.other;
}

holds_on : (first was is : BaysView) (read : List ℕ) (aligner : AlignerState) (reader : ReaderState) (outputs : OutputsView) → is.client_out ≡ was.client_out → HoldsAfter first was read aligner reader outputs
    → HoldsAfter first is read aligner reader outputs
holds_on first was is read aligner reader outputs e h = record { aligned = h.aligned; has_read = h.has_read; held = outputs_on first was is _ outputs e h.held }

pub line_same : (mid is : BaysView) (x : InView) → OnlyClientsOut mid is → line_in_at mid 0 ≡ x → line_in_at is 0 ≡ x
line_same mid is x only e = ap (λ places. get_or places 0 no_input) only.line_in ∙ e

pub only_all : (was mid is : BaysView) → OnlyLineIn 0 was mid → OnlyClientsOut mid is → OnlyUnbundled was is
only_all was mid is h k = record {
  line_in = λ a other. ap (λ places. get_or places a no_input) k.line_in ∙ h.line_in a other;
  line_out = k.line_out ∙ h.line_out;
  client_in = k.client_in ∙ h.client_in;
}

pub only_none : (bays : BaysView) → OnlyUnbundled bays bays
only_none bays = record { line_in = λ a other. refl; line_out = refl; client_in = refl }

pub only_twice : (was mid is : BaysView) → OnlyUnbundled was mid → OnlyUnbundled mid is → OnlyUnbundled was is
only_twice was mid is h k = record {
  line_in = λ a other. k.line_in a other ∙ h.line_in a other;
  line_out = k.line_out ∙ h.line_out;
  client_in = k.client_in ∙ h.client_in;
}

-- ---- turns

-- before the first turn
pub begins : (parts : Unbundling) → ((first : InView) → TapStands first_slot first first [] 0 parts.tap) → HasAligned [] (aligner_state parts.aligner) → HasRead [] parts.reader
    → ((first : BaysView) → OutputsStand first first [] parts.outputs) → (first : BaysView) → TurnsGone first first 0 parts
begins parts tap aligned has_read held first = record {
  read = [];
  stands = record {
    tap = tap (line_in_at first 0);
    holds = λ available may. holds_none first first (aligner_state parts.aligner) parts.reader parts.outputs aligned has_read (held first);
    few = λ available may. omega arith;
  };
}

-- one turn, in which the sink emitted these bytes and they were read
pub turn_gone : (first was mid is : BaysView) (read : List ℕ) (t : ℕ) (x x' : InView) (old : Unbundling) (tap : TapView) (aligner : ClientAligner) (reader : ReaderState) (outputs : OutputsView) (emitted : List ℕ)
    → OnlyLineIn 0 was mid → line_in_at was 0 ≡ x → line_in_at mid 0 ≡ x' → OnlyClientsOut mid is → length emitted ≤ 15233
    → ((own : Tributary) (first : InView) (read : List ℕ) (t : ℕ) → TapStands own first x read t old.tap → TurnMoves own first x' read t old.tap tap emitted)
    → ((first : BaysView) (read : List ℕ) → HoldsAfter first mid read (aligner_state old.aligner) old.reader old.outputs → HoldsAfter first is (read ++ emitted) (aligner_state aligner) reader outputs)
    → Stands first was read t old → TurnGone first is read t (record { tap = tap; aligner = aligner; reader = reader; outputs = outputs })
turn_gone first was mid is read t x x' old tap aligner reader outputs emitted only a b clients room moved reads stood =
    let moves = moved first_slot (line_in_at first 0) read t (subst (λ v. TapStands first_slot (line_in_at first 0) v read t old.tap) a stood.tap) in
    let now = line_same mid is x' clients b in
    record {
      further = moves.further;
      stands = record {
        tap =
            subst (λ k. TapStands first_slot (line_in_at first 0) (line_in_at is 0) (read ++ moves.further) k tap) (add-one t)
            (subst (λ v. TapStands first_slot (line_in_at first 0) v (read ++ moves.further) (t + 1) tap) (sym now) moves.stands);
        holds = λ available may.
            subst (λ bytes. HoldsAfter first is bytes (aligner_state aligner) reader outputs) (ap (λ bytes. emitted_before available t ++ bytes) (moves.emits available may) ∙ sym (emitted_more available t))
            (reads first (emitted_before available t)
            (holds_on first was mid (emitted_before available t) (aligner_state old.aligner) old.reader old.outputs only.client_out (stood.holds available (moves.earlier available may))));
        few = λ available may. one_few available t emitted (moves.emits available may) room (stood.few available (moves.earlier available may));
      };
    }

-- one turn more
pub one_more : (first was is : BaysView) (t : ℕ) (old new : Unbundling) → ((read : List ℕ) → Stands first was read t old → TurnGone first is read t new) → TurnsGone first was t old → TurnsGone first is (suc t) new
one_more first was is t old new goes gone = let next = goes gone.read gone.stands in record { read = gone.read ++ next.further; stands = next.stands }
