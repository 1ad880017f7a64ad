-- What a read of a frame says.
use Rattle.std.proofs.Common.{◌≡◌, ◌≢◌, ◌<◌, ◌≤◌, inl, ℕ, false, List, [], length, take, arith, refl, sym, ap, ◌∙◌}
use Rattle.std.proofs.lemmas.List.{length-take-le}
use Rattle.port_base.specs.Views.{State, Empty, Live, Dead, InView}
use Rattle.port_base.specs.AtHand.{place_at_hand}
use Rattle.port_base.specs.Reads.{Reads, Takes, HasEnded, state_after}
use Rattle.port_base.specs.Given.{Gave}
use Rattle.port_base.proofs.GivenLaws.{GaveBy, read_gave}
use Rattle.port_base.specs.declared.in_place.Reading.{Reading}
use Rattle.port_base.specs.declared.in_place.Reading.TheVariants.{Full, End, Lost}
use Rattle.port_base.specs.declared.sealed.Sealed.{Sealed}
use Rattle.port_base.specs.InPlace.{in_view}
use Rattle.port_base.specs.declared.source.Source.{Ghosts}
use Rattle.port_base.specs.declared.in_place.InPlaceOf.{InPlaceOf}
use Rattle.port_base.specs.declared.in_place.InPlaceOf.TheVariants as place
use Rattle.line_side.specs.Steps.Reader.{FrameRead}
use Rattle.line_side.proofs.Giving.{dead_not_live, empty_not_live}

-- what the answer of a read into a frame says, before the place is looked at
pub record FrameCame (reading : Reading) (was : InView) (frame : List ℕ) (is : InView) : Type 0 where
  pub further : List ℕ
  pub gave : Gave was further is
  pub whole : reading ≡ Full → (further ≡ frame) × (length further ≡ 16320) × (is.state ≢ Dead)
  pub short : reading ≢ Full → (length further < 16320) × (is.state ≡ Live → HasEnded is.left is.ended)
  pub end : (k : ℕ) → reading ≡ End k → k ≡ length further
  pub unended : ((k : ℕ) → reading ≢ End k) → is.ended ≡ was.ended
  pub died : is.state ≡ Dead → is.ended ≡ was.ended

live_came : (reading : Reading) (was is : InView) (into : List ℕ) → length into ≡ 16320 → was.state ≡ Live → is.state ≡ state_after Live reading → Reads reading was into is → GaveBy reading was into is → FrameCame reading was into is
live_came Full was is into len live state reads gave = record {
  further = into;
  gave = gave;
  whole = λ _. (refl, len, λ dead. dead_not_live (sym dead ∙ state));
  short = λ other. absurd (other refl);
  end = λ k e. cc;
  unended = λ _. reads.2;
  died = λ _. reads.2;
}
live_came (End n) was is into len live state reads gave =
    let size : length (take n into) ≡ n = length-take-le n into (let b = reads.0 in omega arith) in
    record {
      further = take n into;
      gave = gave;
      whole = λ e. absurd (cc);
      short = λ _. (let b = reads.0 in omega arith, λ _. reads.2);
      end = λ k e. (let same : n ≡ k = cc in omega arith);
      unended = λ other. absurd (other n refl);
      died = λ dead. absurd (dead_not_live (sym dead ∙ state));
    }
live_came Lost was is into len live state reads (n, less, gave) =
    let size : length (take n into) ≡ n = length-take-le n into (omega arith) in
    record {
      further = take n into;
      gave = gave;
      whole = λ e. absurd (cc);
      short = λ _. (omega arith, λ now. absurd (dead_not_live (sym state ∙ now)));
      end = λ k e. absurd (cc);
      unended = λ _. reads.4;
      died = λ _. reads.4;
    }

idle_came : (reading : Reading) (was is : InView) (into : List ℕ) → was.state ≢ Live → is ≡ was → reading ≡ End 0 → GaveBy (End 0) was into is → FrameCame reading was into is
idle_came reading was is into idle same answer gave = record {
  further = [];
  gave = gave;
  whole = λ e. absurd (cc);
  short = λ _. (omega arith, λ live. absurd (idle (sym (ap (λ place. place.state) same) ∙ live)));
  end = λ k e. (let zero : 0 ≡ k = cc in omega arith);
  unended = λ _. ap (λ place. place.ended) same;
  died = λ _. ap (λ place. place.ended) same;
}

pub frame_came : (reading : Reading) (was is : InView) (into : List ℕ) → length into ≡ 16320 → is.state ≡ state_after was.state reading → (was.state ≡ Live → Reads reading was into is)
    → (was.state ≢ Live → (is ≡ was) × (reading ≡ End 0)) → FrameCame reading was into is
frame_came reading was is into len state live idle = by_state was.state refl
  where
    dull : was.state ≢ Live → FrameCame reading was into is
    dull rests =
        let h = idle rests in
        let gave : GaveBy reading was into is = read_gave reading was is into 16320 len state live idle in
        idle_came reading was is into rests h.0 h.1 (rw h.1 at gave)

    by_state : (s : State) → was.state ≡ s → FrameCame reading was into is
    by_state Live e = live_came reading was is into len e (state ∙ ap (λ s. state_after s reading) e) (live e) (read_gave reading was is into 16320 len state live idle)
    by_state Empty e = dull (λ l. empty_not_live (sym e ∙ l))
    by_state Dead e = dull (λ l. dead_not_live (sym e ∙ l))

-- the place is not dead
pub frame_alive : (reading : Reading) (was is : InView) (into : List ℕ) → is.state ≢ Dead → FrameCame reading was into is → (reading ≡ Lost → is.state ≡ Dead) → FrameRead false reading was into is
frame_alive reading was is into alive h lost = record {
  further = h.further;
  gave = h.gave;
  whole = λ e. let w = h.whole e in (sym w.0, w.1);
  short = h.short;
  end = λ k e. (h.end k e, alive);
  lost = lost;
  unended = h.unended;
}

-- the place is dead
pub frame_dead : (reading : Reading) (was is : InView) (into : List ℕ) → is.state ≡ Dead → FrameCame reading was into is → FrameRead false Lost was into is
frame_dead reading was is into dead h = record {
  further = h.further;
  gave = h.gave;
  whole = λ e. absurd (cc);
  short = λ _. h.short (λ full. (h.whole full).2 dead);
  end = λ k e. absurd (cc);
  lost = λ _. dead;
  unended = λ _. h.died dead;
}

-- a read is lost only where the place dies
pub lost_dead : (reading : Reading) (was is : InView) → is.state ≡ state_after was.state reading → (was.state ≢ Live → reading ≡ End 0) → reading ≡ Lost → is.state ≡ Dead
lost_dead reading was is state idle lost = by_state was.state refl
  where
    other : was.state ≢ Live → is.state ≡ Dead
    other rests = absurd (let e = idle rests in cc)

    by_state : (s : State) → was.state ≡ s → is.state ≡ Dead
    by_state Live e = state ∙ ap (λ s. state_after s reading) e ∙ ap (state_after Live) lost
    by_state Empty e = other (λ l. empty_not_live (sym e ∙ l))
    by_state Dead e = other (λ l. dead_not_live (sym e ∙ l))

-- a place that is no dead one is seen so
pub not_dead : {P : Type 0} (source : Ghosts P) (is : InPlaceOf P) → ((port : Sealed P) (n : ℕ) → is ≡ place.Dead port n → ⊥) → (in_view source is).state ≢ Dead
not_dead source place.Empty other e = cc
not_dead source (place.Live port n) other e = cc
not_dead source (place.Dead port n) other e = other port n refl

-- a place that has bytes at hand is live
pub hand_live : {P : Type 0} (source : Ghosts P) (p : InPlaceOf P) → 16320 ≤ length (place_at_hand source p) → (in_view source p).state ≡ Live
hand_live source place.Empty some = absurd (omega (arith, some))
hand_live source (place.Live port n) some = refl
hand_live source (place.Dead sealed n) some = absurd (omega (arith, some))

-- a frame that was at hand whole, and is gone past
pub frame_at_hand : (was is : InView) (hand frame : List ℕ) → was.state ≡ Live → 16320 ≤ length hand → Takes was (take 16320 hand) is
    → is.state ≡ was.state → is.ended ≡ was.ended → is.faults ≡ was.faults → frame ≡ take 16320 hand → FrameRead false Full was frame is
frame_at_hand was is hand frame live many takes state ended faults shown = record {
  further = take 16320 hand;
  gave = record { takes = takes; state = inl (state, faults); idle = λ rests. absurd (rests live) };
  whole = λ _. (shown, length-take-le 16320 hand many);
  short = λ other. absurd (other refl);
  end = λ k e. absurd (cc);
  lost = λ e. absurd (cc);
  unended = λ _. ended;
}
