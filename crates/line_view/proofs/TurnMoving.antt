-- A turn of the sinks on a line, from its pieces.
use Rattle.std.proofs.Common.{◌≡◌, ◌+◌, ◌∙◌, ℕ, Bool, true, false, List, [], ◌∷◌, ◌++◌, Some, slice_get, refl, sym, ap, subst, arith}
use Rattle.std.specs.Prelude.{IsTrue, if◌then◌else◌, nat_le}
use Rattle.std.specs.List.{flat_map}
use Rattle.otn_base.specs.LineSlots.{LineSlots, slots_of}
use Rattle.port_base.specs.Views.{InView}
use Rattle.line_side.specs.LineForm.{LineForm, size_of}
use Rattle.line_side.specs.LineFile.{mfas_of}
use Rattle.line_side.specs.LineNumbers.{numbers_of}
use Rattle.line_side.specs.LineStands.{LineView, LineStands, TurnEnded, frames_taken}
use Rattle.line_side.specs.MayBe.{MayBe}
use Rattle.line_side.specs.declared.counts.LineCounts.{LineCounts}
use Rattle.multiframe.specs.LineTurns.{LineState, Hunting, Locked, Ended, line_state, has_ended}
use Rattle.tributary_model.specs.Places.{Tributary, msi_in}
use Rattle.trib_sink.specs.Sink.{Sink, StandsAfter, ended_view}
use Rattle.device_model.proofs.TurnFrames.{frames_none, turn_frames}
use Rattle.device_model.specs.LineViews.{view_at}
use Rattle.device_model.specs.TurnFrames.{frames_in}
use Rattle.line_view.specs.ViewText.{all_slots, counts_between, seen_at, told_of, told_at, views_from}
use Rattle.line_view.specs.Steps.Viewing.{HasSeen, IsInStep, ViewMoves, TurnMoves, frames_by, taken_by}
use Rattle.line_view.specs.Steps.Watching.{EachWatched, EndedTurn, begun, own_of}
use Rattle.line_view.specs.declared.told.TurnCounts.{TurnCounts}
use Rattle.line_view.specs.declared.told.TurnSeen.{TurnSeen}
use Rattle.line_view.specs.declared.watched.Watched.{Watched}
use Rattle.line_view.proofs.Begun.{has_seen, less_of, none_by, seen_still, views_more, views_waits, zero_by}
use Rattle.line_view.proofs.MsiBytes.{turn_msi}
use Rattle.line_view.proofs.Steps.{was_there, same_own, same_shows}

-- whether the line has ended
ended_is : (s : LineState) (ended : Bool) → (ended ≡ true → s ≡ Ended) × (s ≡ Ended → ended ≡ true) → ended ≡ has_ended s
ended_is (Hunting i) true h = absurd (let e : Hunting i ≡ Ended = h.0 refl in cc)
ended_is (Hunting i) false h = refl
ended_is (Locked lock) true h = absurd (let e : Locked lock ≡ Ended = h.0 refl in cc)
ended_is (Locked lock) false h = refl
ended_is Ended true h = refl
ended_is Ended false h = absurd (let e : false ≡ true = h.1 refl in cc)

told_is : (own : Tributary) (first : ℕ) (available : List ℕ) (t : ℕ) → told_of own (views_from own first available t) (view_at own available t) ≡ told_at own first available t
unfolding told_at
told_is own first available t = refl

-- what was seen of the line
pub seen_is : (form : LineForm) (available : List ℕ) (t : ℕ) (was is : LineCounts) (before after : LineView) (ended whole : Bool)
    → was ≡ numbers_of form before.reader.ending available t 0 → is ≡ numbers_of form after.reader.ending available (t + 1) 0 → TurnEnded form available t whole after → ended ≡ after.ended
    → record { ended = ended; whole = whole; counts = counts_between was is } ≡ seen_at form available t
seen_is form available t was is before after ended whole first last turn same =
    let counts : counts_between was is ≡ (seen_at form available t).counts = ap (λ w. counts_between w is) first ∙ ap (λ i. counts_between (numbers_of form before.reader.ending available t 0) i) last in
    let over : ended ≡ (seen_at form available t).ended = same ∙ ended_is (line_state (size_of form) (mfas_of available) (t + 1)) after.ended turn.has_ended in
    ap (λ c. seen ended whole c) counts ∙ ap (λ e. seen e whole (seen_at form available t).counts) over ∙ ap (λ w. seen (seen_at form available t).ended w (seen_at form available t).counts) turn.has_multiframe
  where
    seen : Bool → Bool → TurnCounts → TurnSeen
    seen e w c = record { ended = e; whole = w; counts = c }

-- ---- a sink at the end of a turn

-- what it had seen of the turn, where it had begun
had_seen : (form : LineForm) (available : List ℕ) (t k : ℕ) (one : Watched) → begun one t ≡ true → HasSeen form available t k one
    → StandsAfter (own_of one) (views_from (own_of one) one.first available t) (frames_in (size_of form) available t k) one.sink
had_seen form available t k one on h = subst (λ b. StandsAfter (own_of one) (views_from (own_of one) one.first available t) (frames_by b (frames_in (size_of form) available t k)) one.sink) on h

-- it is in step with the next turn
end_step : (mid new : LineView) (t : ℕ) (whole : Bool) (one two : Watched) (b : Bool) → begun one t ≡ b → EndedTurn t whole one two → IsInStep mid t one
    → new.kind ≡ mid.kind → frames_taken new ≡ 0 → IsInStep new (t + 1) two
end_step mid new t whole one two b on e s kind untaken = record {
  kind = ap (λ (x : LineSlots). x.kind) e.same.slots ∙ s.kind ∙ sym kind;
  taken = none b on ∙ sym (ap (taken_by (begun two (t + 1))) untaken ∙ zero_by (begun two (t + 1)));
  port = e.same.port ∙ s.port ∙ sym e.same.sink_port;
}
  where
    none : (b : Bool) → begun one t ≡ b → two.sink.taken ≡ 0
    none true on = e.count on
    none false on = ap (λ (x : Sink). x.taken) (e.waits on) ∙ s.taken ∙ ap (λ b. taken_by b (frames_taken mid)) on

-- it has seen one turn more, or waits
end_seen : (form : LineForm) (available : List ℕ) (t k : ℕ) (whole : Bool) (one two : Watched) (b : Bool) → begun one t ≡ b → EndedTurn t whole one two
    → (begun one t ≡ true → IsTrue whole → one.sink.taken ≡ slots_of one.sink.slots.kind)
    → ended_view (own_of one) whole (frames_in (size_of form) available t k) ≡ view_at (own_of one) available t → HasSeen form available t k one → HasSeen form available (t + 1) 0 two
end_seen form available t k whole one two true on e all view h =
    let own = own_of one in
    let views = views_from own one.first available t in
    let none = ap (frames_by (begun one (t + 1))) (frames_none (size_of form) available (t + 1)) ∙ none_by (begun one (t + 1)) in
    has_seen form available (t + 1) 0 one two (ended_view own whole (frames_in (size_of form) available t k) ∷ views) [] e.same
    (ap (λ v. v ∷ views) view ∙ sym (views_more own one.first available t on)) (sym none)
    (e.stands on (all on) own views (frames_in (size_of form) available t k) (had_seen form available t k one on h))
end_seen form available t k whole one two false on e all view h =
    let own = own_of one in
    let early = less_of one.first t on in
    let none = ap (frames_by (begun one (t + 1))) (frames_none (size_of form) available (t + 1)) ∙ none_by (begun one (t + 1)) in
    seen_still form available t (t + 1) k 0 one two e.same (e.waits on)
    (views_waits own one.first available t (omega (arith, early)) ∙ sym (views_waits own one.first available (t + 1) (omega (arith, early))))
    (ap (λ b. frames_by b (frames_in (size_of form) available t k)) on ∙ sym none) h

-- what is told of it
end_told : (form : LineForm) (available : List ℕ) (t k : ℕ) (whole : Bool) (one two : Watched) → begun one t ≡ true → EndedTurn t whole one two
    → (IsTrue whole → one.sink.taken ≡ slots_of one.sink.slots.kind)
    → ended_view (own_of one) whole (frames_in (size_of form) available t k) ≡ view_at (own_of one) available t → HasSeen form available t k one → two.told ≡ told_at (own_of two) two.first available t
end_told form available t k whole one two on e all view h =
    let own = own_of one in
    let views = views_from own one.first available t in
    e.told on all own views (frames_in (size_of form) available t k) (had_seen form available t k one on h) ∙ ap (told_of own views) view ∙ told_is own one.first available t
    ∙ ap (λ n. told_at own n available t) (sym e.same.first) ∙ ap (λ o. told_at o two.first available t) (sym (same_own one two e.same))

-- ---- the end of a turn whose pieces are done
pub turn_ends : (form : LineForm) (first now : InView) (read : List ℕ) (t : ℕ) (old mid new : LineView) (olds mids news : List Watched) (msi kept : List (ℕ × ℕ)) (whole : Bool) (seen : TurnSeen)
    → (m : ViewMoves form first now read t old mid olds mids msi) → mid.pieces ≡ slots_of mid.kind → new.pieces ≡ 0 → new.kind ≡ mid.kind → frames_taken new ≡ 0
    → new.reader.ending ≡ mid.reader.ending → (whole ≡ true → frames_taken mid ≡ slots_of mid.kind)
    → LineStands form first now (read ++ m.further) (t + 1) new
    → ((available : List ℕ) → MayBe form.scrambled mid.reader.ending (read ++ m.further) available → TurnEnded form available t whole new)
    → EachWatched (EndedTurn t whole) mids news
    → kept ≡ (if whole then msi else [])
    → ((available : List ℕ) → MayBe form.scrambled new.reader.ending (read ++ m.further) available → seen ≡ seen_at form available t)
    → TurnMoves form first now read t old new olds news seen kept
turn_ends form first now read t old mid new olds mids news msi kept whole seen m pieces none kind untaken ending all stands multi ends keeps is =
    let size = size_of form in
    let earlier : (available : List ℕ) → MayBe form.scrambled new.reader.ending (read ++ m.further) available → MayBe form.scrambled mid.reader.ending (read ++ m.further) available
    = λ available may. subst (λ e. MayBe form.scrambled e (read ++ m.further) available) ending may in
    let form_kind : mid.kind ≡ form.kind = ap (λ (f : LineForm). f.kind) m.stands.line_is.is_form in
    let many : mid.pieces ≡ size = pieces ∙ ap slots_of form_kind in
    let wide : (one : Watched) → IsInStep mid t one → (own_of one).line_slots ≡ size = λ one s. ap slots_of (s.kind ∙ form_kind) in
    let has_all : (one : Watched) → begun one t ≡ true → IsInStep mid t one → IsTrue whole → one.sink.taken ≡ slots_of one.sink.slots.kind
    = λ one on s yes. s.taken ∙ ap (λ b. taken_by b (frames_taken mid)) on ∙ all yes ∙ ap slots_of (sym s.kind) in
    let took : (available : List ℕ) → MayBe form.scrambled mid.reader.ending (read ++ m.further) available → (i : ℕ) (one : Watched) → slice_get mids i ≡ Some one → HasSeen form available t size one
    = λ available may i one at. subst (λ k. HasSeen form available t k one) many (m.stands.sinks available may i one at) in
    let view : (available : List ℕ) → MayBe form.scrambled mid.reader.ending (read ++ m.further) available → (one : Watched) → IsInStep mid t one
    → ended_view (own_of one) whole (frames_in size available t size) ≡ view_at (own_of one) available t
    = λ available may one s. turn_frames (own_of one) size available t whole (wide one s) (multi available may).has_multiframe in
    record {
      further = m.further;
      stands = record {
        line_is = stands;
        step = λ i one at.
            let k = was_there (EndedTurn t whole) mids news ends i one at in
            end_step mid new t whole k.0 one (begun k.0 t) refl k.1.1 (m.stands.step i k.0 k.1.0) kind untaken;
        sinks = λ available may i one at.
            let k = was_there (EndedTurn t whole) mids news ends i one at in
            let s = m.stands.step i k.0 k.1.0 in
            let before = earlier available may in
            subst (λ n. HasSeen form available (t + 1) n one) (sym none)
            (end_seen form available t size whole k.0 one (begun k.0 t) refl k.1.1 (λ on. has_all k.0 on s) (view available before k.0 s) (took available before i k.0 k.1.0));
        msi_is = λ available may. sym (ap (flat_map (msi_in (all_slots form))) (ap (frames_in size available (t + 1)) none ∙ frames_none size available (t + 1)));
      };
      earlier = λ available may. m.earlier available (earlier available may);
      shows = same_shows mids news ends.count (λ i a b at_a at_b. (ends.each i a b at_a at_b).same) ∙ m.shows;
      seen_is = is;
      msi_is = λ available may.
          let before = earlier available may in
          let frames = m.stands.msi_is available before ∙ ap (λ k. flat_map (msi_in (all_slots form)) (frames_in size available t k)) many in
          keeps ∙ ap (λ xs. if whole then xs else []) frames ∙ turn_msi form available t whole (multi available before).has_multiframe;
      told = λ available may i one at on.
          let k = was_there (EndedTurn t whole) mids news ends i one at in
          let s = m.stands.step i k.0 k.1.0 in
          let before = earlier available may in
          let was_on : begun k.0 t ≡ true = sym (ap (λ n. nat_le n t) k.1.1.same.first) ∙ on in
          end_told form available t size whole k.0 one was_on k.1.1 (has_all k.0 was_on s) (view available before k.0 s) (took available before i k.0 k.1.0);
    }
