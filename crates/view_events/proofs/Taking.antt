-- A sink of events, from one write to the next.
use Rattle.std.proofs.Common.{◌≡◌, ◌≢◌, ◌<◌, ◌≤◌, ◌+◌, ◌-◌, ◌∙◌, ℕ, All, List, [], ◌∷◌, ◌++◌, get_or, length, map, take, sym, ap, subst, append-nil}
use Rattle.port_base.proofs.PortLaws.{sink_got_none, sink_got_twice}
use Rattle.port_base.specs.PortViews.{SinkGot, SinkView, sink_view}
use Rattle.port_base.specs.declared.sink.Sink as sink
use Rattle.view_events.specs.EventsOf.{events_of, line_events, nothing_said, said_by}
use Rattle.view_events.specs.Stands.{EventsStand, HasTaken, HasTold, IsEnded}
use Rattle.view_events.specs.ViewLines.{AreViewLines, IsViewLine, ViewLine, line_text, rest_of, whole_lines}
use Rattle.view_events.specs.declared.event_sink.EventSink.{EventSink}
use Rattle.view_events.proofs.Cuts.{IsInside, closed_lines, closed_rest, events_more, inside_all, inside_front, last_of, no_events, no_text_lines, no_text_rest, open_lines, open_rest, parted, said_more}

-- it took nothing yet
pub nothing_taken : {K : Type 0} (k : sink.Ghosts K) (s : EventSink K) → s.line.items ≡ [] → EventsStand nothing_said s.events → HasTaken k (sink_view k s.inner) [] s
nothing_taken {K} k s empty stands = record { waits = empty ∙ sym no_text_rest; told = told }
  where
    told : (lines : List ViewLine) → AreViewLines lines → whole_lines [] ≡ map line_text lines → HasTold k (sink_view k s.inner) lines s
    told [] h e = record { stands = stands; wrote = subst (λ t. SinkGot (sink_view k s.inner) t (sink_view k s.inner)) (sym no_events) (sink_got_none (sink_view k s.inner)) }
    told (line ∷ lines) h e = absurd (let none : [] ≡ map line_text (line ∷ lines) = sym no_text_lines ∙ e in cc)

told_still : {K : Type 0} (k : sink.Ghosts K) (first : SinkView) (lines : List ViewLine) (old new : EventSink K) → new.events ≡ old.events → new.inner ≡ old.inner → HasTold k first lines old
    → HasTold k first lines new
told_still k first lines old new events inner h = record {
  stands = subst (EventsStand (said_by nothing_said lines)) (sym events) h.stands;
  wrote = subst (λ x. SinkGot first (events_of lines) (sink_view k x)) (sym inner) h.wrote;
}

-- it takes bytes of a line
pub bytes_taken : {K : Type 0} (k : sink.Ghosts K) (first : SinkView) (text xs : List ℕ) (old new : EventSink K) → All IsInside xs → new.line.items ≡ old.line.items ++ xs
    → new.events ≡ old.events → new.inner ≡ old.inner → HasTaken k first text old → HasTaken k first (text ++ xs) new
bytes_taken k first text xs old new inside line events inner h = record {
  waits = line ∙ ap (λ t. t ++ xs) h.waits ∙ sym (open_rest text xs inside);
  told = (λ lines are e. told_still k first lines old new events inner (h.told lines are (sym (open_lines text xs inside) ∙ e)));
}

-- it takes the last bytes of a line, and writes its events
pub line_taken : {K : Type 0} (k : sink.Ghosts K) (first : SinkView) (text xs : List ℕ) (old between new : EventSink K) → All IsInside xs
    → between.line.items ≡ old.line.items ++ (xs ++ 10 ∷ []) → between.events ≡ old.events → between.inner ≡ old.inner → IsEnded k between new → HasTaken k first text old
    → HasTaken k first (text ++ (xs ++ 10 ∷ [])) new
line_taken {K} k first text xs old between new inside line events inner ended h = record { waits = ended.waits ∙ sym (closed_rest text xs); told = told }
  where
    waited : between.line.items ≡ rest_of text ++ (xs ++ 10 ∷ [])
    waited = line ∙ ap (λ t. t ++ (xs ++ 10 ∷ [])) h.waits

    one_more : (lines init : List ViewLine) (last : ViewLine) → lines ≡ init ++ last ∷ [] → AreViewLines init → IsViewLine last → whole_lines text ≡ map line_text init
        → rest_of text ++ (xs ++ 10 ∷ []) ≡ line_text last → HasTold k first lines new
    one_more lines init last are each one init_is last_is =
        let before : HasTold k first init between = told_still k first init old between events inner (h.told init each init_is) in
        let t = ended.told (said_by nothing_said init) last one (waited ∙ last_is) before.stands in
        let got = sink_got_twice first (sink_view k between.inner) (sink_view k new.inner) (events_of init) (line_events (said_by nothing_said init) last) before.wrote t.1 in
        subst (λ l. HasTold k first l new) (sym are) (record {
          stands = subst (λ s. EventsStand s new.events) (sym (said_more init last)) t.0;
          wrote = subst (λ b. SinkGot first b (sink_view k new.inner)) (sym (events_more init last)) got;
        })

    told : (lines : List ViewLine) → AreViewLines lines → whole_lines (text ++ (xs ++ 10 ∷ [])) ≡ map line_text lines → HasTold k first lines new
    told lines h e =
        let p = parted line_text IsViewLine (whole_lines text) (rest_of text ++ (xs ++ 10 ∷ [])) lines h (sym (closed_lines text xs inside) ∙ e) in
        one_more lines p.init p.last p.are p.each p.one p.init_is p.last_is

-- it takes the first n bytes, with no line feed
pub open_taken : {K : Type 0} (k : sink.Ghosts K) (first : SinkView) (text bytes : List ℕ) (n : ℕ) (old new : EventSink K) → 0 < n → n ≤ length bytes
    → ((i : ℕ) → i + 1 < n → get_or bytes i 0 ≢ 10) → get_or bytes (n - 1) 0 ≢ 10 → new.line.items ≡ old.line.items ++ take n bytes → new.events ≡ old.events → new.inner ≡ old.inner
    → HasTaken k first text old → HasTaken k first (text ++ take n bytes) new
open_taken k first text bytes n old new some within before last line events inner h =
    bytes_taken k first text (take n bytes) old new (inside_all bytes n some within before last) line events inner h

-- or with one at their end
pub closed_taken : {K : Type 0} (k : sink.Ghosts K) (first : SinkView) (text bytes : List ℕ) (n : ℕ) (old between new : EventSink K) → 0 < n → n ≤ length bytes
    → ((i : ℕ) → i + 1 < n → get_or bytes i 0 ≢ 10) → get_or bytes (n - 1) 0 ≡ 10 → between.line.items ≡ old.line.items ++ take n bytes → between.events ≡ old.events
    → between.inner ≡ old.inner → IsEnded k between new → HasTaken k first text old → HasTaken k first (text ++ take n bytes) new
closed_taken k first text bytes n old between new some within before last line events inner ended h =
    let cut : take n bytes ≡ take (n - 1) bytes ++ 10 ∷ [] = last_of bytes n some within ∙ ap (λ b. take (n - 1) bytes ++ b ∷ []) last in
    subst (λ p. HasTaken k first (text ++ p) new) (sym cut)
    (line_taken k first text (take (n - 1) bytes) old between new (inside_front bytes n within before) (line ∙ ap (λ p. old.line.items ++ p) cut) events inner ended h)

-- or none
pub none_taken : {K : Type 0} (k : sink.Ghosts K) (first : SinkView) (text : List ℕ) (s : EventSink K) → HasTaken k first text s → HasTaken k first (text ++ []) s
none_taken k first text s h = subst (λ t. HasTaken k first t s) (sym (append-nil text)) h
