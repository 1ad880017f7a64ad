-- The text of the lines of a view, cut into lines.
use Rattle.std.proofs.Common.{◌≡◌, ◌∙◌, ℕ, Bool, true, false, All, List, [], ◌∷◌, ◌++◌, map, refl, sym, ap, append_assoc}
use Rattle.std.specs.Prelude.{◌==◌, ◌||◌}
use Rattle.std.specs.List.{flat_map}
use Rattle.std.proofs.lemmas.List.Elements.{All-cons, All-head, All-tail, All-append, All-weaker}
use Rattle.port_base.specs.PortViews.{SinkView}
use Rattle.port_base.specs.declared.sink.Sink as sink
use Rattle.view_events.specs.Stands.{HasTaken, HasTold}
use Rattle.view_events.specs.ViewLines.{AreViewLines, IsViewLine, IsWord, ViewLine, ends_word, kind_word, line_text, lines_after, more_words, rest_after, spelled, whole_lines}
use Rattle.view_events.specs.declared.event_sink.EventSink.{EventSink}
use Rattle.view_events.proofs.Cuts.{IsInside, lines_twice, none_waits, one_line}
use Rattle.view_events.proofs.Spelling.{AreWords, are_words}

-- ---- a line

-- a text with a line feed at its end, and nowhere else
pub record IsEndedLine (text : List ℕ) : Type 0 where
  pub body : List ℕ
  pub is : text ≡ body ++ 10 ∷ []
  pub inside : All IsInside body

second : (p q : Bool) → (p || q) ≡ false → q ≡ false
second true q h = absurd (cc)
second false q h = h

word_inside : (w : List ℕ) → IsWord w → All IsInside w
word_inside w h = All-weaker (λ b. ends_word b ≡ false) IsInside (λ b e. second (b == 32) (b == 10) e) w h

spelled_ends : (w : List ℕ) (ws : List (List ℕ)) → AreWords (w ∷ ws) → IsEndedLine (spelled w ws)
spelled_ends w [] h = record { body = w; is = refl; inside = word_inside w h.0 }
spelled_ends w (v ∷ ws) h =
    let e = spelled_ends v ws h.1 in
    record {
      body = w ++ 32 ∷ e.body;
      is = ap (λ t. w ++ 32 ∷ t) e.is ∙ sym (append_assoc w (32 ∷ e.body) (10 ∷ []));
      inside = All-append IsInside w (32 ∷ e.body) (word_inside w h.0) (All-cons IsInside 32 e.body refl e.inside);
    }

line_ends : (line : ViewLine) → IsViewLine line → IsEndedLine (line_text line)
unfolding line_text
line_ends line h = spelled_ends (kind_word line) (more_words line) (are_words line h)

-- ---- all lines

lines_first : (line text : List ℕ) → IsEndedLine line → lines_after [] (line ++ text) ≡ line ∷ lines_after [] text
lines_first line text e =
    lines_twice [] line text
    ∙ ap (λ l. lines_after [] l ++ lines_after (rest_after [] l) text) e.is
    ∙ ap (λ r. lines_after [] (e.body ++ 10 ∷ []) ++ lines_after r text) (none_waits [] e.body)
    ∙ ap (λ ls. ls ++ lines_after [] text) (one_line [] e.body e.inside)
    ∙ ap (λ l. l ∷ lines_after [] text) (sym e.is)

lines_are : (lines : List ViewLine) → AreViewLines lines → lines_after [] (flat_map line_text lines) ≡ map line_text lines
lines_are [] h = refl
lines_are (line ∷ lines) h =
    lines_first (line_text line) (flat_map line_text lines) (line_ends line (All-head IsViewLine line lines h))
    ∙ ap (λ ls. line_text line ∷ ls) (lines_are lines (All-tail IsViewLine line lines h))

-- the text of some lines has these lines
pub whole_lines_are : (lines : List ViewLine) → AreViewLines lines → whole_lines (flat_map line_text lines) ≡ map line_text lines
unfolding whole_lines
whole_lines_are lines h = lines_are lines h

-- so a sink that took it has told them
pub told_by_text : {K : Type 0} (k : sink.Ghosts K) (first : SinkView) (text : List ℕ) (lines : List ViewLine) (s : EventSink K) → AreViewLines lines → text ≡ flat_map line_text lines
    → HasTaken k first text s → HasTold k first lines s
told_by_text k first text lines s are is h = h.told lines are (ap whole_lines is ∙ whole_lines_are lines are)
