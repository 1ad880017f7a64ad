-- The text of a view, and its lines.
use Rattle.std.proofs.Common.{◌≡◌, ◌+◌, ◌∙◌, ℕ, Bool, true, false, List, [], ◌∷◌, ◌++◌, Option, Some, None, length, map, refl, sym, ap, append_assoc, append-nil}
use Rattle.std.specs.Prelude.{codes, if◌then◌else◌, nat_lt}
use Rattle.std.specs.Fmt.{decimal}
use Rattle.std.specs.List.{flat_map}
use Rattle.std.proofs.lemmas.Grind.{flat_map-append}
use Rattle.number_lists.specs.NumberLists.{numbers_text}
use Rattle.otn_base.specs.declared.line_kind.LineKind.{LineKind}
use Rattle.otn_base.specs.declared.line_kind.LineKind.TheVariants.{Otu2, Otu3}
use Rattle.line_side.specs.LineFile.{mfas_of}
use Rattle.line_side.specs.LineForm.{LineForm, size_of}
use Rattle.line_side.specs.Reader.{rest_of}
use Rattle.line_side.specs.declared.ending.Ending.{Ending}
use Rattle.tributary_model.specs.declared.turns.SinkState.{SinkState as Stands}
use Rattle.tributary_model.specs.declared.turns.SinkState.TheVariants as stands
use Rattle.line_view.specs.ViewText.{Showing, align_word, end_line, head_line, hex_text, is_shown, msi_at_turn, msi_line, pair_text, seen_at}
use Rattle.line_view.specs.ViewText.{showing_text, slots_text, state_word, told_at, told_text, tributary_line, turn_line, turn_text, view_text}
use Rattle.tributary_line.specs.TurnsDone.{turns_of}
use Rattle.line_view.specs.declared.told.Told.{Told}
use Rattle.line_view.specs.declared.told.TurnSeen.{TurnSeen}
use Rattle.view_events.specs.ViewLines.{OfEnd, ViewLine, alignment_word, cm_word, cnd_word, line_text}
use Rattle.view_events.specs.ViewLines as lines
use Rattle.event_laws.specs.ViewOf.{alignment_by, head_of, msi_of, showing_lines, state_by, tributary_of, turn_lines, turn_of, view_lines}

-- ---- words

align_is : (ended whole lost : Bool) → align_word ended whole lost ≡ alignment_word (alignment_by ended whole lost)
align_is true whole lost = refl
align_is false true lost = refl
align_is false false true = refl
align_is false false false = refl

state_is : (state : Stands) → state_word state ≡ lines.state_word (state_by state)
state_is stands.Waiting = refl
state_is stands.Up = refl
state_is stands.Down = refl

slots_are : (slots : List ℕ) → slots_text slots ≡ numbers_text slots
slots_are [] = refl
slots_are (slot ∷ []) = append-nil (decimal slot)
slots_are (slot ∷ next ∷ slots) = ap (λ rest. decimal slot ++ 44 ∷ rest) (slots_are (next ∷ slots))

-- words in a row, grouped from the front and from the back
four_words : (a b c d more : List ℕ) → (a ++ b ++ c ++ d) ++ more ≡ a ++ (b ++ (c ++ (d ++ more)))
four_words a b c d more = simp append_assoc

five_words : (a b c d e : List ℕ) → a ++ b ++ c ++ d ++ e ≡ a ++ (b ++ (c ++ (d ++ e)))
five_words a b c d e = simp append_assoc

eight_words : (a b c d e f g h : List ℕ) → a ++ b ++ c ++ d ++ e ++ f ++ g ++ h ≡ a ++ (b ++ (c ++ (d ++ (e ++ (f ++ (g ++ h))))))
eight_words a b c d e f g h = simp append_assoc

pair_is : (pair : Option (ℕ × ℕ)) (more : List ℕ) → pair_text pair ++ more ≡ codes " cm " ++ (cm_word pair ++ (codes " cnd " ++ (cnd_word pair ++ more)))
pair_is None more = refl
pair_is (Some pair) more = four_words (codes " cm ") (decimal (pair.0)) (codes " cnd ") (decimal (pair.1)) more

-- ---- lines

head_is : (kind : LineKind) (scrambled : Bool) → head_line kind scrambled ≡ line_text (head_of kind scrambled)
unfolding line_text
head_is Otu2 true = refl
head_is Otu2 false = refl
head_is Otu3 true = refl
head_is Otu3 false = refl

turn_is : (number : ℕ) (seen : TurnSeen) → turn_line number seen ≡ line_text (turn_of number seen)
unfolding line_text turn_line
turn_is number seen =
    ap (λ w. codes "turn " ++ decimal number ++ codes " " ++ w ++ codes " frames " ++ decimal seen.counts.frames
    ++ codes " lead-in " ++ decimal seen.counts.lead_in
    ++ codes " fas " ++ decimal seen.counts.fas ++ codes " sm " ++ decimal seen.counts.sm ++ codes " pm " ++ decimal seen.counts.pm ++ codes "\n")
    (align_is seen.ended seen.whole (nat_lt 0 seen.counts.lost))
    ∙ simp append_assoc

msi_is : (pair : ℕ × ℕ) → msi_line pair ≡ line_text (msi_of pair)
unfolding line_text msi_line hex_text
msi_is pair = simp append_assoc

-- what a turn says of a tributary, word by word
abbrev words_of : (slots : List ℕ) → Told → List ℕ
words_of slots told = codes " slots " ++ (numbers_text slots ++ (codes " " ++ (lines.state_word (state_by told.state) ++ (codes " cm " ++ (cm_word told.pair
    ++ (codes " cnd " ++ (cnd_word told.pair ++ (codes " bytes " ++ (decimal told.bytes ++ codes "\n")))))))))

told_is : (slots : List ℕ) (told : Told) → told_text slots told ≡ words_of slots told
unfolding told_text
told_is slots told =
    let more = codes " bytes " ++ (decimal told.bytes ++ codes "\n") in
    eight_words (codes " slots ") (slots_text slots) (codes " ") (state_word told.state) (pair_text told.pair) (codes " bytes ")
    (decimal told.bytes) (codes "\n")
    ∙ ap (λ w. codes " slots " ++ (w ++ (codes " " ++ (state_word told.state ++ (pair_text told.pair ++ more))))) (slots_are slots)
    ∙ ap (λ w. codes " slots " ++ (numbers_text slots ++ (codes " " ++ (w ++ (pair_text told.pair ++ more))))) (state_is told.state)
    ∙ ap (λ w. codes " slots " ++ (numbers_text slots ++ (codes " " ++ (lines.state_word (state_by told.state) ++ w)))) (pair_is told.pair more)

tributary_is : (name : List ℕ) (port : ℕ) (slots : List ℕ) (told : Told) → tributary_line name port slots told ≡ line_text (tributary_of name port slots told)
unfolding line_text tributary_line
tributary_is name port slots told =
    five_words (codes "tributary ") name (codes " port ") (decimal port) (told_text slots told)
    ∙ ap (λ w. codes "tributary " ++ (name ++ (codes " port " ++ (decimal port ++ w)))) (told_is slots told)

end_is : (turns rest : ℕ) → end_line turns rest ≡ line_text (OfEnd turns rest)
unfolding line_text
end_is turns rest = simp append_assoc

-- ---- a turn, and all

msi_are : (pairs : List (ℕ × ℕ)) → flat_map msi_line pairs ≡ flat_map line_text (map msi_of pairs)
msi_are [] = refl
msi_are (pair ∷ pairs) = ap (λ t. t ++ flat_map msi_line pairs) (msi_is pair) ∙ ap (λ t. line_text (msi_of pair) ++ t) (msi_are pairs)

showing_is : (available : List ℕ) (t : ℕ) (x : Showing) → showing_text available t x ≡ flat_map line_text (showing_lines available t x)
showing_is available t x = by_turn (is_shown x t)
  where
    told : Told
    told = told_at x.own x.first available t

    by_turn : (b : Bool) → (if b then tributary_line x.name x.own.port x.own.slots told else [])
        ≡ flat_map line_text (if b then tributary_of x.name x.own.port x.own.slots told ∷ [] else [])
    by_turn true = tributary_is x.name x.own.port x.own.slots told ∙ sym (append-nil (line_text (tributary_of x.name x.own.port x.own.slots told)))
    by_turn false = refl

showings_are : (available : List ℕ) (t : ℕ) (shows : List Showing)
    → flat_map (showing_text available t) shows ≡ flat_map line_text (flat_map (showing_lines available t) shows)
showings_are available t [] = refl
showings_are available t (x ∷ shows) =
    ap (λ s. s ++ flat_map (showing_text available t) shows) (showing_is available t x)
    ∙ ap (λ s. flat_map line_text (showing_lines available t x) ++ s) (showings_are available t shows)
    ∙ sym (flat_map-append line_text (showing_lines available t x) (flat_map (showing_lines available t) shows))

turn_has : (form : LineForm) (shows : List Showing) (available : List ℕ) (t : ℕ)
    → turn_text form shows available t ≡ flat_map line_text (turn_lines form shows available t)
unfolding turn_text
turn_has form shows available t =
    let msi = msi_at_turn form available t in
    ap (λ s. s ++ (flat_map msi_line msi ++ flat_map (showing_text available t) shows)) (turn_is (t + 1) (seen_at form available t))
    ∙ ap (λ s. line_text (turn_of (t + 1) (seen_at form available t)) ++ (s ++ flat_map (showing_text available t) shows)) (msi_are msi)
    ∙ ap (λ s. line_text (turn_of (t + 1) (seen_at form available t)) ++ (flat_map line_text (map msi_of msi) ++ s)) (showings_are available t shows)
    ∙ ap (λ s. line_text (turn_of (t + 1) (seen_at form available t)) ++ s)
    (sym (flat_map-append line_text (map msi_of msi) (flat_map (showing_lines available t) shows)))

turns_have : (form : LineForm) (shows : List Showing) (available : List ℕ) (turns : List ℕ)
    → flat_map (turn_text form shows available) turns ≡ flat_map line_text (flat_map (turn_lines form shows available) turns)
turns_have form shows available [] = refl
turns_have form shows available (t ∷ turns) =
    ap (λ s. s ++ flat_map (turn_text form shows available) turns) (turn_has form shows available t)
    ∙ ap (λ s. flat_map line_text (turn_lines form shows available t) ++ s) (turns_have form shows available turns)
    ∙ sym (flat_map-append line_text (turn_lines form shows available t) (flat_map (turn_lines form shows available) turns))

-- the text of a view is that of its lines
pub view_has : (form : LineForm) (shows : List Showing) (ending : Ending) (available : List ℕ)
    → view_text form shows ending available ≡ flat_map line_text (view_lines form shows ending available)
unfolding view_text view_lines
view_has form shows ending available =
    let turns = turns_of (size_of form) (mfas_of available) in
    let last = OfEnd (length turns) (rest_of ending available) in
    ap (λ s. s ++ (flat_map (turn_text form shows available) turns ++ end_line (length turns) (rest_of ending available))) (head_is form.kind form.scrambled)
    ∙ ap (λ s. line_text (head_of form.kind form.scrambled) ++ (s ++ end_line (length turns) (rest_of ending available)))
    (turns_have form shows available turns)
    ∙ ap (λ s. line_text (head_of form.kind form.scrambled) ++ (flat_map line_text (flat_map (turn_lines form shows available) turns) ++ s))
    (end_is (length turns) (rest_of ending available) ∙ sym (append-nil (line_text last)))
    ∙ ap (λ s. line_text (head_of form.kind form.scrambled) ++ s)
    (sym (flat_map-append line_text (flat_map (turn_lines form shows available) turns) (last ∷ [])))
