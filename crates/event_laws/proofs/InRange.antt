-- The lines of a view have their numbers in their ranges.
use Rattle.std.proofs.Common.{◌≡◌, ◌<◌, ◌+◌, ℕ, Bool, true, false, All, List, [], ◌∷◌, ◌++◌, length, get_or, map, refl, ap, arith}
use Rattle.std.specs.Prelude.{◌==◌, codes, if◌then◌else◌}
use Rattle.std.specs.List.{flat_map}
use Rattle.std.proofs.lemmas.List.Elements.{All-nil, All-cons, All-head, All-tail, All-append, All-map}
use Rattle.otn_base.specs.declared.line_kind.LineKind.{LineKind}
use Rattle.otn_base.specs.declared.line_kind.LineKind.TheVariants.{Otu2, Otu3}
use Rattle.line_side.specs.LineFile.{mfas_of}
use Rattle.line_side.specs.LineForm.{LineForm, size_of}
use Rattle.line_side.specs.Reader.{rest_of}
use Rattle.line_side.specs.declared.ending.Ending.{Ending}
use Rattle.line_view.specs.ViewText.{Showing, is_shown, kind_word, mask_word, msi_at_turn, seen_at, told_at}
use Rattle.tributary_line.specs.TurnsDone.{turns_of}
use Rattle.view_events.specs.ViewLines.{AreViewLines, IsOtherWord, IsViewLine, IsWord, OfEnd, ViewLine}
use Rattle.event_laws.specs.Laws.{IsByte, IsShown}
use Rattle.event_laws.specs.ViewOf.{head_of, msi_of, showing_lines, tributary_of, turn_lines, turn_of, view_lines}
use Rattle.event_laws.proofs.Counts.{rest_counts, turn_counts, turns_below, turns_few}
use Rattle.event_laws.proofs.MsiLines.{msi_in_turn}
use Rattle.event_laws.proofs.TributaryLines.{tributary_line_in}
use Rattle.event_laws.proofs.Words.{word_by}

-- ---- the line of the line

line_is_word : IsWord (codes "line")
line_is_word = word_by (codes "line") refl

kind_is_word : (kind : LineKind) → IsWord (kind_word kind)
kind_is_word Otu2 = word_by (codes "otu2") refl
kind_is_word Otu3 = word_by (codes "otu3") refl

mask_is_word : (scrambled : Bool) → IsWord (mask_word scrambled)
mask_is_word true = word_by (codes "scrambled") refl
mask_is_word false = word_by (codes "plain") refl

apart : true ≡ false → ⊥
apart h = absurd (cc)

-- no other line begins with the letter of the first one
line_is_other : IsOtherWord (codes "line")
line_is_other = record {
  turn = λ e. apart (ap (λ w. get_or w 0 0 == 108) e);
  msi = λ e. apart (ap (λ w. get_or w 0 0 == 108) e);
  tributary = λ e. apart (ap (λ w. get_or w 0 0 == 108) e);
  end = λ e. apart (ap (λ w. get_or w 0 0 == 108) e);
}

head_in : (kind : LineKind) (scrambled : Bool) → IsViewLine (head_of kind scrambled)
head_in kind scrambled = (
  line_is_word,
  All-cons IsWord (kind_word kind) (mask_word scrambled ∷ []) (kind_is_word kind)
      (All-cons IsWord (mask_word scrambled) [] (mask_is_word scrambled) (All-nil IsWord)),
  line_is_other,
)

-- ---- a turn, and all

flat_in : {X : Type 0} (P : X → Type 0) (f : X → List ViewLine) → ((x : X) → P x → AreViewLines (f x)) → (xs : List X) → All P xs → AreViewLines (flat_map f xs)
flat_in P f each [] h = All-nil IsViewLine
flat_in P f each (x ∷ xs) h = All-append IsViewLine (f x) (flat_map f xs) (each x (All-head P x xs h)) (flat_in P f each xs (All-tail P x xs h))

showing_in : (form : LineForm) (available : List ℕ) (t : ℕ) (x : Showing) → IsShown form x → AreViewLines (showing_lines available t x)
showing_in form available t x h = go (is_shown x t)
  where
    line : ViewLine
    line = tributary_of x.name x.own.port x.own.slots (told_at x.own x.first available t)

    go : (b : Bool) → AreViewLines (if b then line ∷ [] else [])
    go true = All-cons IsViewLine line [] (tributary_line_in form available t x h) (All-nil IsViewLine)
    go false = All-nil IsViewLine

turn_in : (form : LineForm) (shows : List Showing) (available : List ℕ) (t : ℕ) → t < 16384 → All IsByte available → All (IsShown form) shows
    → AreViewLines (turn_lines form shows available t)
turn_in form shows available t few bytes shown =
    let msi = map msi_of (msi_at_turn form available t) in
    let each = flat_map (showing_lines available t) shows in
    All-cons IsViewLine (turn_of (t + 1) (seen_at form available t)) (msi ++ each) (turn_counts form available t few)
    (All-append IsViewLine msi each (All-map IsViewLine msi_of (msi_at_turn form available t) (msi_in_turn form available t bytes))
    (flat_in (IsShown form) (showing_lines available t) (showing_in form available t) shows shown))

end_in : (size : ℕ) (ending : Ending) (available : List ℕ) → IsViewLine (OfEnd (length (turns_of size (mfas_of available))) (rest_of ending available))
end_in size ending available = let few = turns_few size (mfas_of available) in (omega (arith, few), rest_counts ending available)

-- the lines of a view of a line of bytes, and of tributaries of it, are lines with their numbers in their ranges
pub view_in_range : (form : LineForm) (shows : List Showing) (ending : Ending) (available : List ℕ) → All IsByte available → All (IsShown form) shows
    → AreViewLines (view_lines form shows ending available)
unfolding view_lines
view_in_range form shows ending available bytes shown =
    let turns = turns_of (size_of form) (mfas_of available) in
    let each = flat_map (turn_lines form shows available) turns in
    let last = OfEnd (length turns) (rest_of ending available) in
    All-cons IsViewLine (head_of form.kind form.scrambled) (each ++ last ∷ []) (head_in form.kind form.scrambled)
    (All-append IsViewLine each (last ∷ [])
    (flat_in (λ t. t < 16384) (turn_lines form shows available) (λ t few. turn_in form shows available t few bytes shown) turns
    (turns_below (size_of form) (mfas_of available)))
    (All-cons IsViewLine last [] (end_in (size_of form) ending available) (All-nil IsViewLine)))
