-- API: the words of the program.
use Rattle.std.specs.Prelude.{◌≡◌, ◌<◌, ◌+◌, ℕ, List, [], ◌∷◌, ◌++◌, Bool, true, false, if◌then◌else◌, Some, map, codes, slice_get, string_bytes, String}
use Rattle.std.specs.Fmt.{decimal}
use Rattle.std.specs.declared.alloc.Global.{Global}
use Rattle.otn_base.specs.LineSlots.{slots_of}
use Rattle.otn_base.specs.SlotList.{IsSlotList}
use Rattle.otn_base.specs.declared.limits.TheConstants.{LINES, MOST_TURNS}
use Rattle.otn_base.specs.declared.line_kind.LineKind.{LineKind}
use Rattle.otn_base.specs.declared.line_kind.LineKind.TheVariants.{Otu2, Otu3}
use Rattle.line_view.specs.ViewText.{slots_text}
use Rattle.line_view.specs.Watching.{IsOnLine}
use Rattle.line_view.specs.declared.shown.Shown.{Shown}
use Rattle.otn_view.specs.declared.words.Asked.{Asked}
use Rattle.otn_view.specs.declared.words.Asked.TheVariants.{Given, Planned}
use Rattle.plan_views.specs.declared.side.Side.{Side}
use Rattle.plan_views.specs.declared.side.Side.TheVariants.{In, Out}

-- the bytes of each word
abbrev pub texts : List (String Global) → List (List ℕ)
texts words = map string_bytes words

-- the word of a tributary: its port, a colon, and its slots with commas between them
abbrev pub word_of : Shown → List ℕ
word_of shown = decimal shown.port ++ codes ":" ++ slots_text shown.slots.list

abbrev pub kind_by : (otu3 : Bool) → LineKind
kind_by true = Otu3
kind_by false = Otu2

-- it is a tributary of a line of this kind, without a name, in all turns that a view tells
pub record IsAllAlong (kind : LineKind) (shown : Shown) : Type 0 where
  pub on_line : IsOnLine kind shown
  pub slots : IsSlotList (slots_of kind) shown.slots.list
  pub name : shown.name.bytes ≡ codes "-"
  pub first : shown.first ≡ 0
  pub stop : shown.stop ≡ MOST_TURNS

-- tributaries of a line of this kind, each by its word
pub record AreShown (kind : LineKind) (words : List (List ℕ)) (shown : List Shown) : Type 0 where
  pub words_are : words ≡ map word_of shown
  pub each : (i : ℕ) (x : Shown) → slice_get shown i ≡ Some x → IsAllAlong kind x

-- The words ask for a line of this form: whether it is an OTU3, whether it is scrambled, and a word for each tributary.
pub record IsGiven (words : List (List ℕ)) (kind : LineKind) (scrambled : Bool) (shown : List Shown) : Type 0 where
  pub otu3 : Bool
  pub kind_is : kind ≡ kind_by otu3
  pub some : List (List ℕ)
  pub shown_are : AreShown kind some shown
  pub words_are : words ≡ (if otu3 then codes "otu3" ∷ [] else [])
      ++ ((if scrambled then codes "scrambled" ∷ [] else []) ++ some)

-- the word of a side
abbrev pub side_word : Side → List ℕ
side_word In = codes "in"
side_word Out = codes "out"

-- the words ask for a line of the plan: its side, and the digit of its number; 48 is the character 0
pub record IsPlanned (words : List (List ℕ)) (side : Side) (line : ℕ) : Type 0 where
  pub words_are : words ≡ side_word side ∷ ((48 + line) ∷ []) ∷ []
  pub number : line < LINES

-- what stands behind the name of the file
abbrev pub IsAsked : (words : List (List ℕ)) → Asked → Type 0
IsAsked words (Given kind scrambled shown) = IsGiven words kind scrambled shown.items
IsAsked words (Planned side line) = IsPlanned words side line

-- The words ask for this: a file, and how it is to be shown.
pub record IsForm (words : List (List ℕ)) (asked : Asked) : Type 0 where
  pub file : List ℕ
  pub rest : List (List ℕ)
  pub words_are : words ≡ file ∷ rest
  pub asked_is : IsAsked rest asked

-- words that ask for nothing
abbrev pub IsNoForm : List (List ℕ) → Type 0
IsNoForm words = (asked : Asked) → IsForm words asked → ⊥

-- the tributaries that they ask for are tributaries of the line
abbrev pub AreOnLine : Asked → Type 0
AreOnLine (Given kind scrambled shown) = (i : ℕ) (x : Shown) → slice_get shown.items i ≡ Some x → IsOnLine kind x
AreOnLine (Planned side line) = Unit {0}
