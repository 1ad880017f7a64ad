-- Steps of `next`, `go_on` and `read_block`: what private contracts alone cite, beside the definitions of `Cutting`.
use Rattle.std.specs.Prelude.{◌≡◌, ◌≢◌, ◌<◌, ◌≤◌, ◌⊎◌, ◌%◌, ℕ, Bool, true, false, List, [], ◌∷◌, ◌++◌, length}
use Rattle.port_base.specs.Views.{InView, Live, Dead}
use Rattle.port_base.specs.Given.{Gave}
use Rattle.port_base.specs.Reads.{HasEnded}
use Rattle.packet_text.specs.TextLines.{has_lf}
use Rattle.packet_text.specs.declared.cutter.Cut.{Cut}
use Rattle.packet_text.specs.declared.cutter.Cut.TheVariants.{Line, Last, Long, End, Lost}
use Rattle.packet_text.specs.Cutting.{CutView}

-- what a cutter is before it has read anything
abbrev pub fresh_cut : CutView
fresh_cut = record { line = []; hand = []; ended = false }

-- the bytes in hand went on with the line: up to an LF, or all where there is none
pub record GoesOnBy (found : Bool) (old new : CutView) : Type 0 where
  pub ended : new.ended ≡ old.ended
  pub clean : has_lf old.line ≡ false → has_lf new.line ≡ false
  pub lf : found ≡ true → old.line ++ old.hand ≡ new.line ++ 10 ∷ new.hand
  pub all : found ≡ false → (new.line ≡ old.line ++ old.hand) × (new.hand ≡ [])

-- a block is in hand, or the bytes that came before the place's end
pub record BlockCame (old : CutView) (was : InView) (new : CutView) (is : InView) : Type 0 where
  pub gave : Gave was new.hand is
  pub line : new.line ≡ old.line
  pub most : length new.hand ≤ 4096
  pub whole : new.ended ≡ false → length new.hand ≡ 4096
  pub part : new.ended ≡ true → length new.hand < 4096
  pub over : new.ended ≡ true → is.state ≡ Live → HasEnded is.left is.ended
  pub unended : new.ended ≡ false → is.ended ≡ was.ended
  pub alive : is.state ≡ was.state

-- the place died in a block that never became whole
pub record BlockLost (was is : InView) : Type 0 where
  pub part : List ℕ
  pub gave : Gave was part is
  pub short : length part < 4096
  pub unended : is.ended ≡ was.ended
  pub live : was.state ≡ Live
  pub dead : is.state ≡ Dead

-- the last read: before it there was no LF, and no more bytes of a line than it may have
pub record LastRead (hand : List ℕ) (ended : Bool) (further : List ℕ) (seen : Bool) : Type 0 where
  pub before : List ℕ
  pub last : List ℕ
  pub parts : further ≡ before ++ last
  pub blocks : length before % 4096 ≡ 0
  pub most : length last ≤ 4096
  pub whole : seen ≡ false → length last % 4096 ≡ 0
  pub part : seen ≡ true → length last < 4096
  pub still_open : ended ≡ false
  pub clean : has_lf (hand ++ before) ≡ false
  pub short : length (hand ++ before) ≤ 131055

-- These bytes came in blocks behind the bytes in hand, with which a line began. The place lives on.
pub record Came (hand : List ℕ) (ended : Bool) (was : InView) (further : List ℕ) (seen : Bool)
    (is : InView) : Type 0 where
  pub gave : Gave was further is
  pub quiet : ended ≡ true → (further ≡ []) × (seen ≡ true)
  pub over : (ended ≡ true → was.state ≡ Live → HasEnded was.left was.ended) → seen ≡ true → is.state ≡ Live
      → HasEnded is.left is.ended
  pub unended : seen ≡ false → is.ended ≡ was.ended
  pub alive : is.state ≡ was.state
  pub blocks : seen ≡ false → length further % 4096 ≡ 0
  pub reads : ((further ≡ []) × (seen ≡ ended)) ⊎ LastRead hand ended further seen

-- a line that began so goes on
pub record Goes (hand : List ℕ) (ended : Bool) (was : InView) (new : CutView) (is : InView) : Type 0 where
  pub further : List ℕ
  pub reads : Came hand ended was further new.ended is
  pub clean : has_lf new.line ≡ false
  pub all : hand ++ further ≡ new.line ++ new.hand

-- what was met behind a line's beginning, where these are all the bytes
abbrev pub Met : Cut → List ℕ → CutView → Type 0
Met Line all new = all ≡ new.line ++ 10 ∷ new.hand
Met Last all new = (all ≡ new.line) × (new.hand ≡ []) × (new.ended ≡ true) × (new.line ≢ [])
Met Long all new = (all ≡ new.line) × (new.hand ≡ []) × (131055 < length new.line)
Met End all new = (all ≡ []) × (new.ended ≡ true)
Met Lost all new = ⊥

-- a line that began so is cut
pub record Cuts (result : Cut) (hand : List ℕ) (ended : Bool) (was : InView) (new : CutView)
    (is : InView) : Type 0 where
  pub further : List ℕ
  pub reads : Came hand ended was further new.ended is
  pub clean : has_lf new.line ≡ false
  pub met : Met result (hand ++ further) new

-- the place died while such a line went on
pub record Loses (hand : List ℕ) (ended : Bool) (was : InView) (new : CutView) (is : InView) : Type 0 where
  pub mid : InView
  pub goes : Goes hand ended was new mid
  pub none : new.hand ≡ []
  pub still : new.ended ≡ false
  pub few : length new.line ≤ 131055
  pub lost : BlockLost mid is
