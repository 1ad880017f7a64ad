-- Believed: where an input line stands in its turns.
use Rattle.std.specs.Prelude.{◌≡◌, ◌≢◌, ◌↔◌, ◌+◌, ◌≤◌, ℕ, Bool, true, false, List, ◌++◌, length, Option, Some, None, IfSome, is_some}
use Rattle.otn_base.specs.declared.line_kind.LineKind.{LineKind}
use Rattle.port_base.specs.Views.{InView, Live}
use Rattle.port_base.specs.Given.{Gave}
use Rattle.port_base.specs.Reads.{HasEnded}
use Rattle.multiframe.specs.LineTurns.{Ended, Lock, line_state, multiframe, used_in, wanted_so_far, lost_count}
use Rattle.multiframe.specs.Alignment.{Alignment}
use Rattle.line_side.specs.LineForm.{LineForm, size_of}
use Rattle.line_side.specs.LineFile.{frame_at, first_frames, mfas_of}
use Rattle.line_side.specs.MayBe.{MayBe}
use Rattle.line_side.specs.Reader.{ReaderView, HasRead, EndedAs}
use Rattle.otn_base.specs.Counts.{saturated}
use Rattle.line_side.specs.declared.ending.Ending.TheVariants.{Open, Seen}
use Rattle.multiframe.specs.TurnPieces.{AlignedIn, in_hand, ended_in, lead_in_so_far}

-- what is seen of an input line: its kind, its alignment, its reader, how many pieces of the turn are done, whether the
-- last one came to a frame of a multiframe, whether the line has ended, and how many frames were lead-in and
-- multiframes lost
pub record LineView : Type 0 where
  pub kind : LineKind
  pub alignment : Option Alignment
  pub reader : ReaderView
  pub pieces : ℕ
  pub has_frame : Bool
  pub ended : Bool
  pub lead_in : ℕ
  pub lost : ℕ

-- what is fixed of it
abbrev pub form_of : LineView → LineForm
form_of line = record { kind = line.kind; scrambled = line.reader.scrambled }

-- how many frames of its turn a line has taken that is aligned so: none while it hunts
abbrev pub taken_count : Option Alignment → ℕ
taken_count None = 0
taken_count (Some a) = length a.taken

-- how many of the pieces of this turn came to a frame of a multiframe
abbrev pub frames_taken : LineView → ℕ
frames_taken line = taken_count line.alignment

-- the frames of the line that these bytes are which are used after so many pieces of turn t + 1: lead-in among them,
-- and a frame that was looked ahead at once its turn takes it or passes over it
abbrev pub used_frames : (size : ℕ) → (available : List ℕ) → (t pieces : ℕ) → List (List ℕ)
used_frames size available t pieces = first_frames available
    (used_in size (mfas_of available) (line_state size (mfas_of available) t) pieces)

-- An input line whose bytes are `available` and whose multiframes have `size` frames is seen so after the turns 1 to t
-- and line.pieces pieces of turn t + 1. Of `available` n bytes were read: so many frames as the turns so far want, or
-- all where they want one that is not whole.
pub record IsLine (size : ℕ) (available : List ℕ) (n t : ℕ) (line : LineView) : Type 0 where
  pub read : HasRead available n (used_in size (mfas_of available) (line_state size (mfas_of available) t) line.pieces)
      (wanted_so_far size (mfas_of available) t line.pieces) line.reader
  pub alignment : AlignedIn size (mfas_of available) (line_state size (mfas_of available) t) line.pieces line.alignment
  pub has_frame : line.has_frame ≡ is_some
      (in_hand size (mfas_of available) (line_state size (mfas_of available) t) line.pieces)
  pub hand : IfSome (in_hand size (mfas_of available) (line_state size (mfas_of available) t) line.pieces)
      (λ member. line.reader.hand ≡ frame_at available member.frame)
  pub ended : line.ended ≡ ended_in size (mfas_of available) (line_state size (mfas_of available) t) line.pieces
  pub lead_in : line.lead_in ≡ saturated (lead_in_so_far size (mfas_of available) t line.pieces)
  pub lost : line.lost ≡ saturated (lost_count size (mfas_of available) t)

-- A line of this form stands in turn t + 1 after line.pieces of its pieces. `first` and `now` are views of its place,
-- between which these bytes were read: whatever stands behind them, `IsLine` holds of both together, unscrambled.
pub record LineStands (form : LineForm) (first now : InView) (read : List ℕ) (t : ℕ) (line : LineView) : Type 0 where
  pub is_form : form_of line ≡ form
  pub gave : Gave first read now
  pub ending : EndedAs line.reader.ending now
  -- once the bytes have ended, a live place's port has answered its end, whether or not it tells its bytes, and has
  -- none left where it tells
  pub over : line.reader.ending ≢ Open → now.state ≡ Live → HasEnded now.left now.ended
  -- where the end was not seen, the place has answered none: so nothing is asked of it behind its end, and one that
  -- died had not answered it
  pub unended : line.reader.ending ≢ Seen → now.ended ≡ first.ended
  -- of all bytes that the line may turn out to have
  pub is_line : (available : List ℕ) → MayBe form.scrambled line.reader.ending read available
      → IsLine (size_of form) available (length read) t line

-- However the line stands on a place that is seen so now: of whatever form, whatever the place was before the line,
-- whatever bytes were read of it, and in whatever turn.
abbrev pub AsStood : (now : InView) → LineView
    → ((form : LineForm) → (first : InView) → (read : List ℕ) → (t : ℕ) → Type 0) → Type 0
AsStood now line Holds = (form : LineForm) (first : InView) (read : List ℕ) (t : ℕ)
    → LineStands form first now read t line → Holds form first read t

-- after a piece: more bytes were read, and what the line may have from then on it might have before
pub record PieceStands (form : LineForm) (first now : InView) (read : List ℕ) (t : ℕ)
    (old new : LineView) : Type 0 where
  pub further : List ℕ
  pub stands : LineStands form first now (read ++ further) t new
  pub earlier : (available : List ℕ) → MayBe form.scrambled new.reader.ending (read ++ further) available
      → MayBe form.scrambled old.reader.ending read available

-- What holds of a line in the turn in which it stands, whichever that is, whatever place it is read from and whatever
-- it may turn out to have: `available` are all bytes of the line, and it stands in turn t + 1.
abbrev pub InItsTurn : LineView → ((form : LineForm) → (available : List ℕ) → (t : ℕ) → Type 0) → Type 0
InItsTurn line Holds = (now : InView) → AsStood now line (λ form first read t. (available : List ℕ)
    → MayBe form.scrambled line.reader.ending read available → Holds form available t)

-- What holds of the frame of a multiframe to which the last piece of the turn came, if it came to one: of all bytes of
-- the line and of the number of the frame with the MFAS expected in it.
abbrev pub OfMember : LineView → ((available : List ℕ) → (member : Lock) → Type 0) → Type 0
OfMember line Holds = InItsTurn line (λ form available t. IfSome
    (in_hand (size_of form) (mfas_of available) (line_state (size_of form) (mfas_of available) t) line.pieces)
    (Holds available))

-- The line takes no frame before its next turn: it has ended, or it hunts and has done so in this turn, in its first
-- piece.
abbrev pub AwaitsTurn : LineView → Type 0
AwaitsTurn line = line.ended ≡ false → (1 ≤ line.pieces) × (line.alignment ≡ None)

-- turn t + 1 has ended: whether it has a multiframe, and whether the line has ended
pub record TurnEnded (form : LineForm) (available : List ℕ) (t : ℕ) (result : Bool) (new : LineView) : Type 0 where
  pub has_multiframe : result ≡ is_some (multiframe (size_of form) (mfas_of available) t)
  pub has_ended : (new.ended ≡ true) ↔ (line_state (size_of form) (mfas_of available) (t + 1) ≡ Ended)
