-- Steps of `judge`, `find` and others: what a search for the next line that counts finds.
use Rattle.std.specs.Prelude.{◌≡◌, ◌≢◌, ◌+◌, ℕ, Bool, true, false, List, [], ◌∷◌, ◌++◌, length, Some, None}
use Rattle.port_base.specs.Views.{InView, Live}
use Rattle.port_base.specs.Given.{Gave}
use Rattle.port_base.specs.Reads.{HasEnded}
use Rattle.packet_text.specs.PacketText.{line_gives, empty_lines}
use Rattle.packet_text.specs.LinesStand.{LinesView, GoesOn, ReadAsNeeded, LinesStand, given_by}
use Rattle.otn_base.specs.Counts.{saturated}
use Rattle.packet_text.specs.declared.line.Line.{Line}
use Rattle.packet_text.specs.declared.line.Line.TheVariants as line
use Rattle.packet_text.specs.declared.found.Found.{Found}
use Rattle.packet_text.specs.declared.found.Found.TheVariants.{Empty, Packet, Bad, End, Lost}

-- the answer that says what was found
abbrev pub answer_of : Found → ℕ → Line
answer_of Packet number = line.Packet
answer_of End number = line.End
answer_of Lost number = line.Lost
answer_of Bad number = line.Bad number
answer_of Empty number = line.Bad number

-- the lines up to these are counted
pub record Counts (lines : List (List ℕ)) (view : LinesView) : Type 0 where
  pub number : view.number ≡ saturated (length lines)
  pub empty : view.empty ≡ empty_lines lines

-- what a line behind these was found to be
pub record Judges (result : Found) (lines : List (List ℕ)) (line : List ℕ) (new : LinesView) : Type 0 where
  pub empty : result ≡ Empty → (line_gives lines line ≡ Some []) × Counts (lines ++ line ∷ []) new
  pub packet : result ≡ Packet → (line_gives lines line ≡ Some new.packet) × (new.packet ≢ [])
      × Counts (lines ++ line ∷ []) new
  pub bad : result ≡ Bad → (line_gives lines line ≡ None) × (new.number ≡ saturated (length lines + 1))
  pub open_place : (result ≢ End) × (result ≢ Lost)

-- what is seen of the lines once what was found is their answer
abbrev pub with_answer : Found → LinesView → LinesView
with_answer result view = record view { answer = answer_of result view.number }

-- a place that lives on, or was not live, of which these bytes were taken when so many packets were asked for
pub record Reaches (first : InView) (read : List ℕ) (asked : ℕ) (seen : Bool) (now : InView) : Type 0 where
  pub gave : Gave first read now
  pub over : seen ≡ true → now.state ≡ Live → HasEnded now.left now.ended
  pub unended : seen ≡ false → now.ended ≡ first.ended
  pub alive : now.state ≡ first.state
  pub needed : ReadAsNeeded seen asked read

-- behind the lines so far, which gave these packets, one more is sought
pub record Seeks (first : InView) (read : List ℕ) (packets : List (List ℕ)) (view : LinesView)
    (now : InView) : Type 0 where
  pub reaches : Reaches first read (length packets + 1) view.ended now
  pub goes : GoesOn read packets view

-- what was found: an empty line, behind which one is sought yet, or the next answer
pub record Finds (result : Found) (first : InView) (read : List ℕ) (packets : List (List ℕ)) (old new : LinesView)
    (now : InView) : Type 0 where
  pub further : List ℕ
  pub quiet : old.ended ≡ true → (further ≡ []) × (new.ended ≡ true)
  pub empty : result ≡ Empty → Seeks first (read ++ further) packets new now
  pub stands : result ≢ Empty → LinesStand first now (read ++ further)
      (packets ++ given_by (answer_of result new.number) new.packet) (with_answer result new)
