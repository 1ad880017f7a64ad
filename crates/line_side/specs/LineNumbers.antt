-- Believed: the numbers of an input line, by the bytes of the line.
use Rattle.std.specs.Prelude.{ℕ, List}
use Rattle.otn_base.specs.declared.limits.TheConstants.{LINE_COLUMNS}
use Rattle.frame_geometry.specs.declared.overhead.TheConstants.{SECTION_ROW, SM_BIP8_COLUMN, PM_ROW, PM_BIP8_COLUMN}
use Rattle.frame_overhead.specs.TwoBefore.{wrong_parities}
use Rattle.otu_overhead.specs.Section.{wrong_fas}
use Rattle.multiframe.specs.LineTurns.{line_state, used_in, lost_count}
use Rattle.multiframe.specs.TurnPieces.{lead_in_so_far}
use Rattle.line_side.specs.LineForm.{LineForm, size_of}
use Rattle.line_side.specs.LineFile.{mfas_of}
use Rattle.line_side.specs.LineStands.{used_frames}
use Rattle.line_side.specs.Reader.{rest_of}
use Rattle.otn_base.specs.Counts.{saturated}
use Rattle.line_side.specs.declared.counts.LineCounts.{LineCounts}
use Rattle.line_side.specs.declared.ending.Ending.{Ending}

-- The numbers of the line that these bytes are after so many pieces of turn t + 1: the whole frames used, lead-in among
-- them; the lead-in; the multiframes lost in the turns before; the bytes after the last whole frame, where the end was
-- seen; and the used frames with a wrong FAS, a wrong SM parity and a wrong PM parity.
abbrev pub numbers_of : (form : LineForm) → (ending : Ending) → (available : List ℕ) → (t pieces : ℕ) → LineCounts
numbers_of form ending available t pieces = record {
  frames = saturated
      (used_in (size_of form) (mfas_of available) (line_state (size_of form) (mfas_of available) t) pieces);
  lead_in = saturated (lead_in_so_far (size_of form) (mfas_of available) t pieces);
  lost = saturated (lost_count (size_of form) (mfas_of available) t);
  rest = rest_of ending available;
  fas = saturated (wrong_fas (used_frames (size_of form) available t pieces));
  sm = saturated
      (wrong_parities LINE_COLUMNS SECTION_ROW SM_BIP8_COLUMN (used_frames (size_of form) available t pieces));
  pm = saturated (wrong_parities LINE_COLUMNS PM_ROW PM_BIP8_COLUMN (used_frames (size_of form) available t pieces));
}
