-- The numbers of an input line are those of its bytes.
use Rattle.std.proofs.Common.{◌≡◌, ℕ, List, ap, ◌∙◌}
use Rattle.port_base.specs.Views.{InView}
use Rattle.frame_geometry.specs.declared.overhead.TheConstants.{SECTION_ROW, SM_BIP8_COLUMN, PM_ROW, PM_BIP8_COLUMN}
use Rattle.otn_base.specs.declared.limits.TheConstants.{LINE_COLUMNS}
use Rattle.frame_overhead.specs.TwoBefore.{wrong_parities}
use Rattle.otu_overhead.specs.Section.{wrong_fas}
use Rattle.line_side.specs.Counted.{HasCounted}
use Rattle.line_side.specs.LineForm.{LineForm}
use Rattle.line_side.specs.LineNumbers.{numbers_of}
use Rattle.line_side.specs.LineStands.{LineView, LineStands}
use Rattle.line_side.specs.MayBe.{MayBe}
use Rattle.otn_base.specs.Counts.{saturated}
use Rattle.line_side.specs.declared.counts.LineCounts.{LineCounts}

-- these numbers
abbrev of : (frames lead_in lost rest fas sm pm : ℕ) → LineCounts
of frames lead_in lost rest fas sm pm = record { frames = frames; lead_in = lead_in; lost = lost; rest = rest; fas = fas; sm = sm; pm = pm }

same_numbers : (a b : LineCounts) → a.frames ≡ b.frames → a.lead_in ≡ b.lead_in → a.lost ≡ b.lost → a.rest ≡ b.rest → a.fas ≡ b.fas → a.sm ≡ b.sm → a.pm ≡ b.pm → a ≡ b
same_numbers a b frames lead_in lost rest fas sm pm =
    ap (λ x. of x a.lead_in a.lost a.rest a.fas a.sm a.pm) frames
    ∙ ap (λ x. of b.frames x a.lost a.rest a.fas a.sm a.pm) lead_in
    ∙ ap (λ x. of b.frames b.lead_in x a.rest a.fas a.sm a.pm) lost
    ∙ ap (λ x. of b.frames b.lead_in b.lost x a.fas a.sm a.pm) rest
    ∙ ap (λ x. of b.frames b.lead_in b.lost b.rest x a.sm a.pm) fas
    ∙ ap (λ x. of b.frames b.lead_in b.lost b.rest b.fas x a.pm) sm
    ∙ ap (λ x. of b.frames b.lead_in b.lost b.rest b.fas b.sm x) pm

pub numbers_are : (form : LineForm) (first now : InView) (read available : List ℕ) (t : ℕ) (line : LineView) (told : LineCounts) → told.frames ≡ line.reader.frames → told.lead_in ≡ line.lead_in → told.lost ≡ line.lost
    → told.rest ≡ line.reader.rest
    → ((frames : List (List ℕ)) → HasCounted frames line.reader.seen → told.fas ≡ saturated (wrong_fas frames))
    → ((frames : List (List ℕ)) → HasCounted frames line.reader.seen → told.sm ≡ saturated (wrong_parities LINE_COLUMNS SECTION_ROW SM_BIP8_COLUMN frames))
    → ((frames : List (List ℕ)) → HasCounted frames line.reader.seen → told.pm ≡ saturated (wrong_parities LINE_COLUMNS PM_ROW PM_BIP8_COLUMN frames))
    → LineStands form first now read t line → MayBe form.scrambled line.reader.ending read available → told ≡ numbers_of form line.reader.ending available t line.pieces
numbers_are form first now read available t line told frames lead_in lost rest fas sm pm h may =
    let is = h.is_line available may in
    same_numbers told (numbers_of form line.reader.ending available t line.pieces)
    (frames ∙ is.read.frames) (lead_in ∙ is.lead_in) (lost ∙ is.lost) (rest ∙ is.read.rest) (fas _ is.read.seen) (sm _ is.read.seen) (pm _ is.read.seen)
