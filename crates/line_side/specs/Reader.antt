-- Believed: the reader of a line: how far it has read.
use Rattle.std.specs.Prelude.{◌≡◌, ◌≢◌, ◌<◌, ◌≤◌, ◌+◌, ◌*◌, ◌%◌, ℕ, Bool, List, length, Option, Some, None, IfSome}
use Rattle.otn_base.specs.Counts.{saturated}
use Rattle.otn_base.specs.declared.limits.TheConstants.{LINE_FRAME_BYTES}
use Rattle.port_base.specs.Views.{InView, Dead}
use Rattle.line_side.specs.LineFile.{frame_at, first_frames, whole_frames}
use Rattle.line_side.specs.Counted.{Counted, HasCounted}
use Rattle.line_side.specs.declared.ending.Ending.{Ending}
use Rattle.line_side.specs.declared.ending.Ending.TheVariants.{Open, Seen, Died}

-- what is seen of a reader: whether its line is scrambled, the frame in hand, the frame looked ahead at, whether and
-- how the bytes ended, how many frames were used, how many bytes came after the last whole one, and what was counted of
-- the overhead of those used
pub record ReaderView : Type 0 where
  pub scrambled : Bool
  pub hand : List ℕ
  pub ahead : Option (List ℕ)
  pub ending : Ending
  pub frames : ℕ
  pub rest : ℕ
  pub seen : Counted

-- how many there are: one or none
abbrev pub count_of : {A : Type 0} → Option A → ℕ
count_of None = 0
count_of (Some x) = 1

-- the bytes after the last whole frame, where the end was seen
abbrev pub rest_of : Ending → List ℕ → ℕ
rest_of Seen available = length available % LINE_FRAME_BYTES
rest_of other available = 0

-- n bytes of all that are available were read, u frames of them are used, and w frames were wanted. One frame more than
-- those that are used may have been looked ahead at. While the bytes have not ended, so many frames were read as were
-- wanted; once they have, more were wanted than there are.
pub record HasRead (available : List ℕ) (n u w : ℕ) (r : ReaderView) : Type 0 where
  pub within : u + count_of r.ahead ≤ whole_frames available
  pub ahead : IfSome r.ahead (λ frame. frame ≡ frame_at available u)
  pub still : r.ending ≡ Open → (n ≡ LINE_FRAME_BYTES * (u + count_of r.ahead)) × (u + count_of r.ahead ≡ w)
  pub over : r.ending ≢ Open → (u + count_of r.ahead ≡ whole_frames available) × (n ≡ length available)
      × (whole_frames available < w)
  pub frames : r.frames ≡ saturated u
  pub rest : r.rest ≡ rest_of r.ending available
  pub seen : HasCounted (first_frames available u) r.seen

-- how the bytes ended, by the place: it died only where it is dead, and its end was seen only where it isn't
pub record EndedAs (ending : Ending) (place : InView) : Type 0 where
  pub died : ending ≡ Died → place.state ≡ Dead
  pub seen : ending ≡ Seen → place.state ≢ Dead
