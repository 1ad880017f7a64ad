-- API: how a text is cut into lines while it is read.
use Rattle.std.specs.Prelude.{◌-◌, ℕ, Bool, List, take, drop}
use Rattle.packet_text.specs.declared.cutter.Cutter.{Cutter}

-- what is seen of a cutter: the line that it has begun, the bytes behind it that were read, and whether the end was
-- seen
pub record CutView : Type 0 where
  pub line : List ℕ
  pub hand : List ℕ
  pub ended : Bool

-- a cutter as it is seen
abbrev pub cut_view : Cutter → CutView
cut_view c = record { line = c.line.items; hand = take (c.end - c.at) (drop c.at c.block); ended = c.ended }
