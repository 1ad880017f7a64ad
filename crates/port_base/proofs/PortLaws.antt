-- A port that stands in no place, from one moment to a later one.
use Rattle.std.proofs.Common.{◌≡◌, ◌≢◌, ℕ, zero, suc, Bool, true, false, List, [], ◌++◌, take, Ok, arith, ap, ◌∙◌, refl}
use Rattle.std.proofs.lemmas.Bool.Decides.{nat_tests}
use Rattle.port_base.specs.Bytes.{before, after}
use Rattle.port_base.specs.Reads.{ended_after}
use Rattle.port_base.specs.PortViews.{SourceView, SinkView, SourceGave, SinkGot, SourceLater, SinkLater, SourceReads, SinkWrites}
use Rattle.port_base.specs.declared.drain.Written.{Written}
use Rattle.port_base.specs.declared.drain.Written.TheVariants.{Whole, Lost}
use Rattle.port_base.specs.declared.in_place.Reading.{Reading}
use Rattle.port_base.proofs.GivenLaws.{before-none, after-none}
use Rattle.port_base.proofs.TakenTwice.{before-before, after-after}

-- nothing was taken of a source that is as it was, and what was taken twice adds up
pub source_gave_none : (port : SourceView) → SourceGave port [] port
source_gave_none port = record { boxed = refl; left = before-none port.left; faults = omega arith }

pub source_gave_twice : (first old new : SourceView) (x y : List ℕ) → SourceGave first x old → SourceGave old y new → SourceGave first (x ++ y) new
source_gave_twice first old new x y h k = record {
  boxed = k.boxed ∙ h.boxed;
  left = h.left ∙ ap (before x) k.left ∙ before-before x y new.left;
  faults = omega (arith, h.faults, k.faults);
}

-- a sink that is as it was took nothing, and what it took twice adds up
pub sink_got_none : (port : SinkView) → SinkGot port [] port
sink_got_none port = record { boxed = refl; got = after-none port.got; keeps = refl; faults = omega arith }

pub sink_got_twice : (first old new : SinkView) (x y : List ℕ) → SinkGot first x old → SinkGot old y new → SinkGot first (x ++ y) new
sink_got_twice first old new x y h k = record {
  boxed = k.boxed ∙ h.boxed;
  got = k.got ∙ ap (λ got. after got y) h.got ∙ after-after first.got x y;
  keeps = k.keeps ∙ h.keeps;
  faults = omega (arith, h.faults, k.faults);
}

-- a port is the same one now, and a later one's later one is a later one
pub source_later_none : (port : SourceView) → SourceLater port port
source_later_none port = ([], source_gave_none port)

pub source_later_twice : (first old new : SourceView) → SourceLater first old → SourceLater old new → SourceLater first new
source_later_twice first old new (x, h) (y, k) = (x ++ y, source_gave_twice first old new x y h k)

pub sink_later_none : (port : SinkView) → SinkLater port port
sink_later_none port = ([], sink_got_none port)

pub sink_later_twice : (first old new : SinkView) → SinkLater first old → SinkLater old new → SinkLater first new
sink_later_twice first old new (x, h) (y, k) = (x ++ y, sink_got_twice first old new x y h k)

-- a whole read and a whole write leave the same port
pub source_read_later : (result : Reading) (old new : SourceView) (bytes : List ℕ) → SourceReads result old bytes new → SourceLater old new
source_read_later result old new bytes reads = (bytes, reads.gave)

pub sink_written_later : (result : Written) (old new : SinkView) (bytes : List ℕ) → SinkWrites result old bytes new → SinkLater old new
sink_written_later Whole old new bytes (got, same) = (bytes, got)
sink_written_later Lost old new bytes (n, less, got, failed) = (take n bytes, got)

-- a read that gave a byte has not come to the end
pub still_open : (room n : ℕ) (was is : Bool) → n ≢ 0 → is ≡ ended_after room (Ok n) was → is ≡ was
still_open room n true is some e = e
still_open room zero false is some e = absurd (some refl)
still_open room (suc n) false is some e = e ∙ grind (arith, nat_tests)
