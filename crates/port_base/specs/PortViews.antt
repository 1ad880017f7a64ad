-- Believed: what is seen of a port that stands in no place.
use Rattle.std.specs.Prelude.{◌≡◌, ◌<◌, ◌≤◌, ℕ, Bool, List, length, take, Option}
use Rattle.port_base.specs.Bytes.{before, after, HasFailed}
use Rattle.port_base.specs.Reads.{ended_by}
use Rattle.port_base.specs.declared.source.Source as source
use Rattle.port_base.specs.declared.sink.Sink as sink
use Rattle.port_base.specs.declared.drain.Written.{Written}
use Rattle.port_base.specs.declared.drain.Written.TheVariants as written
use Rattle.port_base.specs.declared.in_place.Reading.{Reading}
use Rattle.port_base.specs.declared.in_place.Reading.TheVariants as reading

-- a source: whether it is behind a box, the bytes still to come where it tells them, whether it has answered that it
-- ended, and its count of faults
pub record SourceView : Type 0 where
  pub boxed : Bool
  pub left : Option (List ℕ)
  pub ended : Bool
  pub faults : ℕ

-- what is seen of a source
abbrev pub source_view : {P : Type 0} → source.Ghosts P → P → SourceView
source_view source port = record {
  boxed = source.boxed port;
  left = source.left port;
  ended = source.ended port;
  faults = source.faults port;
}

-- a sink: whether it is behind a box, the bytes that it got where it tells them, whether it gives them back, and its
-- count of faults
pub record SinkView : Type 0 where
  pub boxed : Bool
  pub got : Option (List ℕ)
  pub keeps : Bool
  pub faults : ℕ

-- what is seen of a sink
abbrev pub sink_view : {K : Type 0} → sink.Ghosts K → K → SinkView
sink_view sink port = record {
  boxed = sink.boxed port;
  got = sink.got port;
  keeps = sink.keeps port;
  faults = sink.faults port;
}

-- the same source later, of which these bytes were taken: it is boxed and tells as before, and its count has not fallen
pub record SourceGave (old : SourceView) (bytes : List ℕ) (new : SourceView) : Type 0 where
  pub boxed : new.boxed ≡ old.boxed
  pub left : old.left ≡ before bytes new.left
  pub faults : old.faults ≤ new.faults

-- the same sink later, which took these bytes: it is boxed, keeps and tells as before, and its count has not fallen
pub record SinkGot (old : SinkView) (bytes : List ℕ) (new : SinkView) : Type 0 where
  pub boxed : new.boxed ≡ old.boxed
  pub got : new.got ≡ after old.got bytes
  pub keeps : new.keeps ≡ old.keeps
  pub faults : old.faults ≤ new.faults

-- the same source later, whatever was taken of it
abbrev pub SourceLater : SourceView → SourceView → Type 0
SourceLater old new = (bytes : List ℕ) × SourceGave old bytes new

-- the same sink later, whatever it took
abbrev pub SinkLater : SinkView → SinkView → Type 0
SinkLater old new = (bytes : List ℕ) × SinkGot old bytes new

-- the cause of an answer of a whole read: a count of faults that rose or stands at its end where it is Lost, and the
-- same count where it is not
abbrev pub FailedBy : Reading → ℕ → ℕ → Type 0
FailedBy reading.Full old new = new ≡ old
FailedBy (reading.End n) old new = new ≡ old
FailedBy reading.Lost old new = HasFailed old new

-- a whole read of a source that stands in no place, with the bytes that came: it has answered its end where the read
-- came to it, or had before
pub record SourceReads (result : Reading) (old : SourceView) (bytes : List ℕ) (new : SourceView) : Type 0 where
  pub gave : SourceGave old bytes new
  pub cause : FailedBy result old.faults new.faults
  pub ended : new.ended ≡ ended_by result old.ended

-- a whole write to a sink that stands in no place: all bytes went out and its count is as it was, or a part of them,
-- from the front, and a call failed
abbrev pub SinkWrites : Written → SinkView → List ℕ → SinkView → Type 0
SinkWrites written.Whole old bytes new = SinkGot old bytes new × (new.faults ≡ old.faults)
SinkWrites written.Lost old bytes new = (n : ℕ) × (n < length bytes) × SinkGot old (take n bytes) new
    × HasFailed old.faults new.faults
