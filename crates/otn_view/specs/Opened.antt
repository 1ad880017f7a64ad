-- API: the place of the line.
use Rattle.std.specs.Prelude.{◌≡◌, ◌≢◌, Bool, true, false, Option, Some, None, Result, Ok, Err}
use Rattle.std.specs.IoError.{error_kind}
use Rattle.std.specs.declared.fs.File.{File}
use Rattle.std.specs.declared.io.Error.{Error}
use Rattle.std.specs.declared.io.ErrorKind.TheVariants.{NotFound}
use Rattle.otn_ports.specs.Adapters.{has_reader, reader_ended, reader_faults}
use Rattle.port_base.specs.declared.in_place.InPlaceOf.{InPlaceOf}
use Rattle.port_base.specs.declared.in_place.InPlaceOf.TheVariants.{Empty, Live, Dead}
use Rattle.otn_ports.specs.declared.reader_source.ReaderSource.{ReaderSource}

-- it is live, and nothing was asked of it yet; it has a file, or none, so that each read fails
abbrev pub IsLive : (has_file : Bool) → InPlaceOf (ReaderSource File) → Type 0
IsLive has_file Empty = ⊥
IsLive has_file (Live source n) =
    (has_reader source ≡ has_file) × (reader_faults source ≡ 0) × (reader_ended source ≡ false) × (n ≡ 0)
IsLive has_file (Dead sealed n) = ⊥

-- there is such a place
abbrev pub IsSomeLive : (has_file : Bool) → Option (InPlaceOf (ReaderSource File)) → Type 0
IsSomeLive has_file None = ⊥
IsSomeLive has_file (Some place) = IsLive has_file place

-- What the place becomes by the system's answer to the opening of the file: there is none where the answer is that
-- there is no such file, and for no other error.
abbrev pub IsLineOf : Result File Error → Option (InPlaceOf (ReaderSource File)) → Type 0
IsLineOf (Ok file) place = IsSomeLive true place
IsLineOf (Err error) place = (error_kind error ≡ NotFound → place ≡ None)
    × (error_kind error ≢ NotFound → IsSomeLive false place)
