-- API: the answer of the system to the opening of an input.
use Rattle.std.specs.Prelude.{◌≡◌, ◌≢◌, Result, Ok, Err}
use Rattle.std.specs.IoError.{error_kind}
use Rattle.std.specs.declared.io.Error.{Error}
use Rattle.std.specs.declared.io.ErrorKind.TheVariants.{NotFound}
use Rattle.program_words.specs.declared.opened.Opened.{Opened}
use Rattle.program_words.specs.declared.opened.Opened.TheVariants.{File, Absent, Refused}

-- what the place of an input becomes: an error that says that there is no such file makes it empty, and no other error
-- does
abbrev pub IsOpened : {F : Type 0} → Result F Error → Opened F → Type 0
IsOpened (Ok file) opened = opened ≡ File file
IsOpened (Err error) opened = (error_kind error ≡ NotFound → opened ≡ Absent)
    × (error_kind error ≢ NotFound → opened ≡ Refused)
