-- API: the version of the library.
use Rattle.std.specs.Prelude.{ℕ}

-- the version of how it is called and what it answers
abbrev pub library_version : ℕ
library_version = 2
