-- Believed: the answer to a text: the first rule that it breaks, or else the file that it means.
use Rattle.std.specs.Prelude.{ℕ, List, Option, Some, None, unwrap_or, Result, Ok, Err}
use Rattle.toml.specs.Data.{Members, no_members}
use Rattle.plan_file.specs.Meaning.{table_of_text}
use Rattle.network_file.specs.declared.error.NetworkError.{NetworkError}
use Rattle.network_file.specs.declared.error.NoNetwork.{NoNetwork}
use Rattle.network_file.specs.declared.error.NoNetwork.TheVariants.{Refused}
use Rattle.network_file.specs.declared.file.NetworkFile.{NetworkFile}
use Rattle.network_file.specs.declared.place.Place.{Place}
use Rattle.network_file.specs.Outline.{file_of}
use Rattle.network_file.specs.Table.{outline_at}
pub use Rattle.network_file.specs.Refusal.{refusal_in, refusal_of}

-- the file that a table means; the empty table stands for none, of a text that is refused
abbrev pub meaning_in : Option Members → NetworkFile
meaning_in table = file_of (outline_at (unwrap_or table no_members))

-- the file that a text means
unfoldable pub meaning_of : List ℕ → NetworkFile
meaning_of text = meaning_in (table_of_text text)

-- this rule, at this place, where one is broken; else the file
abbrev pub accepted_or : NetworkFile → Option (NetworkError × Place) → Result NetworkFile NoNetwork
accepted_or file None = Ok file
accepted_or file (Some broken) = Err (Refused broken.0 broken.1)

-- the file that a text means, or the first rule that it breaks
abbrev pub network_of_text : List ℕ → Result NetworkFile NoNetwork
network_of_text text = accepted_or (meaning_of text) (refusal_of text)
