-- The answer to a text, by its table; and a file that is accepted.
use Rattle.std.proofs.Common.{◌≡◌, ℕ, List, Option, Some, None, ap}
use Rattle.std.specs.Option.{option_or}
use Rattle.std.specs.Prelude.{◌≢◌, Result, Ok, Err, IfOk}
use Rattle.toml.specs.Data.{Members}
use Rattle.plan_file.specs.Meaning.{table_of_text}
use Rattle.network_file.specs.declared.error.NetworkError.{NetworkError}
use Rattle.network_file.specs.declared.error.NoNetwork.{NoNetwork}
use Rattle.network_file.specs.declared.error.NoNetwork.TheVariants.{Memory}
use Rattle.network_file.specs.declared.file.NetworkFile.{NetworkFile}
use Rattle.network_file.specs.declared.place.Place.{Place}
use Rattle.network_file.specs.Answer.{accepted_or, meaning_in, meaning_of, network_of_text}
use Rattle.network_file.specs.Outline.{file_of}
use Rattle.network_file.specs.Places.{first_broken}
use Rattle.network_file.specs.Refusal.{refusal_in, refusal_of, table_place, table_rules, refusal_of_table, value_refusal}
use Rattle.network_file.specs.Sound.{IsSound}
use Rattle.network_file.specs.Table.{outline_at}
use Rattle.network_file.proofs.Sounds.{file_sound}

pub answer_of : (text : List ℕ) (table : Option Members) → table ≡ table_of_text text → accepted_or (meaning_in table) (refusal_in table) ≡ network_of_text text
unfolding meaning_of refusal_of
answer_of text table same = ap (λ t. accepted_or (meaning_in t) (refusal_in t)) same

accepted_none : (file accepted : NetworkFile) (broken : Option (NetworkError × Place)) → Ok file ≡ accepted_or accepted broken
    → (broken ≡ None) × (file ≡ accepted)
accepted_none file accepted None e = (refl_none, cc)
  where
    refl_none : ◌≡◌ {A = Option (NetworkError × Place)} None None
    refl_none = cc
accepted_none file accepted (Some broken) e = cc

later_none : (one other : Option (NetworkError × Place)) → option_or one other ≡ None → other ≡ None
later_none None other e = e
later_none (Some broken) other e = cc

pub accepted_is_sound : (top : Members) (answer : Result NetworkFile NoNetwork)
    → (answer ≢ Err Memory → answer ≡ accepted_or (file_of (outline_at top)) (refusal_of_table top)) → IfOk answer IsSound
accepted_is_sound top (Ok file) h =
    let (none, same) = accepted_none file (file_of (outline_at top)) (refusal_of_table top) (h (λ bad. cc)) in
    rw same (file_sound (outline_at top) (later_none (first_broken (table_place top) table_rules) (value_refusal (outline_at top)) none))
accepted_is_sound top (Err refused) h = tt
