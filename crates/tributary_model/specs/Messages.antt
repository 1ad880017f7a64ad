-- Believed: how the six bytes of a message are heard.
use Rattle.std.specs.Prelude.{ℕ, List, Option, Some, None, slice_index}
use Rattle.jc_codec.specs.declared.listener.Heard.{Heard}
use Rattle.jc_codec.specs.declared.listener.Heard.TheVariants.{Accepted, Damaged as DamagedNumber, BaseLost}
use Rattle.jc_codec.specs.Message.{hears}
use Rattle.cnd_codec.specs.Remainder.{hears_cnd}
use Rattle.tributary_model.specs.declared.turns.Hearing.{Hearing}
use Rattle.tributary_model.specs.declared.turns.Hearing.TheVariants.{Damaged, Lost, Pair}

-- a number as it was heard, with the remainder beside it; damaged where the remainder is, whatever the number says
abbrev pub with_cnd : Heard → ℕ → Hearing
with_cnd (Accepted cm equal) cnd = Pair cm cnd equal
with_cnd DamagedNumber cnd = Damaged
with_cnd BaseLost cnd = Lost

abbrev pub heard_as : Option ℕ → Heard → Hearing
heard_as (Some cnd) heard = with_cnd heard cnd
heard_as None heard = Damaged

-- G.709 Annex D: what the bytes JC1 to JC6 say after the former number, to a tributary of m slots
unfoldable pub hears_message : Option ℕ → (m : ℕ) → List ℕ → Hearing
hears_message former m bytes = heard_as (hears_cnd m (slice_index bytes 3) (slice_index bytes 4) (slice_index bytes 5))
    (hears former (slice_index bytes 0) (slice_index bytes 1) (slice_index bytes 2))
