-- API: what holds of every line whose channels are taken apart.
use Rattle.std.specs.Prelude.{◌≡◌, ℕ, List}
use Rattle.device_model.specs.Agreements.{AgreeOnTributary}
use Rattle.unbundle_command.specs.Unbundled.{first_slot, arrived_before}

-- What arrives on channels is fixed by the own places of slot 1 and the MFAS bytes of the line: on lines that agree on
-- these it is the same. With it are what is due to each client output, and what the report tells.
abbrev pub IsApart : Type 0
IsApart = (line other : List ℕ) (turns : ℕ) → AgreeOnTributary first_slot line other
    → arrived_before line turns ≡ arrived_before other turns
