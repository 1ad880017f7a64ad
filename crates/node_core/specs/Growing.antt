-- API: what the line outputs of a node got grows, and never else changes.
use Rattle.std.specs.Prelude.{◌≡◌, ℕ, List}
use Rattle.port_base.specs.Bytes.{after}
use Rattle.port_base.specs.Views.{BaysView, line_out_at}

-- what each line output got, where its port tells it, grew by some bytes, or by none
abbrev pub OutputsGrow : (old new : BaysView) → Type 0
OutputsGrow old new = (b : ℕ) → (written : List ℕ)
    × ((line_out_at new b).got ≡ after (line_out_at old b).got written)
